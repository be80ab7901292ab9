-- A job written is read again, and a file read is written again.
-- Both follow the file's bytes from a place on, `drop at file`: a line stands there, and the next lines past it.
use mathlib.Core.Bool.{true, ◌&&◌, and_assoc}
use mathlib.Core.List.{List, [], ◌∷◌, ◌++◌, append-nil, append_assoc}
use mathlib.Core.Path.{◌≡◌, refl, sym, ap, ◌∙◌}
use Prim.Native.Nat.{ℕ, zero, suc, ◌+◌, ◌*◌, ◌<◌}
use native.Mathlib.Nat.{zero-add, add-zero, suc-add, mod-eq_of_lt}
use native.Mathlib.Numerals.{add-two, add-three}
use native.Mathlib.Omega.{arith}
use borrow.Author.Tests.{eqb-true}
use lib.Dec.{eqb}
use lib.ListN.{length, drop, get_or}
use lib.Seq.{drop-length}
use Rattle.answers.specs.Bytes.{Bytes}
use Rattle.hex_digits.proofs.Numbers.{bytes_past, byte_there, byte_stands, length_digits, all_digits_written, number_written, digits_read}
use Rattle.hex_digits.proofs.Table.{and_left, and_right}
use Rattle.hex_digits.specs.Hex.{digits, all_digits, number}
use Rattle.job.proofs.Lengths.{length_file, length_pattern, length_text}
use Rattle.hex_lines.proofs.Lines.{length_lines}
use Rattle.hex_lines.specs.Lines.{line_end, line, lines}
use Rattle.job.proofs.Taken.{file_taken, file_taken_done}
use Rattle.job.specs.Job.{first_line, job_file, file_length, edition_in, m_in, q_in, n_in}
use Rattle.job.specs.Job.{bytes_in, pattern_in, text_in, good_line, good_lines}
use Rattle.job.specs.Promises.{WrittenRead, ReadWritten}

-- the ten digits of the first line, as the numbers that they make
ten_digits : (bs : List ℕ) → all_digits 10 0 bs ≡ all_digits 2 0 bs && (all_digits 2 2 bs && (all_digits 2 4 bs && all_digits 4 6 bs))
unfolding all_digits
ten_digits bs = simp and_assoc

-- so many lines, in two parts
pub good_lines_split : (m n a : ℕ) (bs : List ℕ) → good_lines (m + n) a bs ≡ good_lines m a bs && good_lines n (a + 3 * m) bs
unfolding good_lines
good_lines_split zero n a bs = rw (zero-add, add-zero)
good_lines_split (suc m) n a bs =
    let next : a + 3 * suc m ≡ a + 3 + 3 * m = omega arith in
    rw (suc-add, good_lines_split m n (a + 3) bs, and_assoc, next)

-- ---- written and read

good_line_written : (n v a : ℕ) (bs rest : List ℕ) → drop a bs ≡ digits n v ++ line_end ∷ rest → good_line n a bs ≡ true
unfolding good_line
good_line_written n v a bs rest e =
    rw (
      all_digits_written n v a bs (line_end ∷ rest) e,
      byte_there (a + n) line_end bs rest (bytes_past a n bs (digits n v) (line_end ∷ rest) e (length_digits n v)),
    )

module _ (x : ℕ) (xs : List ℕ) (a : ℕ) (bs rest : List ℕ) (e : drop a bs ≡ lines 2 (x ∷ xs) ++ rest) where
  line_there : drop a bs ≡ digits 2 x ++ line_end ∷ (lines 2 xs ++ rest)
  unfolding lines digits line
  line_there = e

  lines_past : drop (a + 3) bs ≡ lines 2 xs ++ rest
  unfolding digits
  lines_past = bytes_past a 3 bs (digits 2 x ++ line_end ∷ []) (lines 2 xs ++ rest) line_there refl

lines_written : (xs : List ℕ) (a : ℕ) (bs rest : List ℕ) → drop a bs ≡ lines 2 xs ++ rest → good_lines (length xs) a bs ≡ true
unfolding good_lines
lines_written [] a bs rest e = refl
lines_written (x ∷ xs) a bs rest e =
    rw (
      good_line_written 2 x a bs (lines 2 xs ++ rest) (line_there x xs a bs rest e),
      lines_written xs (a + 3) bs rest (lines_past x xs a bs rest e),
    )

bytes_written : (xs : List ℕ) (a : ℕ) (bs rest : List ℕ) → Bytes xs → drop a bs ≡ lines 2 xs ++ rest → bytes_in (length xs) a bs ≡ xs
unfolding bytes_in Bytes
bytes_written [] a bs rest h e = refl
bytes_written (x ∷ xs) a bs rest h e =
    rw (
      number_written 2 x a bs (line_end ∷ (lines 2 xs ++ rest)) (line_there x xs a bs rest e),
      mod-eq_of_lt h.0,
      bytes_written xs (a + 3) bs rest h.1 (lines_past x xs a bs rest e),
    )

-- a job's file: the ten digits of its first line, the numbers that they make, and the lines past it
module _ (q : ℕ) (w t : List ℕ) where
  first_written : good_line 10 0 (job_file q w t) ≡ true
  unfolding good_line job_file first_line digits line
  first_written =
      let bs = job_file q w t in
      rw (
        ten_digits bs,
        all_digits_written 2 1 0 bs (drop 2 bs) refl,
        all_digits_written 2 (length w) 2 bs (drop 4 bs) refl,
        all_digits_written 2 q 4 bs (drop 6 bs) refl,
        all_digits_written 4 (length t) 6 bs (drop 10 bs) refl,
      )

  edition_written : edition_in (job_file q w t) ≡ 1
  unfolding edition_in job_file first_line digits line
  edition_written = let bs = job_file q w t in number_written 2 1 0 bs (drop 2 bs) refl

  pub m_written : length w < 256 → m_in (job_file q w t) ≡ length w
  unfolding m_in job_file first_line digits line
  m_written h = let bs = job_file q w t in number_written 2 (length w) 2 bs (drop 4 bs) refl ∙ mod-eq_of_lt h

  q_written : q < 256 → q_in (job_file q w t) ≡ q
  unfolding q_in job_file first_line digits line
  q_written h = let bs = job_file q w t in number_written 2 q 4 bs (drop 6 bs) refl ∙ mod-eq_of_lt h

  pub n_written : length t < 65536 → n_in (job_file q w t) ≡ length t
  unfolding n_in job_file first_line digits line
  n_written h = let bs = job_file q w t in number_written 4 (length t) 6 bs (drop 10 bs) refl ∙ mod-eq_of_lt h

  pattern_there : drop 11 (job_file q w t) ≡ lines 2 w ++ lines 2 t
  unfolding job_file first_line digits line
  pattern_there = refl

  text_there : drop (11 + 3 * length w) (job_file q w t) ≡ lines 2 t ++ []
  text_there =
      bytes_past 11 (3 * length w) (job_file q w t) (lines 2 w) (lines 2 t) pattern_there (length_lines 2 w) ∙ sym (append-nil (lines 2 t))

pub written_read : WrittenRead
unfolding WrittenRead pattern_in text_in
written_read q w t hw ht hq hm hn =
    let file = job_file q w t in
    let first = pattern_there q w t in
    let second = text_there q w t in
    let m : m_in file ≡ length w = m_written q w t (omega arith) in
    let n : n_in file ≡ length t = n_written q w t (omega arith) in
    let hold_offset : q_in file ≡ q = q_written q w t (omega arith) in
    record {
      taken =
          file_taken_done
          file
          record {
            long = omega (arith, length_file q w t);
            first = first_written q w t;
            edition = edition_written q w t;
            limits = omega arith;
            size = rw (m, n) (length_file q w t);
            rest =
                rw (
                  m,
                  n,
                  good_lines_split (length w) (length t) 11 file,
                  lines_written w 11 file (lines 2 t) first,
                  lines_written t (11 + 3 * length w) file [] second,
                );
          };
      hold_offset = hold_offset;
      pattern = rw m (bytes_written w 11 file (lines 2 t) hw first);
      text = rw (m, n) (bytes_written t (11 + 3 * length w) file [] ht second);
    }

-- ---- read and written

-- the line end of a line read
end_read : (n a : ℕ) (bs : List ℕ) → good_line n a bs ≡ true → drop (a + n) bs ≡ line_end ∷ drop (suc (a + n)) bs
unfolding good_line
end_read n a bs e =
    byte_stands (a + n) line_end bs (eqb-true _ _ (and_right (all_digits n a bs) (eqb (get_or bs (a + n) 0) line_end) e)) (omega arith)

lines_read : (n a : ℕ) (bs : List ℕ) → good_lines n a bs ≡ true → drop a bs ≡ lines 2 (bytes_in n a bs) ++ drop (a + 3 * n) bs
unfolding good_lines good_line lines bytes_in digits line
lines_read zero a bs e = rw add-zero
lines_read (suc n) a bs e =
    let line = and_left (good_line 2 a bs) (good_lines n (a + 3) bs) e in
    let next : a + 3 * suc n ≡ a + 3 + 3 * n = omega arith in
    digits_read 2 a bs (and_left (all_digits 2 a bs) _ line)
    ∙ ap (λ (l : List ℕ). digits 2 (number 2 a bs) ++ l) (end_read 2 a bs line)
    ∙ rw (add-two a, ← add-three a, lines_read n (a + 3) bs (and_right (good_line 2 a bs) _ e), next)

first_read : (bs : List ℕ) → good_line 10 0 bs ≡ true → edition_in bs ≡ 1 → bs ≡ first_line (m_in bs) (q_in bs) (n_in bs) ++ drop 11 bs
unfolding good_line first_line edition_in m_in q_in n_in digits line
first_read bs e h =
    let all = rw (ten_digits bs) at (and_left (all_digits 10 0 bs) _ e) in
    let later = and_right (all_digits 2 0 bs) (all_digits 2 2 bs && (all_digits 2 4 bs && all_digits 4 6 bs)) all in
    let last = and_right (all_digits 2 2 bs) (all_digits 2 4 bs && all_digits 4 6 bs) later in
    cc (
      digits_read 2 0 bs (and_left _ _ all),
      digits_read 2 2 bs (and_left _ _ later),
      digits_read 2 4 bs (and_left _ _ last),
      digits_read 4 6 bs (and_right (all_digits 2 4 bs) _ last),
      end_read 10 0 bs e,
    )

pub read_written : ReadWritten
unfolding ReadWritten job_file pattern_in text_in
read_written bs e =
    let f = file_taken bs e in
    let both = rw (good_lines_split (m_in bs) (n_in bs) 11 bs) at f.rest in
    let first = first_read bs f.first f.edition in
    let m = lines_read (m_in bs) 11 bs (and_left _ _ both) in
    let n = lines_read (n_in bs) (11 + 3 * m_in bs) bs (and_right (good_lines (m_in bs) 11 bs) _ both) in
    let none : drop (file_length (m_in bs) (n_in bs)) bs ≡ [] = rw (← f.size) (drop-length bs) in
    cc (
      append_assoc (first_line (m_in bs) (q_in bs) (n_in bs)) (lines 2 (pattern_in bs)) (lines 2 (text_in bs)),
      append-nil (lines 2 (text_in bs)),
      length_pattern bs,
      length_text bs,
    )
