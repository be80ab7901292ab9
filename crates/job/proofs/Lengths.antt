-- How long a job's file is, and how many bytes a file gives.
-- The first line has eleven bytes and each other line three; a line gives one byte.
use mathlib.Core.List.{List}
use mathlib.Core.Path.{◌≡◌, refl, ap}
use Prim.Native.Nat.{ℕ, zero, suc, ◌+◌, ◌*◌}
use lib.ListN.{length, length-append}
use Rattle.hex_digits.specs.Hex.{digits}
use Rattle.hex_lines.proofs.Lines.{length_lines}
use Rattle.hex_lines.specs.Lines.{line}
use Rattle.job.specs.Job.{first_line, job_file, file_length, m_in, n_in, bytes_in, pattern_in, text_in}

pub length_first_line : (m q n : ℕ) → length (first_line m q n) ≡ 11
unfolding first_line digits line
length_first_line m q n = refl

pub length_file : (q : ℕ) (w t : List ℕ) → length (job_file q w t) ≡ file_length (length w) (length t)
unfolding job_file
length_file q w t = simp (length-append, length_first_line, length_lines)

pub length_bytes : (n a : ℕ) (bs : List ℕ) → length (bytes_in n a bs) ≡ n
unfolding bytes_in
length_bytes zero a bs = refl
length_bytes (suc n) a bs = ap suc (length_bytes n (a + 3) bs)

pub length_pattern : (bs : List ℕ) → length (pattern_in bs) ≡ m_in bs
unfolding pattern_in
length_pattern bs = length_bytes (m_in bs) 11 bs

pub length_text : (bs : List ℕ) → length (text_in bs) ≡ n_in bs
unfolding text_in
length_text bs = length_bytes (n_in bs) (11 + 3 * m_in bs) bs
