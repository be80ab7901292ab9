-- The lines of a part of a file, three bytes each, and the good ones among them: all are good just where as many are good as there are.
-- By induction on the number of lines.
use mathlib.Core.Bool.{Bool, true, false, ◌&&◌}
use mathlib.Core.List.{List}
use mathlib.Core.Path.{◌≡◌, refl, ◌∙◌}
use Prim.Native.Nat.{ℕ, zero, suc, ◌+◌, ◌*◌, ◌≤◌, ◌<◌}
use native.Mathlib.Omega.{arith}
use mir.Val.{bool_byte}
use borrow.Author.Tests.{ne_eqb}
use lib.Dec.{eqb, eqb-suc-suc}
use lib.ListN.{get_or, take, drop}
use Rattle.std.proofs.lemmas.List.{get_or-take, get_or-drop}
use Rattle.std.proofs.lemmas.List.Sums.{sum_by-cons}
use Rattle.std.specs.List.{sum_by}
use Rattle.std.specs.Simd.{first_chunks}
use Rattle.hex_digits.specs.Hex.{is_digit}
use Rattle.hex_lines.specs.Lines.{line_end}
use Rattle.job.specs.Job.{good_line, good_lines}
use Rattle.job_reader.proofs.Reading.{line_bytes}

-- whether three bytes are a line
abbrev pub three_good : (line : List ℕ) → Bool
three_good line = is_digit (get_or line 0 0) && is_digit (get_or line 1 0) && eqb (get_or line 2 0) line_end

-- the good lines of the first n
abbrev pub good_among : (n : ℕ) (part : List ℕ) → ℕ
good_among n part = sum_by (λ line. bool_byte (three_good line)) (first_chunks 3 n part)

-- the first line and those after it
module _ (n a : ℕ) (part bs : List ℕ) (same : (i : ℕ) → i < 3 * suc n → get_or part i 0 ≡ get_or bs (a + i) 0) where
  entry : (i : ℕ) → i < 3 → get_or (take 3 part) i 0 ≡ get_or bs (a + i) 0
  entry i h = get_or-take 3 part i 0 h ∙ same i (omega arith)

  first_same : three_good (take 3 part) ≡ good_line 2 a bs
  first_same =
      let here : a + 0 ≡ a = omega arith in
      rw (line_bytes, entry 0 (omega arith), entry 1 (omega arith), entry 2 (omega arith), here) refl

  later_same : (i : ℕ) → i < 3 * n → get_or (drop 3 part) i 0 ≡ get_or bs (a + 3 + i) 0
  later_same i h =
      let there : a + (3 + i) ≡ a + 3 + i = omega arith in
      rw (← there) (get_or-drop 3 part i 0 ∙ same (3 + i) (omega arith))

counted :
    (line : Bool) (good n : ℕ) (rest : Bool) → good ≤ n → eqb good n ≡ rest →
    (bool_byte line + good ≤ suc n) × (eqb (bool_byte line + good) (suc n) ≡ line && rest)
counted true good n rest few e =
    let more : 1 + good ≡ suc good = omega arith in
    (omega arith, rw more (eqb-suc-suc good n ∙ e))
counted false good n rest few e =
    let same : 0 + good ≡ good = omega arith in
    (omega arith, rw same (ne_eqb good (suc n) (omega arith)))

pub lines_counted :
    (n a : ℕ) (part bs : List ℕ) → ((i : ℕ) → i < 3 * n → get_or part i 0 ≡ get_or bs (a + i) 0) →
    (good_among n part ≤ n) × (eqb (good_among n part) n ≡ good_lines n a bs)
unfolding good_lines
lines_counted zero a part bs same = (omega arith, refl)
lines_counted (suc n) a part bs same =
    let (few, later) = lines_counted n (a + 3) (drop 3 part) bs (later_same n a part bs same) in
    rw (sum_by-cons (λ line. bool_byte (three_good line)) (take 3 part) (first_chunks 3 n (drop 3 part)), ← first_same n a part bs same)
    (counted (three_good (take 3 part)) (good_among n (drop 3 part)) n _ few later)
