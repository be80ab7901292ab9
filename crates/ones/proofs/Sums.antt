-- The ones of a text as a sum: over its bytes, over two texts joined and over a part and what follows it; and at most eight for each byte.
-- By induction on the text. Assumes nothing.
use mathlib.Core.List.{List, [], ◌∷◌, ◌++◌}
use mathlib.Core.Path.{◌≡◌, refl, sym, ◌∙◌, ap}
use Prim.Native.Nat.{ℕ, ◌+◌, ◌*◌, ◌≤◌}
use native.Mathlib.Omega.{arith}
use lib.Count.{ones, ones-le}
use lib.ListN.{length, take, drop, take-append-drop}
use lib.Seq.{drop-drop}
use Rattle.std.specs.List.{sum_by}
use Rattle.std.proofs.lemmas.List.Recursion.{is_sum_by}
use Rattle.answers.specs.Bytes.{Bytes}
use Rattle.ones.specs.Ones.{ones_of}

pub ones_summed : (t : List ℕ) → ones_of t ≡ sum_by ones t
unfolding ones_of
ones_summed t = is_sum_by ones_of ones refl (λ _ _. refl) t

pub ones_append : (s t : List ℕ) → ones_of (s ++ t) ≡ ones_of s + ones_of t
unfolding ones_of
ones_append [] t = omega arith
ones_append (c ∷ s) t = omega (arith, ones_append s t)

-- the ones from f on: those of the next k bytes, and those after them
pub ones_part : (t : List ℕ) (f k : ℕ) → ones_of (drop f t) ≡ ones_of (take k (drop f t)) + ones_of (drop (f + k) t)
ones_part t f k =
    ap ones_of (sym (take-append-drop k (drop f t))) ∙ ones_append (take k (drop f t)) (drop k (drop f t))
    ∙ ap (λ r. ones_of (take k (drop f t)) + ones_of r) (drop-drop k f t)

pub ones_of_few : (t : List ℕ) → Bytes t → ones_of t ≤ 8 * length t
unfolding ones_of Bytes
ones_of_few [] h = omega arith
ones_of_few (c ∷ t) h = omega (arith, ones-le 8 c h.0, ones_of_few t h.1)
