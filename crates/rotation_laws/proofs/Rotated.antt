-- A ring started r entries later: entry i is the one r further on around the ring, and so is what a position shows (`ShownRotated`); its ones are
-- as many (`OnesRotated`). Before the seam of its two parts it has an entry of the first, after it one of the second.
use mathlib.Core.List.{List, ◌++◌}
use mathlib.Core.Logic.{⊎_elim}
use mathlib.Core.Path.{◌≡◌, sym, ◌∙◌, ap}
use Prim.Native.Nat.{ℕ, ◌+◌, ◌-◌, ◌%◌, ◌≤◌, ◌<◌}
use native.Mathlib.Nat.{mod-lt, mod-eq_of_lt, mod-add-mod, add-mod_right}
use native.Mathlib.Omega.{arith}
use lib.Count.{ones}
use lib.ListN.{length, take, drop, length-append, length-drop, drop_of_length-le, take-append-drop}
use lib.ListN.{get_or-append, get_or-eq_default}
use lib.Seq.{take_all, get_or-append-add, get_or-take, get_or-drop}
use Rattle.tables.proofs.Cases.{eq_or_ne, le_or_lt}
use Rattle.tables.specs.Sets.{byte}
use Rattle.steps.proofs.Text.{shown_at}
use Rattle.price_tariff.proofs.Sums.{sum_over, sum_append, ones_summed}
use Rattle.rotation_laws.specs.Promises.{rotated, ShownRotated, OnesRotated}

pub length_rotated : (r : ℕ) (t : List ℕ) → length (rotated r t) ≡ length t
unfolding rotated
length_rotated r t =
    omega (arith, length-append (drop r t) (take r t), length-append (take r t) (drop r t), ap length (take-append-drop r t))

-- past the end it is the ring as it was
pub started_past : (r : ℕ) (t : List ℕ) → length t ≤ r → rotated r t ≡ t
unfolding rotated
started_past r t past = rw (drop_of_length-le t past, take_all r t past)

pub rotated_entry : (r : ℕ) (t : List ℕ) → r ≤ length t → (i : ℕ) → i < length t → byte (rotated r t) i ≡ byte t ((i + r) % length t)
unfolding rotated
rotated_entry r t h i l =
    let n = length t in
    let first = length-drop r t in
    ⊎_elim
    (λ after.
    let j = i - (n - r) in
    let (there, whole) : (i ≡ length (drop r t) + j) × (i + r ≡ j + n) = (omega arith, omega arith) in
    let small : j < n = omega arith in
    let around : (i + r) % n ≡ j = rw whole (add-mod_right j n ∙ mod-eq_of_lt small) in
    ap (byte (drop r t ++ take r t)) there ∙ get_or-append-add (drop r t) (take r t) j 0 ∙ get_or-take r t j 0 (omega arith) ∙ ap (byte t) (sym around))
    (λ before.
    let inside : i + r < n = omega arith in
    get_or-append (drop r t) (take r t) 0 i (omega arith) ∙ get_or-drop r t i 0 ∙ ap (byte t) (omega (arith, mod-eq_of_lt inside)))
    (le_or_lt (n - r) i)

pub shown_rotated : ShownRotated
unfolding ShownRotated
shown_rotated r t h x =
    let n = length t in
    let u = rotated r t in
    let size = length_rotated r t in
    shown_at u x
    ∙ ⊎_elim
    (λ none. get_or-eq_default u 0 (omega arith) ∙ sym (get_or-eq_default t 0 (omega arith)))
    (λ some. rw size (rotated_entry r t h (x % n) (mod-lt x (omega arith)) ∙ ap (byte t) (mod-add-mod x n r)))
    (eq_or_ne n 0)
    ∙ sym (shown_at t (x + r))

-- a sum over the entries is the same
pub sum_rotated : (f : ℕ → ℕ) (r : ℕ) (t : List ℕ) → sum_over f (rotated r t) ≡ sum_over f t
unfolding rotated
sum_rotated f r t =
    omega (arith, sum_append f (drop r t) (take r t), sum_append f (take r t) (drop r t), ap (sum_over f) (take-append-drop r t))

pub ones_rotated : OnesRotated
unfolding OnesRotated
ones_rotated r t = ones_summed (rotated r t) ∙ sum_rotated ones r t ∙ sym (ones_summed t)
