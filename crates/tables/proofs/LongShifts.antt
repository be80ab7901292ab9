-- The shifts out of a repeat are long: Δ3 is above m - 2 × p, and Δ1(c, p) at least m - p where c is not the last byte.
-- A shorter shift that keeps what is known is a multiple of the period, which the position that differed refutes, or its remainder is a period.
use mathlib.Core.List.{List}
use mathlib.Core.Logic.{◌≢◌, inr}
use mathlib.Core.Path.{◌≡◌, sym, ◌∙◌}
use Prim.Native.Nat.{ℕ, zero, suc, ◌+◌, ◌*◌, ◌-◌, ◌/◌, ◌%◌, ◌≤◌, ◌<◌}
use native.Mathlib.Nat.{suc-mul, mod-lt, mod-mod, mod-add-mod, add-mod-mod, mod-add-div'}
use native.Mathlib.Omega.{arith}
use lib.ListN.{length}
use Rattle.tables.proofs.Periods.{period_facts}
use Rattle.tables.specs.Facts.{HasPeriod, FirstShift, RepeatShift}
use Rattle.tables.specs.Sets.{byte}
use Rattle.tables.specs.Tables.{period}

module _ (w : List ℕ) (p : ℕ) (per : HasPeriod w p) where
  -- positions that are a multiple of a period apart have the same byte
  multiple : (c i : ℕ) → i + c * p < length w → byte w i ≡ byte w (i + c * p)
  multiple zero i b = let none : i + 0 * p ≡ i = omega arith in rw none
  multiple (suc c) i b =
      let next : i + p + c * p ≡ i + suc c * p = omega (arith, suc-mul c p) in
      per i (omega (arith, next)) ∙ rw next at (multiple c (i + p) (omega (arith, next)))

  -- so do positions that leave the same remainder by it
  same_remainder : (i j : ℕ) → i < length w → j < length w → i % p ≡ j % p → byte w i ≡ byte w j
  same_remainder i j a b e = sym (remainder i a) ∙ rw e (remainder j b)
    where
      remainder : (x : ℕ) → x < length w → byte w (x % p) ≡ byte w x
      remainder x u = let whole = mod-add-div' x p in rw whole at (multiple (x / p) (x % p) (omega (arith, whole)))

-- a shift that Δ3 allows: while it is at most i it is no multiple of the period, and while it is short its remainder is a period
no_multiple : (w : List ℕ) (i k : ℕ) → i < length w → RepeatShift w i k → k ≤ i → k % period w ≢ 0
no_multiple w i k b r l e =
    let p = period w in
    let per = (period_facts w (omega arith)).value in
    let none : i - k + k % p ≡ i - k = omega arith in
    let back : i - k + k ≡ i = omega arith in
    r.outside_differing (l, same_remainder w p per (i - k) i (omega arith) b (rw (none, back) at (add-mod-mod (i - k) k p)))

remainder_period : (w : List ℕ) (i k : ℕ) → RepeatShift w i k → k + 2 * period w ≤ length w → HasPeriod w (k % period w)
remainder_period w i k r u x v =
    let p = period w in
    let f = period_facts w (omega arith) in
    let same = same_remainder w p f.value in
    let y = x % p in
    let y<p : y < p = mod-lt x f.positive in
    let back : y + k - k ≡ y = omega arith in
    same x y (omega arith) (omega arith) (sym (mod-mod x p))
    ∙ rw back at (r.outside_known (y + k) (omega arith, inr (omega arith)) (omega arith))
    ∙ same (y + k) (x + k % p) (omega arith) v (mod-add-mod x p k ∙ sym (add-mod-mod x k p))

-- Δ3(i) is above m - 2 × p for each i from m - 2 × p on, so for the whole row of a repeat
pub repeat_shift_long :
    (w : List ℕ) (i k : ℕ) → i < length w → length w ≤ i + 2 * period w → RepeatShift w i k → length w < k + 2 * period w
repeat_shift_long w i k b late r =
    let f = period_facts w (omega arith) in
    let not_short : ¬ (k + 2 * period w ≤ length w) = λ u.
    f.least (k % period w) (omega (arith, no_multiple w i k b r (omega arith))) (mod-lt k f.positive) (remainder_period w i k r u) in
    omega arith

-- after a shift by the period, where the last position shows another byte c: Δ1(c, p) is at least m - p
pub first_shift_long : (w : List ℕ) (c k : ℕ) → FirstShift w c (period w) k → byte w (length w - 1) ≢ c → length w ≤ k + period w
first_shift_long w c k r differs =
    let m = length w in
    let p = period w in
    let per = (period_facts w (omega (arith, r.positive, r.within))).value in
    let not_short : ¬ (k + p < m) = λ b.
    let g = m - 1 - p in
    let last : g + p ≡ m - 1 = omega arith in
    let before : g - k + p ≡ m - 1 - k = omega arith in
    differs
    (sym (rw last at (per g (omega arith)))
    ∙ sym (r.outside_last g (omega arith) (omega arith))
    ∙ rw before at (per (g - k) (omega arith))
    ∙ r.outside_seen (m - 1) (omega arith) (omega arith)) in
    omega arith
