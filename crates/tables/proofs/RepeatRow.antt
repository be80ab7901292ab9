-- The row of a repeat and the shifts beside it: how many entries they have and which one stands at a place; and when a pattern repeats.
-- By induction on the numbers that fall. The period is at least 1, even of the empty pattern, so both have a first entry.
use mathlib.Core.Bool.{true, false}
use mathlib.Core.List.{List, [], ◌∷◌, map}
use mathlib.Core.Path.{◌≡◌, refl}
use Prim.Native.Nat.{ℕ, zero, suc, ◌*◌, ◌-◌, ◌≤◌, ◌<◌}
use native.Mathlib.Omega.{arith}
use borrow.Author.Tests.{leb-true, le-leb, lt-leb}
use lib.ListN.{length, get_or, length-map}
use lib.Seq.{get_or_at}
use Rattle.tables.proofs.Groups.{front}
use Rattle.tables.proofs.Least.{least_facts}
use Rattle.tables.specs.Tables.{period, repeats, Δ3, falling, repeat_row, repeat_shifts}

-- the test tells whether the period is at most a third of the pattern
pub repeats_holds : (w : List ℕ) → repeats w ≡ true → 3 * period w ≤ length w
unfolding repeats
repeats_holds w e = leb-true (3 * period w) (length w) e

pub repeats_is : (w : List ℕ) → 3 * period w ≤ length w → repeats w ≡ true
unfolding repeats
repeats_is w b = le-leb (3 * period w) (length w) b

pub repeats_not : (w : List ℕ) → length w < 3 * period w → repeats w ≡ false
unfolding repeats
repeats_not w b = lt-leb (3 * period w) (length w) b

-- the period is at least 1, whatever the pattern is
pub period_positive : (w : List ℕ) → 1 ≤ period w
unfolding period
period_positive w = (least_facts (length w - 1) 1 _).low

-- numbers that fall
falling_length : (n i : ℕ) → length (falling n i) ≡ n
unfolding falling
falling_length zero i = refl
falling_length (suc n) i = rw (falling_length n (i - 1))

falling_entry : (n i x : ℕ) → x < n → get_or (falling n i) x 0 ≡ i - x
unfolding falling
falling_entry zero i x b = absurd (omega arith)
falling_entry (suc n) i zero b = omega arith
falling_entry (suc n) i (suc x) b = omega (arith, falling_entry n (i - 1) x (omega arith))

module _ (w : List ℕ) where
  -- the row has p entries, falling from m - 1
  pub repeat_row_length : length (repeat_row w) ≡ period w
  unfolding repeat_row
  repeat_row_length = falling_length (period w) (length w - 1)

  pub repeat_row_entry : (x : ℕ) → x < period w → get_or (repeat_row w) x 0 ≡ length w - 1 - x
  unfolding repeat_row
  repeat_row_entry x b = falling_entry (period w) (length w - 1) x b

  pub repeat_row_first : get_or (repeat_row w) 0 0 ≡ length w - 1
  repeat_row_first = omega (arith, repeat_row_entry 0 (period_positive w))

  -- the positions of Δ3's entries
  abbrev inner : List ℕ
  inner = falling (period w - 1) (length w - 2)

  inner_length : length inner ≡ period w - 1
  inner_length = falling_length (period w - 1) (length w - 2)

  -- entry a of the shifts is Δ3 of the row's entry a, and the last is the period
  pub repeat_shifts_entry : (a : ℕ) → 1 ≤ a → a < period w → get_or (repeat_shifts w) a 0 ≡ Δ3 w (length w - 1 - a)
  unfolding repeat_shifts
  repeat_shifts_entry zero l u = absurd (omega arith)
  repeat_shifts_entry (suc a) l u =
      let place : get_or inner a 0 ≡ length w - 1 - suc a = omega (arith, falling_entry (period w - 1) (length w - 2) a (omega arith)) in
      rw place at (front (Δ3 w) inner (period w ∷ []) 0 a (omega (arith, inner_length)))

  pub repeat_shifts_end : get_or (repeat_shifts w) (period w) 0 ≡ period w
  unfolding repeat_shifts
  repeat_shifts_end =
      let last : length (0 ∷ map (Δ3 w) inner) ≡ period w = omega (arith, length-map inner (Δ3 w), inner_length, period_positive w) in
      get_or_at (0 ∷ map (Δ3 w) inner) (period w) [] 0 (period w) last
