-- What proofs use of a text as a search sees it: the bytes it shows, and how far it goes.
-- By the definitions of the ring, which no other proof unfolds but that of the worked examples.
use mathlib.Core.List.{List}
use mathlib.Core.Logic.{⊎_elim}
use mathlib.Core.Path.{◌≡◌, refl}
use Prim.Native.Nat.{ℕ, ◌+◌, ◌-◌, ◌%◌, ◌≤◌, ◌<◌}
use native.Mathlib.Nat.{mod-eq_of_lt}
use native.Mathlib.Omega.{arith}
use borrow.Author.Tests.{eq-eqb, ne_eqb}
use lib.ListN.{length}
use Rattle.tables.proofs.Cases.{eq_or_ne}
use Rattle.tables.specs.Sets.{byte}
use Rattle.steps.specs.Text.{shown, span}

-- a position shows the byte at its remainder
pub shown_at : (t : List ℕ) (x : ℕ) → shown t x ≡ byte t (x % length t)
unfolding shown
shown_at t x = refl

-- a position of the text shows its byte
pub shown_byte : (t : List ℕ) (x : ℕ) → x < length t → shown t x ≡ byte t x
shown_byte t x l = rw (shown_at t x, mod-eq_of_lt l)

-- of an empty text no position is shown, and else the pattern can be laid at each byte
pub span_none : (w t : List ℕ) → length t ≡ 0 → span w t ≡ 0
unfolding span
span_none w t e = rw (eq-eqb (length t) 0 e)

pub span_some : (w t : List ℕ) → 1 ≤ length t → span w t ≡ length t + length w - 1
unfolding span
span_some w t l = rw (ne_eqb (length t) 0 (λ e. omega arith))

-- texts of one length go equally far
pub span_same : (w t u : List ℕ) → length u ≡ length t → span w u ≡ span w t
unfolding span
span_same w t u l = rw l

-- a pattern that is not empty is shown whole from each position of the text, and from no other
module _ (w t : List ℕ) (some : 1 ≤ length w) where
  pub span_reaches : (b : ℕ) → b < length t → b + length w ≤ span w t
  span_reaches b l = omega (arith, span_some w t (omega arith))

  -- the text's own positions are all shown
  pub span_covers : length t ≤ span w t
  span_covers = ⊎_elim (λ e. omega (arith, span_none w t e)) (λ d. omega (arith, span_some w t (omega arith))) (eq_or_ne (length t) 0)

  pub span_few : span w t < length t + length w
  span_few = ⊎_elim (λ e. omega (arith, span_none w t e)) (λ d. omega (arith, span_some w t (omega arith))) (eq_or_ne (length t) 0)

  pub span_ends : (b : ℕ) → b + length w ≤ span w t → b < length t
  span_ends b l = omega (arith, span_few)
