-- What a digit or a pair that is read says: a value is answered just if the bytes are good, and is theirs; none just if they are not.
-- By the number that each case has.
use mathlib.Core.Bool.{Bool, true, false, cond}
use mathlib.Core.Path.{◌≡◌, refl, ap, ◌∙◌}
use Prim.Native.Nat.{ℕ, ◌<◌}
use borrow.Author.Tests.{eqb-false}
use Rattle.hex_digits.proofs.Digits.{value_below}
use Rattle.hex_digits.specs.Hex.{is_digit, digit_value}
use Rattle.hex_digits.specs.Parsed.{ParsedOutcome, parsed_status, parsed_value}
use Rattle.std.specs.Option.{is_some}
use Rattle.std.specs.Prelude.{Option, Some, None}

-- the number, 0 or 2, tells good from bad
pub told_good : (good : Bool) → ◌≡◌ {A = ℕ} 0 (cond good 0 2) → good ≡ true
told_good true e = refl
told_good false e = absurd (eqb-false 0 2 refl e)

pub told_bad : (good : Bool) → ◌≡◌ {A = ℕ} 2 (cond good 0 2) → good ≡ false
told_bad true e = absurd (eqb-false 2 0 refl e)
told_bad false e = refl

module _ {good : Bool} {value : ℕ} where
  pub refused : good ≡ false → ParsedOutcome good value None
  unfolding parsed_status parsed_value
  refused e = record { status = rw e; result = rw e }

  pub taken : {v : ℕ} → good ≡ true → value ≡ v → ParsedOutcome good value (Some v)
  unfolding parsed_status parsed_value
  taken e q = record { status = rw e; result = rw (e, q) }

  pub value_read : {v : ℕ} → ParsedOutcome good value (Some v) → (good ≡ true) × (v ≡ value)
  unfolding parsed_status parsed_value
  value_read o = let known = told_good good o.status in (known, o.result ∙ ap (λ (b : Bool). cond b value 0) known)

  pub refused_bad : ParsedOutcome good value None → good ≡ false
  unfolding parsed_status
  refused_bad o = told_bad good o.status

  pub some_just : (r : Option ℕ) → ParsedOutcome good value r → is_some r ≡ good
  some_just (Some v) o = rw (value_read o).0
  some_just None o = rw (refused_bad o)

-- a digit that was read is below 16
pub digit_below : (b : ℕ) {v : ℕ} → ParsedOutcome (is_digit b) (digit_value b) (Some v) → v < 16
digit_below b o = let (digit, is) = value_read o in rw is (value_below b digit)
