-- Bytes read as a number: document 01's number and value for each case. These are definitions.
use Rattle.std.specs.Prelude.{Bool, cond, ◌≡◌, ℕ, Option, Some, None}

-- document 01's number for each case: 0, or refusal 2, a byte that is not the digit or line end due there
unfoldable pub parsed_status : Option ℕ → ℕ
parsed_status (Some v) = 0
parsed_status None = 2

-- document 01's value for each case
unfoldable pub parsed_value : Option ℕ → ℕ
parsed_value (Some v) = v
parsed_value None = 0

-- what reading bytes answers: their value if they are good, and refusal 2 if not
pub record ParsedOutcome (good : Bool) (value : ℕ) (r : Option ℕ) : Type 0 where
  pub status : parsed_status r ≡ cond good 0 2
  pub result : parsed_value r ≡ cond good value 0
