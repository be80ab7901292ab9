-- The ways of turning and their numbers (document 02, "Mirrored edges"). These are definitions.
use Rattle.std.specs.Prelude.{ℕ, ◌≡◌, ◌<◌, Result, Ok, Err}
use Rattle.answers.specs.Reasons.{number_of}
use Rattle.answers.specs.declared.Reason.{Reason}
use Rattle.turn.specs.declared.Way.{Way}
use Rattle.turn.specs.declared.Way.TheVariants.{AsDrawn, Mirrored, Reversed, Both}

-- the number of each way
abbrev pub way_number : Way → ℕ
way_number AsDrawn = 0
way_number Mirrored = 1
way_number Reversed = 2
way_number Both = 3

-- what a number is read as: the way of this number, or refused by 8 above 3
abbrev pub WayRead : (number : ℕ) → Result Way Reason → Type 0
WayRead number (Ok way) = number ≡ way_number way
WayRead number (Err reason) = (3 < number) × (number_of reason ≡ 8)

-- the way of a call that is done is that of the number it is given
abbrev pub turn_read : (number : ℕ) → Result Way Reason → Type 0
turn_read number (Ok way) = number ≡ way_number way
turn_read number (Err reason) = Unit {0}
