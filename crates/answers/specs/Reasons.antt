-- The reasons of a refusal by their numbers (document 01, "Turned away, by who can cause it"; document 02), and the status that a test's
-- result stands for. These are definitions.
use Rattle.std.specs.Prelude.{ℕ, Result, Ok, Err}
use Rattle.answers.specs.declared.Reason.{Reason}
use Rattle.answers.specs.declared.Reason.TheVariants.{FileLength, WrongByte, Edition, PatternLength, HoldOffset, TextLength, ShortBuffer, Way, NoConversion, Position, RuleNumber, ClaimedTwice, Role}

-- the number of each reason
abbrev pub number_of : Reason → ℕ
number_of FileLength = 1
number_of WrongByte = 2
number_of Edition = 3
number_of PatternLength = 4
number_of HoldOffset = 5
number_of TextLength = 6
number_of ShortBuffer = 7
number_of Way = 8
number_of NoConversion = 9
number_of Position = 10
number_of RuleNumber = 11
number_of ClaimedTwice = 12
number_of Role = 13

-- the status of a call that goes on where a test lets it pass: 0, or the number of the reason for which it is refused
abbrev pub status_of : {A : Type 0} → Result A Reason → ℕ
status_of (Ok passed) = 0
status_of (Err reason) = number_of reason
