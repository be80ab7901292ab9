-- What writing the frames of a text that has been searched by each rule takes. This is a
-- definition.
use Rattle.std.specs.Prelude.{List, ◌≡◌, ℕ, ◌≤◌, length, take}
use Rattle.rules.specs.Buffers.{one_after_another}
use Rattle.rules.specs.Rules.{rules_of}
use Rattle.rules_answers.specs.Answers.{all_told}
use Rattle.rules_answers.specs.declared.RuleAnswer.{RuleAnswer}
use Rattle.rules_claims.specs.Claims.{found_of}

-- the rules of the table are told of, their occurrences (finds) stand in front of their
-- buffer and are at most n in all, and there is room for n frames
pub record RuleFramesReady (x t : List ℕ) (answers : List RuleAnswer) (found frames : List ℕ) : Type 0 where
  pub told : answers ≡ all_told (rules_of x) t
  pub listed : let all = one_after_another (found_of t) (rules_of x) in take (length all) found ≡ all
  pub few : length (one_after_another (found_of t) (rules_of x)) ≤ length t
  pub room : length t ≤ length frames
