-- The cost of a text by the frames of its rules is its cost by the number of their occurrences
-- (`RulesCostCounted`), since each has a hold of its own; and that number is the sum of what is
-- told.
use mathlib.Core.List.{List, [], ◌∷◌, map}
use mathlib.Core.Path.{◌≡◌, refl}
use Prim.Native.Nat.{ℕ}
use native.Mathlib.Omega.{arith}
use lib.ListN.{length, length-append}
use Rattle.std.proofs.lemmas.List.{drop-replicate}
use Rattle.std.proofs.lemmas.List.Folds.{sum_by-replicate}
use Rattle.std.proofs.lemmas.List.Sums.{sum_by-cons, sum_by-append}
use Rattle.answers.specs.Buffers.{from_entry, in_front}
use Rattle.price_tariff.proofs.Cost.{cost_held}
use Rattle.rules.specs.Buffers.{one_after_another}
use Rattle.rules.specs.Rules.{Rule}
use Rattle.rules_answers.specs.Answers.{told_of, no_answers, all_told}
use Rattle.rules_answers.specs.declared.RuleAnswer.{RuleAnswer}
use Rattle.rules_claims.specs.Claims.{found_of}
use Rattle.rules_frames.proofs.Holds.{all_holds_once}
use Rattle.rules_frames.proofs.Marked.{length_rule_frames}
use Rattle.rules_frames.specs.Promises.{AllHoldsOnce}
use Rattle.rules_frames.specs.RuleFrames.{rule_frames}
use Rattle.price_rules.specs.PriceRules.{occurrences_told}
use Rattle.price_rules.specs.Promises.{RulesCostCounted}

pub rules_cost_counted : RulesCostCounted
unfolding RulesCostCounted AllHoldsOnce
rules_cost_counted rs t some bytes once =
    rw (cost_held t (rule_frames rs t) (length_rule_frames rs t), all_holds_once rs t some bytes once)

-- as many occurrences as are told of a rule
abbrev counted : RuleAnswer → ℕ
counted a = a.occurrences

told_mapped :
    (rs : List Rule) (t : List ℕ) → occurrences_told (map (told_of t) rs) ≡ length (one_after_another (found_of t) rs)
unfolding one_after_another
told_mapped [] t = refl
told_mapped (r ∷ rs) t =
    rw (sum_by-cons counted (told_of t r) (map (told_of t) rs), length-append) (omega (arith, told_mapped rs t))

-- the occurrences that are told, summed up, are those of all rules: past the rules nothing is told
pub all_summed :
    (rs : List Rule) (t : List ℕ) → occurrences_told (all_told rs t) ≡ length (one_after_another (found_of t) rs)
unfolding all_told no_answers in_front from_entry
all_summed rs t =
    rw (sum_by-append counted (map (told_of t) rs) _, drop-replicate, sum_by-replicate counted)
    (omega (arith, told_mapped rs t))
