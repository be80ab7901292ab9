-- What searching and converting with a table of rules answer (document 02, "A rule table"): the
-- number of occurrences (finds) and of comparisons (looks), p and the bound of each rule, and
-- whether it found nothing. These are definitions.
use Rattle.std.specs.Prelude.{cond, List, map, ℕ, eqb, replicate}
use Rattle.answers.specs.Answers.{if_done}
use Rattle.answers.specs.Buffers.{in_front}
use Rattle.answers.specs.declared.Answer.{Answer}
use Rattle.search.specs.Search.{search_done}
use Rattle.rules.specs.Rules.{Rule, most_rules}
use Rattle.rules_answers.specs.declared.RuleAnswer.{RuleAnswer}
use Rattle.rules_answers.specs.declared.RulesAnswer.{RulesAnswer}

-- what is told of one rule: its search, and 1 where it found nothing
abbrev pub told : Answer → RuleAnswer
told a =
    record {
      occurrences = a.occurrences;
      comparisons = a.comparisons;
      period = a.period;
      bound = a.bound;
      unmatched = cond (eqb a.occurrences 0) 1 0;
    }

-- past the rules nothing is told
abbrev pub nothing_told : RuleAnswer
nothing_told = record { occurrences = 0; comparisons = 0; period = 0; bound = 0; unmatched = 0 }

-- 16 entries that tell nothing
unfoldable pub no_answers : List RuleAnswer
no_answers = replicate most_rules nothing_told

-- what is told of each rule after its search of t
abbrev pub told_of : (t : List ℕ) → Rule → RuleAnswer
told_of t r = told (search_done r.pattern t)

-- this of all rules, rule 1 first, and past the last nothing
unfoldable pub all_told : List Rule → (t : List ℕ) → List RuleAnswer
all_told rs t = in_front (map (told_of t) rs) no_answers

-- a call that is done answers this with the ones (holes) that it counted
abbrev pub rules_done : List Rule → (t : List ℕ) → (ones : ℕ) → RulesAnswer
rules_done rs t ones = record { status = 0; ones = ones; rules = all_told rs t }

-- a refused call answers zeros beside its status
abbrev pub rules_refused : (status : ℕ) → RulesAnswer
rules_refused s = record { status = s; ones = 0; rules = no_answers }

-- what a call of this status answers
unfoldable pub rules_answered : (status : ℕ) → (done : RulesAnswer) → RulesAnswer
rules_answered s done = if_done s done (rules_refused s)
