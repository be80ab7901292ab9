-- When a search with a table of rules is refused by 12: past the other refusals the test decides,
-- and so the meaning (`SearchedUnlessClaimed`); and no other refusal has that number
-- (`SearchClaimedAt12`). By what the test tells, and by the list of conditions.
use mathlib.Core.Bool.{Bool, true, false, cond}
use mathlib.Core.List.{List, [], ◌∷◌, ◌++◌}
use mathlib.Core.Logic.{⊎_elim}
use mathlib.Core.Path.{◌≡◌, refl, sym, ◌∙◌}
use Prim.Native.Nat.{ℕ, zero, suc, ◌<◌}
use native.Mathlib.Omega.{arith}
use borrow.Author.Tests.{le-ltb}
use lib.ListN.{length}
use Rattle.answers.proofs.Refusals.{none_done}
use Rattle.answers.specs.Refusals.{Refusal, refuse, first_of, text_refusal}
use Rattle.tables.proofs.Cases.{true_or_false, clash}
use Rattle.tables.specs.Buffers.{Tables, lengths}
use Rattle.tables.specs.declared.TableLengths.{TableLengths}
use Rattle.rules.specs.Buffers.{tables_refusal}
use Rattle.rules.specs.Rules.{Rule, rules_of, slot_refusals, table_refusals, count_of}
use Rattle.rules_answers.proofs.Answered.{status_answered}
use Rattle.rules_answers.specs.Answers.{rules_done}
use Rattle.rules_answers.specs.declared.RulesAnswer.{RulesAnswer}
use Rattle.rules_claims.proofs.Twice.{twice_right}
use Rattle.rules_claims.specs.Claims.{claimed_twice, claim_refusal}
use Rattle.rules_claims.specs.Promises.{BothClaim, TwiceRight}
use Rattle.rules_status.proofs.Measured.{measured_one, rooms_decide}
use Rattle.rules_status.specs.Measured.{search_refusals, measured_status}
use Rattle.search_rules.specs.Promises.{RulesMeasured, ByClaims, SearchedUnlessClaimed, SearchClaimedAt12}
use Rattle.search_rules.specs.SearchRules.{search_rules_status, search_rules_status_of, SearchRulesOutcome}

-- a status that the test decides goes by what the rules claim
pub by_claims : (rs : List Rule) (t : List ℕ) {s : ℕ} → s ≡ cond (claimed_twice rs t) 12 0 → ByClaims s rs t
unfolding TwiceRight
by_claims rs t status =
    let (means, passes) = twice_right rs t in
    ⊎_elim
    (λ (e : claimed_twice rs t ≡ true).
    record {
      done = (λ zero. absurd (omega (arith, rw e at status)), λ none. absurd (none (means e)));
      refused = (λ twelve. means e, λ both. rw e at status);
    })
    (λ (e : claimed_twice rs t ≡ false).
    record {
      done = (λ zero both. clash _ (passes both) e, λ none. rw e at status);
      refused = (λ twelve. absurd (omega (arith, rw e at status)), λ both. absurd (clash _ (passes both) e));
    })
    (true_or_false (claimed_twice rs t))

-- past the other refusals it does, where the call's own buffers are not too short
pub measured_decides :
    {x t : List ℕ} {lent : Tables} {found : List ℕ} {short : Bool} → RulesMeasured x t lent found → short ≡ false →
    measured_status x t (lengths lent) short ≡ cond (claimed_twice (rules_of x) t) 12 0
measured_decides {x} {t} {lent} {short = short} m own =
    let text = none_done (text_refusal (length t) ∷ []) (le-ltb _ _ m.text, tt) in
    rooms_decide x t (lengths lent) short refl m.table refl text ∙ rw (m.tables, own)

-- the number of none of these refusals is as high as 12
abbrev Below12 : List Refusal → Type 0
Below12 [] = Unit {0}
Below12 (r ∷ rs) = (r.number < 12) × Below12 rs

passed_12 : (holds : Bool) (number later : ℕ) → number < 12 → cond holds number later ≡ 12 → later ≡ 12
passed_12 true n later l e = absurd (omega arith)
passed_12 false n later l e = e

-- so a status of 12 is given by those past them
past_12 : (rs ss : List Refusal) → Below12 rs → first_of (rs ++ ss) ≡ 12 → first_of ss ≡ 12
unfolding first_of
past_12 [] ss below e = e
past_12 (r ∷ rs) ss below e = past_12 rs ss below.1 (passed_12 r.holds r.number _ below.0 e)

slots_below : (x : List ℕ) (k i : ℕ) → Below12 (slot_refusals x k i)
unfolding slot_refusals
slots_below x zero i = tt
slots_below x (suc k) i = (omega arith, (omega arith, slots_below x k (suc i)))

table_below : (x : List ℕ) → Below12 (table_refusals x)
unfolding table_refusals
table_below x = (omega arith, slots_below x (count_of x) 0)

-- where 12 is given, two rules claim one byte
pub claimed_at_12 :
    (x t : List ℕ) (l : TableLengths) (short : Bool) → measured_status x t l short ≡ 12 → BothClaim (rules_of x) t
unfolding measured_status search_refusals first_of TwiceRight
claimed_at_12 x t l short e =
    let rs = rules_of x in
    let rooms = text_refusal (length t) ∷ tables_refusal rs l ∷ refuse 7 short ∷ [] in
    let own = claim_refusal rs t ∷ [] in
    let later = past_12 (table_refusals x) (rooms ++ own) (table_below x) e in
    let last = past_12 rooms own (omega arith) later in
    ⊎_elim
    (λ (y : claimed_twice rs t ≡ true). (twice_right rs t).0 y)
    (λ (z : claimed_twice rs t ≡ false). absurd (omega (arith, rw z at last)))
    (true_or_false (claimed_twice rs t))

-- so it is of the status of a search
module _ (x t : List ℕ) (lent : Tables) (found : List ℕ) where
  pub status_by_claims : RulesMeasured x t lent found → ByClaims (search_rules_status_of x t lent found) (rules_of x) t
  unfolding search_rules_status
  status_by_claims m =
      by_claims (rules_of x) t
      (measured_one x t (lengths lent) (length found) (length t) ∙ measured_decides m (le-ltb _ _ m.occurrences))

  pub status_claimed_at_12 : search_rules_status_of x t lent found ≡ 12 → BothClaim (rules_of x) t
  unfolding search_rules_status
  status_claimed_at_12 e =
      claimed_at_12 x t (lengths lent) _ (sym (measured_one x t (lengths lent) (length found) (length t)) ∙ e)

  -- which a call answers
  answered :
      {left : Tables} {found' : List ℕ} {r : RulesAnswer} → SearchRulesOutcome x t lent left found found' r →
      r.status ≡ search_rules_status_of x t lent found
  answered o = status_answered (search_rules_status_of x t lent found) (rules_done (rules_of x) t 0) o.answer refl

pub searched_unless_claimed : SearchedUnlessClaimed
unfolding SearchedUnlessClaimed
searched_unless_claimed x t lent left found found' r o m = rw (answered x t lent found o) (status_by_claims x t lent found m)

pub search_claimed_at_12 : SearchClaimedAt12
unfolding SearchClaimedAt12
search_claimed_at_12 x t lent left found found' r o e =
    status_claimed_at_12 x t lent found (sym (answered x t lent found o) ∙ e)
