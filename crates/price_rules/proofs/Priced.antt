-- What pricing with a table of rules answers and leaves, put together from what its parts do:
-- refused, and done. The searches find as many occurrences as the frames have holds, and tell their
-- number.
use mathlib.Core.List.{List, [], ◌∷◌}
use mathlib.Core.Path.{◌≡◌, refl, sym}
use Prim.Native.Nat.{ℕ, zero, suc, ◌≤◌}
use native.Mathlib.Omega.{arith}
use lib.Dec.{ltb}
use lib.ListN.{length}
use Rattle.answers.specs.Answers.{status_only, if_done}
use Rattle.answers.specs.Bytes.{Bytes}
use Rattle.answers.specs.Refusals.{longest_text, buffer_refusal}
use Rattle.tables.specs.Buffers.{Tables, lengths}
use Rattle.tables.specs.declared.TableLengths.{TableLengths}
use Rattle.price_tariff.specs.Sums.{cost_by_holds, Countable}
use Rattle.price.specs.declared.PriceAnswer.{PriceAnswer}
use Rattle.rules.proofs.Taken.{table_patterned}
use Rattle.rules.specs.Buffers.{one_after_another, all_tables_left}
use Rattle.rules.specs.Rules.{Rule, rules_of, table_size}
use Rattle.rules_answers.specs.declared.RuleAnswer.{RuleAnswer}
use Rattle.rules_claims.proofs.Few.{few_found}
use Rattle.rules_claims.specs.Claims.{found_of}
use Rattle.rules_claims.specs.Promises.{FewFound}
use Rattle.rules_searches.specs.Searches.{RulesSearched}
use Rattle.rules_status.proofs.Measured.{MeasuredTaken, search_taken}
use Rattle.rules_status.specs.Measured.{measured_status}
use Rattle.search_rules.proofs.Taken.{status_is}
use Rattle.search_rules.specs.SearchRules.{search_rules_status, search_rules_status_of, all_found_left}
use Rattle.price_rules.proofs.Cost.{rules_cost_counted, all_summed}
use Rattle.price_rules.specs.PriceRules.{occurrences_told, price_rules_answer, PriceRulesOutcomeOf}
use Rattle.price_rules.specs.Promises.{RulesCostCounted}

-- an answer by its status and its pence
abbrev answer_with : (status pence : ℕ) → PriceAnswer
answer_with s pence = record { answer = status_only s; pence = pence }

-- a refused call answers its status and leaves every buffer
pub refused :
    {rs : List Rule} {t : List ℕ} {lent : Tables} {found : List ℕ} (s : ℕ) → (s ≡ 0 → ⊥) →
    PriceRulesOutcomeOf s rs t lent lent found found (answer_with s 0)
unfolding if_done price_rules_answer all_tables_left all_found_left
refused zero h = absurd (h refl)
refused (suc s) h = record { answer = refl; tables = refl; occurrences_left = refl }

-- a job is priced: what every search with a table asks
abbrev pub PriceTaken : (x t : List ℕ) (lent : Tables) (found : List ℕ) → Type 0
PriceTaken x t lent found = MeasuredTaken x t (lengths lent) (buffer_refusal (length found) (length t) ∷ [])

pub price_taken :
    (x t : List ℕ) (lent : Tables) (found : List ℕ) → length x ≡ table_size →
    search_rules_status_of x t lent found ≡ 0 →
    PriceTaken x t lent found
unfolding search_rules_status
price_taken x t lent found size e = search_taken x t (lengths lent) _ size (omega arith) e

-- so says a measured status of 0
pub job_taken :
    (x t : List ℕ) (lent : Tables) (found : List ℕ) {l : TableLengths} → length x ≡ table_size →
    0 ≡ measured_status x t l (ltb (length found) (length t)) → l ≡ lengths lent → PriceTaken x t lent found
job_taken x t lent found size measured e =
    price_taken x t lent found size (sym (status_is x t (length found) measured e))

module _
    {x t : List ℕ} {lent left : Tables} {found found' : List ℕ} {answers : List RuleAnswer}
    (m : PriceTaken x t lent found)
    (searched : RulesSearched x t lent left found found' answers)
  where
    -- the occurrences that are told are those of all rules, which are at most n
    summed : occurrences_told answers ≡ length (one_after_another (found_of t) (rules_of x))
    summed = rw searched.answers (all_summed (rules_of x) t)

    -- the occurrences told are at most n
    few : occurrences_told answers ≤ length t
    unfolding FewFound
    few = rw summed (few_found (rules_of x) t (λ none. table_patterned x m.table) m.once)

    pub told_fit : occurrences_told answers ≤ longest_text
    told_fit = omega (arith, few, m.text)

    -- the cost can be worked out
    pub countable : Countable t (occurrences_told answers)
    countable = record { text = m.text; few = few }

    -- a call that is done
    pub done :
        Bytes t →
        PriceRulesOutcomeOf 0 (rules_of x) t lent left found found'
        (answer_with 0 (cost_by_holds t (occurrences_told answers)))
    unfolding if_done price_rules_answer all_tables_left all_found_left RulesCostCounted
    done bytes =
        record {
          answer =
              rw (summed, rules_cost_counted (rules_of x) t (λ none. table_patterned x m.table) bytes m.once);
          tables = searched.tables;
          occurrences_left = searched.occurrences_left;
        }
