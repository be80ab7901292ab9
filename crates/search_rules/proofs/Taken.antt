-- What a search with a table of rules takes, answers and leaves, by its status: one of status 0
-- fits its buffers, since the occurrences (finds) of rules that claim no byte twice are at most n;
-- a refused one leaves everything; and one that is done, what its searches leave.
use mathlib.Core.List.{List, [], ◌∷◌}
use mathlib.Core.Path.{◌≡◌, sym, ◌∙◌}
use Prim.Native.Nat.{ℕ, ◌≤◌}
use native.Mathlib.Omega.{arith}
use borrow.Author.Tests.{ltb-false}
use lib.Dec.{ltb}
use lib.ListN.{length}
use Rattle.answers.proofs.Answered.{refused_only}
use Rattle.answers.specs.Answers.{if_done}
use Rattle.answers.specs.Refusals.{Refusal, buffer_refusal}
use Rattle.tables.specs.Buffers.{Tables, lengths}
use Rattle.tables.specs.declared.TableLengths.{TableLengths}
use Rattle.rules.proofs.Taken.{table_patterned}
use Rattle.rules.specs.Buffers.{all_tables_left}
use Rattle.rules.specs.Rules.{Rule, rules_of, table_size}
use Rattle.rules_answers.proofs.Answered.{refused_answer}
use Rattle.rules_answers.specs.Answers.{rules_done, rules_refused, rules_answered}
use Rattle.rules_answers.specs.declared.RuleAnswer.{RuleAnswer}
use Rattle.rules_claims.proofs.Few.{few_found}
use Rattle.rules_claims.specs.Promises.{FewFound}
use Rattle.rules_searches.specs.Searches.{RulesFit, RulesSearched}
use Rattle.rules_status.proofs.Measured.{MeasuredTaken, search_taken, measured_one}
use Rattle.rules_status.specs.Measured.{measured_status}
use Rattle.search_rules.specs.SearchRules.{search_rules_status, search_rules_status_of, all_found_left}
use Rattle.search_rules.specs.SearchRules.{SearchRulesOutcomeOf}

-- a search that is taken, with whatever conditions of its own, fits where there is room for n
-- occurrences
pub rules_fit :
    {x t : List ℕ} {lent : Tables} {own : List Refusal} {found : List ℕ} → MeasuredTaken x t (lengths lent) own →
    length t ≤ length found → RulesFit x t lent found
unfolding FewFound
rules_fit {x} {t} m room =
    record {
      text = m.text;
      tables = m.tables_room;
      room = omega (arith, few_found (rules_of x) t (λ e. table_patterned x m.table) m.once);
    }

-- the status is what is measured with the buffer for the occurrences
pub status_is :
    (x t : List ℕ) (found : ℕ) {s : ℕ} {l l' : TableLengths} → s ≡ measured_status x t l (ltb found (length t)) →
    l ≡ l' →
    s ≡ search_rules_status x t l' found
unfolding search_rules_status
status_is x t found {l' = l'} measured e = rw e at measured ∙ sym (measured_one x t l' found (length t))

-- a call that is taken
pub search_fit :
    {x t : List ℕ} {lent : Tables} {found : List ℕ} → length x ≡ table_size →
    0 ≡ search_rules_status_of x t lent found → RulesFit x t lent found
unfolding search_rules_status
search_fit {x} {t} {lent} {found} size e =
    let own = buffer_refusal (length found) (length t) ∷ [] in
    let m = search_taken x t (lengths lent) own size (omega arith) (sym e) in
    rules_fit m (ltb-false _ _ m.own_room.0)

module _ {t : List ℕ} {lent : Tables} {found : List ℕ} where
  -- a refused call answers its status and leaves every buffer
  pub refused :
      {rs : List Rule} (s : ℕ) → (s ≡ 0 → ⊥) → SearchRulesOutcomeOf s rs t lent lent found found (rules_refused s)
  unfolding all_tables_left all_found_left
  refused {rs} s h =
      record {
        answer = refused_answer s (rules_done rs t 0) h;
        tables = refused_only s _ lent h;
        occurrences_left = refused_only s _ found h;
      }

  -- a call that is done answers and leaves what its searches do
  pub done :
      {x : List ℕ} {left : Tables} {found' : List ℕ} {r : List RuleAnswer} →
      RulesSearched x t lent left found found' r →
      SearchRulesOutcomeOf 0 (rules_of x) t lent left found found' (record { status = 0; ones = 0; rules = r })
  unfolding if_done rules_answered all_tables_left all_found_left
  done p = record { answer = rw p.answers; tables = p.tables; occurrences_left = p.occurrences_left }
