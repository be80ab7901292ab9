-- `turn` of a rule and `edit_rule` with what it left turn that rule of the table
-- (`TurnedByEdits`). By what an edit promises; a slot of a taken table says its pattern's length.
use mathlib.Core.List.{List}
use mathlib.Core.Logic.{⊎_elim}
use mathlib.Core.Path.{◌≡◌, sym, ◌∙◌, ap}
use Prim.Native.Nat.{ℕ, ◌-◌, ◌<◌}
use native.Mathlib.Omega.{arith}
use lib.ListN.{length}
use Rattle.answers.specs.declared.Answer.{Answer}
use Rattle.tables.proofs.Cases.{eq_or_ne}
use Rattle.turn.proofs.Calls.{turn_done}
use Rattle.turn.proofs.Turned.{length_turned}
use Rattle.rules.proofs.Listed.{rule_listed, pattern_length}
use Rattle.rules.proofs.Tested.{table_taken}
use Rattle.rules.specs.Rules.{Rule, rule_of, rules_of, rule_at, count_of, length_at, TableTaken}
use Rattle.edit_rule.proofs.Promises.{edits_right}
use Rattle.edit_rule.proofs.Taken.{edit_taken}
use Rattle.edit_rule.specs.Edit.{EditOutcome}
use Rattle.edit_rule.specs.Promises.{EditsRight}
use Rattle.rules_turn_laws.specs.Edits.{TurnedByEdits}
use Rattle.rules_turn_laws.specs.Promises.{turned_rule}

-- slots of taken tables whose patterns are as long say the same length
same_length :
    (x x' : List ℕ) (i : ℕ) → TableTaken x → TableTaken x' → i < count_of x → i < count_of x' →
    length (rule_at x' i).pattern ≡ length (rule_at x i).pattern → length_at x' i ≡ length_at x i
same_length x x' i t t' l l' same =
    sym (pattern_length x' t'.size i (omega (arith, t'.few)) (t'.lengths i l'))
    ∙ same
    ∙ pattern_length x t.size i (omega (arith, t.few)) (t.lengths i l)

-- how long a rule's pattern is
abbrev long : Rule → ℕ
long r = length r.pattern

pub turned_by_edits : TurnedByEdits
unfolding TurnedByEdits EditsRight turned_rule
turned_by_edits way k x x' t p p' u u' r a size o e o' e' =
    let rule = rule_of (rules_of x) (k - 1) in
    let left = turn_done o e in
    let given : EditOutcome k (turned_rule way rule).hold_offset (turned_rule way rule).pattern x x' a =
    rw (left.hold_offset, rw length_turned at left.pattern) at o' in
    let right = edits_right k _ _ x x' a size given e' in
    let done = sym (ap (λ (b : Answer). b.status) given.answer) ∙ e' in
    let table = (edit_taken x k _ _ size done).table in
    let table' = table_taken x' right.size right.taken in
    let inside : k - 1 < count_of x = omega (arith, right.some, right.inside) in
    record {
      size = right.size;
      rules = right.rules;
      lengths = λ i l.
          same_length x x' i table table' l (rw right.count l)
          (⊎_elim
          (λ (here : i ≡ k - 1).
          rw here
          (ap long right.here ∙ length_turned way rule.pattern ∙ ap long (rule_listed x (k - 1) _ inside)))
          (λ other. ap long (right.others i l other))
          (eq_or_ne i (k - 1)));
    }
