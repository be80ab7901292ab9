-- An edit that is not refused: the table is taken, the number is a rule's, and the new rule is
-- within the limits. By its list of conditions, the table's and then the new rule's.
use mathlib.Core.List.{List}
use mathlib.Core.Path.{◌≡◌}
use Prim.Native.Nat.{ℕ, ◌≤◌, ◌<◌}
use native.Mathlib.Omega.{arith}
use borrow.Author.Tests.{leb-false}
use lib.ListN.{length}
use Rattle.answers.proofs.Refusals.{done_none, none_done, none_both, numbered_both, pattern_within}
use Rattle.answers.specs.Refusals.{longest_pattern, rule_refusals}
use Rattle.rules.proofs.Tested.{NumberedRule, named_numbered, named_taken}
use Rattle.rules.specs.Rules.{table_size, count_of, named_refusals, TableTaken}
use Rattle.edit_rule.specs.Edit.{edit_refusals, edit_status}

-- an edit is taken, with a new rule of length m and hold offset q
pub record EditTaken (x : List ℕ) (number m q : ℕ) : Type 0 where
  pub table : TableTaken x
  pub rule : NumberedRule (count_of x) number
  pub pattern : m ≤ longest_pattern
  pub hold_offset : q < m

-- an edit whose status is 0 is taken
pub edit_taken :
    (x : List ℕ) (number m q : ℕ) → length x ≡ table_size → edit_status x number m q ≡ 0 → EditTaken x number m q
unfolding edit_status edit_refusals
edit_taken x number m q size e =
    let named = named_refusals x number in
    let new = rule_refusals m q in
    let numbered = numbered_both named new (named_numbered x number) (omega arith) in
    let (before, last) = none_both named new (done_none (edit_refusals x number m q) numbered e) in
    let (table, rule) = named_taken x size number (none_done named before) in
    record {
      table = table;
      rule = rule;
      pattern = (pattern_within m last.0).1;
      hold_offset = leb-false m q last.1.0;
    }
