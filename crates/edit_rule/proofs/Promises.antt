-- What an edit promises (`EditsRight`, `EditStatuses`): an edit that answers 0 is taken, and the
-- table that it leaves is the edited one. By the laws of an edited table and of its conditions.
use mathlib.Core.List.{List}
use mathlib.Core.Path.{◌≡◌, sym, ◌∙◌, ap}
use Prim.Native.Nat.{ℕ, ◌≤◌}
use native.Mathlib.Omega.{arith}
use lib.ListN.{length}
use Rattle.answers.specs.Answers.{if_done}
use Rattle.answers.specs.declared.Answer.{Answer}
use Rattle.rules.proofs.Taken.{taken_refusals}
use Rattle.rules.specs.Rules.{count_of}
use Rattle.edit_rule.proofs.Edited.{edited_size, edited_count, edited_here, edited_other, edited_rules}
use Rattle.edit_rule.proofs.Edited.{kept_before, kept_after, edited_taken}
use Rattle.edit_rule.proofs.Taken.{EditTaken, edit_taken}
use Rattle.edit_rule.proofs.Bytes.{edited_bytes}
use Rattle.edit_rule.proofs.Statuses.{status_known}
use Rattle.edit_rule.specs.Edit.{edit_status, edited}
use Rattle.edit_rule.specs.Promises.{EditedRight, EditsRight, EditStatuses}

-- of the edited table
edited_right :
    (number q : ℕ) (w x : List ℕ) → EditTaken x number (length w) q → EditedRight number q w x (edited x number q w)
edited_right number q w x t =
    let count = edited_count number q w x t in
    let some : 1 ≤ count_of (edited x number q w) = omega (arith, count, t.rule.some, t.rule.inside) in
    record {
      some = t.rule.some;
      inside = t.rule.inside;
      size = edited_size number q w x t;
      count = count;
      here = edited_here number q w x t;
      others = edited_other number q w x t;
      rules = edited_rules number q w x t;
      kept_before = kept_before number q w x t;
      kept_after = kept_after number q w x t;
      bytes = edited_bytes number q w x t;
      taken = taken_refusals _ (edited_taken number q w x t) some;
    }

pub edits_right : EditsRight
unfolding EditsRight if_done
edits_right number q w x x' r size o e =
    let done : edit_status x number (length w) q ≡ 0 = sym (ap (λ (a : Answer). a.status) o.answer) ∙ e in
    let left : x' ≡ edited x number q w = rw done at o.table_left in
    rw left (edited_right number q w x (edit_taken x number (length w) q size done))

pub edit_statuses : EditStatuses
unfolding EditStatuses
edit_statuses number q w x x' r o = rw o.answer (status_known x number (length w) q)
