-- `edit_rule::edit_rule` meets its contract: it writes past all its refusals, and the slot is
-- inside the table. By the limits of an edit that is taken. Assumes nothing.
use Rattle.std.proofs.Common.{List, ◌≡◌, ℕ, ◌+◌, ◌-◌, ◌≤◌, ◌<◌, length, length-set, sym, rules, ◌∙◌, arith}
use Rattle.answers.proofs.Answered.{refused_only}
use Rattle.answers.proofs.Reasons.{numbered}
use Rattle.answers.specs.Answers.{if_done}
use Rattle.rules.specs.Rules.{slot, table_size}
use Rattle.edit_rule.proofs.Edited.{slot_put}
use Rattle.edit_rule.proofs.Taken.{EditTaken, edit_taken}
use Rattle.edit_rule.specs.Edit.{edit_status, edited}
use Rattle.edit_rule.proofs.edit_rule.Goals as goal

-- what is known past the refusals: the number is from 1 to 16, and the slot is inside the table
record Past (x : List ℕ) (number m q : ℕ) : Type 0 where
  some : 1 ≤ number
  few : number ≤ 16
  pattern : m ≤ 128
  hold_offset : q < m
  room : slot (number - 1) + 2 + m ≤ length x

past :
    (x : List ℕ) (number m q : ℕ) → 0 ≡ edit_status x number m q → length x ≡ table_size → Past x number m q
past x number m q e size =
    let taken : EditTaken x number m q = edit_taken x number m q size (sym e) in
    record {
      some = omega arith;
      few = omega arith;
      pattern = omega arith;
      hold_offset = omega arith;
      room = omega arith;
    }

-- a refused edit leaves the table
pub returns-in-Err : goal.returns-in-Err
returns-in-Err c =
    let tested = c.in-Err.ensures.status in
    record {
      answer = rw (← tested) c.from.ensures;
      table_left = refused_only _ _ _ (rw tested at (numbered c.in-Err.reason));
    }

pub overflow_sub-at : goal.overflow_sub-at
overflow_sub-at c = let e = c.in_default.ensures in (past _ _ _ _ e.status e.size).some

pub overflow_cast-rules : goal.overflow_cast-rules
overflow_cast-rules c = let e = c.in_default.ensures in omega (arith, past _ _ _ _ e.status e.size)

pub bounds-rules-at : goal.bounds-rules-at
bounds-rules-at c = let e = c.in_default.ensures in omega (arith, past _ _ _ _ e.status e.size)

pub overflow_cast-rules-2 : goal.overflow_cast-rules-2
overflow_cast-rules-2 c = let e = c.in_default.ensures in omega (arith, past _ _ _ _ e.status e.size)

pub bounds-rules-at-2 : goal.bounds-rules-at-2
bounds-rules-at-2 c = let e = c.in_default.ensures in omega (arith, past _ _ _ _ e.status e.size)

pub write_block-requires : goal.write_block-requires
write_block-requires c = let e = c.in_default.ensures in simp length-set (past _ _ _ _ e.status e.size).room

-- one that is taken edits it
pub returns : goal.returns
unfolding if_done edited
returns c =
    let e = c.in_default.ensures in
    let h = past _ _ _ _ e.status e.size in
    rw (sym e.status)
    record {
      answer = search rules;
      table_left = c.write_block.ensures ∙ slot_put _ _ _ _ _ h.room;
    }
