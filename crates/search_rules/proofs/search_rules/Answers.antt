-- `search_rules::search_rules` meets its contract: a refused call leaves everything, and one that
-- is taken fits its buffers and is the searches of all rules. Assumes nothing.
use Rattle.answers.proofs.Reasons.{numbered}
use Rattle.search_rules.proofs.Taken.{status_is, search_fit, refused, done}
use Rattle.search_rules.proofs.search_rules.Goals as goal

pub search_all-requires : goal.search_all-requires
search_all-requires c =
    rw c.in-Ok.ensures.table
    (search_fit c.in-Ok.ensures.size (status_is _ _ _ c.in-Ok.ensures.status c.lengths-lengths.ensures))

pub returns-in-Ok : goal.returns-in-Ok
returns-in-Ok c =
    rw (← status_is _ _ _ c.in-Ok.ensures.status c.lengths-lengths.ensures)
    (done (rw c.in-Ok.ensures.table at c.search_all.ensures))

pub returns-in-Err : goal.returns-in-Err
returns-in-Err c =
    rw (c.from.ensures, ← status_is _ _ _ c.in-Err.ensures.status c.lengths-lengths.ensures)
    (refused _ (numbered _))
