-- `explain::explain` meets its contract: a refused call leaves everything, and one that is taken is
-- an explanation within its limits. By the law of a refused call. Assumes nothing.
use Rattle.answers.proofs.Reasons.{numbered}
use Rattle.explain.proofs.Taken.{status_is, refused_outcome}
use Rattle.explain.proofs.explain.Goals as goal

pub returns-in-Err : goal.returns-in-Err
returns-in-Err c =
    let status = status_is _ _ _ c.in-Err.ensures c.lengths-lengths.ensures in
    rw (c.from.ensures, ← status) (refused_outcome _ (numbered _))
