-- `explain::check` meets its contract: 4, 6 and 7 are measured first, and past them 10 decides.
-- Assumes nothing.
use Rattle.std.proofs.Common.{refl}
use Rattle.std.proofs.lemmas.Result.{err_from_is_err_and}
use Rattle.answers.proofs.Reasons.{numbered}
use Rattle.explain.proofs.Taken.{status_refused, status_ten, status_done}
use Rattle.explain.proofs.check.Goals as goal

pub returns-in_err-check : goal.returns-in_err-check
returns-in_err-check c =
    let a = c.args in
    let p = err_from_is_err_and c.from_residual.result c.from_residual.ensures.1 in
    rw (p.1, p.2) (status_refused a.m a.n a.position a.lengths c.in_err-check.ensures (numbered _))

-- the position is not one of the text, or it is
pub returns-then-n-position : goal.returns-then-n-position
returns-then-n-position c =
    let a = c.args in
    status_ten a.m a.n a.position a.lengths c.in_ok-check.ensures refl c.if-n-position.true

pub returns : goal.returns
returns c =
    let a = c.args in
    status_done a.m a.n a.position a.lengths c.in_ok-check.ensures refl c.if-n-position.false
