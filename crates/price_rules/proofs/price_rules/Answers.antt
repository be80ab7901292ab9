-- `price_rules::price_rules` meets its contract: a refused call leaves everything, and past the
-- refusals the cost goes by what the searches find. By the laws of what pricing answers and leaves.
-- Assumes nothing.
use borrow.Author.Tests.{ltb-false}
use Rattle.answers.proofs.Bytes.{each_byte}
use Rattle.answers.proofs.Reasons.{numbered}
use Rattle.search_rules.proofs.Taken.{status_is, rules_fit}
use Rattle.price_rules.proofs.Priced.{refused, job_taken, told_fit, countable, done}
use Rattle.price_rules.proofs.price_rules.Goals as goal

pub returns-in-Err : goal.returns-in-Err
returns-in-Err c =
    rw (c.from.ensures, ← status_is _ _ _ c.in-Err.ensures.status c.lengths-lengths.ensures)
    (refused _ (numbered _))

-- past the refusals the job is priced
pub search_all-told-requires : goal.search_all-told-requires
search_all-told-requires c =
    let taken = job_taken _ _ _ _ c.in-Ok.ensures.size c.in-Ok.ensures.status c.lengths-lengths.ensures in
    rw c.in-Ok.ensures.table (rules_fit taken (ltb-false _ _ taken.own_room.0))

pub occurrences_told-requires : goal.occurrences_told-requires
occurrences_told-requires c =
    told_fit (job_taken _ _ _ _ c.in-Ok.ensures.size c.in-Ok.ensures.status c.lengths-lengths.ensures)
    (rw c.in-Ok.ensures.table at c.search_all-told.ensures)

pub cost_by_holds-requires : goal.cost_by_holds-requires
cost_by_holds-requires c =
    let taken = job_taken _ _ _ _ c.in-Ok.ensures.size c.in-Ok.ensures.status c.lengths-lengths.ensures in
    rw c.occurrences_told.ensures (countable taken (rw c.in-Ok.ensures.table at c.search_all-told.ensures))

pub returns : goal.returns
returns c =
    let taken = job_taken _ _ _ _ c.in-Ok.ensures.size c.in-Ok.ensures.status c.lengths-lengths.ensures in
    let bytes = each_byte c.args.text.now (λ i l. (c.type_inv.text i).fits) in
    let ((status, (occurrences, (comparisons, (ones, (period, bound))))), _) = c.default.ensures in
    rw (
      c.cost_by_holds.ensures,
      c.occurrences_told.ensures,
      ← status_is _ _ _ c.in-Ok.ensures.status c.lengths-lengths.ensures,
      status,
      occurrences,
      comparisons,
      ones,
      period,
      bound,
    )
    (done taken (rw c.in-Ok.ensures.table at c.search_all-told.ensures) bytes)
