-- `search::search` meets its contract: a refused call leaves everything, and one that is taken is a
-- search within its limits. By the laws of a search that is refused and taken. Assumes nothing.
use Rattle.std.proofs.Common.{sym}
use Rattle.answers.proofs.Reasons.{numbered}
use Rattle.search.proofs.Searched.{status_is, search_fit, refused}
use Rattle.search.proofs.search.Goals as goal

pub returns-in-Err : goal.returns-in-Err
returns-in-Err c =
    rw (c.from.ensures, ← status_is _ _ _ c.in-Err.ensures c.lengths-lengths.ensures)
    (refused _ (numbered _))

pub search_within-requires : goal.search_within-requires
search_within-requires c =
    search_fit (sym (status_is _ _ _ c.in_default.ensures c.lengths-lengths.ensures))

pub returns : goal.returns
returns c =
    rw (sym (status_is _ _ _ c.in_default.ensures c.lengths-lengths.ensures))
    c.search_within.ensures
