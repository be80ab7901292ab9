-- `convert_rules::convert_rules` meets its contract: a refused call leaves everything, and past the
-- refusals the frames are written by what the searches find. By the laws of what converting answers
-- and leaves. Assumes nothing.
use Rattle.answers.proofs.Reasons.{numbered}
use Rattle.search_rules.proofs.Taken.{rules_fit}
use Rattle.convert_rules.proofs.Converted.{status_is, conversion_taken, refused, frames_ready, done}
use Rattle.convert_rules.proofs.convert_rules.Goals as goal

pub returns-in-Err : goal.returns-in-Err
returns-in-Err c =
    rw (c.from.ensures, ← status_is _ _ _ _ c.in-Err.ensures.status c.lengths-lengths.ensures)
    (refused _ (numbered _))

-- past the refusals the conversion is taken
pub search_all-answers-requires : goal.search_all-answers-requires
search_all-answers-requires c =
    let taken = conversion_taken c.in-Ok.ensures.size c.in-Ok.ensures.status c.lengths-lengths.ensures in
    rw c.in-Ok.ensures.table (rules_fit taken.measured taken.found_room)

pub write_frames-requires : goal.write_frames-requires
write_frames-requires c =
    let taken = conversion_taken c.in-Ok.ensures.size c.in-Ok.ensures.status c.lengths-lengths.ensures in
    rw c.in-Ok.ensures.table (frames_ready taken (rw c.in-Ok.ensures.table at c.search_all-answers.ensures))

pub ones_of-requires : goal.ones_of-requires
ones_of-requires c =
    (conversion_taken c.in-Ok.ensures.size c.in-Ok.ensures.status c.lengths-lengths.ensures).measured.text

pub returns : goal.returns
returns c =
    let taken = conversion_taken c.in-Ok.ensures.size c.in-Ok.ensures.status c.lengths-lengths.ensures in
    rw (c.ones_of.ensures, ← status_is _ _ _ _ c.in-Ok.ensures.status c.lengths-lengths.ensures)
    (done taken (rw c.in-Ok.ensures.table at c.search_all-answers.ensures)
    (rw c.in-Ok.ensures.table at c.write_frames.ensures))
