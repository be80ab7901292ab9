-- `convert::convert` meets its contract: a refused call leaves everything, and past the refusals
-- the frames are written by what the search finds. Assumes nothing.
use Rattle.std.proofs.Common.{◌≡◌, ℕ, sym, ◌||◌}
use Rattle.std.specs.Prelude.{ltb}
use Rattle.answers.proofs.Reasons.{numbered}
use Rattle.search.proofs.Searched.{search_fit}
use Rattle.tables.specs.Buffers.{measured_status}
use Rattle.tables.specs.declared.TableLengths.{TableLengths}
use Rattle.convert.proofs.Converted.{refused, frames_ready, done}
use Rattle.convert.proofs.Taken.{status_is, ConversionTaken, conversion_taken, search_taken}
use Rattle.convert.proofs.convert.Goals as goal

-- the conversion is taken
fit :
    {m q n found frames : ℕ} {l l' : TableLengths} →
    0 ≡ measured_status m q n l (ltb found n || ltb frames n) → l ≡ l' →
    ConversionTaken m q n l' found frames
fit measured e = conversion_taken (sym (status_is _ _ _ _ _ measured e))

pub returns-in-Err : goal.returns-in-Err
returns-in-Err c =
    rw (c.from.ensures, ← status_is _ _ _ _ _ c.in-Err.ensures c.lengths-lengths.ensures)
    (refused _ (numbered _))

pub search_within-searched-requires : goal.search_within-searched-requires
search_within-searched-requires c = search_fit (search_taken (fit c.in_default.ensures c.lengths-lengths.ensures))

pub write_frames-requires : goal.write_frames-requires
write_frames-requires c =
    frames_ready (fit c.in_default.ensures c.lengths-lengths.ensures) c.search_within-searched.ensures

pub returns : goal.returns
returns c =
    rw (← status_is _ _ _ _ _ c.in_default.ensures c.lengths-lengths.ensures)
    (done (fit c.in_default.ensures c.lengths-lengths.ensures) c.search_within-searched.ensures c.write_frames.ensures)
