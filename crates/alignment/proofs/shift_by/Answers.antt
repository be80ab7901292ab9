-- `alignment::shift_by` meets its contract: the entry for the byte stands in its buffer.
-- Assumes nothing.
use Rattle.std.proofs.Common.{◌∙◌, ◌<◌, arith}
use Rattle.alignment.proofs.Entries.{first_entry}
use Rattle.alignment.proofs.shift_by.Goals as goal

pub bounds-delta1-from : goal.bounds-delta1-from
bounds-delta1-from c =
    let r = c.requires in
    (first_entry _ r.shifts (omega (arith, c.ranges.seen)) r.positive r.within).inside

pub returns : goal.returns
returns c =
    let r = c.requires in
    let seen : c.args.seen < 256 = omega (arith, c.ranges.seen) in
    c.from-2.ensures
    ∙ rw c.from.ensures (first_entry _ r.shifts seen r.positive r.within).value_there
