-- `restore_conversions::Walk::walked` meets its contract. The loop's invariant: the positions
-- before b are walked over. Assumes nothing.
use Rattle.std.proofs.Common.{◌≡◌, add-one, arith}
use Rattle.tables.proofs.Cases.{unequal, equal}
use Rattle.restore_prefixes.proofs.Candidates.{fewer_links}
use Rattle.restore_prefixes.proofs.Walk.{prefix_within}
use Rattle.restore_conversions.proofs.Walked.{walked_on, wrong_fails}
use Rattle.restore_conversions.proofs.Walk.walked.Goals as goal

pub extended-prefix-requires-clause-within : goal.extended-prefix-requires-clause-within
extended-prefix-requires-clause-within g c = prefix_within _ _ _ _ c.loop-b.invariant.here

pub extended-prefix-requires-clause-linked : goal.extended-prefix-requires-clause-linked
extended-prefix-requires-clause-linked g c =
    fewer_links c.args.self.now.ready.linked (prefix_within _ _ _ _ c.loop-b.invariant.here)

pub returns-then-is_hold-last : goal.returns-then-is_hold-last
returns-then-is_hold-last g c =
    let held = c.requires.frames _ _ _ c.loop-b-test.true c.args.self.now.offset c.read.ensures in
    let end = c.requires.frames _ _ _ c.loop-b-test.true (omega (arith, c.args.self.now.ready.some)) c.read-in-loop-b.ensures in
    let grown = rw (c.numbered_byte-byte.ensures, end) at c.extended-prefix.ensures in
    let differ = rw held at c.if-is_hold-last.true in
    wrong_fails _ _ _ _ _ c.args.self.now.ready.some _ _ _ c.loop-b.invariant grown (omega arith) (unequal _ _ differ)

pub loop-b-preserved : goal.loop-b-preserved
loop-b-preserved g c =
    let held = c.requires.frames _ _ _ c.loop-b-test.true c.args.self.now.offset c.read.ensures in
    let end = c.requires.frames _ _ _ c.loop-b-test.true (omega (arith, c.args.self.now.ready.some)) c.read-in-loop-b.ensures in
    let grown = rw (c.numbered_byte-byte.ensures, end) at c.extended-prefix.ensures in
    let same = rw held at c.if-is_hold-last.false in
    rw add-one (walked_on _ _ _ _ _ c.args.self.now.ready.some _ _ _ c.loop-b.invariant grown (equal _ _ same))

pub returns : goal.returns
returns g c = let last : c.args.end ≡ c.loop-b.b = omega arith in rw last c.loop-b.invariant
