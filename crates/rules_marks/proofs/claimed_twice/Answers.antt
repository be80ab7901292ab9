-- `rules_marks::claimed_twice` meets its contract. The loop's invariant: the rules before i have
-- their flags. Assumes nothing.
use Rattle.std.proofs.Common.{◌≤◌, arith, sym}
use Rattle.rules_marks.proofs.Flags.{one_tested, tested_none}
use Rattle.rules.specs.Rules.{count_of}
use Rattle.rules_marks.proofs.claimed_twice.Goals as goal

pub loop-i-preserved : goal.loop-i-preserved
loop-i-preserved c = one_tested _ c.loop-i.invariant (omega arith) c.meets_another.ensures

pub returns-then-not-some : goal.returns-then-not-some
returns-then-not-some c =
    let past : count_of c.args.rules.now ≤ c.loop-i.i =
    omega (arith, c.loop-i.auto.flag-items, c.loop-i.invariant.size) in
    sym (tested_none _ c.loop-i.invariant past _ c.count.ensures.taken.few c.if-not-some.true)
