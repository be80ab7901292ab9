-- `restore_prefixes::prefix_after` meets its contract. The loop's invariant: the prefix is the
-- longest that ends before x, in each text that the bytes read are of. Assumes nothing.
use Rattle.std.proofs.Common.{add-one, arith}
use Rattle.restore_prefixes.proofs.Candidates.{fewer_links}
use Rattle.restore_prefixes.proofs.Walk.{extended_within, prefix_first, prefix_on}
use Rattle.restore_prefixes.proofs.prefix_after.Goals as goal

pub loop-x-init : goal.loop-x-init
loop-x-init g c = record { within = omega arith; here = λ show read. prefix_first show _ }

pub extended-prefix-requires-clause-linked : goal.extended-prefix-requires-clause-linked
extended-prefix-requires-clause-linked g c = fewer_links c.requires.linked c.loop-x.invariant.within

pub loop-x-preserved : goal.loop-x-preserved
loop-x-preserved g c = record {
  within = omega (arith, c.extended-prefix.ensures, extended_within c.args.pattern.now c.loop-x.prefix c.byte.result);
  here = λ show read.
      rw add-one
      (prefix_on show _ _ _ _ _ (c.loop-x.invariant.here show read) (read _ _ c.loop-x-test.true c.byte.ensures)
      c.extended-prefix.ensures);
}
