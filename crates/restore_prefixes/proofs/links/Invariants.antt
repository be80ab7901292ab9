use Rattle.std.proofs.Common.{◌≡◌, ◌≤◌, ◌+◌, length}
use Rattle.restore_prefixes.specs.Links.{LinksTo}
use Rattle.restore_prefixes.specs.Prefixes.{link}
use Rattle.restore_prefixes.proofs.links.Given as goal

-- the links of the prefixes up to a length k, one more than the bytes that were gone through, stand
-- in the table, and `prefix` is the last of them
abbrev pub invariant-loop-k : goal.invariant-loop-k
invariant-loop-k l = record {
  goes : (goal.iterator-loop-k).can_next l.k-iterator;
  ends : (goal.iterator-loop-k).is_finite l.k-iterator;
  size : length l.links ≡ 129;
  few : length l.yielded + 1 ≤ 128;
  stands : LinksTo (length l.yielded + 1) l.pattern l.links;
  here : l.prefix ≡ link l.pattern (length l.yielded + 1);
}
