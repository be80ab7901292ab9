use Rattle.std.proofs.Common.{ℕ, ◌≡◌, ◌<◌, ◌≤◌, length}
use Rattle.restore_prefixes.proofs.prefix_after.Given as goal
use Rattle.restore_prefixes.specs.Prefixes.{longest_prefix}

-- the prefix is the longest that ends before x, in each text that the bytes read are of
abbrev pub invariant-loop-x : goal.invariant-loop-x
invariant-loop-x g l = record {
  within : l.prefix ≤ length l.pattern;
  here :
      (show : ℕ → ℕ) → ((x c : ℕ) → x < l.count → goal.F-post g l.byte x c → c ≡ show x) →
      l.prefix ≡ longest_prefix show l.pattern l.x;
}
