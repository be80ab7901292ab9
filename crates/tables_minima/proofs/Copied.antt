-- What h_min(base) and h_min(d) tell of h_min(base + d): above h_min(base) + d the pattern agrees with itself base + d positions on just
-- where it agrees d positions on. So h_min(d) is the answer where it lies there, and else the answer lies at or below h_min(base) + d.
use mathlib.Core.List.{List}
use mathlib.Core.Path.{◌≡◌, sym, ◌∙◌}
use Prim.Native.Nat.{ℕ, ◌+◌, ◌-◌, ◌≤◌, ◌<◌}
use native.Mathlib.Omega.{arith}
use lib.ListN.{length}
use Rattle.tables.proofs.HMin.{h_min_facts, h_min_is}
use Rattle.tables.specs.Facts.{OutNeg, HMin}
use Rattle.tables.specs.Sets.{byte}
use Rattle.tables.specs.Tables.{h_min}

module _ (w : List ℕ) (base d k : ℕ) (l : 1 ≤ base) (l' : 1 ≤ d) (e : base + d ≡ k) (u : k ≤ length w) where
  at_base : HMin w base (h_min w base)
  at_base = h_min_facts w base l (omega (arith, e, u))

  at_d : HMin w d (h_min w d)
  at_d = h_min_facts w d l' (omega (arith, e, u))

  shifted : (j : ℕ) → h_min w base + d < j → j < length w → k ≤ j → byte w (j - k) ≡ byte w (j - d)
  shifted j a b c =
      let back : j - d - base ≡ j - k = omega (arith, e) in
      rw back at (at_base.outside (j - d) (omega arith) (omega arith) (omega (arith, e)))

  pub known_above :
      h_min w d ≤ h_min w base + d → (j : ℕ) → h_min w base + d < j → j < length w → OutNeg w (byte w j) j k
  known_above h j a b c = shifted j a b c ∙ at_d.outside j (omega arith) b (omega (arith, e))

  pub copied : h_min w base + d < h_min w d → h_min w k ≡ h_min w d
  copied h =
      h_min_is w k (h_min w d) (omega (arith, l, e)) u
      (record {
        low = omega (arith, e, at_base.low);
        high = at_d.high;
        outside = λ j a b c. shifted j (omega arith) b c ∙ at_d.outside j a b (omega (arith, e));
        least = λ c. (c, λ q. (at_d.least (omega (arith, e))).1 (sym (shifted (h_min w d) h at_d.high c) ∙ q));
      })
