-- Links are followed until a prefix is extended by a byte: that one, extended, is the longest prefix that ends after the byte.
-- The link of a prefix is the longest shorter one that ends there; so one that is passed over does not end there, or is not extended.
use mathlib.Core.List.{List}
use mathlib.Core.Logic.{⊎_elim}
use mathlib.Core.Path.{◌≡◌, sym, ◌∙◌, ap}
use Prim.Native.Nat.{ℕ, zero, suc, ◌+◌, ◌-◌, ◌≤◌, ◌<◌}
use native.Mathlib.Nat.{eq-or-lt_of_le}
use native.Mathlib.Omega.{arith}
use lib.ListN.{length}
use Rattle.tables.specs.Sets.{byte}
use Rattle.restore_prefixes.proofs.Ends.{Ends, none_ends, one_more, one_less, ends_within, within_ends}
use Rattle.restore_prefixes.proofs.Ends.{Longest, within_facts, longest_is, last_byte, pattern_ends, ends_pattern}
use Rattle.restore_prefixes.specs.Links.{LinksTo}
use Rattle.restore_prefixes.specs.Prefixes.{link, followed, extended}

pub link_facts : (w : List ℕ) (k : ℕ) → Longest (k - 1) (byte w) w k (link w k)
unfolding link
link_facts w k = within_facts (byte w) w k (k - 1)

-- the link of a prefix is shorter than it
pub link_shorter : (w : List ℕ) (k : ℕ) → 1 ≤ k → link w k < k
link_shorter w k h = omega (arith, (link_facts w k).within)

-- links to a length are links to a smaller one
pub fewer_links : {w table : List ℕ} {last k : ℕ} → LinksTo last w table → k ≤ last → LinksTo k w table
fewer_links r h = record { room = omega (arith, r.room); entry = λ j l. r.entry j (omega arith) }

-- k is a prefix that ends before the byte c, and no longer one that does so is extended by it
module _ (w : List ℕ) (s c : ℕ) where
  pub record Candidate (k : ℕ) : Type 0 where
    pub within : k ≤ length w
    pub there : Ends (byte w) w s k
    pub none_longer : (j : ℕ) → suc j ≤ length w → Ends (byte w) w s j → byte w j ≡ c → j ≤ k

  pub candidate_first : s ≤ length w → Candidate s
  candidate_first h = record {
    within = h;
    there = record { inside = omega arith; same = λ j l. let at : s - s + j ≡ j = omega arith in rw at };
    none_longer = λ j l e same. e.inside;
  }

  module _ (k : ℕ) (r : Candidate k) where
    -- what ends after the byte was extended by it
    shorter : (j : ℕ) → suc j ≤ length w → Ends (followed w s c) w (suc s) (suc j) → j ≤ k
    shorter j h e =
        let (before, last) = one_less _ w s j e in
        r.none_longer j h (ends_pattern w s c j before) (sym last ∙ last_byte w s c)

    pub candidate_extends : k < length w → byte w k ≡ c → extended w s c ≡ suc k
    unfolding extended
    candidate_extends h same =
        longest_is _ w (suc s) record {
          within = h;
          there = one_more _ w s k (pattern_ends w s c k r.there) (last_byte w s c ∙ sym same);
          none_longer = none;
        }
      where
        none : (j : ℕ) → j ≤ length w → Ends (followed w s c) w (suc s) j → j ≤ suc k
        none zero l e = omega arith
        none (suc j) l e = omega (arith, shorter j l e)

    pub candidate_none : k ≡ 0 → ((k < length w) × (byte w k ≡ c) → ⊥) → extended w s c ≡ 0
    unfolding extended
    candidate_none z differs =
        longest_is _ w (suc s) record { within = omega arith; there = none_ends _ w (suc s); none_longer = none }
      where
        none : (j : ℕ) → j ≤ length w → Ends (followed w s c) w (suc s) j → j ≤ 0
        none zero l e = omega arith
        none (suc j) l e =
            let first : j ≡ k = omega (arith, shorter j l e) in
            let (before, last) = one_less _ w s j e in
            absurd (differs (omega arith, ap (byte w) (sym first) ∙ sym last ∙ last_byte w s c))

    pub candidate_next : 1 ≤ k → ((k < length w) × (byte w k ≡ c) → ⊥) → Candidate (link w k)
    candidate_next h differs =
        let l = link_facts w k in
        record {
          within = omega (arith, r.within, l.within);
          there = within_ends (byte w) w s k r.there (link w k) (omega (arith, l.within)) l.there;
          none_longer = λ j i e same.
              ⊎_elim
              (λ q. absurd (differs (omega arith, ap (byte w) (sym q) ∙ same)))
              (λ less. l.none_longer j (omega arith) (ends_within (byte w) w s k r.there j (omega arith) e))
              (eq-or-lt_of_le (r.none_longer j i e same));
        }
