-- What is promised of refusal 12 (document 02, "A rule table"): the test tells just where two rules
-- claim one byte (card), and where it tells of none the occurrences (finds) of all rules are at
-- most n. Each is a type, and its proof is in proofs/. These are definitions.
use Rattle.std.specs.Prelude.{true, false, List, ◌↔◌, ◌≡◌, ℕ, ◌≤◌, ◌<◌, length}
use Rattle.rules.specs.Buffers.{one_after_another}
use Rattle.rules.specs.Rules.{Rule, rule_of, Patterned}
use Rattle.rules_claims.specs.Claims.{found_of, claims, claimed_twice}

-- by meaning: two different rules, and a byte of the ring that both claim
pub record BothClaim (rs : List Rule) (t : List ℕ) : Type 0 where
  pub place : ℕ
  pub first : ℕ
  pub second : ℕ
  pub below : place < length t
  pub different : first < second
  pub inside : second < length rs
  pub claimed : claims (rule_of rs first) t place ≡ true
  pub claimed_too : claims (rule_of rs second) t place ≡ true

-- 12 is just that
unfoldable pub TwiceRight : Type 0
TwiceRight = (rs : List Rule) (t : List ℕ) → (claimed_twice rs t ≡ true) ↔ BothClaim rs t

-- where no byte is claimed twice, the rules have at most n occurrences in all; of an empty ring
-- that is said of patterns that are not empty, since an empty one occurs there once
unfoldable pub FewFound : Type 0
FewFound =
    (rs : List Rule) (t : List ℕ) → (length t ≡ 0 → Patterned rs) → claimed_twice rs t ≡ false →
    length (one_after_another (found_of t) rs) ≤ length t
