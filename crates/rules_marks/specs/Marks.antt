-- Some bytes (cards) of a ring from `first` on, with a mark for each that a rule claims: what
-- marking takes and leaves, and which rules are skipped. These are definitions.
use Rattle.std.specs.Prelude.{Bool, true, false, cond, ◌||◌, List, ◌≡◌, ℕ, zero, suc, ◌+◌, ◌≤◌, ◌<◌, length, get_or}
use Rattle.answers.specs.Refusals.{longest_text}
use Rattle.steps.specs.Text.{shown}
use Rattle.rules.specs.Rules.{Rule, most_rules, rule_at, rules_of}
use Rattle.rules_claims.specs.Claims.{claims, claimants, claimed_twice}
use Rattle.rules_meet.specs.Flags.{MeetsNone}

-- the ring as it is shown from position b on
abbrev pub shown_from : (t : List ℕ) → (b x : ℕ) → ℕ
shown_from t b x = shown t (b + x)

-- a flag for each rule, which is false only where it can meet none of the others, for those before i
pub record Skips (x : List ℕ) (flags : List Bool) (i : ℕ) : Type 0 where
  pub size : length flags ≡ most_rules
  pub apart : (k : ℕ) → k < i → get_or flags k false ≡ false → MeetsNone x k

-- how many of the rules before i that have a flag claim byte c
unfoldable pub flagged : (x : List ℕ) → (flags : List Bool) → (t : List ℕ) → (c i : ℕ) → ℕ
flagged x flags t c zero = 0
flagged x flags t c (suc i) =
    let earlier = flagged x flags t c i in
    cond (get_or flags i false) (cond (claims (rule_at x i) t c) (suc earlier) earlier) earlier

-- so many bytes are gone through at a time
abbrev pub block : ℕ
block = 2048

-- `cards` bytes from `first` on are in the ring
pub record Markable (t : List ℕ) (first cards : ℕ) : Type 0 where
  pub text : length t ≤ longest_text
  pub some : first < length t
  pub inside : first + cards ≤ length t

module _ (r : Rule) (t : List ℕ) (first : ℕ) (before : List Bool) where
  -- each byte that the rule claims is marked besides, and none of them was
  pub record Marked (after : List Bool) : Type 0 where
    pub size : length after ≡ length before
    pub entry :
        (k : ℕ) → k < length before → get_or after k false ≡ (claims r t (first + k) || get_or before k false)
    pub once : (k : ℕ) → k < length before → get_or before k false ≡ true → claims r t (first + k) ≡ false

  -- the rule claims a byte that was marked
  pub record Twice : Type 0 where
    pub place : ℕ
    pub inside : place < length before
    pub marked : get_or before place false ≡ true
    pub claimed : claims r t (first + place) ≡ true

  -- what marking tells
  pub record MarkTold (after : List Bool) (told : Bool) : Type 0 where
    pub twice : told ≡ true → Twice
    pub once : told ≡ false → Marked after

-- what going through these bytes with all rules tells
pub record BlockTold (x t : List ℕ) (first cards : ℕ) (told : Bool) : Type 0 where
  pub twice : told ≡ true → claimed_twice (rules_of x) t ≡ true
  pub once : told ≡ false → (k : ℕ) → k < cards → claimants (rules_of x) t (first + k) ≤ 1
