-- The flags of the rules before i: false only where a rule can meet no other; and where `some` is
-- false, each is false. Rule by rule, by what testing a rule tells.
use mathlib.Core.Bool.{Bool, true, false, true≢false, ◌||◌}
use mathlib.Core.List.{List, ◌++◌}
use mathlib.Core.Logic.{⊎_elim}
use mathlib.Core.Path.{◌≡◌, refl}
use Prim.Native.Nat.{ℕ, ◌+◌, ◌-◌, ◌≤◌, ◌<◌}
use native.Mathlib.Omega.{arith}
use lib.ListN.{length, get_or, set, replicate, length-set, length-append, get_or-append}
use lib.Seq.{get_or-set_same, get_or-set_other}
use Rattle.std.proofs.lemmas.List.{length-replicate}
use Rattle.tables.proofs.Cases.{eq_or_ne}
use Rattle.rules.specs.Rules.{most_rules, count_of, rules_of}
use Rattle.rules_claims.proofs.Twice.{each_once}
use Rattle.rules_marks.proofs.Flagged.{none_flagged, all_once}
use Rattle.rules_claims.specs.Claims.{claimed_twice}
use Rattle.rules_marks.specs.Marks.{Skips}
use Rattle.rules_meet.specs.Flags.{MeetsNone, MeetingTold}

module _ (x : List ℕ) where
  pub record Testing (flags : List Bool) (some : Bool) (i : ℕ) : Type 0 where
    pub size : length flags ≡ count_of x
    pub apart : (k : ℕ) → k < i → get_or flags k false ≡ false → MeetsNone x k
    pub none : some ≡ false → (k : ℕ) → k < i → get_or flags k false ≡ false

  pub none_tested : {flags : List Bool} → length flags ≡ count_of x → Testing flags false 0
  none_tested size = record {
    size = size;
    apart = λ k l. absurd (omega arith);
    none = λ e k l. absurd (omega arith);
  }

  or_false : (a b : Bool) → (a || b) ≡ false → (a ≡ false) × (b ≡ false)
  or_false true b e = absurd (true≢false e)
  or_false false b e = (refl, e)

  -- one rule more
  pub one_tested :
      {flags : List Bool} {some flag : Bool} {i : ℕ} → Testing flags some i → i < length flags → MeetingTold x i flag →
      Testing (set flags i flag) (some || flag) (i + 1)
  one_tested {flags} {some} {flag} {i} t l told = record {
    size = rw length-set t.size;
    apart = λ k m e. ⊎_elim
        (λ (y : k ≡ i). rw y (told.none (rw (y, get_or-set_same flags i flag false l) at e)))
        (λ d. t.apart k (omega arith) (rw (get_or-set_other flags i k flag false d) at e))
        (eq_or_ne k i);
    none = λ e k m.
        let both = or_false some flag e in
        ⊎_elim
        (λ (y : k ≡ i). rw (y, get_or-set_same flags i flag false l) both.1)
        (λ d. rw (get_or-set_other flags i k flag false d) (t.none both.0 k (omega arith)))
        (eq_or_ne k i);
  }

  -- all rules of the table are tested, and flags past the last stand behind theirs
  module _ {flags : List Bool} {some : Bool} {i : ℕ} (h : Testing flags some i) (past : count_of x ≤ i) where
    pub all_tested : (rest : List Bool) → length (flags ++ rest) ≡ most_rules → Skips x (flags ++ rest) (count_of x)
    all_tested rest size = record {
      size = size;
      apart = λ k l e. h.apart k (omega arith) (rw (get_or-append flags rest false k (omega (arith, h.size))) at e);
    }

    -- where no rule can meet another no byte is claimed twice
    pub tested_none :
        (t : List ℕ) → count_of x ≤ most_rules → some ≡ false →
        claimed_twice (rules_of x) t ≡ false
    tested_none t few e =
        let rest = replicate (most_rules - count_of x) false in
        let all = flags ++ rest in
        let size : length all ≡ most_rules = rw (length-append, length-replicate) (omega (arith, h.size)) in
        each_once (rules_of x) t
        (λ c l. all_once t c x all (all_tested rest size) l
        (omega (
          arith,
          none_flagged t c x all (count_of x)
              (λ k m. rw (get_or-append flags rest false k (omega (arith, h.size))) (h.none e k (omega arith))),
        )))
