-- What a status says (`refusals_right`), what is left of it past 4, 5 and 6, and what these say.
-- By induction on the list of conditions, whose numbers are none of them 0.
use mathlib.Core.Bool.{Bool, true, false, ◌||◌, cond, true≢false}
use mathlib.Core.List.{List, [], ◌∷◌, ◌++◌, append-nil}
use mathlib.Core.Logic.{◌≢◌}
use mathlib.Core.Path.{◌≡◌, refl, sym, ◌∙◌}
use Prim.Native.Nat.{ℕ, zero, suc, ◌≤◌, ◌<◌}
use native.Mathlib.Omega.{arith}
use borrow.Author.Tests.{ltb-false, leb-false, eqb-false, le-ltb, lt-leb, ne_eqb}
use lib.Dec.{ltb, eqb}
use Rattle.answers.specs.Promises.{NoneHolds, Numbered, FirstHolds, RefusalsRight}
use Rattle.answers.specs.Refusals.{Refusal, first_of, longest_pattern, longest_text, pattern_refusal, hold_refusal, text_refusal, job_refusals, WithinLimits}

not_first : (holds : Bool) (number later : ℕ) → 0 < number → cond holds number later ≡ 0 → (holds ≡ false) × (later ≡ 0)
not_first true n l h e = absurd (omega arith)
not_first false n l h e = (refl, e)

pub done_none : (rs : List Refusal) → Numbered rs → first_of rs ≡ 0 → NoneHolds rs
unfolding first_of
done_none [] h e = tt
done_none (r ∷ rs) h e =
    let here = not_first r.holds r.number (first_of rs) h.0 e in
    (here.0, done_none rs h.1 here.1)

-- conditions past others, none of which holds
first_past : (rs ss : List Refusal) → NoneHolds rs → first_of (rs ++ ss) ≡ first_of ss
unfolding first_of
first_past [] ss h = refl
first_past (r ∷ rs) ss h = rw h.0 (first_past rs ss h.1)

pub none_done : (rs : List Refusal) → NoneHolds rs → first_of rs ≡ 0
unfolding first_of
none_done rs h = rw append-nil at (first_past rs [] h)

-- none of the conditions of two lists holds just where none of either does
pub none_both : (rs ss : List Refusal) → NoneHolds (rs ++ ss) → NoneHolds rs × NoneHolds ss
none_both [] ss h = (tt, h)
none_both (r ∷ rs) ss h = let (front, back) = none_both rs ss h.1 in ((h.0, front), back)

pub both_none : (rs ss : List Refusal) → NoneHolds rs → NoneHolds ss → NoneHolds (rs ++ ss)
both_none [] ss h k = k
both_none (r ∷ rs) ss h k = (h.0, both_none rs ss h.1 k)

-- none of the numbers of two lists is 0
pub numbered_both : (rs ss : List Refusal) → Numbered rs → Numbered ss → Numbered (rs ++ ss)
numbered_both [] ss h k = k
numbered_both (r ∷ rs) ss h k = (h.0, numbered_both rs ss h.1 k)

-- a status other than 0 is the number of the first condition that holds
refused_first : (rs : List Refusal) (number : ℕ) → number ≢ 0 → first_of rs ≡ number → FirstHolds rs number
unfolding first_of
refused_first [] n d e = absurd (d (sym e))
refused_first (r ∷ rs) n d e = go r.holds refl e (refused_first rs n d)
  where
    go : (z : Bool) → r.holds ≡ z → cond z r.number (first_of rs) ≡ n → (first_of rs ≡ n → FirstHolds rs n) → FirstHolds (r ∷ rs) n
    go true h e later = record { before = []; first = r; after = rs; split = refl; none_before = tt; holds = h; by_number = e }
    go false h e later =
        let f = later e in
        record {
          before = r ∷ f.before;
          first = f.first;
          after = f.after;
          split = rw f.split;
          none_before = (h, f.none_before);
          holds = f.holds;
          by_number = f.by_number;
        }

pub refusals_right : RefusalsRight
unfolding RefusalsRight first_of
refusals_right rs = record {
  done = λ numbered. (done_none rs numbered, none_done rs);
  refused = λ n d. (refused_first rs n d, λ f. rw (f.split, first_past f.before _ f.none_before, f.holds) f.by_number);
}

-- two lists of conditions past the same ones give the same status, where they do so when none of those holds
same_test : (holds : Bool) (number later later' : ℕ) → (holds ≡ false → later ≡ later') → cond holds number later ≡ cond holds number later'
same_test true n l l' h = refl
same_test false n l l' h = h refl

pub same_past : (rs ss us : List Refusal) → (NoneHolds rs → first_of ss ≡ first_of us) → first_of (rs ++ ss) ≡ first_of (rs ++ us)
unfolding first_of
same_past [] ss us h = h tt
same_past (r ∷ rs) ss us h = same_test r.holds _ _ _ (λ e. same_past rs ss us (λ k. h (e, k)))

-- conditions that are tested first, of which one holds, decide the status
pub first_refused : (rs ss : List Refusal) {s : ℕ} → s ≡ first_of rs → (s ≡ 0 → ⊥) → s ≡ first_of (rs ++ ss)
unfolding first_of
first_refused rs ss tested h = tested ∙ rw append-nil at (same_past rs [] ss (λ none. absurd (h (tested ∙ none_done rs none))))

-- and those of which none holds leave it to the others
pub first_passed :
    (rs ss : List Refusal) {s : ℕ} → Numbered rs → s ≡ first_of rs → s ≡ 0 → first_of (rs ++ ss) ≡ first_of ss
first_passed rs ss numbered tested e = first_past rs ss (done_none rs numbered (sym tested ∙ e))

-- two conditions of one number are one
pub either : (a b : Bool) (number : ℕ) → cond a number (cond b number 0) ≡ cond (a || b) number 0
either true b n = refl
either false b n = refl

-- an "or" that does not hold
pub neither : (a b : Bool) → a || b ≡ false → (a ≡ false) × (b ≡ false)
neither true b e = absurd (true≢false e)
neither false b e = (refl, e)

-- 4 does not hold: m is from 1 to the longest
pub pattern_within : (m : ℕ) → (pattern_refusal m).holds ≡ false → (0 < m) × (m ≤ longest_pattern)
pattern_within m e =
    let (some, few) = neither (eqb m 0) (ltb longest_pattern m) e in
    (omega (arith, eqb-false m 0 some), ltb-false longest_pattern m few)

pattern_fits : (m : ℕ) → 0 < m → m ≤ longest_pattern → (pattern_refusal m).holds ≡ false
pattern_fits m l h = rw (ne_eqb m 0 (omega arith)) (le-ltb longest_pattern m h)

-- 6 does not hold: n is at most the longest
pub text_within : (n : ℕ) → first_of (text_refusal n ∷ []) ≡ 0 → n ≤ longest_text
text_within n e = ltb-false longest_text n (done_none (text_refusal n ∷ []) (omega arith) e).0

module _ (m q n : ℕ) where
  -- of a list that begins with the three, with whatever its other conditions say
  abbrev JobNone : Type 0 → Type 0
  JobNone Rest = ((pattern_refusal m).holds ≡ false) × (((hold_refusal m q).holds ≡ false) × (((text_refusal n).holds ≡ false) × Rest))

  pub limits_hold : {Rest : Type 0} → JobNone Rest → WithinLimits m q n × Rest
  limits_hold h =
      (record { hold_offset = leb-false _ _ h.1.0; pattern = (pattern_within m h.0).1; text = ltb-false _ _ h.1.1.0 }, h.1.1.1)

  pub limits_none : {Rest : Type 0} → WithinLimits m q n → Rest → JobNone Rest
  limits_none l rest = (pattern_fits m (omega arith) l.pattern, (lt-leb _ _ l.hold_offset, (le-ltb _ _ l.text, rest)))

  -- a call that tests the three first, and finds this status
  module _ {s : ℕ} (tested : s ≡ first_of (job_refusals m q n)) where
    pub job_refused : (s ≡ 0 → ⊥) → (rs : List Refusal) → s ≡ first_of (job_refusals m q n ++ rs)
    job_refused h rs = first_refused (job_refusals m q n) rs tested h

    pub job_within : s ≡ 0 → WithinLimits m q n
    unfolding job_refusals
    job_within e = (limits_hold (done_none (job_refusals m q n) (omega arith) (sym tested ∙ e))).0

    pub job_past : s ≡ 0 → (rs : List Refusal) → first_of (job_refusals m q n ++ rs) ≡ first_of rs
    unfolding job_refusals
    job_past e rs = first_passed (job_refusals m q n) rs (omega arith) tested e

-- a call that takes no hold offset passes 0, by which no pattern that is taken is refused
pub no_hold : (m n : ℕ) (rs : List Refusal) → first_of (pattern_refusal m ∷ text_refusal n ∷ rs) ≡ first_of (job_refusals m 0 n ++ rs)
unfolding first_of job_refusals
no_hold zero n rs = refl
no_hold (suc m) n rs = rw (lt-leb (suc m) 0 (omega arith))

-- and one that takes no text either passes the length 0, which is never refused
pub no_text : (m : ℕ) (rs : List Refusal) → first_of (pattern_refusal m ∷ rs) ≡ first_of (job_refusals m 0 0 ++ rs)
unfolding first_of
no_text m rs = no_hold m 0 rs
