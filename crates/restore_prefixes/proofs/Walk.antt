-- The walk over a text (`ExtendedRight`), its links (`LinksRight`) and what it finds (`OccurrenceEnds`). A prefix that ends after a byte is
-- one that ended before it and is extended by it, and those that ended before it are inside the longest of them.
use mathlib.Core.List.{List}
use mathlib.Core.Logic.{⊎_elim}
use mathlib.Core.Path.{◌≡◌, sym, ◌∙◌}
use Prim.Native.Nat.{ℕ, zero, suc, ◌+◌, ◌-◌, ◌≤◌}
use native.Mathlib.Omega.{arith}
use borrow.Author.Tests.{eq-eqb, ne_eqb}
use lib.ListN.{length}
use Rattle.tables.proofs.Cases.{true_or_false, clash}
use Rattle.tables.specs.Sets.{byte}
use Rattle.steps.proofs.Occurrences.{occurs_agrees, agrees_occurs}
use Rattle.steps.specs.Occurrences.{occurs}
use Rattle.restore_prefixes.proofs.Ends.{Ends, none_ends, one_more, one_less, ends_within, within_ends}
use Rattle.restore_prefixes.proofs.Ends.{Longest, within_facts, within_is, longest_facts, longest_is, last_byte, pattern_ends, ends_pattern}
use Rattle.restore_prefixes.specs.Prefixes.{longest_within, longest_prefix, link, followed, extended}
use Rattle.restore_prefixes.specs.Promises.{ExtendedRight, LinksRight, OccurrenceEnds}

-- a text up to a byte, of whose prefixes of at most n bytes the longest that ends there has length s
module _ (n : ℕ) (f : ℕ → ℕ) (w : List ℕ) (x s : ℕ) (l : Longest n f w x s) where
  -- the same prefixes end after the byte as after that one, followed by the byte
  on : (k : ℕ) → k ≤ suc n → Ends f w (suc x) k → Ends (followed w s (f x)) w (suc s) k
  on zero h e = none_ends _ w (suc s)
  on (suc k) h e =
      let (before, last) = one_less f w x k e in
      let short = l.none_longer k (omega arith) before in
      one_more _ w s k (pattern_ends w s (f x) k (ends_within f w x s l.there k short before)) (last_byte w s (f x) ∙ last)

  back : (k : ℕ) → Ends (followed w s (f x)) w (suc s) k → Ends f w (suc x) k
  back zero e = none_ends f w (suc x)
  back (suc k) e =
      let (before, last) = one_less _ w s k e in
      one_more f w x k (within_ends f w x s l.there k before.inside (ends_pattern w s (f x) k before)) (sym (last_byte w s (f x)) ∙ last)

  -- so that one extended is the longest of at most n' bytes, where n' is at most one more
  extended_longest : (n' : ℕ) → n' ≤ suc n → n' ≤ length w → extended w s (f x) ≤ n' → Longest n' f w (suc x) (extended w s (f x))
  unfolding extended
  extended_longest n' more few within =
      let next = longest_facts (followed w s (f x)) w (suc s) in
      record {
        within = within;
        there = back _ next.there;
        none_longer = λ k i e. next.none_longer k (omega arith) (on k (omega arith) e);
      }

-- a prefix is no longer than the pattern, nor by more than a byte longer than the one that it extends
pub extended_within : (w : List ℕ) (s c : ℕ) → extended w s c ≤ length w
unfolding extended
extended_within w s c = (longest_facts _ w (suc s)).within

extended_few : (w : List ℕ) (s c : ℕ) → extended w s c ≤ suc s
unfolding extended
extended_few w s c = (longest_facts _ w (suc s)).there.inside

pub extended_right : ExtendedRight
unfolding ExtendedRight
extended_right f w x =
    let m = length w in
    longest_is f w (suc x)
    (extended_longest m f w x _ (longest_facts f w x) m (omega arith) (omega arith) (extended_within w _ (f x)))

pub links_right : LinksRight
unfolding LinksRight link
links_right w k some few =
    let s = longest_within (k - 1) (byte w) w k in
    let l = within_facts (byte w) w k (k - 1) in
    let short : suc k - 1 ≡ k = omega arith in
    let longer : extended w s (byte w k) ≤ k = omega (arith, l.within, extended_few w s (byte w k)) in
    rw short (within_is (byte w) w (suc k) (extended_longest (k - 1) (byte w) w k s l k (omega arith) (omega arith) longer))

-- the prefix extended by the next byte that is shown
pub prefix_on :
    (f : ℕ → ℕ) (w : List ℕ) (x prefix next c : ℕ) → prefix ≡ longest_prefix f w x → c ≡ f x → next ≡ extended w prefix c →
    next ≡ longest_prefix f w (suc x)
unfolding ExtendedRight
prefix_on f w x prefix next c here read grown = grown ∙ sym (extended_right f w x ∙ rw (← here, ← read))

-- what is known of the longest prefix by its equation
pub prefix_within : (f : ℕ → ℕ) (w : List ℕ) (x prefix : ℕ) → prefix ≡ longest_prefix f w x → prefix ≤ length w
prefix_within f w x prefix here = rw here (longest_facts f w x).within

-- nothing ends before the first byte
pub prefix_first : (f : ℕ → ℕ) (w : List ℕ) → 0 ≡ longest_prefix f w 0
prefix_first f w = omega (arith, (longest_facts f w 0).there.inside)

pub occurrence_ends : OccurrenceEnds
unfolding OccurrenceEnds
occurrence_ends f N w b inside =
    let m = length w in
    let l = longest_facts f w (b + m) in
    let at : (j : ℕ) → b + m - m + j ≡ b + j = λ j. omega arith in
    ⊎_elim
    (λ e.
    let whole : Ends f w (b + m) m = record { inside = omega arith; same = λ j u. rw (at j) (sym (occurs_agrees f N w b e j u)) } in
    e ∙ sym (eq-eqb _ m (omega (arith, l.within, l.none_longer m (omega arith) whole))))
    (λ e.
    e ∙ sym (ne_eqb _ m (λ same.
    let whole : Ends f w (b + m) m = rw same at l.there in
    clash _ (agrees_occurs f N w b inside (λ j u. sym (rw (at j) at (whole.same j u)))) e)))
    (true_or_false (occurs f N w b))
