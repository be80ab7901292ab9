-- `restore_prefixes::links` meets its contract. The loop's invariant: the links of the prefixes up
-- to length k stand in the table, and `prefix` is the last of them. Assumes nothing.
use Rattle.std.proofs.Common.{List, ℕ, zero, suc, ◌≡◌, ◌+◌, ◌≤◌, ◌<◌, length, get_or, set, ⊎_elim, refl, sym, ◌∙◌, ap, arith}
use Rattle.std.proofs.Common.{add-one, eq-or-lt_of_le, le_trans, length-set, get_or-set_same, get_or-set_other, length-drop, get_or-drop, drop, of_calls, rules}
use Rattle.std.specs.List.{enumerate_from}
use Rattle.std.proofs.lemmas.List.{length_push, get_or_default}
use Rattle.std.proofs.lemmas.List.FromFn.{length-enumerate_from, get_or-enumerate_from}
use Rattle.std.proofs.lemmas.Iterator.{YieldsList-from_slice}
use Rattle.std.proofs.lemmas.Iterator.Consumers.{YieldsList-from_enumerate, YieldsList-turn}
use Rattle.std.proofs.lemmas.Iterator.Adapters.{YieldsList-from_skip}
use Rattle.tables.specs.Sets.{byte}
use Rattle.restore_prefixes.proofs.Candidates.{link_shorter, fewer_links}
use Rattle.restore_prefixes.proofs.Walk.{extended_within, links_right}
use Rattle.restore_prefixes.proofs.links.Goals as goal
use Rattle.restore_prefixes.specs.Links.{LinksTo}
use Rattle.restore_prefixes.specs.Prefixes.{longest_within, link, extended}
use Rattle.restore_prefixes.specs.Promises.{LinksRight}

-- before the first turn: the links of length 0 and 1 are 0
first : (w table : List ℕ) → 1 < length table → get_or table 0 0 ≡ 0 → get_or table 1 0 ≡ 0 → LinksTo 1 w table
unfolding link longest_within
first w table room zeroth second = record { room = room; entry = entry }
  where
    entry : (k : ℕ) → k ≤ 1 → get_or table k 0 ≡ link w k
    entry zero l = zeroth
    entry (suc zero) l = second
    entry (suc (suc k)) l = absurd (omega arith)

-- the link of length 1
first_here : (w : List ℕ) → 0 ≡ link w 1
unfolding link longest_within
first_here w = refl

-- one turn: the next link follows from the one before it
next_here : (w : List ℕ) (k prefix : ℕ) → 1 ≤ k → k < length w → prefix ≡ link w k → extended w prefix (byte w k) ≡ link w (suc k)
unfolding LinksRight
next_here w k prefix some inside here = ap (λ p. extended w p (byte w k)) here ∙ sym (links_right w k some inside)

-- and stands in the table
next_stands :
    (w table : List ℕ) (k longer : ℕ) → LinksTo k w table → suc k < length table → longer ≡ link w (suc k) →
    LinksTo (suc k) w (set table (suc k) longer)
next_stands w table k longer stands inside is =
    record {
      room = rw length-set inside;
      entry = λ j l.
          ⊎_elim
          (λ (e : j ≡ suc k). rw e (get_or-set_same table (suc k) longer 0 inside ∙ is))
          (λ less. get_or-set_other table (suc k) j longer 0 (λ e. omega arith) ∙ stands.entry j (omega arith))
          (eq-or-lt_of_le l);
    }

-- the turn after so many goes over the next byte behind the first one
record Turn (w : List ℕ) (seen k c : ℕ) : Type 0 where
  inside : seen + 1 < length w
  place : k ≡ seen + 1
  read : c ≡ byte w (seen + 1)

turn :
    (w : List ℕ) (seen k c d e : ℕ) → let rest = drop 1 (enumerate_from 0 w) in
    (seen < length rest) × ((k, c) ≡ get_or rest seen (d, e)) → Turn w seen k c
turn w seen k c d e (l, at) =
    let all = enumerate_from 0 w in
    let inside : 1 + seen < length w = omega (arith, length-drop 1 all, length-enumerate_from 0 w) in
    let onward : 1 + seen ≡ seen + 1 = omega arith in
    let is =
    at ∙ get_or_default (drop 1 all) seen (d, e) (0, 0) l ∙ get_or-drop 1 all seen (0, 0) ∙ get_or-enumerate_from 0 w (1 + seen) (0, 0) inside in
    record {
      inside = omega arith;
      place = omega (arith, ap (λ (p : ℕ × ℕ). p.0) is);
      read = ap (λ (p : ℕ × ℕ). p.1) is ∙ ap (byte w) onward;
    }

pub loop-k-init : goal.loop-k-init
loop-k-init c = record {
  goes = search (rules, of_calls);
  ends = search (rules, of_calls);
  size = refl;
  few = omega arith;
  stands = first _ _ (omega arith) refl refl;
  here = first_here _;
}

pub extended-prefix-requires-clause-within : goal.extended-prefix-requires-clause-within
extended-prefix-requires-clause-within c =
    let all = YieldsList-from_enumerate (YieldsList-from_slice c.args.pattern.now (cc)) (cc) in
    let next = YieldsList-turn (YieldsList-from_skip 1 all (cc)) c.loop-k.yielded _ c.loop-k.yielded_by in
    let t = turn _ _ _ _ _ _ (next _ _ _ c.in-Some.is c.next.ensures.steps) in
    omega (arith, c.loop-k.invariant.here, link_shorter c.args.pattern.now (length c.loop-k.yielded + 1) (omega arith), t.inside)

pub extended-prefix-requires-clause-linked : goal.extended-prefix-requires-clause-linked
extended-prefix-requires-clause-linked c =
    let now = c.loop-k.invariant in
    fewer_links now.stands
    (omega (arith, now.here, link_shorter c.args.pattern.now (length c.loop-k.yielded + 1) (omega arith)))

-- the next one is no longer than the pattern
pub overflow_cast-links : goal.overflow_cast-links
overflow_cast-links c =
    let few : c.extended-prefix.result ≤ 128 = rw c.extended-prefix.ensures (le_trans (extended_within _ _ _) c.requires) in
    record { fits = omega arith }

pub loop-k-preserved : goal.loop-k-preserved
loop-k-preserved c =
    let w = c.args.pattern.now in
    let now = c.loop-k.invariant in
    let n = length c.loop-k.yielded + 1 in
    let all = YieldsList-from_enumerate (YieldsList-from_slice c.args.pattern.now (cc)) (cc) in
    let next = YieldsList-turn (YieldsList-from_skip 1 all (cc)) c.loop-k.yielded _ c.loop-k.yielded_by in
    let t = turn _ _ _ _ _ _ (next _ _ _ c.in-Some.is c.next.ensures.steps) in
    let grown = rw t.read at c.extended-prefix.ensures in
    let here = grown ∙ next_here w n _ (omega arith) t.inside now.here in
    record {
      goes = search (rules, of_calls);
      ends = search (rules, of_calls);
      size = length-set _ _ _ ∙ now.size;
      few = rw length_push (omega (arith, t.inside, c.requires));
      stands = rw (length_push, t.place, add-one) (next_stands _ _ n _ now.stands (omega (arith, t.inside, now.size, c.requires)) here);
      here = rw (length_push, add-one) here;
    }
