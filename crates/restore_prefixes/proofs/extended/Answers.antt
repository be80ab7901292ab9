-- `restore_prefixes::extended` meets its contract. The loop's invariant: the prefix of length k
-- ends before the byte and is not the whole pattern, and no longer one is extended by the byte. The
-- measure is k: a link is shorter. Assumes nothing.
use Rattle.std.proofs.Common.{List, ℕ, ◌≡◌, ◌≤◌, ◌<◌, length, get_or, sym, ◌∙◌, add-one, arith}
use Rattle.tables.specs.Sets.{byte}
use Rattle.restore_prefixes.proofs.Candidates.{link_shorter, Candidate, candidate_first, candidate_extends, candidate_none, candidate_next}
use Rattle.restore_prefixes.proofs.extended.Goals as goal
use Rattle.restore_prefixes.proofs.extended.Goals.{then-k-pattern, else-k-pattern}
use Rattle.restore_prefixes.specs.Links.{LinksTo}

-- the entry of the table at k, the link of a candidate of that length
record NextCandidate (w : List ℕ) (s c k v : ℕ) : Type 0 where
  candidate : Candidate w s c v
  shorter : v < k

next_candidate :
    (w links : List ℕ) (s c k v : ℕ) → LinksTo s w links → Candidate w s c k → 1 ≤ k → ((k < length w) × (byte w k ≡ c) → ⊥) →
    v ≡ get_or links k 0 → NextCandidate w s c k v
next_candidate w links s c k v table r some differs e =
    let link = e ∙ table.entry k r.there.inside in
    rw link record { candidate = candidate_next w s c k r some differs; shorter = link_shorter w k some }

-- before the loop the link of the whole pattern is followed
begun :
    (w links : List ℕ) (s c k : ℕ) → 1 ≤ length w → s ≤ length w → LinksTo s w links → s ≡ length w → k ≡ get_or links s 0 →
    NextCandidate w s c s k
begun w links s c k some few table whole e =
    next_candidate w links s c s k table (candidate_first w s c few) (omega arith) (λ (l, same). omega arith) e

pub loop-k-init : goal.loop-k-init
loop-k-init c =
    let pre = c.requires in
    elim c.if-k-pattern.branch [
      | then-k-pattern w ↦
          let r = begun _ _ _ _ _ pre.some pre.within pre.linked w.if-k-pattern.true (w.k-is ∙ w.from-k.ensures) in
          record { candidate = r.candidate; short = omega (arith, r.shorter) }
      | else-k-pattern w ↦
          rw w.k-is record { candidate = candidate_first _ _ _ pre.within; short = omega (arith, pre.within, w.if-k-pattern.false) }
    ]

pub returns-then-pattern-k : goal.returns-then-pattern-k
returns-then-pattern-k c =
    let now = c.loop-k.invariant in
    add-one _ ∙ sym (candidate_extends _ _ _ _ now.candidate now.short c.if-pattern-k.true)

pub returns-then-k-eq0 : goal.returns-then-k-eq0
returns-then-k-eq0 c = sym (candidate_none _ _ _ _ c.loop-k.invariant.candidate c.if-k-eq0.true (λ (l, same). c.if-pattern-k.false same))

-- in the loop the link of a prefix that is not extended is followed
pub loop-k-smaller : goal.loop-k-smaller
loop-k-smaller c =
    (next_candidate _ _ _ _ _ _ c.requires.linked c.loop-k.invariant.candidate (omega (arith, c.if-k-eq0.false)) (λ (l, same). c.if-pattern-k.false same) c.from-k-in-loop-k.ensures).shorter

pub loop-k-preserved : goal.loop-k-preserved
loop-k-preserved c =
    let next = next_candidate _ _ _ _ _ _ c.requires.linked c.loop-k.invariant.candidate (omega (arith, c.if-k-eq0.false)) (λ (l, same). c.if-pattern-k.false same) c.from-k-in-loop-k.ensures in
    record { candidate = next.candidate; short = omega (arith, next.shorter, c.loop-k.invariant.short) }
