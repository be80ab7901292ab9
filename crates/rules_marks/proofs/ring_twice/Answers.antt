-- `rules_marks::ring_twice` meets its contract. The loop's invariant: no byte before `first` is
-- claimed twice. Assumes nothing.
use Rattle.std.proofs.Common.{List, ◌≡◌, ℕ, ◌+◌, ◌-◌, ◌≤◌, ◌<◌, length, min, sym, arith}
use mathlib.Core.Logic.{⊎_elim}
use Rattle.tables.proofs.Cases.{le_or_lt}
use Rattle.rules.specs.Rules.{Rule}
use Rattle.rules_claims.proofs.Twice.{each_once}
use Rattle.rules_claims.specs.Claims.{claimants}
use Rattle.rules_marks.proofs.ring_twice.Invariants.{Once}
use Rattle.rules_marks.proofs.ring_twice.Goals as goal

-- where no byte of the block is claimed twice, none is up to its end
once_on :
    (rs : List Rule) (t : List ℕ) (first cards : ℕ) → Once rs t first → cards ≡ min 2048 (length t - first) →
    ((k : ℕ) → k < cards → claimants rs t (first + k) ≤ 1) → Once rs t (first + 2048)
once_on rs t first cards once size next c below inside =
    ⊎_elim
    (λ (from : first ≤ c). let there : first + (c - first) ≡ c = omega arith in
    rw there at (next (c - first) (omega arith)))
    (λ (less : c < first). once c less inside)
    (le_or_lt first c)

pub loop-first-init : goal.loop-first-init
loop-first-init c = λ k l inside. absurd (omega arith)

pub loop-first-preserved : goal.loop-first-preserved
loop-first-preserved c =
    once_on _ _ _ _ c.loop-first.invariant c.min-cards.ensures (c.block_twice.ensures.once c.if-block_twice.false)

pub returns : goal.returns
returns c = sym (each_once _ _ (λ k inside. c.loop-first.invariant k (omega arith) inside))

-- after the last block
pub returns-else-block_twice : goal.returns-else-block_twice
returns-else-block_twice c =
    let all = once_on _ _ _ _ c.loop-first.invariant c.min-cards.ensures (c.block_twice.ensures.once c.if-block_twice.false) in
    sym (each_once _ _ (λ k inside. all k (omega arith) inside))
