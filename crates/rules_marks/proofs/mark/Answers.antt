-- `rules_marks::mark` meets its contract. The loop's invariant: the bytes before j are marked, and
-- the prefix is the longest that ends before the byte that is read next. Assumes nothing.
use Rattle.std.proofs.Common.{List, ◌≡◌, ℕ, ◌+◌, ◌-◌, ◌%◌, length, add-one, arith, rules}
use Rattle.std.proofs.lemmas.List.{set-get_or}
use mathlib.Core.Bool.{true≢false}
use Rattle.ring.specs.Ring.{back}
use Rattle.restore_prefixes.proofs.Candidates.{fewer_links}
use Rattle.restore_prefixes.proofs.Walk.{prefix_within}
use Rattle.rules_marks.proofs.Marks.{marking_first, marking_past, marking_on, marking_found}
use Rattle.rules_marks.proofs.mark.Goals as goal
use Rattle.rules_marks.proofs.mark.Goals.{then-last-prefix+else-marked, else-last-prefix}
use Rattle.rules_marks.specs.Marks.{shown_from}

-- where the walk begins
begin_is : (t : List ℕ) (first q b : ℕ) → b ≡ (first + (length t - q % length t)) % length t → b ≡ back (length t) first q
unfolding back
begin_is t first q b e = e

pub loop-j-init : goal.loop-j-init
loop-j-init c =
    let begin = begin_is c.args.text.now c.args.first c.args.hold_offset _ c.wrapped-b.ensures in
    let here =
    c.prefix_after-prefix.ensures (shown_from c.args.text.now c.wrapped-b.result) (λ x byte inside read. search rules) in
    marking_first _ _ _ _ (rw (← begin) here)

pub extended-prefix-requires-clause-within : goal.extended-prefix-requires-clause-within
extended-prefix-requires-clause-within c = prefix_within _ _ _ _ c.loop-j.invariant.here

pub extended-prefix-requires-clause-linked : goal.extended-prefix-requires-clause-linked
extended-prefix-requires-clause-linked c =
    fewer_links c.links-links.ensures.linked (prefix_within _ _ _ _ c.loop-j.invariant.here)

pub returns-then-marked : goal.returns-then-marked
returns-then-marked c =
    let begin = begin_is c.args.text.now c.args.first c.args.hold_offset _ c.wrapped-b.ensures in
    record {
      twice = λ e.
          marking_found _ _ _ _ c.requires.some c.requires.markable c.loop-j.invariant (omega (arith, c.loop-j.invariant.size))
          (rw (← begin) c.byte_at-next.ensures) c.extended-prefix.ensures c.if-last-prefix.true c.if-marked.true;
      once = λ e. absurd (true≢false e);
    }

pub loop-j-preserved : goal.loop-j-preserved
loop-j-preserved c =
    let begin = begin_is c.args.text.now c.args.first c.args.hold_offset _ c.wrapped-b.ensures in
    rw add-one
    (elim c.if-last-prefix.branch [
      | then-last-prefix+else-marked w ↦
          rw w.marks-is
          (marking_on _ _ _ _ c.requires.some c.requires.markable c.loop-j.invariant (omega (arith, c.loop-j.invariant.size))
          (rw (← begin) c.byte_at-next.ensures) c.extended-prefix.ensures w.if-last-prefix.true w.if-marked.false)
      | else-last-prefix w ↦
          rw (w.marks-is, set-get_or)
          (marking_past _ _ _ _ c.requires.some c.requires.markable c.loop-j.invariant (omega (arith, c.loop-j.invariant.size))
          (rw (← begin) c.byte_at-next.ensures) c.extended-prefix.ensures w.if-last-prefix.false)
    ])
