-- `run_state::pass_differing` meets its contract. The loop keeps where the steps stand and that
-- nothing is listed up to there, and each turn is the law of an alignment of which the first
-- comparison differs. The measure is what is left of the text. Assumes nothing.
use Rattle.std.proofs.Common.{[], ◌≡◌, ◌≢◌, ◌+◌, ◌-◌, ◌<◌, ℕ, List, length, arith}
use Rattle.tables.specs.Sets.{byte}
use Rattle.tables.specs.Tables.{Δ1}
use Rattle.steps.proofs.Text.{span_few}
use Rattle.steps.specs.Text.{shown}
use Rattle.alignment.specs.Laid.{laid_at}
use Rattle.alignment.specs.Ready.{Taken}
use Rattle.run_state.proofs.Passing.{pass_on, pass_stop}
use Rattle.run_state.specs.Progress.{at, Followed, Stretch}
use Rattle.run_state.specs.declared.Progress.{Progress}
use Rattle.run_state.proofs.pass_differing.Goals as goal

-- a turn of the loop: no alignment that ends inside the text is a repeat, since the first is none,
-- and the others come after it
module _
    {w t : List ℕ} (taken : Taken w t) (x : Progress) (begun : Followed w t x.laid) {b s n : ℕ}
    (so_far : Stretch w t x (at (laid_at b s x.laid.repeat) x.occurrences n) []) where
  followed : Followed w t (laid_at b s x.laid.repeat)
  followed l = begun (omega (arith, so_far.forward))

  turn :
      {k : ℕ} → b + (length w - 1) < length t → byte t (b + (length w - 1)) ≢ byte w (length w - 1) →
      k ≡ Δ1 w (shown t (b + (length w - 1))) s → Stretch w t x (at (laid_at (b + k) k x.laid.repeat) x.occurrences (n + 1)) []
  turn inside differs shifted =
      pass_on taken so_far inside (followed (omega (arith, taken.some))) differs shifted

pub overflow_add-b : goal.overflow_add-b
overflow_add-b c =
    let stands = c.loop-b.invariant.standing in
    omega (arith, stands.inside, span_few c.args.job.now.pattern.now c.args.job.now.text.now c.requires.taken.some)

pub overflow_add-b-in-loop-b-2 : goal.overflow_add-b-in-loop-b-2
overflow_add-b-in-loop-b-2 c =
    let next = turn c.requires.taken _ c.requires.followed c.loop-b.invariant c.loop-b-test.true c.if-text-b.true c.first_shift-s.ensures in
    omega (arith, next.standing.inside, span_few c.args.job.now.pattern.now c.args.job.now.text.now c.requires.taken.some)

pub loop-b-smaller : goal.loop-b-smaller
loop-b-smaller c =
    let next = turn c.requires.taken _ c.requires.followed c.loop-b.invariant c.loop-b-test.true c.if-text-b.true c.first_shift-s.ensures in
    omega (arith, next.standing.right.positive)

pub loop-b-preserved : goal.loop-b-preserved
loop-b-preserved c =
    turn c.requires.taken _ c.requires.followed c.loop-b.invariant c.loop-b-test.true c.if-text-b.true c.first_shift-s.ensures

pub returns-else-text-b : goal.returns-else-text-b
returns-else-text-b c =
    pass_stop c.requires.taken c.loop-b.invariant c.loop-b-test.true (followed c.requires.taken _ c.requires.followed c.loop-b.invariant) c.if-text-b.false
