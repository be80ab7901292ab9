-- `run_repeats::follow_repeats` meets its contract. The loop over the repeats keeps `Moved`, the
-- loop over the comparisons of one `Repeating`, and each turn is one law of these. The measures are
-- what is left of the text and of the row. Assumes nothing.
use Rattle.std.proofs.Common.{true, false, [], ◌∷◌, ◌≡◌, ◌≢◌, ◌+◌, ◌-◌, ◌≤◌, ◌<◌, ℕ, List, length, sym, ◌∙◌, arith}
use Rattle.tables.specs.Sets.{byte}
use Rattle.steps.proofs.Text.{span_few}
use Rattle.alignment.specs.Laid.{laid_at, ComparedSo, alignment}
use Rattle.alignment.specs.Ready.{RepeatsReady}
use Rattle.run_state.proofs.Moved.{moved_none, moved_length, moved_on, moved_listed, listed_inside}
use Rattle.run_state.specs.Progress.{at, Stretch, Moved}
use Rattle.run_state.specs.declared.Progress.{Progress}
use Rattle.run_repeats.proofs.Repeating.{Repeating, repeating_stop, repeating_more, repeating_all, repeat_differing, repeat_agreeing}
use Rattle.run_repeats.proofs.follow_repeats.Goals as goal
use Rattle.run_repeats.proofs.follow_repeats.Goals.{Joined-pattern-at, then-pattern-at, else-pattern-at+then-i-p}

-- however the comparisons of a repeat end, so many of them agree
module _
    {w t delta1 delta3 : List ℕ} {p : ℕ} (ready : RepeatsReady w t delta1 delta3 p) {b i : ℕ} (known : Repeating w t b i)
    (inside : b + length w ≤ length t) {agreed : ℕ} where
  one_differs : agreed ≡ i → byte w (length w - 1 - i) ≢ byte t (b + (length w - 1 - i)) → ComparedSo w t (laid_at b p true) agreed × (agreed ≤ p)
  one_differs e d = rw e (repeating_stop ready.taken known inside d, omega (arith, known.fewer, ready.period_is))

  all_agree :
      agreed ≡ i + 1 → byte w (length w - 1 - i) ≡ byte t (b + (length w - 1 - i)) → i + 1 ≡ p →
      ComparedSo w t (laid_at b p true) agreed × (agreed ≤ p)
  all_agree e same last = rw e (repeating_all ready.taken known inside same (last ∙ ready.period_is), omega arith)

-- where they have ended
module _ (c : Joined-pattern-at) where
  abbrev w : List ℕ
  w = c.args.job.now.pattern.now

  abbrev t : List ℕ
  t = c.args.job.now.text.now

  abbrev p : ℕ
  p = c.args.p

  abbrev run : Progress
  run = c.repeats.run

  abbrev b : ℕ
  b = run.laid.position

  abbrev ready : RepeatsReady w t c.args.job.now.delta1.now c.args.job.now.delta3.now p
  ready = c.requires.ready

  ended : ComparedSo w t (laid_at b p true) c.if-pattern-at.agreed × (c.if-pattern-at.agreed ≤ p)
  ended =
      elim c.if-pattern-at.branch [
        | then-pattern-at x ↦ one_differs ready c.loop-pattern.invariant c.if-text-b.false x.agreed-is x.if-pattern-at.true
        | else-pattern-at+then-i-p x ↦
            all_agree ready c.loop-pattern.invariant c.if-text-b.false x.agreed-is x.if-pattern-at.false x.if-i-p.true
      ]

  -- the repeat, after a shift by the period
  next_is : run ≡ at (laid_at b p true) run.occurrences run.comparisons
  next_is = λ i. at (laid_at b (c.repeats.invariant.shift i) (c.repeats.invariant.repeat i)) run.occurrences run.comparisons

  so_far : Moved w t c.args.begin (at (laid_at b p true) run.occurrences run.comparisons) c.args.found.now c.repeats.found
  so_far = rw next_is at c.repeats.invariant.moved

  -- the steps go on from a repeat of which one comparison differed
  moved :
      {k : ℕ} → c.if-pattern-at.agreed < p → k ≡ (alignment w t (laid_at b p true)).shift →
      Moved w t c.args.begin (at (laid_at (b + k) k false) run.occurrences (run.comparisons + c.if-pattern-at.agreed + 1)) c.args.found.now
      c.repeats.found
  moved fewer shifted =
      moved_on ready.taken c.requires.room so_far (repeat_differing ready so_far.stretch.standing ended.0 fewer shifted)

  -- or from one that is an occurrence, which has its place in the buffer
  occurring :
      p ≤ c.if-pattern-at.agreed →
      Stretch w t (at (laid_at b p true) run.occurrences run.comparisons)
      (at (laid_at (b + p) p true) (run.occurrences + 1) (run.comparisons + p)) (b ∷ [])
  occurring all = repeat_agreeing ready so_far.stretch.standing ended.0 (omega (arith, ended.1))

pub repeats-init : goal.repeats-init
repeats-init c = record {
  moved = moved_none c.requires.ready.taken c.args.begin c.args.found.now c.requires.standing;
  shift = c.requires.shift;
  repeat = c.requires.repeat;
}

pub overflow_add-b : goal.overflow_add-b
overflow_add-b c =
    let taken = c.requires.ready.taken in
    omega (arith, c.repeats.invariant.moved.stretch.standing.inside, span_few c.args.job.now.pattern.now c.args.job.now.text.now taken.some)

pub loop-pattern-preserved : goal.loop-pattern-preserved
loop-pattern-preserved c =
    let ready = c.requires.ready in
    repeating_more ready.taken c.loop-pattern.invariant c.if-text-b.false c.if-pattern-at.false (λ e. c.if-i-p.false (e ∙ sym ready.period_is))

pub repeat_shift-s-requires-clause-compared : goal.repeat_shift-s-requires-clause-compared
repeat_shift-s-requires-clause-compared c = (ended (goal.at.repeat_shift-s-requires-clause-compared c).Joined-pattern-at).0

pub after-requires : goal.after-requires
after-requires c =
    let taken = c.requires.ready.taken in
    let far = span_few c.args.job.now.pattern.now c.args.job.now.text.now taken.some in
    let next =
    moved (goal.at.after-requires c).Joined-pattern-at c.if-agreed-p.true c.repeat_shift-s.ensures in
    omega (arith, next.stretch.standing.inside, taken.few, taken.text)

pub returns-then-agreed-p-clause-moved : goal.returns-then-agreed-p-clause-moved
returns-then-agreed-p-clause-moved c =
    rw c.after.ensures
    (moved (goal.at.returns-then-agreed-p-clause-moved c).Joined-pattern-at c.if-agreed-p.true c.repeat_shift-s.ensures)

pub bounds-found-occurrences : goal.bounds-found-occurrences
bounds-found-occurrences c =
    let d = (goal.at.bounds-found-occurrences c).Joined-pattern-at in
    let taken = c.requires.ready.taken in
    omega (
      arith,
      moved_length taken c.requires.room (so_far d),
      listed_inside taken c.requires.room (occurring d c.if-agreed-p.false),
    )

pub repeats-preserved : goal.repeats-preserved
repeats-preserved c =
    let d = (goal.at.repeats-preserved c).Joined-pattern-at in
    let next = c.after-in-repeats.ensures in
    record {
      moved =
          rw next
          (moved_listed c.requires.ready.taken c.requires.room (so_far d)
          (occurring d c.if-agreed-p.false));
      shift = rw next;
      repeat = rw next;
    }
