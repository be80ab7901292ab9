-- `run_steps::move_on` meets its contract: where one comparison differed the steps go on by Δ2's
-- entry; an occurrence is listed, and the repeats follow where the pattern repeats. By the laws of
-- an alignment that has been compared. Assumes nothing.
use Rattle.std.proofs.Common.{◌≡◌, ◌+◌, ◌*◌, ◌^◌, ◌≤◌, ◌<◌, ℕ, Bool, false, List, [], ◌∷◌, length, get_or, sym, ◌∙◌, arith}
use Rattle.std.proofs.Math.ListN.{set}
use borrow.Author.Tests.{le-leb}
use lib.Dec.{leb}
use Rattle.tables.specs.Tables.{period, repeats}
use Rattle.steps.proofs.Text.{span_few, span_ends}
use Rattle.alignment.proofs.Entries.{EntryAt, order_entry}
use Rattle.alignment.proofs.Laying.{agreed_small}
use Rattle.alignment.specs.Laid.{laid_at, alignment}
use Rattle.alignment.specs.Ready.{Taken}
use Rattle.run_state.proofs.Moved.{moved_none, moved_on, moved_listed, listed_inside, moved_then}
use Rattle.run_state.specs.Progress.{at, Stretch, Moved}
use Rattle.run_state.specs.declared.Progress.{Progress}
use Rattle.run_steps.proofs.Comparing.{order_differing, order_agreeing, period_is as shift-period}
use Rattle.run_steps.proofs.move_on.Goals as goal
use Rattle.run_steps.proofs.move_on.Goals.{Start}

module _ (c : Start) where
  abbrev w : List ℕ
  w = c.args.job.now.pattern.now

  abbrev t : List ℕ
  t = c.args.job.now.text.now

  abbrev x : Progress
  x = c.args.here

  abbrev found : List ℕ
  found = c.args.found.now

  abbrev taken : Taken w t
  taken = c.requires.ready.tables.taken

  -- the entry of Δ2 is the step's shift
  shift_entry : EntryAt c.args.job.now.delta2.now c.args.agreed (alignment w t x.laid).shift
  shift_entry =
      order_entry taken c.requires.by_order c.requires.ready.tables.delta2_ready c.requires.compared
      c.requires.some

  -- the numbers are small
  small :
      (x.laid.position < length t) × (x.comparisons ≤ 128 * x.laid.position)
      × (c.args.agreed ≤ length w) × (length t ≤ 16384) × (length w ≤ 128) × (1 ≤ length w)
  small = (
    span_ends w t taken.some x.laid.position c.requires.compared.inside,
    c.requires.standing.few,
    agreed_small taken c.requires.compared,
    taken.text,
    taken.few,
    taken.some,
  )

  -- s is the shift as it is read
  module _ {s : ℕ} (read : s ≡ get_or c.args.job.now.delta2.now c.args.agreed 0) where
    shifted : s ≡ (alignment w t x.laid).shift
    shifted = read ∙ shift_entry.value_there

    -- one comparison differed
    differing :
        c.args.agreed < length w →
        Moved w t x
        (at (laid_at (x.laid.position + s) s false) x.occurrences
        (x.comparisons + c.args.agreed + 1))
        found found
    differing l =
        moved_on taken c.requires.ready.room (moved_none taken x found c.requires.standing)
        (order_differing taken c.requires.by_order c.requires.standing c.requires.compared shifted l)

    -- all agree: the occurrence is listed, and the shift is the period
    module _ (past : length w ≤ c.args.agreed) where
      all : c.args.agreed ≡ length w
      all = omega (arith, small)

      period_is : s ≡ period w
      period_is =
          shift-period taken c.requires.by_order c.requires.standing c.requires.compared shifted all

      -- whether a repeat comes next, as it is tested
      abbrev next_repeats : Bool
      next_repeats = leb (3 * s) (length w)

      next_is : next_repeats ≡ repeats w
      unfolding repeats
      next_is = rw period_is

      listed :
          Stretch w t x
          (at (laid_at (x.laid.position + s) s (repeats w)) (x.occurrences + 1)
          (x.comparisons + length w))
          (x.laid.position ∷ [])
      listed =
          order_agreeing taken c.requires.by_order c.requires.standing c.requires.compared shifted
          all

      agreeing :
          Moved w t x
          (at (laid_at (x.laid.position + s) s next_repeats) (x.occurrences + 1)
          (x.comparisons + length w))
          found (set found x.occurrences x.laid.position)
      agreeing =
          moved_listed taken c.requires.ready.room (moved_none taken x found c.requires.standing)
          (rw next_is listed)

      -- the occurrence has its place in the buffer
      placed : x.occurrences < length found
      placed = listed_inside taken c.requires.ready.room listed

  -- what is shown is short
  far : {y : Progress} {found' : List ℕ} → Moved w t x y found found' → y.laid.position < 2 ^ 32
  far moved = omega (arith, moved.stretch.standing.inside, span_few w t taken.some, small)

pub offset_bounds-job-agreed : goal.offset_bounds-job-agreed
offset_bounds-job-agreed c = omega (arith, small (goal.at.offset_bounds-job-agreed c).Start)

pub bounds-job-agreed : goal.bounds-job-agreed
bounds-job-agreed c = (shift_entry (goal.at.bounds-job-agreed c).Start).inside

pub after-requires : goal.after-requires
after-requires c =
    let begin = (goal.at.after-requires c).Start in
    far begin (differing begin c.from-s.ensures c.if-agreed-m.true)

pub overflow_add-result : goal.overflow_add-result
overflow_add-result c = omega (arith, small (goal.at.overflow_add-result c).Start)

pub overflow_add-result-then-agreed-m : goal.overflow_add-result-then-agreed-m
overflow_add-result-then-agreed-m c =
    omega (arith, small (goal.at.overflow_add-result-then-agreed-m c).Start)

pub returns-then-agreed-m-clause-forward : goal.returns-then-agreed-m-clause-forward
returns-then-agreed-m-clause-forward c =
    let begin = (goal.at.returns-then-agreed-m-clause-forward c).Start in
    let next = differing begin c.from-s.ensures c.if-agreed-m.true in
    rw c.after.ensures (omega (arith, next.stretch.standing.right.positive))

pub returns-then-agreed-m-clause-moved : goal.returns-then-agreed-m-clause-moved
returns-then-agreed-m-clause-moved c =
    let begin = (goal.at.returns-then-agreed-m-clause-moved c).Start in
    rw c.after.ensures (differing begin c.from-s.ensures c.if-agreed-m.true)

pub overflow_cast-found : goal.overflow_cast-found
overflow_cast-found c = omega (arith, small (goal.at.overflow_cast-found c).Start)

pub bounds-found-occurrences : goal.bounds-found-occurrences
bounds-found-occurrences c =
    placed (goal.at.bounds-found-occurrences c).Start c.from-s.ensures c.if-agreed-m.false

pub after-requires-2 : goal.after-requires-2
after-requires-2 c =
    let begin = (goal.at.after-requires-2 c).Start in
    far begin (agreeing begin c.from-s.ensures c.if-agreed-m.false)

pub overflow_add-next-2 : goal.overflow_add-next-2
overflow_add-next-2 c = omega (arith, small (goal.at.overflow_add-next-2 c).Start)

pub returns-then-not-repeat-clause-moved : goal.returns-then-not-repeat-clause-moved
returns-then-not-repeat-clause-moved c =
    let begin = (goal.at.returns-then-not-repeat-clause-moved c).Start in
    rw c.after-2.ensures (agreeing begin c.from-s.ensures c.if-agreed-m.false)

pub follow_repeats-requires-clause-ready : goal.follow_repeats-requires-clause-ready
follow_repeats-requires-clause-ready c =
    let tables = c.requires.ready.tables in
    let begin = (goal.at.follow_repeats-requires-clause-ready c).Start in
    let next = next_is begin c.from-s.ensures c.if-agreed-m.false in
    record {
      taken = tables.taken;
      delta1_ready = tables.delta1_ready;
      delta3_ready = tables.delta3_ready;
      long = sym next ∙ le-leb _ _ c.if-not-repeat.false;
      period_is = period_is begin c.from-s.ensures c.if-agreed-m.false;
    }

pub follow_repeats-requires-clause-standing : goal.follow_repeats-requires-clause-standing
follow_repeats-requires-clause-standing c =
    let begin = (goal.at.follow_repeats-requires-clause-standing c).Start in
    let next = agreeing begin c.from-s.ensures c.if-agreed-m.false in
    rw c.after-2.ensures next.stretch.standing

pub returns-clause-forward : goal.returns-clause-forward
returns-clause-forward c =
    let begin = (goal.at.returns-clause-forward c).Start in
    let next = agreeing begin c.from-s.ensures c.if-agreed-m.false in
    let on = rw c.after-2.ensures at c.follow_repeats.ensures.moved in
    omega (arith, next.stretch.standing.right.positive, on.stretch.forward)

pub returns-clause-moved : goal.returns-clause-moved
returns-clause-moved c =
    let begin = (goal.at.returns-clause-moved c).Start in
    let on = rw c.after-2.ensures at c.follow_repeats.ensures.moved in
    moved_then c.requires.ready.tables.taken c.requires.ready.room
    (agreeing begin c.from-s.ensures c.if-agreed-m.false) on
