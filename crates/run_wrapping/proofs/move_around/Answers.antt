-- `run_wrapping::move_around` meets its contract: the steps go on from an alignment by its shift,
-- and an occurrence is listed. By the laws of the steps as they go on. Assumes nothing.
use Rattle.std.proofs.Common.{[], ◌∷◌, ◌≡◌, ◌≢◌, ◌+◌, ◌*◌, ◌≤◌, ◌<◌, ℕ, List, length, ◌∙◌, arith}
use Rattle.std.proofs.Math.ListN.{set}
use Rattle.steps.proofs.Text.{span_ends}
use Rattle.steps.specs.Occurrences.{occurrences}
use Rattle.steps.specs.Steps.{row}
use Rattle.alignment.proofs.Laying.{agreed_few, agreed_small, further}
use Rattle.alignment.specs.Laid.{ComparedSo, laid_after}
use Rattle.alignment.specs.Ready.{Taken}
use Rattle.alignment.specs.declared.Laid.{Laid}
use Rattle.run_state.proofs.Moved.{moved_none, moved_on, moved_listed, listed_inside}
use Rattle.run_state.proofs.Stretch.{stretch_differing, stretch_agreeing}
use Rattle.run_state.specs.Progress.{at, Standing, Stretch, Moved}
use Rattle.run_state.specs.declared.Progress.{Progress}
use Rattle.run_wrapping.proofs.move_around.Goals as goal

-- the steps stand at x, whose alignment has been compared, and y is how the pattern is laid next
module _
    {w t : List ℕ} (taken : Taken w t) {x : Progress} (stands : Standing w t x) {agreed : ℕ} (ended : ComparedSo w t x.laid agreed) where
  -- the numbers are small
  small : (x.laid.position < 16384) × (x.comparisons + agreed ≤ 128 * 16384 + 128)
  small =
      let inside = span_ends w t taken.some x.laid.position ended.inside in
      omega (arith, stands.few, agreed_small taken ended, taken.few, taken.text)

  module _ {count : ℕ} (whole : count ≡ length (row w x.laid.repeat)) where
    listing : agreed ≡ count → Stretch w t x (at (laid_after w t x.laid) (x.occurrences + 1) (x.comparisons + agreed)) (x.laid.position ∷ [])
    listing e = stretch_agreeing taken stands ended (e ∙ whole)

    agreeing :
        {y : Laid} {found : List ℕ} → y ≡ laid_after w t x.laid → length (occurrences w t) ≤ length found → agreed ≡ count →
        Moved w t x (at y (x.occurrences + 1) (x.comparisons + agreed)) found (set found x.occurrences x.laid.position)
    agreeing {found = found} next room e =
        rw next (moved_listed taken room (moved_none taken x found stands) (listing e))

    differing :
        {y : Laid} {found : List ℕ} → y ≡ laid_after w t x.laid → length (occurrences w t) ≤ length found → agreed ≢ count →
        Moved w t x (at y x.occurrences (x.comparisons + agreed + 1)) found found
    differing {found = found} next room d =
        let fewer : agreed < length (row w x.laid.repeat) = omega (arith, agreed_few taken ended) in
        rw next (moved_on taken room (moved_none taken x found stands) (stretch_differing taken stands ended fewer))

pub overflow_add-comparisons : goal.overflow_add-comparisons
overflow_add-comparisons c = omega (arith, small c.requires.ready.taken c.requires.standing c.requires.compared)

pub overflow_cast-found : goal.overflow_cast-found
overflow_cast-found c = omega (arith, small c.requires.ready.taken c.requires.standing c.requires.compared)

-- an occurrence has its place in the buffer
pub bounds-found-occurrences : goal.bounds-found-occurrences
bounds-found-occurrences c =
    let taken = c.requires.ready.taken in
    listed_inside taken c.requires.room (listing taken c.requires.standing c.requires.compared c.row_length.ensures c.if-agreed-row_length.true)

pub overflow_add-comparisons-else-agreed-row_length :
    goal.overflow_add-comparisons-else-agreed-row_length
overflow_add-comparisons-else-agreed-row_length c =
    omega (arith, small c.requires.ready.taken c.requires.standing c.requires.compared)

pub returns-then-agreed-row_length-clause-forward :
    goal.returns-then-agreed-row_length-clause-forward
returns-then-agreed-row_length-clause-forward c = further c.requires.ready.taken c.args.here.laid c.laid_after-laid.ensures

pub returns-then-agreed-row_length-clause-moved : goal.returns-then-agreed-row_length-clause-moved
returns-then-agreed-row_length-clause-moved c =
    agreeing c.requires.ready.taken c.requires.standing c.requires.compared c.row_length.ensures c.laid_after-laid.ensures c.requires.room
    c.if-agreed-row_length.true

pub returns-else-agreed-row_length-clause-forward :
    goal.returns-else-agreed-row_length-clause-forward
returns-else-agreed-row_length-clause-forward c = further c.requires.ready.taken c.args.here.laid c.laid_after-laid.ensures

pub returns-else-agreed-row_length-clause-moved : goal.returns-else-agreed-row_length-clause-moved
returns-else-agreed-row_length-clause-moved c =
    differing c.requires.ready.taken c.requires.standing c.requires.compared c.row_length.ensures c.laid_after-laid.ensures c.requires.room
    c.if-agreed-row_length.false
