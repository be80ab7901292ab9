-- The steps as they go on and write the occurrences into their buffer (`Moved`): nowhere, by one
-- occurrence listed, by a part that lists none, one part after another, and past what is shown. By
-- the laws of `Stretch`, and of entries put after others into a buffer.
use mathlib.Core.List.{List, [], ◌∷◌, ◌++◌, append-nil}
use mathlib.Core.Path.{◌≡◌, sym, ◌∙◌, ap}
use Prim.Native.Nat.{ℕ, ◌+◌, ◌≤◌, ◌<◌}
use native.Mathlib.Omega.{arith}
use lib.ListN.{length, set}
use Rattle.answers.proofs.Fronts.{from_entry_length, from_entry_none, from_entry_store, from_entry_append}
use Rattle.answers.specs.Buffers.{in_front}
use Rattle.steps.proofs.Occurrences.{occurrences_right, occurrences_few}
use Rattle.run_state.proofs.Stretch.{stretch_none, stretch_then}
use Rattle.steps.specs.Occurrences.{occurrences}
use Rattle.steps.specs.Promises.{OccurrencesRight}
use Rattle.alignment.proofs.Laying.{first_right, remaining_over}
use Rattle.alignment.specs.Laid.{laid_first}
use Rattle.alignment.specs.Ready.{Taken}
use Rattle.run_state.specs.Progress.{at, Standing, Stretch, Moved}
use Rattle.steps.specs.Steps.{alignments, comparisons_of, listed, comparisons}
use Rattle.steps.specs.Text.{shown, span}
use Rattle.run_state.specs.declared.Progress.{Progress}

module _ {w t : List ℕ} (taken : Taken w t) where
  pub moved_none : (x : Progress) (found : List ℕ) → Standing w t x → Moved w t x x found found
  moved_none x found standing =
      record { new = []; stretch = stretch_none taken x standing; written = sym (from_entry_none x.occurrences found) }

  -- as many occurrences are counted as the text has positions, at most
  pub counted_few : {x : Progress} → Standing w t x → x.occurrences ≤ length t
  counted_few stands = omega (arith, stands.told, occurrences_few w t taken.some)

  -- an occurrence that is listed next has its place in the buffer
  pub listed_inside : {y z : Progress} {b size : ℕ} → length (occurrences w t) ≤ size → Stretch w t y z (b ∷ []) → y.occurrences < size
  listed_inside room more = omega (arith, more.standing.told, more.occurrences_on)

  module _ {x y : Progress} {found found' : List ℕ} (room : length (occurrences w t) ≤ length found) (so_far : Moved w t x y found found') where
    -- there is room for them
    few : x.occurrences + length so_far.new ≤ length found
    few = omega (arith, so_far.stretch.occurrences_on, so_far.stretch.standing.told)

    pub moved_length : length found' ≡ length found
    moved_length = rw so_far.written (from_entry_length x.occurrences so_far.new found few)

    -- a part that lists none
    pub moved_on : {z : Progress} → Stretch w t y z [] → Moved w t x z found found'
    moved_on more =
        record { new = so_far.new; stretch = rw append-nil at (stretch_then taken so_far.stretch more); written = so_far.written }

    -- an occurrence at b, which is written next and has its place
    pub moved_listed :
        {z : Progress} {b : ℕ} → Stretch w t y z (b ∷ []) → Moved w t x z found (set found' y.occurrences b)
    moved_listed {b = b} more =
        record {
          new = so_far.new ++ (b ∷ []);
          stretch = stretch_then taken so_far.stretch more;
          written =
              rw so_far.written
              (from_entry_store x.occurrences so_far.new found y.occurrences b (sym so_far.stretch.occurrences_on)
              (listed_inside room more));
        }

    -- another part
    pub moved_then : {z : Progress} {found'' : List ℕ} → Moved w t y z found' found'' → Moved w t x z found found''
    moved_then more =
        record {
          new = so_far.new ++ more.new;
          stretch = stretch_then taken so_far.stretch more.stretch;
          written =
              more.written
              ∙ rw so_far.written
              (from_entry_append x.occurrences so_far.new found (omega (arith, few)) more.new y.occurrences
              (sym so_far.stretch.occurrences_on));
        }

  -- the first alignment of a search, where nothing has been counted
  pub first_standing : Standing w t (at (laid_first w) 0 0)
  unfolding occurrences alignments listed OccurrencesRight
  first_standing =
      let right = occurrences_right (shown t) (span w t) w taken.some in
      record { inside = omega arith; right = first_right taken; told = omega (arith, ap length right); few = omega arith }

  -- past what is shown all is listed and counted
  pub moved_all :
      {y : Progress} {found found' : List ℕ} → Moved w t (at (laid_first w) 0 0) y found found' → span w t < y.laid.position + length w →
      (y.occurrences ≡ length (occurrences w t)) × (y.comparisons ≡ length (comparisons w t)) × (found' ≡ in_front (occurrences w t) found)
  unfolding in_front listed comparisons_of comparisons occurrences alignments OccurrencesRight
  moved_all {y} {found} so_far past =
      let run = so_far.stretch in
      let none = remaining_over taken y.laid past in
      let right = occurrences_right (shown t) (span w t) w taken.some in
      let all : so_far.new ≡ occurrences w t = sym (sym right ∙ run.listed_on ∙ rw (none, append-nil)) in
      let counted = rw none at run.comparisons_on in
      (omega (arith, run.occurrences_on, ap length all), omega (arith, counted), rw all at so_far.written)
