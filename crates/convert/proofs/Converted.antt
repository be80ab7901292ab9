-- What converting answers and leaves, put together from what its parts do: refused, and done.
-- The search of a conversion that is taken is taken too; it gives the tables, the occurrences and two counts.
use mathlib.Core.List.{List}
use mathlib.Core.Path.{◌≡◌, sym, ap}
use Prim.Native.Nat.{ℕ}
use native.Mathlib.Omega.{arith}
use lib.ListN.{length, take}
use Rattle.answers.proofs.Answered.{refused_only, refused_answer}
use Rattle.answers.proofs.Fronts.{from_entry_length, in_front_take}
use Rattle.answers.specs.Answers.{status_only, if_done, answered}
use Rattle.answers.specs.Buffers.{in_front}
use Rattle.answers.specs.declared.Answer.{Answer}
use Rattle.tables.proofs.Rooms.{tables_kept}
use Rattle.tables.specs.Buffers.{Tables, lengths}
use Rattle.steps.specs.Occurrences.{occurrences}
use Rattle.search.specs.Search.{found_left, SearchOutcomeOf}
use Rattle.frames.proofs.Holds.{occurrences_few, frames_in_front}
use Rattle.convert.proofs.Taken.{ConversionTaken}
use Rattle.convert.specs.Convert.{convert_done, frames_left, ConvertOutcomeOf}
use Rattle.convert.specs.Within.{FramesReady, FramesWritten}

-- as many entries as a search counts are the occurrences
module _ {w t : List ℕ} {lent left : Tables} {found found' : List ℕ} {r : Answer} (searched : SearchOutcomeOf 0 w t lent left found found' r) where
  -- it answers their number
  pub counted : r.occurrences ≡ length (occurrences w t)
  unfolding if_done answered
  counted = ap (λ (a : Answer). a.occurrences) searched.answer

  part_found : take r.occurrences found' ≡ occurrences w t
  unfolding if_done found_left
  part_found = rw searched.occurrences_left (in_front_take (occurrences w t) found r.occurrences (sym counted))

module _ {q : ℕ} {w t : List ℕ} {lent : Tables} {found frame : List ℕ} where
  -- a refused call answers its status and leaves every buffer
  pub refused : (s : ℕ) → (s ≡ 0 → ⊥) → ConvertOutcomeOf s q w t lent lent found found frame frame (status_only s)
  unfolding found_left frames_left
  refused s h =
      record {
        answer = refused_answer s (convert_done w t) h;
        tables = tables_kept s w h;
        occurrences_left = refused_only s _ found h;
        moves_and_holds_left = refused_only s _ frame h;
      }

  module _
      {left : Tables} {found' : List ℕ} {r : Answer} (fit : ConversionTaken (length w) q (length t) (lengths lent) (length found) (length frame))
      (searched : SearchOutcomeOf 0 w t lent left found found' r)
    where
      -- the frames can be written
      pub frames_ready : FramesReady r.occurrences q t found' frame
      unfolding if_done found_left in_front
      frames_ready =
          let count = counted searched in
          let few = occurrences_few w t (omega (arith, fit.limits)) in
          let size = rw (← searched.occurrences_left) at (from_entry_length 0 (occurrences w t) found (omega (arith, fit.found_room))) in
          record {
            text = fit.limits.text;
            room = fit.frames_room;
            counted = omega (arith, fit.found_room);
            few = omega arith;
            hold_offset = omega (arith, fit.limits);
          }

      -- a call that is done: the holds are marked at those entries, in the moves
      pub done :
          {frame' : List ℕ} {a : Answer} → FramesWritten r q t found' frame frame' a →
          ConvertOutcomeOf 0 q w t lent left found found' frame frame' a
      unfolding if_done answered frames_left
      done written =
          record {
            answer = rw (written.answer, searched.answer);
            tables = searched.tables;
            occurrences_left = searched.occurrences_left;
            moves_and_holds_left = rw (written.frames_left, part_found searched) (frames_in_front q w t frame fit.limits.hold_offset);
          }
