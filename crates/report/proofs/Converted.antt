-- What a conversion leaves for its report: its answer, and the occurrences and the frames in front of their buffers.
-- The frames are written by what a search of status 0 finds.
use mathlib.Core.List.{List}
use mathlib.Core.Path.{◌≡◌, refl}
use Prim.Native.Nat.{ℕ, ◌≤◌}
use native.Mathlib.Omega.{arith}
use lib.ListN.{length, take}
use Rattle.answers.proofs.Fronts.{in_front_take}
use Rattle.answers.specs.Answers.{if_done, answered}
use Rattle.answers.specs.declared.Answer.{Answer}
use Rattle.tables.specs.Buffers.{Tables, lengths}
use Rattle.steps.specs.Occurrences.{occurrences}
use Rattle.search.specs.Search.{found_left, SearchOutcomeOf}
use Rattle.frames.proofs.Holds.{length_frames, occurrences_few}
use Rattle.frames.specs.Frames.{frames}
use Rattle.convert.proofs.Converted as conversion
use Rattle.convert.proofs.Taken.{ConversionTaken}
use Rattle.convert.specs.Convert.{convert_done, frames_left, ConvertOutcomeOf}
use Rattle.convert.specs.Within.{FramesWritten}
use Rattle.report_lines.specs.Printed.{report_lines}
use Rattle.report.specs.Report.{done_report}

pub record Converted (q : ℕ) (w t found' frame' : List ℕ) (r : Answer) : Type 0 where
  pub answer : r ≡ convert_done w t
  pub occurrence_count : r.occurrences ≡ length (occurrences w t)
  pub few : r.occurrences ≤ length t
  pub occurrences_there : take r.occurrences found' ≡ occurrences w t
  pub frames_there : take (length t) frame' ≡ frames q w t

module _ {q : ℕ} {w t : List ℕ} {lent left : Tables} {found found' frame frame' : List ℕ} {r : Answer} where
  done : 1 ≤ length w → ConvertOutcomeOf 0 q w t lent left found found' frame frame' r → Converted q w t found' frame' r
  unfolding if_done answered found_left frames_left
  done h o =
      let e = o.answer in
      record {
        answer = e;
        occurrence_count = rw e;
        few = rw e (occurrences_few w t h);
        occurrences_there = rw (e, o.occurrences_left) (in_front_take (occurrences w t) found (length (occurrences w t)) refl);
        frames_there = rw o.moves_and_holds_left (in_front_take (frames q w t) frame (length t) (length_frames q w t));
      }

  pub converted :
      {a : Answer} → ConversionTaken (length w) q (length t) (lengths lent) (length found) (length frame) →
      SearchOutcomeOf 0 w t lent left found found' a → FramesWritten a q t found' frame frame' r → Converted q w t found' frame' r
  converted fit outcome written = done (omega (arith, fit.limits)) (conversion.done fit outcome written)

-- what a conversion leaves is what is reported
pub report_of :
    {q : ℕ} {w t found' frame' : List ℕ} {r : Answer} → Converted q w t found' frame' r →
    report_lines r (take r.occurrences found') (take (length t) frame') ≡ done_report q w t
unfolding done_report
report_of c = rw (c.occurrences_there, c.frames_there, c.answer)
