-- `report::report_taken` meets its contract: the job is searched, its frames are written, and what is
-- left in front of the buffers is reported. The buffers have the largest sizes, so that there is room
-- for every job within the limits. Assumes nothing.
use Rattle.std.proofs.Common.{List, ℕ, ◌≤◌, ◌<◌, arith, length}
use lib.IntN.{pos}
use lib.ListN.{replicate}
use Rattle.answers.specs.Refusals.{longest_pattern, longest_text}
use Rattle.answers.specs.declared.Answer.{Answer}
use Rattle.convert.proofs.Converted.{frames_ready}
use Rattle.convert.proofs.Taken.{ConversionTaken, search_taken}
use Rattle.convert.specs.Within.{FramesWritten}
use Rattle.report.proofs.Converted.{Converted, converted, report_of}
use Rattle.search.proofs.Searched.{search_fit}
use Rattle.search.specs.Search.{SearchOutcomeOf}
use Rattle.tables.proofs.Rooms.{not_short}
use Rattle.tables.specs.Buffers.{Tables, tables, TablesFit, lengths}
use Rattle.report.proofs.report_taken.Goals as goal

-- the buffers at first
abbrev zeros : ℕ → List ℕ
zeros n = replicate n 0

abbrev lent : Tables
lent = tables (replicate 129 (pos 0)) (zeros 129) (zeros 32768) (zeros 128)

-- the job is within the limits, and the buffers have room for it
module _ {q : ℕ} (w t : List ℕ) (offset : q < length w) (short_pattern : length w ≤ longest_pattern)
    (short_text : length t ≤ longest_text) where
  fit : ConversionTaken (length w) q (length t) (lengths lent) (length (zeros 16384)) (length (zeros 16384))
  fit =
      let room : TablesFit w lent = omega arith in
      record { limits = omega arith; tables_room = not_short room; found_room = omega arith; frames_room = omega arith }

  -- what the search and the writing of the frames leave
  reported :
      {left : Tables} {found' frame' : List ℕ} {a r : Answer} →
      SearchOutcomeOf 0 w t lent left (zeros 16384) found' a → FramesWritten a q t found' (zeros 16384) frame' r →
      Converted q w t found' frame' r
  reported outcome written = converted fit outcome written

pub search_within-searched-requires : goal.search_within-searched-requires
search_within-searched-requires c = search_fit (search_taken (fit _ _ c.requires.offset c.requires.short_pattern c.requires.short_text))

pub write_frames-converted-requires : goal.write_frames-converted-requires
write_frames-converted-requires c =
    frames_ready (fit _ _ c.requires.offset c.requires.short_pattern c.requires.short_text) c.search_within-searched.ensures

pub slice_bounds-found-end : goal.slice_bounds-found-end
slice_bounds-found-end c =
    let left = reported _ _ c.requires.offset c.requires.short_pattern c.requires.short_text c.search_within-searched.ensures
    c.write_frames-converted.ensures in
    omega arith

pub slice_bounds-write_done-end : goal.slice_bounds-write_done-end
slice_bounds-write_done-end c =
    let left = reported _ _ c.requires.offset c.requires.short_pattern c.requires.short_text c.search_within-searched.ensures
    c.write_frames-converted.ensures in
    rw left.occurrences_there left.occurrence_count

pub returns : goal.returns
returns c =
    let left = reported _ _ c.requires.offset c.requires.short_pattern c.requires.short_text c.search_within-searched.ensures
    c.write_frames-converted.ensures in
    rw (← report_of left) c.write_done.ensures
