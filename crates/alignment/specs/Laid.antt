-- The pattern laid at a position (document 01, "The steps"; document 02, "Long repeats"), over a text that is a list. These are definitions.
use Rattle.std.specs.Prelude.{Bool, true, false, List, ◌≡◌, ℕ, suc, ◌+◌, ◌≤◌, length}
use Rattle.tables.specs.Tables.{period, repeats}
use Rattle.steps.specs.Steps.{Alignment, agreeing, row, step, repeat_after, alignments_from}
use Rattle.steps.specs.Text.{shown, span}
use Rattle.alignment.specs.declared.Laid.{Laid}

-- the pattern laid at this position, after this shift, as a repeat or not
abbrev pub laid_at : (position shift : ℕ) (repeat : Bool) → Laid
laid_at b s r = record { position = b; shift = s; repeat = r }

-- the first of a search: at 0, s = m
abbrev pub laid_first : (w : List ℕ) → Laid
laid_first w = laid_at 0 (length w) false

-- it is laid after a shift from 1 to m, and as a repeat only where the pattern repeats, after a shift by the period
pub record LaidRight (w : List ℕ) (x : Laid) : Type 0 where
  pub positive : 1 ≤ x.shift
  pub within : x.shift ≤ length w
  pub repeated : x.repeat ≡ true → (repeats w ≡ true) × (x.shift ≡ period w)

-- it is shown whole, and so many of its row's entries agree
pub record ComparedSo (w t : List ℕ) (x : Laid) (agreed : ℕ) : Type 0 where
  pub inside : x.position + length w ≤ span w t
  pub count : agreed ≡ agreeing (shown t) w x.position (row w x.repeat)

-- the alignment of the steps that is laid so
abbrev pub alignment : (w t : List ℕ) → Laid → Alignment
alignment w t x = step (shown t) w x.position x.shift x.repeat

-- how the pattern is laid after it
abbrev pub laid_after : (w t : List ℕ) → Laid → Laid
laid_after w t x =
    let a = alignment w t x in
    laid_at (x.position + a.shift) a.shift (repeat_after w a)

-- the alignments of the steps from it on
abbrev pub remaining : (w t : List ℕ) → Laid → List Alignment
remaining w t x = alignments_from (suc (span w t)) (shown t) (span w t) w x.position x.shift x.repeat
