-- Where the steps stand and how they go on (document 01, "The steps"; document 02, "Long repeats"),
-- over a text that is a list. These are definitions.
use Rattle.std.specs.Prelude.{false, List, [], ◌++◌, ◌≡◌, ℕ, ◌+◌, ◌*◌, ◌-◌, ◌≤◌, length}
use Rattle.answers.specs.Buffers.{from_entry}
use Rattle.answers.specs.Refusals.{longest_pattern}
use Rattle.tables.specs.Sets.{byte}
use Rattle.steps.specs.Occurrences.{occurrences}
use Rattle.steps.specs.Steps.{comparisons_of, listed}
use Rattle.steps.specs.Text.{shown, span}
use Rattle.alignment.specs.Laid.{LaidRight, remaining}
use Rattle.alignment.specs.declared.Laid.{Laid}
use Rattle.run_state.specs.declared.Progress.{Progress}

-- the steps stand where the pattern is laid so, with these counts
abbrev pub at : (x : Laid) (occurrences comparisons : ℕ) → Progress
at x h n = record { laid = x; occurrences = h; comparisons = n }

-- the steps can stand here: the position is at most the span, the pattern is laid right, the
-- occurrences so far and those that remain are all, and the comparisons are few
pub record Standing (w t : List ℕ) (x : Progress) : Type 0 where
  pub inside : x.laid.position ≤ span w t
  pub right : LaidRight w x.laid
  pub told : x.occurrences + length (listed (remaining w t x.laid)) ≡ length (occurrences w t)
  pub few : x.comparisons ≤ longest_pattern * x.laid.position

-- an alignment that comes next and ends inside the text is no repeat: the repeats there have been
-- followed
abbrev pub Followed : (w t : List ℕ) → (x : Laid) → Type 0
Followed w t x = x.position + length w ≤ length t → x.repeat ≡ false

-- the steps go on from x to y: these occurrences and the comparisons counted are of the alignments
-- in between, the others remain
pub record Stretch (w t : List ℕ) (x y : Progress) (new : List ℕ) : Type 0 where
  pub standing : Standing w t y
  pub forward : x.laid.position ≤ y.laid.position
  pub listed_on : listed (remaining w t x.laid) ≡ new ++ listed (remaining w t y.laid)
  pub occurrences_on : y.occurrences ≡ x.occurrences + length new
  pub comparisons_on :
      x.comparisons + length (comparisons_of (remaining w t x.laid)) ≡ y.comparisons + length (comparisons_of (remaining w t y.laid))

-- the steps go on from x to y past alignments whose first comparison differs: at y it agrees, if y
-- ends inside the text
pub record PassedDiffering (w t : List ℕ) (x y : Progress) : Type 0 where
  pub stretch : Stretch w t x y []
  pub followed : Followed w t y.laid
  pub agrees : y.laid.position + length w ≤ length t → byte w (length w - 1) ≡ shown t (y.laid.position + (length w - 1))

-- the steps go on from x to y, and write the occurrences in between into their buffer
pub record Moved (w t : List ℕ) (x y : Progress) (found found' : List ℕ) : Type 0 where
  pub new : List ℕ
  pub stretch : Stretch w t x y new
  pub written : found' ≡ from_entry x.occurrences new found
