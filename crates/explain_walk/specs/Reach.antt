-- What the walk to a position takes, keeps and reaches, over a text that is a list. These are definitions.
use Rattle.std.specs.Prelude.{List, ◌++◌, ◌≡◌, ℕ, ◌+◌, ◌≤◌, ◌<◌, ℤ, length}
use Rattle.steps.specs.Steps.{Alignment, alignments_in, comparisons_of}
use Rattle.steps.specs.Text.{shown, span}
use Rattle.alignment.specs.Laid.{LaidRight, ComparedSo, alignment, laid_after, remaining}
use Rattle.alignment.specs.Ready.{RowReady, ShiftTablesReady}
use Rattle.alignment.specs.declared.Laid.{Laid}
use Rattle.explain_meaning.specs.Explanation.{first_spoilt}
use Rattle.explain_meaning.specs.Promises.{Made}
use Rattle.explain_walk.specs.declared.Reached.{Reached}

-- the tables in front of their buffers, and a position from which the pattern is shown whole
pub record ReachReady (w t : List ℕ) (order : List ℤ) (delta2 delta1 delta3 : List ℕ) (p b : ℕ) : Type 0 where
  pub rows : RowReady w t order p
  pub shifts : ShiftTablesReady w t delta2 delta1 delta3 p
  pub inside : b + length w ≤ span w t

-- the walk to b stands here: the alignments of the search are those before, whose comparisons spoil b first at j, and those from here on
pub record Reaching (w t : List ℕ) (b : ℕ) (x : Laid) (j : ℕ) : Type 0 where
  pub before : List Alignment
  pub split : alignments_in w t ≡ before ++ remaining w t x
  pub low : x.position ≤ b
  pub right : LaidRight w x
  pub spoilt : j ≡ first_spoilt (shown t) w b (comparisons_of before)

-- the alignment of the search that reaches b: it is laid there or shifts past it, and then its comparisons and those before spoil b as all do
pub record ReachedAt (w t : List ℕ) (b : ℕ) (r : Reached) : Type 0 where
  pub made : Made (shown t) (span w t) w (alignment w t r.laid)
  pub ended : ComparedSo w t r.laid r.agreed
  pub low : r.laid.position ≤ b
  pub high : b < (laid_after w t r.laid).position
  pub few : r.spoilt ≤ length w
  pub spoilt_is : r.laid.position < b → first_spoilt (shown t) w b (comparisons_of (alignments_in w t)) ≡ r.spoilt
