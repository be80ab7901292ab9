-- What running the steps leaves (document 01, "The steps"; document 02, "Long repeats"), over a
-- text that is a list. These are definitions.
use Rattle.std.specs.Prelude.{List, ◌≡◌, ℕ, length}
use Rattle.answers.specs.Buffers.{in_front}
use Rattle.steps.specs.Occurrences.{occurrences}
use Rattle.steps.specs.Steps.{comparisons}
use Rattle.run_steps.specs.declared.Counts.{Counts}

-- what a run counts, and the occurrences in their buffer
pub record RunOutcome (w t found found' : List ℕ) (r : Counts) : Type 0 where
  pub occurrences_counted : r.occurrences ≡ length (occurrences w t)
  pub comparisons_counted : r.comparisons ≡ length (comparisons w t)
  pub occurrences_left : found' ≡ in_front (occurrences w t) found
