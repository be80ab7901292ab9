use Rattle.std.proofs.Common.{drop}
use Rattle.answers.proofs.Partly.{PartlyWritten}
use Rattle.restore.proofs.write_restored.Given as goal
use Rattle.restore_conversions.specs.Restored.{all_restored}

-- of the frames put back what they have from `at` on is left to be written
abbrev pub invariant-loop-at : goal.invariant-loop-at
invariant-loop-at l =
    PartlyWritten 0 l.initial.text l.text (all_restored l.held l.frames) (drop l.at (all_restored l.held l.frames)) l.at
