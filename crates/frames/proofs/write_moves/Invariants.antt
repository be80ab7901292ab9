use Rattle.std.proofs.Common.{drop}
use Rattle.answers.proofs.Partly.{PartlyWritten}
use Rattle.frames.proofs.write_moves.Given as goal

-- of the text what it has from `at` on is left to be written
abbrev pub invariant-loop-at : goal.invariant-loop-at
invariant-loop-at l = PartlyWritten 0 l.initial.frames l.frames l.text (drop l.at l.text) l.at
