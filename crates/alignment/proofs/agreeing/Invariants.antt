use Rattle.steps.specs.Steps.{row}
use Rattle.alignment.proofs.Along.{Along}
use Rattle.alignment.proofs.agreeing.Given as goal

-- the comparisons before index i agreed
abbrev pub invariant-loop-i : goal.invariant-loop-i
invariant-loop-i g l = Along l.pattern l.text l.here.position (row l.pattern l.here.repeat) l.i
