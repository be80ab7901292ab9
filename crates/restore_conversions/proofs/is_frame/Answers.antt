-- `restore_conversions::is_frame` meets its contract: the frames of one rule are those up to 256,
-- and else its tests are those of the definition. Assumes nothing.
use Rattle.std.proofs.Common.{refl, sym}
use Rattle.restore_conversions.proofs.Numbered.{one_frame}
use Rattle.restore_conversions.proofs.is_frame.Goals as goal
use Rattle.restore_conversions.specs.Restored.{is_frame}

pub returns-then-count-eq1 : goal.returns-then-count-eq1
returns-then-count-eq1 c = rw c.if-count-eq1.true (sym (one_frame c.args.frame))

pub returns-else-count-eq1 : goal.returns-else-count-eq1
unfolding is_frame
returns-else-count-eq1 c = refl
