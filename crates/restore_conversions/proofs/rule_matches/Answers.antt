-- `restore_conversions::rule_matches` meets its contract: no frames are right, and else the walk
-- decides. Assumes nothing.
use Rattle.std.proofs.Common.{sym, ◌∙◌}
use borrow.Author.Tests.{eqb-true}
use Rattle.restore_conversions.proofs.Walked.{none_right}
use Rattle.restore_conversions.proofs.rule_matches.Goals as goal

pub returns-then-is_empty : goal.returns-then-is_empty
returns-then-is_empty c = sym (none_right _ _ _ _ _ (eqb-true _ _ (sym c.is_empty.ensures ∙ c.if-is_empty.true)))
