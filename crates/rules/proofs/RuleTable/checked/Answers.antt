-- `rules::RuleTable::checked` meets its contract: rule 1 is named, which each table that has rules
-- has. Assumes nothing.
use Rattle.std.proofs.Common.{◌∙◌}
use Rattle.rules.proofs.Tested.{first_named}
use Rattle.rules.proofs.RuleTable.checked.Goals as goal

pub returns-clause-status : goal.returns-clause-status
returns-clause-status c = c.naming.ensures.status ∙ first_named _
