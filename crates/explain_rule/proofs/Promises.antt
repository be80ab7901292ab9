-- What explaining by one rule promises (`AsExplained`): past 11, 4 and 5 it is explaining by that
-- rule's pattern. By the status, which is then the same.
use lib.ListN.{length}
use Rattle.tables.specs.Buffers.{lengths}
use Rattle.explain_rule.proofs.Status.{rule_passed}
use Rattle.explain_rule.specs.Promises.{AsExplained}

pub as_explained : AsExplained
unfolding AsExplained
as_explained number b x t lent left r size e o = rw (rule_passed x number (length t) b (lengths lent) size e) at o
