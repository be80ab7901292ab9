-- `rules_status::needed` meets its contract: what is needed goes by the bytes of all patterns.
-- Assumes nothing.
use Rattle.rules_status.proofs.Lengths.{needed_is}
use Rattle.rules_status.proofs.needed.Goals as goal

pub returns : goal.returns
returns c = needed_is _ _ _ c.all_bytes-bytes.ensures.sum c.count-count.ensures.answer
