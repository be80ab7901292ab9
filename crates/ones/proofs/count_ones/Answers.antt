-- `ones::count_ones` meets its contract: past the refusal the sum is `ones_of`'s.
-- Assumes nothing.
use Rattle.std.proofs.Common.{refl, sym}
use Rattle.answers.proofs.Answered.{refused_answer}
use Rattle.answers.proofs.Reasons.{numbered}
use Rattle.answers.proofs.Refusals.{text_within}
use Rattle.answers.specs.Answers.{if_done, answered}
use Rattle.ones.specs.Ones.{count_status, count_answer}
use Rattle.ones.proofs.count_ones.Goals as goal

pub returns-in-Err : goal.returns-in-Err
unfolding count_answer count_status
returns-in-Err c = rw (c.from.ensures, ← c.in-Err.ensures) (refused_answer _ _ (numbered _))

pub ones_of-requires : goal.ones_of-requires
ones_of-requires c = text_within _ (sym c.in_default.ensures)

pub returns : goal.returns
unfolding count_answer count_status if_done answered
returns c = rw (c.counted.ensures, c.ones_of.ensures, ← c.in_default.ensures) refl
