-- `rules_answers::none_told` meets its contract: it is 16 times the entry that tells nothing.
-- Assumes nothing.
use Rattle.std.proofs.Common.{◌≡◌, rules}
use Rattle.rules_answers.specs.Answers.{nothing_told, no_answers}
use Rattle.rules_answers.proofs.none_told.Goals as goal

pub returns : goal.returns
unfolding no_answers
returns c =
    let nothing : c.default.result ≡ nothing_told = search rules in
    rw nothing
