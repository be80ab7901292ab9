-- `ones::word_of` meets its contract: the eight bytes, each by its worth, summed up are their word.
-- By `word_summed`, at the last of eight. Assumes nothing.
use Rattle.std.proofs.Common.{◌∙◌, ap, arith}
use Rattle.std.proofs.Math.Seq.{take_all}
use Rattle.ones.proofs.Words.{word_summed}
use Rattle.ones.specs.Words.{word_of}
use Rattle.ones.proofs.word_of.Goals as goal

pub returns : goal.returns
returns c =
    let bytes = c.args.bytes.now in
    c.from_le_bytes.ensures ∙ word_summed bytes 7 ∙ ap word_of (take_all 8 bytes (omega arith))
