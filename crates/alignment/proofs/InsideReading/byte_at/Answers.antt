-- `alignment::Inside::byte_at` meets its contract: a position of the text shows its byte.
-- Assumes nothing.
use Rattle.std.proofs.Common.{sym}
use Rattle.steps.proofs.Text.{shown_byte}
use Rattle.alignment.proofs.InsideReading.byte_at.Goals as goal

pub returns : goal.returns
returns c = sym (shown_byte c.args.text.now c.args.x c.requires.inside)
