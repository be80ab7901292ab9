-- `restore_conversions::Walk::prefix_after` meets its contract: what is read is what is shown.
-- Assumes nothing.
use Rattle.std.proofs.Common.{◌≡◌, sym, ◌∙◌, rules}
use Rattle.restore_conversions.proofs.Walked.{shown_back}
use Rattle.restore_conversions.proofs.Walk.prefix_after.Goals as goal
use Rattle.restore_conversions.specs.Restored.{restored_byte}
use Rattle.restore_conversions.specs.Walk.{behind, frame_at}

pub returns : goal.returns
returns c =
    let hs = behind c.args.self.now.bytes.now in
    let gs = c.args.self.now.frames.now in
    c.prefix_after.ensures _
    (λ x b inside read. let back : b ≡ restored_byte hs (frame_at gs x) = search rules in back ∙ sym (shown_back hs gs x))
