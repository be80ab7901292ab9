-- `restore_conversions::is_conversion` meets its contract: where one is neither a move nor a hold
-- they are none, and else the holds of the one rule decide. Assumes nothing.
use Rattle.std.proofs.Common.{sym, ◌∙◌, arith}
use Rattle.restore_conversions.proofs.One.{frames_fail, holds_decide}
use Rattle.restore_conversions.proofs.Walked.{each_frame}
use Rattle.restore_conversions.proofs.is_conversion.Goals as goal

pub returns-then-not-all_frames : goal.returns-then-not-all_frames
returns-then-not-all_frames c = sym (frames_fail _ _ _ (sym c.all_frames.ensures ∙ c.if-not-all_frames.true))

pub rule_matches-requires-clause-frames : goal.rule_matches-requires-clause-frames
rule_matches-requires-clause-frames c = each_frame _ _ (sym c.all_frames.ensures ∙ c.if-not-all_frames.false)

pub returns : goal.returns
returns c =
    let args = c.args in
    let passed = each_frame _ _ (sym c.all_frames.ensures ∙ c.if-not-all_frames.false) in
    rw c.rule_matches.ensures
    (holds_decide args.hold_offset args.pattern.now args.frames.now (omega (arith, c.type_inv.pattern args.hold_offset)) passed)
