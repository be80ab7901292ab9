-- `rules_conversions::is_conversion` meets its contract. The loop's invariant: the holds of the
-- first i rules are right. Assumes nothing.
use Rattle.std.proofs.Common.{List, ◌∷◌, ℕ, ◌≡◌, ◌+◌, ◌<◌, length, sym, ◌∙◌, ap, add-one, arith, get_or-drop}
use Rattle.answers.proofs.Bytes.{each_byte}
use Rattle.answers.specs.Bytes.{Bytes}
use Rattle.restore_conversions.proofs.Walked.{each_frame}
use Rattle.restore_conversions.specs.Walk.{behind}
use Rattle.rules.proofs.Listed.{rules_counted}
use Rattle.rules.specs.Rules.{count_of, rules_of}
use Rattle.rules_conversions.proofs.Matched.{all_right, wrong_fails, frames_fail}
use Rattle.rules_conversions.proofs.Table.{held_counted, right_is, right_next}
use Rattle.rules_conversions.proofs.is_conversion.Goals as goal
use Rattle.rules_conversions.specs.Conversions.{all_held}

-- behind the 0 the bytes are those that the rules hold, as many as rules
module _ (x bytes : List ℕ) (h : bytes ≡ 0 ∷ all_held (rules_of x)) where
  behind-is : behind bytes ≡ all_held (rules_of x)
  behind-is = ap behind h

  size : length (behind bytes) ≡ count_of x
  size = ap length behind-is ∙ held_counted x

pub returns-then-not-all_frames : goal.returns-then-not-all_frames
returns-then-not-all_frames c =
    let wrong = sym c.all_frames.ensures ∙ c.if-not-all_frames.true in
    sym (frames_fail _ _ (rw (c.count-count.ensures.answer, ← rules_counted) at wrong))

pub rule_matches-requires-clause-offset : goal.rule_matches-requires-clause-offset
rule_matches-requires-clause-offset c =
    let inside : c.loop-i.i < count_of c.args.rules.now = omega (arith, c.count-count.ensures.answer) in
    let told = c.count-count.ensures.taken.offsets _ inside in
    omega (arith, c.pattern-pattern.ensures.measured, c.hold_offset-hold_offset.ensures, told)

pub rule_matches-requires-clause-short_pattern : goal.rule_matches-requires-clause-short_pattern
rule_matches-requires-clause-short_pattern c =
    let inside : c.loop-i.i < count_of c.args.rules.now = omega (arith, c.count-count.ensures.answer) in
    omega (arith, c.pattern-pattern.ensures.measured, c.count-count.ensures.taken.lengths _ inside)

-- each frame is a move or a hold of one of them
pub rule_matches-requires-clause-frames : goal.rule_matches-requires-clause-frames
rule_matches-requires-clause-frames c =
    let passed = each_frame _ _ (sym c.all_frames.ensures ∙ c.if-not-all_frames.false) in
    rw (size c.args.rules.now c.args.bytes.now c.requires.held, ← c.count-count.ensures.answer) passed

-- what the walk tells is what its rule's holds are
pub returns-then-not-rule_matches : goal.returns-then-not-rule_matches
returns-then-not-rule_matches c =
    let all = c.args.bytes.now in
    let behind_all = behind-is _ _ c.requires.held in
    let inside : c.loop-i.i < count_of c.args.rules.now = omega (arith, c.count-count.ensures.answer) in
    let told =
    c.rule_matches.ensures
    ∙ right_is _ _ _ _ _ _ _ inside (omega arith) c.hold_offset-hold_offset.ensures c.pattern-pattern.ensures.answer behind_all in
    let small : Bytes (behind all) = each_byte (behind all) (λ j l. omega (arith, get_or-drop 1 all j 0, c.type_inv.bytes (1 + j))) in
    sym (wrong_fails _ _ (rw behind_all at small) _ (rw rules_counted inside) (sym told ∙ c.if-not-rule_matches.true))

pub loop-i-preserved : goal.loop-i-preserved
loop-i-preserved c =
    let inside : c.loop-i.i < count_of c.args.rules.now = omega (arith, c.count-count.ensures.answer) in
    let told =
    c.rule_matches.ensures
    ∙ right_is _ _ _ _ _ _ _ inside (omega arith) c.hold_offset-hold_offset.ensures c.pattern-pattern.ensures.answer
    (behind-is _ _ c.requires.held) in
    rw add-one (right_next _ _ c.loop-i.invariant (sym told ∙ c.if-not-rule_matches.false))

pub returns : goal.returns
returns c =
    let counted = c.count-count.ensures.answer ∙ sym (rules_counted c.args.rules.now) in
    let passed = each_frame _ _ (sym c.all_frames.ensures ∙ c.if-not-all_frames.false) in
    sym (all_right _ _ (rw counted at passed) (λ j m. c.loop-i.invariant.each j (omega (arith, counted))))
