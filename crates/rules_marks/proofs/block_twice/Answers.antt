-- `rules_marks::block_twice` meets its contract. The loop's invariant: the rules before i that have
-- a flag have marked the bytes that they claim, each once. Assumes nothing.
use Rattle.std.proofs.Common.{List, Bool, ◌≡◌, ℕ, ◌≤◌, ◌<◌, length, take, false, get_or, sym, ◌∙◌, add-one, arith, length-take, get_or-take}
use Rattle.std.proofs.lemmas.List.{length-replicate, get_or-replicate}
use Rattle.std.proofs.Common.{replicate}
use mathlib.Core.Bool.{true≢false}
use Rattle.rules_marks.proofs.Blocks.{blocked_first, blocked_past, blocked_on, blocked_twice, blocked_all}
use Rattle.rules_marks.proofs.block_twice.Goals as goal
use Rattle.rules_marks.proofs.block_twice.Goals.{else-flag-via-then-flag+else-mark, else-flag-via-else-flag}
use Rattle.rules.specs.Rules.{count_of}
use Rattle.rules_marks.specs.Marks.{block}

-- as many marks as bytes, all false to begin with
none_size : (cards : ℕ) → cards ≤ block → length (take cards (replicate 2048 false)) ≡ cards
none_size cards few = rw (length-take, length-replicate) (omega arith)

none_marked : (cards k : ℕ) → cards ≤ block → k < cards → get_or (take cards (replicate 2048 false)) k false ≡ false
none_marked cards k few l = get_or-take cards (replicate 2048 false) k false l ∙ get_or-replicate 2048 k false false (omega arith)

-- the flags that are gone through are those of the rules
flags_size : (flags : List Bool) (n : ℕ) → length flags ≡ 16 → n ≤ 16 → length (take n flags) ≡ n
flags_size flags n size few = rw (length-take, size) (omega arith)

pub loop-i-init : goal.loop-i-init
loop-i-init c = blocked_first _ _ _ _ _ (none_size _ c.requires.few) (λ k l. none_marked _ k c.requires.few l)

pub returns-then-mark : goal.returns-then-mark
returns-then-mark c =
    let all = flags_size c.args.flags.now c.count.result c.requires.skips.size (omega (arith, c.count.ensures.answer, c.count.ensures.taken.few)) in
    record {
      twice = λ e.
          blocked_twice _ _ _ _ _ c.loop-i.invariant (omega (arith, all, c.count.ensures.answer)) (sym (get_or-take c.count.result c.args.flags.now c.loop-i.i false (omega (arith, all))) ∙ c.if-flag.true) c.requires.inside
          ((rw (c.pattern.ensures.answer, c.hold_offset.ensures) at c.mark.ensures).twice c.if-mark.true);
      once = λ e. absurd (true≢false e);
    }

pub loop-i-preserved : goal.loop-i-preserved
loop-i-preserved c =
    let all = flags_size c.args.flags.now c.count.result c.requires.skips.size (omega (arith, c.count.ensures.answer, c.count.ensures.taken.few)) in
    let inside : c.loop-i.i < count_of c.args.rules.now = omega (arith, all, c.count.ensures.answer) in
    let same = get_or-take c.count.result c.args.flags.now c.loop-i.i false (omega (arith, all)) in
    rw add-one
    (elim c.else-flag.branch [
      | else-flag-via-then-flag+else-mark w ↦
          rw w.marks-is
          (blocked_on _ _ _ _ _ c.loop-i.invariant inside (sym same ∙ w.if-flag.true)
          ((rw (w.pattern.ensures.answer, w.hold_offset.ensures) at w.mark.ensures).once w.if-mark.false))
      | else-flag-via-else-flag w ↦
          rw w.marks-is (blocked_past _ _ _ _ _ c.loop-i.invariant inside (sym same ∙ w.if-flag.false))
    ])

pub returns : goal.returns
returns c =
    let all = flags_size c.args.flags.now c.count.result c.requires.skips.size (omega (arith, c.count.ensures.answer, c.count.ensures.taken.few)) in
    record {
      twice = λ e. absurd (true≢false (sym e));
      once = λ e. blocked_all _ _ _ _ _ c.loop-i.invariant c.requires.skips c.requires.inside (omega (arith, all, c.count.ensures.answer));
    }
