-- `rules_searches::search_all` meets its contract. The loop's invariant: the rules before i are
-- searched (`UnderWay`). Assumes nothing.
use Rattle.std.proofs.Common.{arith}
use Rattle.rules_searches.proofs.UnderWay.{slots, begun, part_fit, turned, ended}
use Rattle.rules_searches.proofs.search_all.Goals as goal

pub loop-i-init : goal.loop-i-init
loop-i-init c =
    let (rules, (bytes, occurrences)) = c.default-before.ensures in
    rw (rules, bytes, occurrences, c.none_told-answers.ensures, c.count.ensures.answer)
    (begun _ _ _ _ _ (slots _ c.count.ensures.taken))

pub search_part-searched-requires : goal.search_part-searched-requires
search_part-searched-requires c =
    rw c.pattern-pattern.ensures.answer
    (part_fit _ _ _ _ c.count.ensures.taken c.requires c.loop-i.invariant
    (omega (arith, c.loop-i.auto.answer-items, c.loop-i.invariant.whole)))

pub loop-i-preserved : goal.loop-i-preserved
loop-i-preserved c =
    turned _ _ _ _ c.count.ensures.taken c.requires c.loop-i.invariant
    (omega (arith, c.loop-i.auto.answer-items, c.loop-i.invariant.whole))
    (rw c.pattern-pattern.ensures.answer at c.search_part-searched.ensures) c.pattern-pattern.ensures.measured
    c.from.ensures

pub returns : goal.returns
returns c =
    rw (c.none_told-answers.ensures, c.count.ensures.answer)
    (ended _ _ _ _ c.count.ensures.taken c.requires c.loop-i.invariant
    (omega (arith, c.loop-i.auto.answer-items, c.loop-i.invariant.whole)))
