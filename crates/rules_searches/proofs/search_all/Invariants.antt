use Rattle.tables.specs.Buffers.{tables}
use Rattle.rules_searches.proofs.UnderWay.{UnderWay}
use Rattle.rules_searches.proofs.search_all.Given as goal

-- the rules before i are searched
abbrev pub invariant-loop-i : goal.invariant-loop-i
invariant-loop-i l =
    UnderWay l.rules l.text (tables l.initial.order l.initial.delta2 l.initial.delta1 l.initial.delta3) l.initial.found
    (tables l.order l.delta2 l.delta1 l.delta3) l.found l.answer-items l.before l.i
