-- `tables_delta2::narrow` meets its contract. The invariant: the linked shifts below k are settled,
-- and k is the next one. Assumes nothing.
use Rattle.std.proofs.Common.{List, ℕ, Option, ◌-◌, ◌≤◌, ◌<◌, length, get_or, add-one, arith}
use Rattle.tables_delta2.proofs.Links.{Narrowing, narrowing_begins, next_is, stays, goes, narrowed, least_left}
use Rattle.tables_delta2.proofs.Ordered.{read, read_is, read_below, order_room}
use Rattle.tables_delta2.proofs.narrow.Goals as goal

-- the next one is further on, and within m
goes_on :
    {w next : List ℕ} {i h : ℕ} {least : Option ℕ} {before k : ℕ} → Narrowing w i h next least before k → h < length w → k ≤ h →
    length w - get_or next k 0 < length w - k
goes_on r below turn = let n = next_is r below turn in omega (arith, n.above, n.within)

-- there is an entry for the shift before k
room :
    {w next : List ℕ} {i h : ℕ} {least : Option ℕ} {before k : ℕ} → Narrowing w i h next least before k → length w ≤ 128 →
    before < length next
room r few = omega (arith, r.linked.room, r.before_below, r.within)

pub bounds-order-i : goal.bounds-order-i
bounds-order-i c = omega (arith, order_room c.requires.ordered)

pub overflow_cast-h : goal.overflow_cast-h
overflow_cast-h c = let at = read c.requires.ordered c.args.i c.requires.inside in rw at.back (tt, omega (arith, at.small))

pub loop-k-init : goal.loop-k-init
loop-k-init c = narrowing_begins (omega arith) c.requires.linked

pub bounds-pattern-h : goal.bounds-pattern-h
bounds-pattern-h c = omega (arith, read_below c.requires.ordered c.args.i c.requires.inside)

pub bounds-pattern-h-in-loop-k : goal.bounds-pattern-h-in-loop-k
bounds-pattern-h-in-loop-k c = read_below c.requires.ordered c.args.i c.requires.inside

pub loop-k-smaller-then-pattern-h : goal.loop-k-smaller-then-pattern-h
loop-k-smaller-then-pattern-h c =
    goes_on c.loop-k.invariant (read_below c.requires.ordered c.args.i c.requires.inside) c.loop-k-test.true

pub loop-k-preserved-then-pattern-h : goal.loop-k-preserved-then-pattern-h
loop-k-preserved-then-pattern-h c =
    stays c.loop-k.invariant (read_below c.requires.ordered c.args.i c.requires.inside) c.loop-k-test.true c.if-pattern-h.true

pub loop-k-smaller : goal.loop-k-smaller
loop-k-smaller c =
    goes_on c.loop-k.invariant (read_below c.requires.ordered c.args.i c.requires.inside) c.loop-k-test.true

pub loop-k-preserved : goal.loop-k-preserved
loop-k-preserved c =
    let r = c.loop-k.invariant in
    let below = read_below c.requires.ordered c.args.i c.requires.inside in
    rw c.or-least.ensures (goes r below c.loop-k-test.true c.if-pattern-h.false (room r c.requires.ordered.taken.few))

-- past h
pub returns-clause-least : goal.returns-clause-least
returns-clause-least c =
    let at = read_is c.requires.ordered c.args.i c.requires.inside in
    rw c.unwrap_or.ensures (least_left c.loop-k.invariant c.requires.inside at c.loop-k-test.false)

pub returns-clause-linked : goal.returns-clause-linked
returns-clause-linked c =
    let at = read_is c.requires.ordered c.args.i c.requires.inside in
    rw add-one (narrowed c.loop-k.invariant c.requires.inside at c.loop-k-test.false)
