-- `turn::write_reversed` meets its contract. The loop's invariant: from i on the buffer is as it is
-- to be left. Assumes nothing.
use Rattle.std.proofs.Common.{◌≡◌, ℕ, ◌-◌, ◌≤◌, ◌<◌, suc, List, arith, refl, sym, ◌∙◌, length, drop, get_or, set, add-one, drop-cons}
use Rattle.std.proofs.Math.Seq.{drop_at}
use Rattle.std.proofs.lemmas.List.{drop-set}
use Rattle.answers.proofs.Fronts.{from_entry_length, in_front_entry}
use Rattle.answers.specs.Buffers.{from_entry, in_front}
use Rattle.turn.proofs.Turned.{length_turned, turned_entry, index_inside}
use Rattle.turn.specs.Turned.{turned}
use Rattle.turn.specs.Ways.{way_number}
use Rattle.turn.proofs.write_reversed.Goals as goal

-- past the new entries a buffer is as it was
behind : (new old : List ℕ) (n : ℕ) → length new ≡ n → drop n old ≡ drop n (in_front new old)
unfolding in_front from_entry
behind new old n e = rw (drop_at new _ n e, e) refl

-- a store of the entry before those that are right
one_before :
    (out whole : List ℕ) (i x : ℕ) → 0 < i → i ≤ length out → i ≤ length whole → drop i out ≡ drop i whole → x ≡ get_or whole (i - 1) 0 →
    drop (i - 1) (set out (i - 1) x) ≡ drop (i - 1) whole
one_before out whole i x some l l' same e =
    let next : suc (i - 1) ≡ i = omega arith in
    rw (drop-set out (i - 1) x (omega arith), drop-cons whole (i - 1) 0 (omega arith), add-one, next, same, e) refl

pub loop-i-init : goal.loop-i-init
loop-i-init c = behind _ _ _ (length_turned _ _)

pub bounds-bytes-turned_index : goal.bounds-bytes-turned_index
bounds-bytes-turned_index c = rw c.turned_index.ensures (index_inside _ _ _ (omega arith))

pub loop-i-preserved : goal.loop-i-preserved
unfolding in_front
loop-i-preserved c =
    let way = way_number c.args.way in
    let bytes = c.args.bytes.now in
    let new = turned way bytes in
    let size : length new ≡ length bytes = length_turned way bytes in
    let whole = from_entry_length 0 new c.args.out.now (omega arith) in
    let i = c.loop-i.i - 1 in
    let is = in_front_entry new c.args.out.now i 0 (omega arith) ∙ turned_entry way bytes i (omega arith) in
    one_before _ _ c.loop-i.i _ (omega arith) (omega arith) (omega (arith, whole)) c.loop-i.invariant
    (rw (c.turned_byte.ensures, c.turned_index.ensures) (sym is))

pub returns : goal.returns
returns c =
    let none : c.loop-i.i ≡ 0 = omega arith in
    rw none at c.loop-i.invariant
