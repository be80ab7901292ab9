-- `alignment::agreeing` meets its contract. The loop over the comparisons keeps that those before
-- it agreed, and each turn adds one or ends. What is read is shown, by the reading's law. Assumes
-- nothing.
use Rattle.std.proofs.Common.{Bool, List, ℕ, ◌≡◌, ◌+◌, ◌^◌, ◌≤◌, ◌<◌, length, get_or, sym, ◌∙◌}
use Rattle.std.proofs.Common.{arith}
use Rattle.steps.proofs.Rows.{row_first, row_some, row_below}
use Rattle.steps.proofs.Text.{span_few}
use Rattle.steps.specs.Steps.{agreeing, row}
use Rattle.steps.specs.Text.{shown, span}
use Rattle.alignment.proofs.Along.{along_none, along_more, along_stop, along_all}
use Rattle.alignment.specs.Laid.{ComparedSo}
use Rattle.alignment.specs.Ready.{Taken}
use Rattle.alignment.specs.declared.Laid.{Laid}
use Rattle.alignment.proofs.agreeing.Goals as goal

-- the positions that are read can be counted
countable : {w t : List ℕ} → Taken w t → {reach : ℕ} → reach ≤ span w t → reach < 2 ^ 32
countable {w} {t} taken within = omega (arith, span_few w t taken.some, taken)

-- an alignment that is read is shown whole
compared :
    {w t : List ℕ} {x : Laid} {agreed reach : ℕ} → reach ≤ span w t →
    x.position + length w ≤ reach →
    agreed ≡ agreeing (shown t) w x.position (row w x.repeat) → ComparedSo w t x agreed
compared within read count = record { inside = omega arith; count = count }

-- an entry of the row is a position of the pattern
in_pattern :
    (w : List ℕ) (repeat : Bool) {at i count : ℕ} → 1 ≤ length w →
    at ≡ get_or (row w repeat) i 0 → count ≡ length (row w repeat) → i < count → at < length w
in_pattern w repeat {at} {i} some entry whole inside = omega (arith, row_below w repeat some i)

pub overflow_add-b : goal.overflow_add-b
overflow_add-b g c =
    let taken = c.requires.ready.taken in
    omega (arith, c.requires.inside, countable taken (g.met.R.Reading.within _ _ taken.some))

pub returns-then-pattern-last : goal.returns-then-pattern-last
returns-then-pattern-last g c =
    let w = c.args.job.now.pattern.now in
    let repeat = c.args.here.repeat in
    let some = c.requires.ready.taken.some in
    compared (g.met.R.Reading.within _ _ some) c.requires.inside
    (along_stop _ _ _ _ (along_none _ _ _ _) (row_some w repeat some) (sym (row_first w repeat))
    (λ e. c.if-pattern-last.true (e ∙ sym c.byte_at.ensures)))

pub loop-i-init : goal.loop-i-init
loop-i-init g c =
    let w = c.args.job.now.pattern.now in
    let repeat = c.args.here.repeat in
    let some = c.requires.ready.taken.some in
    along_more _ _ _ _ (along_none _ _ _ _) (row_some w repeat some) (sym (row_first w repeat))
    (c.if-pattern-last.false ∙ c.byte_at.ensures)

pub bounds-pattern-at : goal.bounds-pattern-at
bounds-pattern-at g c =
    in_pattern _ _ c.requires.ready.taken.some c.row_entry-at.ensures c.row_length-count.ensures
    c.loop-i-test.true

pub overflow_add-b-in-loop-i : goal.overflow_add-b-in-loop-i
overflow_add-b-in-loop-i g c =
    let taken = c.requires.ready.taken in
    let whole = c.row_length-count.ensures in
    let at : c.row_entry-at.result < length c.args.job.now.pattern.now =
    in_pattern _ _ taken.some c.row_entry-at.ensures whole c.loop-i-test.true in
    omega (arith, c.requires.inside, countable taken (g.met.R.Reading.within _ _ taken.some))

pub byte_at-requires-in-loop-i-clause-inside : goal.byte_at-requires-in-loop-i-clause-inside
byte_at-requires-in-loop-i-clause-inside g c =
    let some = c.requires.ready.taken.some in
    let at : c.row_entry-at.result < length c.args.job.now.pattern.now =
    in_pattern _ _ some c.row_entry-at.ensures c.row_length-count.ensures c.loop-i-test.true in
    omega (arith, c.requires.inside)

pub returns-then-pattern-at : goal.returns-then-pattern-at
returns-then-pattern-at g c =
    let a = c.args in
    compared (g.met.R.Reading.within _ _ c.requires.ready.taken.some) c.requires.inside
    (along_stop _ a.job.now.text.now _ _ c.loop-i.invariant
    (omega (arith, c.row_length-count.ensures)) c.row_entry-at.ensures
    (λ e. c.if-pattern-at.true (e ∙ sym c.byte_at-in-loop-i.ensures)))

pub loop-i-preserved : goal.loop-i-preserved
loop-i-preserved g c =
    along_more _ _ _ _ c.loop-i.invariant (omega (arith, c.row_length-count.ensures))
    c.row_entry-at.ensures (c.if-pattern-at.false ∙ c.byte_at-in-loop-i.ensures)

pub returns : goal.returns
returns g c =
    let whole = c.row_length-count.ensures in
    let ended : c.loop-i.i ≡ c.row_length-count.result =
    omega (arith, whole, c.loop-i.invariant.within) in
    compared (g.met.R.Reading.within _ _ c.requires.ready.taken.some) c.requires.inside
    (sym ended ∙ along_all _ c.args.job.now.text.now _ _ c.loop-i.invariant (ended ∙ whole))
