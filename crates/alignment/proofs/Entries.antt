-- The entries that a step's shift is read from: Δ1's for the byte at the last position where none agreed, else Δ2's by the number that agreed, or in
-- a repeat Δ3's by the position that differed. Each stands in its buffer, and is the shift: by the tables as they are stored.
use mathlib.Core.Bool.{true, false}
use mathlib.Core.List.{List}
use mathlib.Core.Path.{◌≡◌, sym, ◌∙◌}
use Prim.Native.Nat.{ℕ, ◌+◌, ◌*◌, ◌-◌, ◌≤◌, ◌<◌}
use native.Mathlib.Omega.{arith}
use lib.ListN.{length, get_or}
use Rattle.tables.proofs.RepeatRow.{repeats_holds, repeat_shifts_entry}
use Rattle.tables.proofs.RepeatShift.{Δ3_defined_at, stored_Δ3_length, stored_Δ3_defined}
use Rattle.tables.proofs.Stored.{stored_Δ2_length, stored_Δ1_inside, stored_Δ1_entry}
use Rattle.tables.specs.Tables.{period, Δ1, stored_Δ2, stored_Δ1, repeats, stored_Δ3}
use Rattle.steps.proofs.Rows.{row_few}
use Rattle.steps.proofs.Steps.{agreeing_at_most, step_shift_later}
use Rattle.alignment.proofs.Stored.{begins_room, begins_entry}
use Rattle.alignment.specs.Laid.{laid_at, ComparedSo, alignment}
use Rattle.alignment.specs.Ready.{Begins, Taken}
use Rattle.alignment.specs.declared.Laid.{Laid}
use Rattle.steps.specs.Steps.{row, shifts}
use Rattle.steps.specs.Text.{shown}

-- the entry at i is inside the buffer, and it is this value
pub record EntryAt (buffer : List ℕ) (i value : ℕ) : Type 0 where
  pub inside : i < length buffer
  pub value_there : get_or buffer i 0 ≡ value

-- where Δ1 has its entry for a byte
abbrev pub first_place : (w : List ℕ) (c s : ℕ) → ℕ
first_place w c s = c * length w + s - 1

pub first_entry :
    (w : List ℕ) {delta1 : List ℕ} {c s : ℕ} → Begins (stored_Δ1 w) delta1 → c < 256 → 1 ≤ s → s ≤ length w →
    EntryAt delta1 (first_place w c s) (Δ1 w c s)
first_entry w {delta1} {c} {s} ready seen positive within =
    let in_table = stored_Δ1_inside w c s seen positive within in
    record {
      inside = omega (arith, begins_room (stored_Δ1 w) delta1 ready);
      value_there = begins_entry (stored_Δ1 w) delta1 ready (first_place w c s) 0 in_table ∙ stored_Δ1_entry w c s seen positive within;
    }

module _ {w t : List ℕ} (taken : Taken w t) where
  pub order_entry :
      {delta2 : List ℕ} {x : Laid} {agreed : ℕ} → x.repeat ≡ false → Begins (stored_Δ2 w) delta2 → ComparedSo w t x agreed → 1 ≤ agreed →
      EntryAt delta2 agreed (alignment w t x).shift
  unfolding shifts
  order_entry {delta2} {x} {agreed} by_order ready ended l =
      let whole = stored_Δ2_length w in
      let few : agreed ≤ length w =
      omega (arith, ended.count, agreeing_at_most (shown t) w x.position (row w x.repeat), row_few w x.repeat taken.some) in
      record {
        inside = omega (arith, begins_room (stored_Δ2 w) delta2 ready);
        value_there =
            begins_entry (stored_Δ2 w) delta2 ready agreed 0 (omega arith)
            ∙ sym (step_shift_later (shown t) w x.position x.shift x.repeat (omega (arith, ended.count)) ∙ rw (← ended.count, by_order));
      }

  pub repeat_entry :
      {delta3 : List ℕ} {b s agreed : ℕ} → Begins (stored_Δ3 w) delta3 → repeats w ≡ true → ComparedSo w t (laid_at b s true) agreed → 1 ≤ agreed →
      agreed < period w → EntryAt delta3 (length w - 1 - agreed) (alignment w t (laid_at b s true)).shift
  unfolding shifts
  repeat_entry {delta3} {b} {s} {agreed} ready long ended l u =
      let i = length w - 1 - agreed in
      let three = repeats_holds w long in
      let in_table : i < length (stored_Δ3 w) = omega (arith, stored_Δ3_length w) in
      let stored = stored_Δ3_defined w i (omega arith) (Δ3_defined_at w i long (omega arith) (omega arith)) in
      record {
        inside = omega (arith, begins_room (stored_Δ3 w) delta3 ready);
        value_there =
            begins_entry (stored_Δ3 w) delta3 ready i 0 in_table
            ∙ stored
            ∙ sym (repeat_shifts_entry w agreed l u)
            ∙ rw ended.count (sym (step_shift_later (shown t) w b s true (omega (arith, ended.count))));
      }
