-- The comparisons of one repeat in progress: what the loop over them keeps, how it ends, and how
-- the steps go on from there. Entry i of the row is position m - 1 - i, and it has p entries.
use mathlib.Core.Bool.{true, false}
use mathlib.Core.List.{List, [], ◌∷◌}
use mathlib.Core.Logic.{◌≢◌}
use mathlib.Core.Path.{◌≡◌, refl, sym, ◌∙◌}
use Prim.Native.Nat.{ℕ, ◌+◌, ◌-◌, ◌≤◌, ◌<◌}
use native.Mathlib.Omega.{arith}
use lib.ListN.{length, get_or}
use Rattle.tables.proofs.RepeatRow.{repeat_row_entry}
use Rattle.tables.proofs.Periods.{period_facts}
use Rattle.tables.specs.Sets.{byte}
use Rattle.tables.specs.Tables.{period}
use Rattle.steps.proofs.Rows.{row_repeat, row_length}
use Rattle.steps.proofs.Text.{shown_byte, span_reaches}
use Rattle.steps.specs.Steps.{row}
use Rattle.steps.specs.Text.{shown, span}
use Rattle.alignment.proofs.Along.{Along, along_more, along_stop, along_all}
use Rattle.alignment.proofs.Laying.{after_agreeing, after_differing}
use Rattle.alignment.specs.Laid.{laid_at, ComparedSo, alignment}
use Rattle.alignment.specs.Ready.{Taken, RepeatsReady}
use Rattle.run_state.proofs.Stretch.{stretch_differing, stretch_agreeing}
use Rattle.run_state.specs.Progress.{at, Standing, Stretch}

-- i comparisons of the repeat at b agreed, fewer than its row has
pub record Repeating (w t : List ℕ) (b i : ℕ) : Type 0 where
  pub fewer : i < period w
  pub along : Along w t b (row w true) i

module _ {w t : List ℕ} (taken : Taken w t) {b i : ℕ} (known : Repeating w t b i) where
  -- the position that is compared next
  abbrev position : ℕ
  position = length w - 1 - i

  pub in_pattern : i < length w
  in_pattern = omega (arith, known.fewer, (period_facts w taken.some).within)

  in_row : i < length (row w true)
  in_row = omega (arith, known.fewer, row_length w true taken.some)

  next : position ≡ get_or (row w true) i 0
  next = sym (rw (row_repeat w refl) (repeat_row_entry w i known.fewer))

  module _ (inside : b + length w ≤ length t) where
    shown_there : shown t (b + position) ≡ byte t (b + position)
    shown_there = shown_byte t (b + position) (omega (arith, in_pattern))

    in_text : b + length w ≤ span w t
    in_text = span_reaches w t taken.some b (omega (arith, taken.some))

    pub repeating_stop : {s : ℕ} → byte w position ≢ byte t (b + position) → ComparedSo w t (laid_at b s true) i
    repeating_stop d =
        record { inside = in_text; count = along_stop w t b (row w true) known.along in_row next (λ e. d (e ∙ shown_there)) }

    module _ (e : byte w position ≡ byte t (b + position)) where
      one_more : Along w t b (row w true) (i + 1)
      one_more = along_more w t b (row w true) known.along in_row next (e ∙ sym shown_there)

      pub repeating_more : i + 1 ≢ period w → Repeating w t b (i + 1)
      repeating_more d = record { fewer = omega (arith, known.fewer); along = one_more }

      pub repeating_all : {s : ℕ} → i + 1 ≡ period w → ComparedSo w t (laid_at b s true) (i + 1)
      repeating_all q =
          record { inside = in_text; count = along_all w t b (row w true) one_more (q ∙ sym (row_length w true taken.some)) }

module _
    {w t delta1 delta3 : List ℕ} {p : ℕ} (ready : RepeatsReady w t delta1 delta3 p) {b h n : ℕ} (standing : Standing w t (at (laid_at b p true) h n))
    {agreed : ℕ} (ended : ComparedSo w t (laid_at b p true) agreed) where
  whole : length (row w true) ≡ p
  whole = row_length w true ready.taken.some ∙ sym ready.period_is

  -- the steps go on from a repeat of which one comparison differed
  pub repeat_differing :
      {k : ℕ} → agreed < p → k ≡ (alignment w t (laid_at b p true)).shift →
      Stretch w t (at (laid_at b p true) h n) (at (laid_at (b + k) k false) h (n + agreed + 1)) []
  repeat_differing fewer shifted =
      let l : agreed < length (row w true) = omega (arith, whole) in
      rw (after_differing ready.taken ended shifted l) at (stretch_differing ready.taken standing ended l)

  -- and from one that is an occurrence
  pub repeat_agreeing : agreed ≡ p → Stretch w t (at (laid_at b p true) h n) (at (laid_at (b + p) p true) (h + 1) (n + p)) (b ∷ [])
  repeat_agreeing all =
      let e = all ∙ sym whole in
      rw (after_agreeing ready.taken ended e, ← ready.period_is, ready.long, all) at (stretch_agreeing ready.taken standing ended e)
