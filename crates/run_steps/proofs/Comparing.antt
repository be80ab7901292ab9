-- The comparisons of one alignment by the order in progress: what the loop over them keeps, how it
-- ends, and how the steps go on from there. An entry of the order is read as a signed number: it is
-- a position, or -1 just after the last.
use mathlib.Core.Bool.{true, false}
use mathlib.Core.List.{List, [], ◌∷◌}
use mathlib.Core.Logic.{◌≢◌}
use mathlib.Core.Path.{◌≡◌, sym, ◌∙◌, ap}
use Prim.Native.Nat.{ℕ, ◌+◌, ◌≤◌, ◌<◌}
use native.Mathlib.Omega.{arith}
use borrow.Author.Tests.{le-ltb}
use lib.IntN.{ℤ, pos, negsuc, nat_abs}
use lib.ListN.{length, get_or}
use lib.Signed.{lt_z}
use Rattle.tables.proofs.Cases.{clash}
use Rattle.tables.proofs.Groups.{order_below, order_first, stored_order_end}
use Rattle.tables.proofs.Order.{order_length, stored_order_length}
use Rattle.tables.specs.Sets.{byte}
use Rattle.tables.specs.Tables.{period, order, stored_order, repeats}
use Rattle.steps.proofs.Rows.{row_order, row_length}
use Rattle.steps.proofs.Text.{shown_byte, span_reaches}
use Rattle.steps.specs.Steps.{agreeing, row}
use Rattle.steps.specs.Text.{shown, span}
use Rattle.alignment.proofs.Along.{Along, along_none, along_more, along_stop, along_all}
use Rattle.alignment.proofs.Laying.{by_period, after_agreeing, after_differing}
use Rattle.alignment.proofs.Stored.{begins_room, begins_entry, entry, order_read}
use Rattle.alignment.specs.Laid.{laid_at, ComparedSo, alignment}
use Rattle.alignment.specs.Ready.{Begins, Taken}
use Rattle.alignment.specs.declared.Laid.{Laid}
use Rattle.run_state.proofs.Stretch.{stretch_differing, stretch_agreeing}
use Rattle.run_state.specs.Progress.{at, Standing, Stretch, PassedDiffering}
use Rattle.run_state.specs.declared.Progress.{Progress}

-- i comparisons of the alignment by the order agreed, the first among them, if it ends inside the
-- text
pub record Comparing (w t : List ℕ) (x : Laid) (i : ℕ) : Type 0 where
  pub some : 1 ≤ i
  pub within : i ≤ length w
  pub along : x.position + length w ≤ length t → Along w t x.position (order w) i

-- the position that an entry of the order's buffer is, where it is not negative
abbrev pub position : (row : List ℤ) (i : ℕ) → ℕ
position row i = nat_abs (entry row i)

module _ {w t : List ℕ} (row : List ℤ) (taken : Taken w t) (ready : Begins (stored_order w) row) where
  whole : length (order w) ≡ length w
  whole = order_length w taken.some

  -- the first comparison agrees
  pub comparing_first : {x y : Progress} → PassedDiffering w t x y → Comparing w t y.laid 1
  comparing_first {y = y} passed =
      record {
        some = omega arith;
        within = taken.some;
        along = λ inside.
            along_more w t y.laid.position (order w) (along_none w t y.laid.position (order w)) (omega (arith, whole, taken.some))
            (sym (order_first w)) (passed.agrees inside);
      }

  module _ {x : Laid} {i : ℕ} (known : Comparing w t x i) where
    abbrev b : ℕ
    b = x.position

    in_table : i < length (stored_order w)
    in_table = omega (arith, known.within, stored_order_length w taken.some)

    pub in_buffer : i < length row
    in_buffer = omega (arith, in_table, begins_room (stored_order w) row ready)

    stored : get_or row i (pos 0) ≡ get_or (stored_order w) i (pos 0)
    stored = begins_entry (stored_order w) row ready i (pos 0) in_table

    at_position : i < length w → entry row i ≡ pos (get_or (order w) i 0)
    at_position l = order_read w row ready taken.some taken.few i l

    at_end : i ≡ length w → entry row i ≡ negsuc 0
    at_end e = let last : i ≡ length (order w) = omega (arith, whole) in rw (stored, last, stored_order_end w)

    -- the alignment ends inside the text
    module _ (inside : b + length w ≤ length t) where
      in_text : b + length w ≤ span w t
      in_text = span_reaches w t taken.some b (omega (arith, taken.some))

      compared : x.repeat ≡ false → i ≡ agreeing (shown t) w b (order w) → ComparedSo w t x i
      compared by_order e = record { inside = in_text; count = rw (row_order w by_order) e }

      -- the entry is negative: all agree
      pub comparing_all : x.repeat ≡ false → lt_z (entry row i) (pos 0) ≡ true → ComparedSo w t x i
      comparing_all by_order e =
          let not_before : ¬ (i < length w) = λ l. clash _ e (rw (at_position l) (le-ltb (get_or (order w) i 0) 0 (omega arith))) in
          compared by_order (along_all w t b (order w) (known.along inside) (omega (arith, whole, known.within)))

      -- it is not: it is the position that is compared next
      module _ (more : lt_z (entry row i) (pos 0) ≡ false) where
        pub in_order : i < length w
        in_order = let not_end : ¬ (i ≡ length w) = λ e. clash _ (rw (at_end e)) more in omega (arith, known.within)

        in_row : i < length (order w)
        in_row = omega (arith, in_order, whole)

        next : position row i ≡ get_or (order w) i 0
        next = ap nat_abs (at_position in_order)

        pub in_pattern : position row i < length w
        in_pattern = omega (arith, next, order_below w taken.some i in_row)

        same_byte : shown t (b + position row i) ≡ byte t (b + position row i)
        same_byte = shown_byte t (b + position row i) (omega (arith, in_pattern))

        pub comparing_more : byte w (position row i) ≡ byte t (b + position row i) → Comparing w t x (i + 1)
        comparing_more e =
            record {
              some = omega arith;
              within = omega (arith, in_order);
              along = λ u. along_more w t b (order w) (known.along u) in_row next (e ∙ sym same_byte);
            }

        pub comparing_stop : x.repeat ≡ false → byte w (position row i) ≢ byte t (b + position row i) → ComparedSo w t x i
        comparing_stop by_order d = compared by_order (along_stop w t b (order w) (known.along inside) in_row next (λ e. d (e ∙ same_byte)))

module _ {w t : List ℕ} (taken : Taken w t) {x : Progress} {agreed k : ℕ} (by_order : x.laid.repeat ≡ false) (standing : Standing w t x)
    (ended : ComparedSo w t x.laid agreed) (shifted : k ≡ (alignment w t x.laid).shift) where
  row_whole : length (row w x.laid.repeat) ≡ length w
  row_whole = row_length w x.laid.repeat taken.some ∙ rw by_order

  -- the steps go on from an alignment of which one comparison differed
  pub order_differing :
      agreed < length w → Stretch w t x (at (laid_at (x.laid.position + k) k false) x.occurrences (x.comparisons + agreed + 1)) []
  order_differing l =
      let fewer : agreed < length (row w x.laid.repeat) = omega (arith, row_whole) in
      rw (after_differing taken ended shifted fewer) at (stretch_differing taken standing ended fewer)

  -- and from an occurrence, by the period
  module _ (all : agreed ≡ length w) where
    pub period_is : k ≡ period w
    period_is = shifted ∙ by_period taken ended (all ∙ sym row_whole)

    pub order_agreeing :
        Stretch w t x (at (laid_at (x.laid.position + k) k (repeats w)) (x.occurrences + 1) (x.comparisons + length w)) (x.laid.position ∷ [])
    order_agreeing =
        let e = all ∙ sym row_whole in
        rw (after_agreeing taken ended e, ← period_is, all) at (stretch_agreeing taken standing ended e)
