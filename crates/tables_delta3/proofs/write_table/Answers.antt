-- `tables_delta3::write_table` meets its contract: all entries are 0; where the pattern repeats,
-- the last p are r_min's, then lowered, and the last one is put back to 0. Assumes nothing.
use Rattle.std.proofs.Common.{◌≡◌, ◌∙◌, ◌+◌, ◌*◌, ◌-◌, ◌<◌, ◌≤◌, ℕ, ℤ, List, ◌++◌, arith, sym, length, get_or}
use mathlib.Core.Logic.{⊎_elim}
use borrow.Rule.Slice.PartMut.{mid_of, put_mid, same_len_mid}
use lib.ListN.{set, take, drop, replicate, get_or-append, get_or-replicate, length-set, length-drop, length-replicate}
use lib.Seq.{ext_get_or, length-take-le, get_or-append-add, get_or-drop, get_or-take}
use Rattle.tables.proofs.Cases.{le_or_lt}
use Rattle.tables.proofs.Periods.{period_facts, period_r_min}
use Rattle.tables.proofs.RepeatRow.{repeats_holds, repeats_is}
use Rattle.tables.proofs.RepeatShift.{Δ3_defined_at, Δ3_defined_bounds}
use Rattle.tables.proofs.RepeatShift.{stored_Δ3_length, stored_Δ3_defined, stored_Δ3_none}
use Rattle.tables.specs.Tables.{r_min, period, Δ3, stored_Δ3}
use Rattle.tables_delta3.proofs.write_table.Goals as goal
use Rattle.tables_delta3.specs.Values.{Zeros, ValuesFrom}
use Rattle.tables_minima.proofs.Stores.{stored}
use Rattle.tables_minima.specs.Minima.{HMinTable, RMinTable}

-- the period is read from r_min's table
module _ {w : List ℕ} {hs : List ℤ} {rs : List ℕ} (hm : HMinTable w hs) (rm : RMinTable w rs) where
  period_read : (get_or rs 0 0 ≡ period w) × (period w ≤ 128)
  period_read =
      let some = hm.taken.some in
      (rm.entry 0 some ∙ sym (period_r_min w some), omega (arith, (period_facts w some).within, hm))

  -- r_min's entries from b on are copied into a table of zeros
  copied :
      (b k k' : ℕ) (zs ys : List ℕ) → b + k ≡ length w → k' ≡ k → length w ≤ length rs → length zs ≡ length w → Zeros zs →
      ys ≡ mid_of b k rs → ValuesFrom b (r_min w) (put_mid b k' zs ys)
  copied b k k' zs ys whole same long n zero e i u =
      (λ l. let there : b + (i - b) ≡ i = omega arith in rw there at (from_b (i - b) (omega (arith, inside))), before_b)
    where
      front : length (take b zs) ≡ b
      front = length-take-le b zs (omega arith)

      part : length ys ≡ k
      part = rw e (length-take-le k (drop b rs) (simp length-drop (omega arith)))

      inside : i < length w
      inside = omega (arith, same_len_mid b k' zs ys (rw same (part ∙ sym (length-take-le k (drop b zs) (simp length-drop (omega arith))))))

      from_b : (j : ℕ) → j < k → get_or (put_mid b k' zs ys) (b + j) 0 ≡ r_min w (b + j)
      from_b j l =
          let past = rw front at (get_or-append-add (take b zs) (ys ++ drop k' (drop b zs)) j 0) in
          let read = rw (← e) at (get_or-take k (drop b rs) j 0 l) ∙ get_or-drop b rs j 0 in
          past ∙ get_or-append ys _ 0 j (omega (arith, part)) ∙ read ∙ rm.entry (b + j) (omega arith)

      before_b : i < b → get_or (put_mid b k' zs ys) i 0 ≡ 0
      before_b l =
          get_or-append (take b zs) _ 0 i (omega (arith, front)) ∙ get_or-take b zs i 0 l ∙ zero i (omega (arith, inside))

zeros : (n : ℕ) (zs : List ℕ) → zs ≡ replicate n 0 → Zeros zs
zeros n zs e i u = rw e (get_or-replicate n i 0 0 (rw (e, length-replicate) at u))

-- the table of a pattern that repeats, and of one that does not
module _ (w t : List ℕ) (e : length t ≡ length w) where
  all-lowered :
      3 * period w ≤ length w → 1 ≤ length w → ValuesFrom (length w - period w) (Δ3 w) t → set t (length w - 1) 0 ≡ stored_Δ3 w
  all-lowered h b v =
      let m = length w in
      let repeat = repeats_is w h in
      ext_get_or 0 (set t (m - 1) 0) (stored_Δ3 w) (length-set t _ 0 ∙ e ∙ sym (stored_Δ3_length w)) (λ i u.
      let i<m : i < m = omega (arith, e, length-set t (m - 1) 0) in
      stored (λ j x. j < m → x ≡ get_or (stored_Δ3 w) j 0) 0 t (m - 1) 0 (omega (arith, e))
      (λ q. sym (stored_Δ3_none w (m - 1) q (λ d. omega (arith, Δ3_defined_bounds w (m - 1) d))))
      i
      (λ n q.
      ⊎_elim
      (λ l. (v i (omega (arith, e))).0 l ∙ sym (stored_Δ3_defined w i q (Δ3_defined_at w i repeat (omega arith) (omega arith))))
      (λ l. (v i (omega (arith, e))).1 l ∙ sym (stored_Δ3_none w i q (λ d. omega (arith, Δ3_defined_bounds w i d))))
      (le_or_lt (m - period w) i))
      i<m)

  all-zeros : length w < 3 * period w → Zeros t → t ≡ stored_Δ3 w
  all-zeros h z =
      ext_get_or 0 t (stored_Δ3 w) (e ∙ sym (stored_Δ3_length w)) (λ i u.
      let i<m : i < length w = omega (arith, e) in
      z i u ∙ sym (stored_Δ3_none w i i<m (λ d. omega (arith, repeats_holds w (Δ3_defined_bounds w i d).0))))

pub lower_last-requires-clause-period : goal.lower_last-requires-clause-period
lower_last-requires-clause-period c = (period_read c.requires.h_min c.requires.r_min).0

pub lower_last-requires-clause-values : goal.lower_last-requires-clause-values
lower_last-requires-clause-values c =
    let w = c.args.pattern.now in
    let p = period_read c.requires.h_min c.requires.r_min in
    copied c.requires.h_min c.requires.r_min (length w - get_or c.args.r_min.now 0 0) _ _ _ _ (omega arith) (omega arith)
    (omega arith) (omega arith) (zeros _ _ (c.fill.ensures.after (λ y e. e))) c.copy_from_slice.ensures.after

pub returns-then-p-m : goal.returns-then-p-m
returns-then-p-m c =
    let is-period = (period_read c.requires.h_min c.requires.r_min).0 in
    all-lowered _ c.lower_last.new.table (omega arith) (omega arith) (omega arith) (rw is-period at c.lower_last.ensures)

pub returns-else-p-m : goal.returns-else-p-m
returns-else-p-m c =
    let is-period = (period_read c.requires.h_min c.requires.r_min).0 in
    all-zeros _ _ (omega arith) (omega arith) (zeros _ _ (c.fill.ensures.after (λ y e. e)))
