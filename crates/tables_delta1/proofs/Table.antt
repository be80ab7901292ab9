-- The table of Δ1 while its rows are written, a position a turn: each entry is right, or m if the last position with its byte is to come.
-- The row's end tells whether a position is the last that has its byte; a row that is written is right, and the other rows are kept.
use mathlib.Core.List.{List}
use mathlib.Core.Logic.{◌≢◌, ◌⊎◌, inl, inr, ⊎_elim}
use mathlib.Core.Path.{◌≡◌, sym, ◌∙◌}
use Prim.Native.Nat.{ℕ, ◌+◌, ◌*◌, ◌-◌, ◌≤◌, ◌<◌}
use native.Mathlib.Numerals.{add-one}
use native.Mathlib.Omega.{arith}
use borrow.Rule.Slice.PartMut.{mid_of, put_mid, same_len_mid}
use lib.ListN.{length, get_or}
use Rattle.tables.proofs.Cases.{le_or_lt, eq_or_ne}
use Rattle.tables.proofs.FirstShift.{Δ1_facts}
use Rattle.tables_delta1.proofs.Grid.{row_end}
use Rattle.tables_delta1.proofs.Links.{last_within, last_byte, end_entry}
use Rattle.tables_delta1.proofs.Parts.{part_length, part_entry, put_in, put_before, put_after}
use Rattle.tables_delta1.proofs.Settled.{to_last, at_least}
use Rattle.tables_delta1.specs.Rows.{last_of, entry, RowEnds, RowBegun, RightRow, RowsBegun, RightTable}
use Rattle.tables.specs.Sets.{byte}
use Rattle.tables.specs.Tables.{Δ1}

-- Δ1(c, m) is the shift to the last position that has the byte, or m
end_right : (w : List ℕ) (c s : ℕ) → 1 ≤ s → s ≡ length w → Δ1 w c s + last_of w c ≡ length w
end_right w c s l e =
    let inside = last_within w c (length w - 1) in
    let least = to_last w c s l (omega arith) in
    ⊎_elim (λ h. omega (arith, (Δ1_facts w c s l (omega arith)).within)) (λ h. omega (arith, reached h)) (le_or_lt (last_of w c) 0)
  where
    reached : 0 < last_of w c → Δ1 w c s ≤ length w - last_of w c
    reached h =
        let inside = last_within w c (length w - 1) in
        let has = last_byte w c (length w - 1) (last_of w c - 1) (omega arith) in
        at_least w c s l (omega arith) (length w - last_of w c) (omega arith) (λ g q. absurd (omega arith))
        (λ g q b. let place : g - (length w - last_of w c) ≡ last_of w c - 1 = omega arith in rw place has)

-- an entry where the positions below i have had their turn
abbrev Turned : (w : List ℕ) (i c x entry : ℕ) → Type 0
Turned w i c x e = (e ≡ Δ1 w c (x + 1)) ⊎ ((e ≡ length w) × (i < last_of w c))

pub record TableSettled (w : List ℕ) (i : ℕ) (table : List ℕ) : Type 0 where
  pub entries : length table ≡ 256 * length w
  pub ends : (c x : ℕ) → c < 256 → x + 1 ≡ length w → entry table (length w) c x ≡ length w - last_of w c
  pub rows : (c x : ℕ) → c < 256 → x < length w → Turned w i c x (entry table (length w) c x)

module _ {w table : List ℕ} where
  pub table_first : length table ≡ 256 * length w → RowEnds w (length w - 1) table → TableSettled w 0 table
  table_first n r =
      record { entries = n; ends = r.ends; rows = λ c x b u. ⊎_elim (at_end c x b) (before_end c x b u) (eq_or_ne (x + 1) (length w)) }
    where
      at_end : (c x : ℕ) → c < 256 → x + 1 ≡ length w → Turned w 0 c x (entry table (length w) c x)
      at_end c x b e = inl (r.ends c x b e ∙ omega (arith, end_right w c (x + 1) (omega arith) e))

      before_end : (c x : ℕ) → c < 256 → x < length w → x + 1 ≢ length w → Turned w 0 c x (entry table (length w) c x)
      before_end c x b u d =
          let is_m = r.others c x b (omega arith) in
          let facts = Δ1_facts w c (x + 1) (omega arith) (omega arith) in
          let least = to_last w c (x + 1) (omega arith) (omega arith) in
          ⊎_elim (λ e. inl (is_m ∙ omega arith)) (λ e. inr (is_m, e)) (le_or_lt (last_of w c) 0)

  pub table_right : TableSettled w (length w - 1) table → RightTable w table
  table_right p c x h b = ⊎_elim (λ e. e) (λ e. absurd (omega (arith, last_within w c (length w - 1)))) (p.rows c x h b)

-- the turn of position i
module _ {w table : List ℕ} {i : ℕ} (p : TableSettled w i table) (h : i + 1 < length w) (b : byte w i < 256) where
  at_end : get_or table (byte w i * length w + length w - 1) 0 + last_of w (byte w i) ≡ length w
  at_end = end_entry w (byte w i) (length w - 1) _ table (λ x. p.ends (byte w i) x b) (omega arith) (omega arith)

  -- where i is not the last position that has c, that one is to come
  turned : (c x : ℕ) → (byte w i ≡ c → last_of w c ≢ i + 1) → c < 256 → x < length w → Turned w (i + 1) c x (entry table (length w) c x)
  turned c x d g u =
      let other : last_of w c ≢ i + 1 = λ e. d (last_byte w c (length w - 1) i (e ∙ add-one i)) e in
      ⊎_elim inl (λ q. inr (q.0, omega arith)) (p.rows c x g u)

  -- the position is not the last that has its byte, and nothing is written
  pub row_passed : get_or table (byte w i * length w + length w - 1) 0 ≢ length w - 1 - i → TableSettled w (i + 1) table
  row_passed d =
      record { entries = p.entries; ends = p.ends; rows = λ c x. turned c x (λ e n. d (omega (arith, at_end, rw (← e) at n))) }

  -- or it is, and its row is written
  within : byte w i * length w + length w ≤ length table
  within = omega (arith, row_end (length w) (byte w i) 256 b, p.entries)

  pub row_begun :
      {reversed last before : List ℕ} → RowsBegun w reversed last before →
      get_or table (byte w i * length w + length w - 1) 0 ≡ length w - 1 - i →
      RowBegun w reversed last i (mid_of (byte w i * length w) (length w) table)
  row_begun r q =
      record {
        short = r.sizes.short;
        within = h;
        is_last = omega (arith, at_end);
        reversed_room = r.reversed_room;
        is_reversed = r.is_reversed;
        links_room = r.sizes.links;
        linked = r.linked;
        entries = part_length _ _ table within;
        begun = λ x u. rw (part_entry _ _ table within x u) (⊎_elim inl (λ a. inr a.0) (p.rows (byte w i) x b u));
      }

  pub row_written :
      (row : List ℕ) → length row ≡ length (mid_of (byte w i * length w) (length w) table) → RightRow w (byte w i) row →
      TableSettled w (i + 1) (put_mid (byte w i * length w) (length w) table row)
  row_written row n r =
      record {
        entries = same_len_mid (byte w i * length w) (length w) table row n ∙ p.entries;
        ends = λ c x g u.
            ⊎_elim
            (λ q. written c x q (omega arith) ∙ omega (arith, end_right w c (x + 1) (omega arith) u))
            (λ q. kept c x q (omega arith) ∙ p.ends c x g u)
            (eq_or_ne c (byte w i));
        rows = λ c x g u.
            ⊎_elim (λ q. inl (written c x q u)) (λ q. rw (kept c x q u) (turned c x (λ e. absurd (q (sym e))) g u)) (eq_or_ne c (byte w i));
      }
    where
      after : List ℕ
      after = put_mid (byte w i * length w) (length w) table row

      fits : length row ≡ length w
      fits = n ∙ part_length _ _ table within

      written : (c x : ℕ) → c ≡ byte w i → x < length w → entry after (length w) c x ≡ Δ1 w c (x + 1)
      written c x q u = rw q (put_in _ _ table within row fits x u ∙ r x u)

      kept : (c x : ℕ) → c ≢ byte w i → x < length w → entry after (length w) c x ≡ entry table (length w) c x
      kept c x q u =
          ⊎_elim
          (λ l. put_after _ _ table within row fits (c * length w + x) (omega (arith, row_end (length w) (byte w i) c (omega arith))))
          (λ l. put_before _ _ table within row fits (c * length w + x) (omega (arith, row_end (length w) c (byte w i) l)))
          (le_or_lt (byte w i) c)
