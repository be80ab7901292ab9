-- Laws of the links between positions that have the same byte, and of a link that is added, with the row's end.
-- The last position below i by induction on i; entries of different rows, and of one row, stand apart in the table.
use mathlib.Core.List.{List}
use mathlib.Core.Logic.{◌≢◌, ⊎_elim}
use mathlib.Core.Path.{◌≡◌, refl, sym, ◌∙◌}
use Prim.Native.Nat.{ℕ, zero, suc, ◌+◌, ◌*◌, ◌-◌, ◌≤◌, ◌<◌}
use native.Mathlib.Numerals.{add-one}
use native.Mathlib.Omega.{arith}
use borrow.Author.Tests.{eq-eqb, ne_eqb}
use lib.ListN.{length, get_or, set, replicate, get_or-replicate}
use lib.Seq.{get_or-set_same, get_or-set_other}
use Rattle.tables.proofs.Cases.{eq_or_ne}
use Rattle.tables_delta1.proofs.Grid.{row_end, rows_apart}
use Rattle.tables_delta1.specs.Rows.{last_below, Linked, entry, RowEnds}
use Rattle.tables.specs.Sets.{byte}

module _ (w : List ℕ) (c : ℕ) where
  last_here : (i : ℕ) → byte w i ≡ c → last_below w c (suc i) ≡ suc i
  unfolding last_below
  last_here i e = rw (eq-eqb (byte w i) c e)

  last_other : (i : ℕ) → byte w i ≢ c → last_below w c (suc i) ≡ last_below w c i
  unfolding last_below
  last_other i d = rw (ne_eqb (byte w i) c d)

  last_none : last_below w c 0 ≡ 0
  unfolding last_below
  last_none = refl

  pub last_within : (i : ℕ) → last_below w c i ≤ i
  last_within zero = omega (arith, last_none)
  last_within (suc i) =
      ⊎_elim (λ e. omega (arith, last_here i e)) (λ d. omega (arith, last_other i d, last_within i)) (eq_or_ne (byte w i) c)

  -- each position below i that has the byte is at or below the last one
  pub last_above : (i j : ℕ) → j < i → byte w j ≡ c → j < last_below w c i
  last_above zero j h e = absurd (omega arith)
  last_above (suc i) j h e =
      ⊎_elim
      (λ q. omega (arith, last_here i q))
      (λ d. ⊎_elim (λ q. absurd (d (rw q at e))) (λ q. omega (arith, last_other i d, last_above i j (omega arith) e)) (eq_or_ne j i))
      (eq_or_ne (byte w i) c)

  -- the last one has the byte
  pub last_byte : (i j : ℕ) → last_below w c i ≡ suc j → byte w j ≡ c
  last_byte zero j e = absurd (omega (arith, last_none))
  last_byte (suc i) j e =
      ⊎_elim
      (λ q. let same : i ≡ j = omega (arith, last_here i q) in rw same at q)
      (λ d. last_byte i j (sym (last_other i d) ∙ e))
      (eq_or_ne (byte w i) c)

-- a table that is filled with m has the rows' ends for no position
pub filled_ends : (w : List ℕ) (n : ℕ) {table : List ℕ} → n ≡ 256 * length w → table ≡ replicate n (length w) → RowEnds w 0 table
filled_ends w n {table} whole filled =
    record {
      ends = λ c x b e. at c x b (omega arith) ∙ omega (arith, last_none w c);
      others = λ c x b h. at c x b (omega arith);
    }
  where
    at : (c x : ℕ) → c < 256 → x < length w → entry table (length w) c x ≡ length w
    at c x b h = rw filled (get_or-replicate n (c * length w + x) (length w) 0 (omega (arith, row_end (length w) c 256 b)))

-- what stands at a row's end, and the last position that has the byte, are m together
pub end_entry :
    (w : List ℕ) (c n end : ℕ) (table : List ℕ) →
    ((x : ℕ) → x + 1 ≡ length w → entry table (length w) c x ≡ length w - last_below w c n) →
    n < length w → end + 1 ≡ c * length w + length w → get_or table end 0 + last_below w c n ≡ length w
end_entry w c n end table r h e =
    let m = length w in
    let place : end ≡ c * m + (m - 1) = omega arith in
    rw (place, r (m - 1) (omega arith)) (omega (arith, last_within w c n))

-- a link that is added: it leads to the last position below i that has the byte of i
pub link_added :
    (w : List ℕ) (i : ℕ) (last : List ℕ) → Linked w i last → i + 1 < length last →
    Linked w (i + 1) (set last (i + 1) (last_below w (byte w i) i))
link_added w i last r h j b =
    ⊎_elim
    (λ e. rw e (get_or-set_same last (i + 1) (last_below w (byte w i) i) 0 h))
    (λ d. get_or-set_other last (i + 1) (j + 1) _ 0 (omega arith) ∙ r j (omega arith))
    (eq_or_ne j i)

-- with the end of the byte's row, the rows' ends are right for the positions below i + 1
pub end_added :
    {w table : List ℕ} {i : ℕ} → RowEnds w i table → (end : ℕ) →
    i + 1 < length w → end + 1 ≡ byte w i * length w + length w → end < length table →
    RowEnds w (i + 1) (set table end (length w - 1 - i))
end_added {w} {table} {i} r end h e l =
    record {
      ends = λ c x b q.
          ⊎_elim
          (same c x q)
          (λ d. rw (apart c x (omega arith) (λ g. absurd (d g)), add-one i, last_other w c i d) (r.ends c x b q))
          (eq_or_ne (byte w i) c);
      others = λ c x b q. apart c x (omega arith) (λ g. omega arith) ∙ r.others c x b q;
    }
  where
    m : ℕ
    m = length w

    same : (c x : ℕ) → x + 1 ≡ m → byte w i ≡ c → entry (set table end (m - 1 - i)) m c x ≡ m - last_below w c (i + 1)
    same c x q d =
        let place : c * m + x ≡ end = omega (arith, rw d at e) in
        rw (place, get_or-set_same table end (m - 1 - i) 0 l, add-one i, last_here w c i d) (omega arith)

    -- an entry of another row, and one before the row's end, is kept
    apart : (c x : ℕ) → x < m → (byte w i ≡ c → x + 1 ≢ m) → entry (set table end (m - 1 - i)) m c x ≡ entry table m c x
    apart c x b p =
        get_or-set_other table end (c * m + x) _ 0 (λ q.
        ⊎_elim
        (λ d. p d (omega (arith, rw d at e)))
        (λ d. rows_apart m (byte w i) c (m - 1) x (omega arith) b d (omega arith))
        (eq_or_ne (byte w i) c))
