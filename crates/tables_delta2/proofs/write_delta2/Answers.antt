-- `tables_delta2::write_delta2` meets its contract. The invariant: of Δ2 after its first entry, the
-- values from i on are left to be written; and in the second group the shifts are linked that keep
-- what the entries before i show. Assumes nothing.
use mathlib.Core.Logic.{inl, inr, ⊎_elim}
use Rattle.std.proofs.Common.{List, ℕ, ℤ, ◌≡◌, ◌+◌, ◌-◌, ◌≤◌, ◌<◌, length, get_or, sym, ◌∙◌, add-one, arith}
use Prim.Native.Nat.{min}
use lib.ListN.{set, length-set}
use Rattle.answers.proofs.Partly.{PartlyWritten, none_written, one_more}
use Rattle.tables_delta2.proofs.Ordered.{read, read_at, order_room}
use Rattle.tables_delta2.proofs.Values.{values, next_value, finished, LinkedAt}
use Rattle.tables_delta2.proofs.write_delta2.Goals as goal
use Rattle.tables_delta2.proofs.write_delta2.Goals.{then-lower-gt0, else-lower-gt0}
use Rattle.tables_delta2.specs.Links.{OrderStored, LeastLeft}
use Rattle.tables_minima.specs.Minima.{KMinTable, RMinTable}
use Rattle.tables.proofs.Cases.{le_or_lt}
use Rattle.tables.proofs.KMin.{k_min_cases}
use Rattle.tables.proofs.LaterShift.{Δ2_smaller, Δ2_third}
use Rattle.tables.proofs.Order.{third_follows}
use Rattle.tables.proofs.Stored.{values_length}
use Rattle.tables.specs.Tables.{k_min, r_min, order, Δ2}

-- the buffer has room for all
room : (w d : List ℕ) → length w + 1 ≤ length d → 1 + length (values w 1) ≤ length (set d 0 0)
room w d r = simp length-set (omega (arith, values_length (length w + 1 - 1) 2 (Δ2 w)))

-- entry i of the order, which the code reads as a position
module _ {w : List ℕ} {o : List ℤ} (s : OrderStored w o) (i : ℕ) (first : 1 ≤ i) (inside : i < length w) where
  abbrev h : ℕ
  h = get_or (order w) i 0

  h_below : h < length w
  h_below = (read s i inside).below

  -- the entries of k_min and r_min there
  k_read : (t : List ℕ) → KMinTable w t → get_or t (read_at o i) 0 ≡ k_min w h
  k_read t k = let at = read s i inside in rw at.back (k.entry h at.below)

  r_read : (t : List ℕ) → RMinTable w t → get_or t (read_at o i) 0 ≡ r_min w h
  r_read t r = let at = read s i inside in rw at.back (r.entry h at.below)

  -- in the third group the shift is r_min, and the next entry is of that group too
  module _ (none : k_min w h ≡ 0) where
    third_shift : Δ2 w (i + 1) ≡ r_min w h
    third_shift =
        rw add-one
        (Δ2_third w (omega arith) i (omega arith) (omega arith)
        (⊎_elim (λ z. z.1) (λ r. absurd (omega (arith, r.positive))) (k_min_cases w h h_below)))

    none_linked : {next : List ℕ} → LinkedAt w (i + 1) next
    none_linked u some = absurd (some (rw add-one (third_follows w (omega arith) i (omega arith) (omega arith) none)))

  second_value : (k v : ℕ) → LeastLeft w i k → v ≡ min k (r_min w h) → v ≡ Δ2 w (i + 1)
  second_value k v r chosen =
      rw add-one
      (Δ2_smaller w (omega arith) (omega arith) r.positive r.within r.left.0 r.unlike
      (λ j a b no_period keep unlike. r.least j a b (keep, λ p. absurd (no_period p)) unlike) v
      (⊎_elim (λ l. inr (l, omega arith)) (λ l. inl (l, omega arith)) (le_or_lt (r_min w h) k)))

  third_value : (k v : ℕ) → k_min w h ≡ 0 → k ≡ r_min w h → v ≡ min k (r_min w h) → v ≡ Δ2 w (i + 1)
  third_value k v none same chosen = let up : v ≡ r_min w h = omega arith in up ∙ sym (third_shift none)

  -- after an entry whose shift is written
  one_entry :
      (d : List ℕ) {d' : List ℕ} {v : ℕ} → length w + 1 ≤ length d → PartlyWritten 1 (set d 0 0) d' (values w 1) (values w i) i →
      v ≡ Δ2 w (i + 1) → PartlyWritten 1 (set d 0 0) (set d' i v) (values w 1) (values w (i + 1)) (i + 1)
  one_entry d r p e = rw e (one_more 1 _ (rw (next_value w i (omega arith)) at p) (room w d r))

pub loop-i-init : goal.loop-i-init
loop-i-init c = record {
  positive = omega arith;
  inside = omega (arith, c.requires.ordered.taken.some);
  linked = λ _ _. c.narrow.ensures.linked;
  written = none_written 1 _ _;
}

pub bounds-order-i : goal.bounds-order-i
bounds-order-i c = omega (arith, order_room c.requires.ordered)

pub overflow_cast-h : goal.overflow_cast-h
overflow_cast-h c = let at = read c.requires.ordered c.loop-i.i (omega arith) in rw at.back (tt, omega (arith, at.small))

pub bounds-k_min-h : goal.bounds-k_min-h
bounds-k_min-h c = let at = read c.requires.ordered c.loop-i.i (omega arith) in rw at.back (omega (arith, at.small))

pub bounds-r_min-h : goal.bounds-r_min-h
bounds-r_min-h c = let at = read c.requires.ordered c.loop-i.i (omega arith) in rw at.back (omega (arith, at.small))

pub narrow-k-requires-clause-linked : goal.narrow-k-requires-clause-linked
narrow-k-requires-clause-linked c =
    let k_is = k_read c.requires.ordered c.loop-i.i (omega arith) (omega arith) c.args.k_min.now c.requires.k_min in
    c.loop-i.invariant.linked (omega arith) (λ e. omega (arith, k_is, c.if-lower-gt0.true))

pub loop-i-preserved : goal.loop-i-preserved
loop-i-preserved c =
    let w = c.args.pattern.now in
    let i = c.loop-i.i in
    let s = c.requires.ordered in
    let first : 1 ≤ i = omega arith in
    let inside : i < length w = omega arith in
    let r_is = r_read s i first inside c.args.r_min.now c.requires.r_min in
    let k_is = k_read s i first inside c.args.k_min.now c.requires.k_min in
    let value = c.min.result in
    let k = c.if-lower-gt0.k in
    let chosen : value ≡ min k (r_min w (get_or (order w) i 0)) = rw (← r_is) c.min.ensures in
    let turn : (value ≡ Δ2 w (i + 1)) × LinkedAt w (i + 1) c.if-lower-gt0.next =
    elim c.if-lower-gt0.branch [
      | then-lower-gt0 t ↦
          let least : LeastLeft w i k = rw t.k-is t.narrow-k.ensures.least in
          (second_value s i first inside _ _ least chosen, λ _ _. rw t.next-is t.narrow-k.ensures.linked)
      | else-lower-gt0 t ↦
          let none : k_min w (get_or (order w) i 0) ≡ 0 = omega (arith, k_is, t.if-lower-gt0.false) in
          (third_value s i first inside _ _ none (t.k-is ∙ r_is) chosen, none_linked s i first inside none)
    ] in
    record {
      positive = omega arith;
      inside = omega arith;
      linked = turn.1;
      written = one_entry s i first inside _ c.requires.room c.loop-i.invariant.written turn.0;
    }

pub returns : goal.returns
returns c =
    let some = c.requires.ordered.taken.some in
    finished _ _ _ _ _ some (omega arith) (c.requires.r_min.entry 0 some) (room _ _ c.requires.room) c.loop-i.invariant.written
