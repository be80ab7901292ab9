-- The two groups from a number on: the entry of that number, where it has one, and the rest. The order as it is stored.
-- By the groups' recursion; in the second group k_min is not 0, in the third it is.
use mathlib.Core.Bool.{true, false, cond}
use mathlib.Core.List.{List, [], ◌∷◌, ◌++◌, map}
use mathlib.Core.Logic.{◌≢◌}
use mathlib.Core.Path.{◌≡◌, refl}
use Prim.Native.Nat.{ℕ, zero, suc, ◌+◌, ◌-◌, ◌≤◌, ◌<◌}
use native.Mathlib.Numerals.{add-one}
use native.Mathlib.Omega.{arith}
use borrow.Author.Tests.{eq-eqb, ne_eqb}
use lib.Dec.{eqb}
use lib.IntN.{pos, negsuc}
use lib.ListN.{length, get_or, length-map}
use lib.Seq.{get_or_at}
use Rattle.tables.proofs.Order.{rank_below, in_second, order_length, order_at}
use Rattle.tables.specs.Tables.{h_min, k_min, second_group_from, second_group, third_group_from, third_group, order, stored_order}

-- what the groups have from a number on
abbrev pub second_from : (w : List ℕ) (k : ℕ) → List ℕ
second_from w k = second_group_from (length w + 1 - k) k w

abbrev pub third_from : (w : List ℕ) (h : ℕ) → List ℕ
third_from w h = third_group_from (length w - 1 - h) h w

pub second_all : (w : List ℕ) → second_from w 1 ≡ second_group w
unfolding second_group
second_all w = let all : length w + 1 - 1 ≡ length w = omega arith in rw all

module _ (w : List ℕ) (k : ℕ) (u : k ≤ length w) where
  second_unfolds : second_from w k ≡ cond (in_second w k) (h_min w k ∷ second_from w (k + 1)) (second_from w (k + 1))
  unfolding second_group_from
  second_unfolds =
      let n = length w - k in
      let left : length w + 1 - k ≡ suc n = omega (arith, u) in
      let later : length w + 1 - (k + 1) ≡ n = omega (arith, u) in
      rw (left, later, add-one)

  pub second_here : in_second w k ≡ true → second_from w k ≡ h_min w k ∷ second_from w (k + 1)
  second_here e = rw (second_unfolds, e)

  pub second_not_here : in_second w k ≡ false → second_from w k ≡ second_from w (k + 1)
  second_not_here e = rw (second_unfolds, e)

pub second_end : (w : List ℕ) (k : ℕ) → length w < k → second_from w k ≡ []
unfolding second_group_from
second_end w k b = let none : length w + 1 - k ≡ 0 = omega arith in rw none

pub third_all : (w : List ℕ) → third_from w 0 ≡ third_group w
unfolding third_group
third_all w = let all : length w - 1 - 0 ≡ length w - 1 = omega arith in rw all

module _ (w : List ℕ) (h : ℕ) (u : h + 1 < length w) where
  third_unfolds : third_from w h ≡ cond (eqb (k_min w h) 0) (h ∷ third_from w (h + 1)) (third_from w (h + 1))
  unfolding third_group_from
  third_unfolds =
      let n = length w - 2 - h in
      let left : length w - 1 - h ≡ suc n = omega (arith, u) in
      let later : length w - 1 - (h + 1) ≡ n = omega (arith, u) in
      rw (left, later, add-one)

  pub third_here : k_min w h ≡ 0 → third_from w h ≡ h ∷ third_from w (h + 1)
  third_here e = rw (third_unfolds, eq-eqb (k_min w h) 0 e)

  pub third_not_here : k_min w h ≢ 0 → third_from w h ≡ third_from w (h + 1)
  third_not_here e = rw (third_unfolds, ne_eqb (k_min w h) 0 e)

pub third_end : (w : List ℕ) (h : ℕ) → length w ≤ h + 1 → third_from w h ≡ []
unfolding third_group_from
third_end w h b = let none : length w - 1 - h ≡ 0 = omega arith in rw none

-- an entry of a list that is mapped, with more after it
pub front :
    {A : Type 0} (f : ℕ → A) (xs : List ℕ) (ys : List A) (d : A) (i : ℕ) → i < length xs →
    get_or (map f xs ++ ys) i d ≡ f (get_or xs i 0)
front f [] ys d i u = absurd (omega arith)
front f (x ∷ xs) ys d zero u = refl
front f (x ∷ xs) ys d (suc i) u = front f xs ys d i (omega arith)

-- the order as it is stored, with -1 after the last entry
module _ (w : List ℕ) where
  pub order_first : get_or (order w) 0 0 ≡ length w - 1
  unfolding order
  order_first = refl

  pub order_below : 1 ≤ length w → (i : ℕ) → i < length (order w) → get_or (order w) i 0 < length w
  order_below b i l = let (v, late, rank, before) = order_at w b i l in rank_below w rank

  pub order_inside : 1 ≤ length w → (i : ℕ) → i < length w → get_or (order w) i 0 < length w
  order_inside b i l = order_below b i (omega (arith, order_length w b))

  pub stored_order_entry : (i : ℕ) → i < length (order w) → get_or (stored_order w) i (pos 0) ≡ pos (get_or (order w) i 0)
  unfolding stored_order
  stored_order_entry i l = front pos (order w) (negsuc 0 ∷ []) (pos 0) i l

  pub stored_order_end : get_or (stored_order w) (length (order w)) (pos 0) ≡ negsuc 0
  unfolding stored_order
  stored_order_end = get_or_at (map pos (order w)) (negsuc 0) [] (pos 0) (length (order w)) (length-map (order w) pos)
