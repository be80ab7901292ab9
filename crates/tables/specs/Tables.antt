-- The tables of a pattern w of m bytes, by their sets (document 01, "The motif's tables"; document 002, sections 2 and 5; Δ2 and Δ3 as document 02 has them).
-- These are definitions.
use Rattle.std.specs.Prelude.{Bool, ◌&&◌, ◌||◌, cond, List, [], ◌∷◌, ◌++◌, map, ℕ, zero, suc, ◌+◌, ◌*◌, ◌-◌, ◌/◌, ◌%◌, ltb, leb, eqb, ℤ, pos, negsuc, length, get_or}
use Rattle.std.proofs.Math.IntN.{sub_ℕ}
use Rattle.tables.specs.Least.{least_from, all_from}
use Rattle.tables.specs.Sets.{byte, outside, Pos, Neg}

-- h_min(k), k from 1 to m: the least h at or above k - 1 such that k is outside Neg(w(j), j) for all j above h
unfoldable pub h_min : (w : List ℕ) → (k : ℕ) → ℕ
h_min w k =
    least_from (length w) (k - 1) λ h.
    all_from (length w - suc h) (suc h) λ j.
    outside (Neg w (byte w j) (pos j)) k

-- k_min(h): the least k from 1 to m with h_min(k) = h and h at least k; 0 if there is none
unfoldable pub k_min : (w : List ℕ) → (h : ℕ) → ℕ
k_min w h =
    let k = least_from (length w) 1 (λ k. eqb (h_min w k) h && leb k h) in
    cond (leb k (length w)) k 0

-- r_min(h): the least r above h with h_min(r) = r - 1
unfoldable pub r_min : (w : List ℕ) → (h : ℕ) → ℕ
r_min w h = least_from (length w) (suc h) λ r. eqb (h_min w r) (r - 1)

-- p, the period: the least p of 1 or more with w(i) = w(i + p) wherever both are in the pattern, so at most m
unfoldable pub period : (w : List ℕ) → ℕ
period w =
    least_from (length w - 1) 1 λ p.
    all_from (length w - p) 0 λ i.
    eqb (byte w i) (byte w (i + p))

-- the h below m - 1 with k_min(h) not 0, by rising k_min
unfoldable pub second_group_from : (count k : ℕ) → (w : List ℕ) → List ℕ
second_group_from zero k w = []
second_group_from (suc n) k w =
    let h = h_min w k in
    let later = second_group_from n (suc k) w in
    cond (ltb h (length w - 1) && eqb (k_min w h) k) (h ∷ later) later

unfoldable pub second_group : (w : List ℕ) → List ℕ
second_group w = second_group_from (length w) 1 w

-- the h below m - 1 with k_min(h) = 0, rising
unfoldable pub third_group_from : (count h : ℕ) → (w : List ℕ) → List ℕ
third_group_from zero h w = []
third_group_from (suc n) h w =
    let later = third_group_from n (suc h) w in
    cond (eqb (k_min w h) 0) (h ∷ later) later

unfoldable pub third_group : (w : List ℕ) → List ℕ
third_group w = third_group_from (length w - 1) 0 w

-- the order: h(1) = m - 1; then the other h with k_min(h) not 0, by rising k_min; then the remaining ones rising
unfoldable pub order : (w : List ℕ) → List ℕ
order w = (length w - 1) ∷ second_group w ++ third_group w

-- the order as it is stored: the entry after the last is -1
unfoldable pub stored_order : (w : List ℕ) → List ℤ
stored_order w = map pos (order w) ++ (negsuc 0 ∷ [])

-- h(i), i from 1 to m: entry i of the order
abbrev pub h_at : (w : List ℕ) → (i : ℕ) → ℕ
h_at w i = get_or (order w) (i - 1) 0

-- Δ2(i), i from 2 to m + 1 (document 02, "The longest honest step"): the least k of 1 or more outside Neg(w(h(j)), h(j)) for every j below i
-- and, for i up to m, outside Pos(w(h(i)), h(i))
unfoldable pub Δ2 : (w : List ℕ) → (i : ℕ) → ℕ
Δ2 w i =
    let m = length w in
    least_from m 1 λ k.
    let keeps : ℕ → Bool = λ h. outside (Neg w (byte w h) (pos h)) k in
    all_from (i - 1) 1 (λ j. keeps (h_at w j)) && (ltb m i || outside (Pos w (byte w (h_at w i)) (pos (h_at w i))) k)

-- the values of a table in their order, so many from an index on
unfoldable pub values_from : (count at : ℕ) → (value : ℕ → ℕ) → List ℕ
values_from zero i f = []
values_from (suc n) i f = f i ∷ values_from n (suc i) f

-- Δ2 as it is stored: entry i at i - 1, and 0 for i = 1
unfoldable pub stored_Δ2 : (w : List ℕ) → List ℕ
stored_Δ2 w = 0 ∷ values_from (length w) 2 (Δ2 w)

-- Δ1(c, s), s from 1 to m: the least k of 1 or more outside Neg(w(m-s-1), m-s-1) and outside Neg(c, m-1); for s = m the first set is empty
unfoldable pub Δ1 : (w : List ℕ) → (c s : ℕ) → ℕ
Δ1 w c s =
    let m = length w in
    least_from m 1 λ k.
    outside (Neg w (byte w (m - s - 1)) (sub_ℕ m (s + 1))) k && outside (Neg w c (pos (m - 1))) k

-- Δ1 as it is stored: Δ1(c, s) at c × m + s - 1 for all 256 values of c
unfoldable pub stored_Δ1 : (w : List ℕ) → List ℕ
stored_Δ1 w = values_from (256 * length w) 0 λ i. Δ1 w (i / length w) (i % length w + 1)

-- the pattern repeats (document 02, "Long repeats"): m is at least 3 × p
unfoldable pub repeats : (w : List ℕ) → Bool
repeats w = leb (3 * period w) (length w)

-- Δ3(i): the least k of 1 or more outside Pos(w(i), i), outside Neg(w(j), j) for j above i, and outside Neg(w(j), j) for j below m - p
unfoldable pub Δ3 : (w : List ℕ) → (i : ℕ) → ℕ
Δ3 w i =
    let m = length w in
    let p = period w in
    least_from m 1 λ k.
    let keeps : ℕ → Bool = λ j. outside (Neg w (byte w j) (pos j)) k in
    outside (Pos w (byte w i) (pos i)) k && all_from (m - suc i) (suc i) keeps && all_from (m - p) 0 keeps

-- Δ3 is defined for i from m - p to m - 2 where the pattern repeats
unfoldable pub Δ3_defined : (w : List ℕ) → (i : ℕ) → Bool
Δ3_defined w i = repeats w && leb (length w - period w) i && leb i (length w - 2)

-- Δ3 as it is stored: entry i at i, 0 wherever it is not defined
unfoldable pub stored_Δ3 : (w : List ℕ) → List ℕ
stored_Δ3 w = values_from (length w) 0 λ i. cond (Δ3_defined w i) (Δ3 w i) 0

-- so many numbers, falling from i on
unfoldable pub falling : (count i : ℕ) → List ℕ
falling zero i = []
falling (suc n) i = i ∷ falling n (i - 1)

-- the row of a repeat, in the order in which it is compared: m - 1 down to m - p
unfoldable pub repeat_row : (w : List ℕ) → List ℕ
repeat_row w = falling (period w) (length w - 1)

-- the shifts beside it, as Δ2 stands beside the order: 0 for the first entry, Δ3 for the others, p where all agree
unfoldable pub repeat_shifts : (w : List ℕ) → List ℕ
repeat_shifts w = 0 ∷ map (Δ3 w) (falling (period w - 1) (length w - 2)) ++ (period w ∷ [])
