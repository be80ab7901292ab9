-- What is promised of the tables: each is a type, and its proof is in proofs/ (docs/PROMISES.md). These are definitions.
use Rattle.std.specs.Prelude.{cond, List, [], ◌∷◌, ◌++◌, ◌≢◌, ◌⊎◌, ◌≡◌, ℕ, suc, ◌+◌, ◌-◌, ◌≤◌, ◌<◌, eqb, length, get_or}
use Rattle.tables.specs.Facts.{HMin, KMin, NoKMin, RMin, Period, FirstShift, LaterShift, RepeatShift}
use Rattle.tables.specs.Tables.{h_min, k_min, r_min, period, second_group, third_group, order, h_at, Δ1, Δ2, Δ3}

-- how often a number stands in a list
unfoldable pub times : (i : ℕ) → List ℕ → ℕ
times i [] = 0
times i (x ∷ xs) = cond (eqb x i) (suc (times i xs)) (times i xs)

-- the order is a permutation of the pattern positions: it has m entries, and each position stands in it once
abbrev pub OrderPermutes : (w : List ℕ) → Type 0
OrderPermutes w = (length (order w) ≡ length w) × ((i : ℕ) → i < length w → times i (order w) ≡ 1)

unfoldable pub OrderWhole : Type 0
OrderWhole = (w : List ℕ) → 1 ≤ length w → OrderPermutes w

-- along a list, what a key gives of its entries rises strictly
abbrev pub Rising : (key : ℕ → ℕ) → List ℕ → Type 0
Rising key xs = (i j : ℕ) → i < j → j < length xs → key (get_or xs i 0) < key (get_or xs j 0)

-- the order is m - 1, then the second group, then the third; all of both groups are below m - 1.
-- In the second k_min(h) is not 0 and rises along it; in the third k_min(h) is 0 and h rises
pub record ByRisingKMin (w : List ℕ) : Type 0 where
  pub groups : order w ≡ (length w - 1) ∷ second_group w ++ third_group w
  pub second : (i : ℕ) → i < length (second_group w) → (let h = get_or (second_group w) i 0 in (h < length w - 1) × (k_min w h ≢ 0))
  pub second_rises : Rising (k_min w) (second_group w)
  pub third : (i : ℕ) → i < length (third_group w) → (let h = get_or (third_group w) i 0 in (h < length w - 1) × (k_min w h ≡ 0))
  pub third_rises : Rising (λ h. h) (third_group w)

-- each table has its facts: h_min(k) for k from 1 to m, k_min(h) and r_min(h) for h below m, the
-- period, the order, Δ1(c, s) for any c and s from 1 to m, Δ2(i + 1) for i up to m, Δ3(i) for i
-- below m
pub record TableFacts (w : List ℕ) : Type 0 where
  pub h_min_right : (k : ℕ) → 1 ≤ k → k ≤ length w → HMin w k (h_min w k)
  pub k_min_right : (h : ℕ) → h < length w → ((k_min w h ≡ 0) × NoKMin w h) ⊎ KMin w h (k_min w h)
  pub r_min_right : (h : ℕ) → h < length w → RMin w h (r_min w h)
  pub period_right : Period w (period w)
  pub order_permutes : OrderPermutes w
  pub order_rises : ByRisingKMin w
  pub Δ1_right : (c s : ℕ) → 1 ≤ s → s ≤ length w → FirstShift w c s (Δ1 w c s)
  pub Δ2_right : (i : ℕ) → i ≤ length w → LaterShift w i (Δ2 w (suc i))
  pub Δ3_right : (i : ℕ) → i < length w → RepeatShift w i (Δ3 w i)

-- the tables of every pattern that is not empty are those of document 01, Δ2 and Δ3 as document 02
-- has them
unfoldable pub TablesRight : Type 0
TablesRight = (w : List ℕ) → 1 ≤ length w → TableFacts w

-- the shift beside an entry h of the order in document 002: k_min(h) in the second group, r_min(h) in the third
unfoldable pub minima_shift : (w : List ℕ) → (h : ℕ) → ℕ
minima_shift w h = cond (eqb (k_min w h) 0) (r_min w h) (k_min w h)

-- Δ2 is at least that shift, and where all agreed it is the period
pub record NotShorter (w : List ℕ) : Type 0 where
  pub beside_entry : (i : ℕ) → 2 ≤ i → i ≤ length w → minima_shift w (h_at w i) ≤ Δ2 w i
  pub at_end : Δ2 w (length w + 1) ≡ period w

unfoldable pub ShiftsNotShorter : Type 0
ShiftsNotShorter = (w : List ℕ) → 1 ≤ length w → NotShorter w
