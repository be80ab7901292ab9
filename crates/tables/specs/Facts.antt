-- What each table of a pattern holds, as propositions. Every entry is the least number that its
-- sets allow: every smaller shift is refuted. `TablesRight` in Promises says that the tables have
-- these facts. The theorems of the steps go by them and unfold no table. These are definitions.
use Rattle.std.specs.Prelude.{List, ◌≢◌, ◌⊎◌, ◌≡◌, ℕ, suc, ◌+◌, ◌-◌, ◌≤◌, ◌<◌, length, get_or}
use Rattle.tables.specs.Sets.{byte}
use Rattle.tables.specs.Tables.{h_min, period, order}

-- k is in Pos(c, i), in Neg(c, i), outside Neg(c, i)
abbrev pub InPos : (w : List ℕ) → (c i k : ℕ) → Type 0
InPos w c i k = (k ≤ i) × (byte w (i - k) ≡ c)

abbrev pub InNeg : (w : List ℕ) → (c i k : ℕ) → Type 0
InNeg w c i k = (k ≤ i) × (byte w (i - k) ≢ c)

abbrev pub OutNeg : (w : List ℕ) → (c i k : ℕ) → Type 0
OutNeg w c i k = k ≤ i → byte w (i - k) ≡ c

-- the pattern has period k: w(i) = w(i + k) wherever both are in the pattern
abbrev pub HasPeriod : (w : List ℕ) → (k : ℕ) → Type 0
HasPeriod w k = (i : ℕ) → i + k < length w → byte w i ≡ byte w (i + k)

-- h is h_min(k): it is at or above k - 1 and below m, and k is outside Neg(w(j), j) for all j above
-- h. No smaller h is so: h is k - 1, or k is in Neg(w(h), h)
pub record HMin (w : List ℕ) (k h : ℕ) : Type 0 where
  pub low : k ≤ suc h
  pub high : h < length w
  pub outside : (j : ℕ) → h < j → j < length w → OutNeg w (byte w j) j k
  pub least : k ≤ h → InNeg w (byte w h) h k

-- k is k_min(h), not 0: the least k of 1 or more with h_min(k) = h, and h is at least k
pub record KMin (w : List ℕ) (h k : ℕ) : Type 0 where
  pub positive : 1 ≤ k
  pub within : k ≤ h
  pub value : h_min w k ≡ h
  pub least : (j : ℕ) → 1 ≤ j → j < k → h_min w j ≢ h

-- k_min(h) is 0: there is no k from 1 to m with h_min(k) = h and h at least k
abbrev pub NoKMin : (w : List ℕ) → (h : ℕ) → Type 0
NoKMin w h = (k : ℕ) → 1 ≤ k → k ≤ h → h_min w k ≢ h

-- r is r_min(h): the least r above h with h_min(r) = r - 1, and it is at most m
pub record RMin (w : List ℕ) (h r : ℕ) : Type 0 where
  pub above : h < r
  pub within : r ≤ length w
  pub value : suc (h_min w r) ≡ r
  pub least : (j : ℕ) → h < j → j < r → suc (h_min w j) ≢ j

-- p is the period: the least k of 1 or more such that the pattern has period k, and it is at most m
pub record Period (w : List ℕ) (p : ℕ) : Type 0 where
  pub positive : 1 ≤ p
  pub within : p ≤ length w
  pub value : HasPeriod w p
  pub least : (j : ℕ) → 1 ≤ j → j < p → HasPeriod w j → ⊥

-- k is Δ1(c, s), s from 1 to m: the least k of 1 or more outside Neg(w(m - s - 1), m - s - 1) and
-- outside Neg(c, m - 1). Each of these positions is called g; for s = m there is only the second
pub record FirstShift (w : List ℕ) (c s k : ℕ) : Type 0 where
  pub positive : 1 ≤ k
  pub within : k ≤ length w
  pub outside_last : (g : ℕ) → g + s + 1 ≡ length w → OutNeg w (byte w g) g k
  pub outside_seen : (g : ℕ) → g + 1 ≡ length w → OutNeg w c g k
  pub least :
      (j : ℕ) → 1 ≤ j → j < k →
      ((g : ℕ) × (g + s + 1 ≡ length w) × InNeg w (byte w g) g j) ⊎ ((g : ℕ) × (g + 1 ≡ length w) × InNeg w c g j)

-- the first i entries of the order agreed, and the next one, if there is one, differed: this
-- refutes a shift j that is in Neg(w(h), h) for an h that agreed, or in Pos(w(h), h) for the h that
-- differed
pub data Refuted (w : List ℕ) (i j : ℕ) : Type 0 where
  by_agreed : (x : ℕ) → x < i → (let h = get_or (order w) x 0 in InNeg w (byte w h) h j) → Refuted w i j
  by_differing : i < length w → (let h = get_or (order w) i 0 in InPos w (byte w h) h j) → Refuted w i j

-- a shift k keeps what the first i entries h of the order show: it is outside Neg(w(h), h)
abbrev pub Kept : (w : List ℕ) → (i k : ℕ) → Type 0
Kept w i k = (x : ℕ) → x < i → (let h = get_or (order w) x 0 in OutNeg w (byte w h) h k)

-- a shift k lays no byte equal to w(h) onto the next entry h, if there is one: it is outside
-- Pos(w(h), h)
abbrev pub Unlike : (w : List ℕ) → (i k : ℕ) → Type 0
Unlike w i k = i < length w → (let h = get_or (order w) i 0 in InPos w (byte w h) h k → ⊥)

-- k is Δ2(i + 1), for i up to m: the shift where i comparisons agreed. It is stored at i, but for
-- Δ2(1), in whose place 0 is stored
pub record LaterShift (w : List ℕ) (i k : ℕ) : Type 0 where
  pub positive : 1 ≤ k
  pub within : k ≤ length w
  pub outside_agreed : Kept w i k
  pub outside_differing : Unlike w i k
  -- every smaller shift is refuted
  pub least : (j : ℕ) → 1 ≤ j → j < k → Refuted w i j

-- position i of a repeat differed. The text's byte at pattern position g is then known to be w(g):
-- g is above i, and agreed in the repeat, or below m - p, where the occurrence before it shows so
abbrev pub Known : (w : List ℕ) → (i g : ℕ) → Type 0
Known w i g = (g < length w) × ((i < g) ⊎ (g + period w < length w))

-- k is Δ3(i): the least k of 1 or more outside Pos(w(i), i) and outside Neg(w(g), g) for each
-- known g
pub record RepeatShift (w : List ℕ) (i k : ℕ) : Type 0 where
  pub positive : 1 ≤ k
  pub within : k ≤ length w
  pub outside_differing : InPos w (byte w i) i k → ⊥
  pub outside_known : (g : ℕ) → Known w i g → OutNeg w (byte w g) g k
  -- every smaller shift is refuted
  pub least : (j : ℕ) → 1 ≤ j → j < k → InPos w (byte w i) i j ⊎ ((g : ℕ) × Known w i g × InNeg w (byte w g) g j)
