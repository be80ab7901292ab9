-- No shift could be longer (document 02, "The longest honest step"): what the definition of each shift uses of a text, and the longest shift that
-- this allows. Each promise is a type, and its proof is in proofs/ (docs/PROMISES.md). These are definitions.
use Rattle.std.specs.Prelude.{true, false, List, ◌≢◌, ◌↔◌, ◌≡◌, ℕ, ◌+◌, ◌*◌, ◌-◌, ◌≤◌, ◌<◌, length, get_or}
use Rattle.answers.specs.Bytes.{Bytes}
use Rattle.answers.specs.declared.Answer.{Answer}
use Rattle.tables.specs.Buffers.{Tables}
use Rattle.tables.specs.Prepare.{PrepareOutcome}
use Rattle.tables.specs.Sets.{byte}
use Rattle.tables.specs.Tables.{period, order, h_at, Δ1, Δ2, Δ3, Δ3_defined}
use Rattle.steps.specs.Occurrences.{occurs}
use Rattle.steps.specs.Steps.{agreeing}
use Rattle.steps.specs.Text.{shown, span}

-- what Δ1(c, s) uses of a text f under the pattern laid at 0: position m - 1 shows c and, for s below m, position m - s - 1 the pattern's byte
pub record FirstFacts (w : List ℕ) (c s : ℕ) (f : ℕ → ℕ) : Type 0 where
  pub seen : f (length w - 1) ≡ c
  pub last : s < length w → f (length w - s - 1) ≡ byte w (length w - s - 1)

-- what Δ2(i) uses: position h(j) shows the pattern's byte for each j below i and, for i up to m, position h(i) another
pub record LaterFacts (w : List ℕ) (i : ℕ) (f : ℕ → ℕ) : Type 0 where
  pub agreed : (j : ℕ) → 1 ≤ j → j < i → f (h_at w j) ≡ byte w (h_at w j)
  pub differing : i ≤ length w → f (h_at w i) ≢ byte w (h_at w i)

-- what Δ3(i) uses: position i shows another byte than the pattern's, and each j above i and each j below m - p the pattern's
pub record RepeatFacts (w : List ℕ) (i : ℕ) (f : ℕ → ℕ) : Type 0 where
  pub differing : f i ≢ byte w i
  pub above : (j : ℕ) → i < j → j < length w → f j ≡ byte w j
  pub below : (j : ℕ) → j < length w - period w → f j ≡ byte w j

-- k is the longest shift that such facts allow: it is 1 or more, no text with these facts has an occurrence (find) before k from 1 on, and
-- some text (chain) of k + m bytes with these facts has one at k
pub record Longest (w : List ℕ) (Facts : (f : ℕ → ℕ) → Type 0) (k : ℕ) : Type 0 where
  pub positive : 1 ≤ k
  pub none_before : (f : ℕ → ℕ) (N j : ℕ) → Facts f → 1 ≤ j → j < k → occurs f N w j ≡ false
  pub reached : (t : List ℕ) × (length t ≡ k + length w) × Bytes t × Facts (shown t) × (occurs (shown t) (span w t) w k ≡ true)

-- every shift of the three tables is: Δ2 also for i = 1, and Δ3 also where the pattern does not repeat, for i from m - p to m - 1
pub record ShiftsLongest (w : List ℕ) : Type 0 where
  pub first : (c s : ℕ) → c < 256 → 1 ≤ s → s ≤ length w → Longest w (FirstFacts w c s) (Δ1 w c s)
  pub later : (i : ℕ) → 1 ≤ i → i ≤ length w + 1 → Longest w (LaterFacts w i) (Δ2 w i)
  pub repeat : (i : ℕ) → length w - period w ≤ i → i < length w → Longest w (RepeatFacts w i) (Δ3 w i)

unfoldable pub LongestShifts : Type 0
LongestShifts = (w : List ℕ) → Bytes w → 1 ≤ length w → ShiftsLongest w

-- every shift in the tables' buffers is a longest one: Δ1(c, s) at c × m + s - 1, Δ2(i) at i - 1,
-- and Δ3(i) at i where it is defined
pub record StoredLongest (w : List ℕ) (left : Tables) : Type 0 where
  pub first :
      (c s : ℕ) → c < 256 → 1 ≤ s → s ≤ length w → Longest w (FirstFacts w c s) (get_or left.delta1 (c * length w + s - 1) 0)
  pub later : (i : ℕ) → 2 ≤ i → i ≤ length w + 1 → Longest w (LaterFacts w i) (get_or left.delta2 (i - 1) 0)
  pub repeat : (i : ℕ) → Δ3_defined w i ≡ true → Longest w (RepeatFacts w i) (get_or left.delta3 i 0)

-- and `prepare`, where it is done, leaves such shifts
unfoldable pub PreparedLongest : Type 0
PreparedLongest =
    (w : List ℕ) (lent left : Tables) (r : Answer) → Bytes w → PrepareOutcome w lent left r → r.status ≡ 0 → StoredLongest w left

-- the facts of Δ2(i) are those of an alignment by the order: the text from b on has them just where i - 1 comparisons agree at b
unfoldable pub OrderFacts : Type 0
OrderFacts =
    (f : ℕ → ℕ) (w : List ℕ) (b i : ℕ) → 1 ≤ length w → 1 ≤ i → i ≤ length w + 1 →
    (agreeing f w b (order w) + 1 ≡ i) ↔ LaterFacts w i (λ x. f (b + x))
