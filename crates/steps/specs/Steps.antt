-- The steps of a search with every comparison (document 01, "The steps"; document 02, "Long repeats"), over any text: f shows the byte at a
-- position, and the positions below N are shown. A text t has f = shown t and N = span w t. These are definitions.
use Rattle.std.specs.Prelude.{Bool, false, ◌&&◌, cond, List, [], ◌∷◌, ◌++◌, map, ℕ, zero, suc, ◌+◌, ◌-◌, leb, eqb, length, get_or, take}
use Rattle.tables.specs.Sets.{byte}
use Rattle.tables.specs.Tables.{order, Δ1, stored_Δ2, repeats, repeat_row, repeat_shifts}
use Rattle.steps.specs.Text.{shown, span}

-- a look: one comparison, known by its pattern position (motif place) i and its text position (chain place) b + i
pub record Comparison : Type 0 where
  pub pattern_position : ℕ
  pub text_position : ℕ

-- the pattern laid at a position b: whether it is a repeat, the pattern positions in the order in which they are compared, how many of them
-- agreed before one differed, and the shift s that is then added to b
pub record Alignment : Type 0 where
  pub position : ℕ
  pub repeat : Bool
  pub row : List ℕ
  pub agreed : ℕ
  pub shift : ℕ

-- how many comparisons agree along a row of pattern positions, until one differs or all agree
unfoldable pub agreeing : (f : ℕ → ℕ) → (w : List ℕ) → (b : ℕ) → (row : List ℕ) → ℕ
agreeing f w b [] = 0
agreeing f w b (i ∷ row) =
    let later = suc (agreeing f w b row) in
    cond (eqb (byte w i) (f (b + i))) later 0

-- the row that an alignment goes by: the order h(1), h(2) and on, or in a repeat m - 1 down to m - p
unfoldable pub row : (w : List ℕ) → (repeat : Bool) → List ℕ
row w repeat = cond repeat (repeat_row w) (order w)

-- the shifts beside it, at the number that agreed: Δ2, or in a repeat Δ3 of the position that differs, and p where all agree
unfoldable pub shifts : (w : List ℕ) → (repeat : Bool) → List ℕ
shifts w repeat = cond repeat (repeat_shifts w) (stored_Δ2 w)

-- one step at b, s the last shift, in a repeat p: look at m - 1; if it differs, s becomes Δ1(byte seen, s); if it agrees, look at the others of
-- the row until one differs or all agree, and s becomes the shift beside it: Δ2(i) for h(i), i = m + 1 where all agree, stored at i - 1; in a
-- repeat Δ3(i) for position i, and p where all agree
unfoldable pub step : (f : ℕ → ℕ) → (w : List ℕ) → (b s : ℕ) → (repeat : Bool) → Alignment
step f w b s repeat =
    let agreed = agreeing f w b (row w repeat) in
    let first = Δ1 w (f (b + (length w - 1))) s in
    record {
      position = b;
      repeat = repeat;
      row = row w repeat;
      agreed = agreed;
      shift = cond (eqb agreed 0) first (get_or (shifts w repeat) agreed 0);
    }

-- all agree: b is an occurrence (find)
unfoldable pub is_occurrence : Alignment → Bool
is_occurrence a = eqb a.agreed (length a.row)

-- the alignment after this one is a repeat: after an occurrence, where m is at least 3 × p
unfoldable pub repeat_after : (w : List ℕ) → Alignment → Bool
repeat_after w a = is_occurrence a && repeats w

-- the steps from b on, s the last shift: while b + m is at most N, an alignment at b, and its shift is added to b.
-- The fuel bounds how many there are; it is never short (`FuelEnough` of Promises)
unfoldable pub alignments_from :
    (fuel : ℕ) → (f : ℕ → ℕ) → (N : ℕ) → (w : List ℕ) → (b s : ℕ) → (repeat : Bool) → List Alignment
alignments_from zero f N w b s repeat = []
alignments_from (suc fuel) f N w b s repeat =
    let here = step f w b s repeat in
    let all = here ∷ alignments_from fuel f N w (b + here.shift) here.shift (repeat_after w here) in
    cond (leb (b + length w) N) all []

-- the alignments of a whole search: start with b = 0 and s = m
unfoldable pub alignments : (f : ℕ → ℕ) → (N : ℕ) → (w : List ℕ) → List Alignment
alignments f N w = alignments_from (suc N) f N w 0 (length w) false

-- the comparisons of an alignment: those that agreed and the one that differed, if one did
unfoldable pub compared : Alignment → List Comparison
compared a =
    map (λ i. record { pattern_position = i; text_position = a.position + i }) (take (suc a.agreed) a.row)

-- the comparisons (looks) of a list of alignments, in their order
unfoldable pub comparisons_of : List Alignment → List Comparison
comparisons_of [] = []
comparisons_of (a ∷ later) = compared a ++ comparisons_of later

-- the occurrences (finds) that a list of alignments lists
unfoldable pub listed : List Alignment → List ℕ
listed [] = []
listed (a ∷ later) = cond (is_occurrence a) (a.position ∷ listed later) (listed later)

-- the alignments of a search for w in the text (chain) t
abbrev pub alignments_in : (w t : List ℕ) → List Alignment
alignments_in w t = alignments (shown t) (span w t) w

-- its comparisons (looks), in their order; C is their number
unfoldable pub comparisons : (w t : List ℕ) → List Comparison
comparisons w t = comparisons_of (alignments_in w t)
