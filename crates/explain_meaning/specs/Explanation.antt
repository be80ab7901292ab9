-- Why a position has no hold (document 02, "Why this scallop has no hold"), over any text as in the steps. These are definitions.
use Rattle.std.specs.Prelude.{Bool, ◌&&◌, not, cond, List, [], ◌∷◌, ℕ, ◌+◌, ◌-◌, ltb, leb, eqb, length, get_or}
use Rattle.tables.specs.Sets.{byte}
use Rattle.steps.specs.Steps.{Comparison, Alignment, is_occurrence, alignments, comparisons_of}
use Rattle.steps.specs.Text.{shown, span}
use Rattle.explain_answers.specs.declared.ShiftKind.{ShiftKind}
use Rattle.explain_answers.specs.declared.ShiftKind.TheVariants.{LastByte, Order, AfterOccurrence, LongRepeat}
use Rattle.explain_answers.specs.declared.Explanation.{Explanation}
use Rattle.explain_answers.specs.declared.Explanation.TheVariants.{Listed, Tried, PassedOver}

-- the kind of the shift from an alignment, in whose row `agreed` of `count` comparisons agreed. All
-- agreed: after a find. One differed in a repeat, also at the last card: long repeat. Else the first
-- comparison differed: last card; or a later one: order
unfoldable pub kind_by : (repeat : Bool) → (agreed count : ℕ) → ShiftKind
kind_by repeat agreed count = cond (eqb agreed count) AfterOccurrence (cond repeat LongRepeat (cond (eqb agreed 0) LastByte Order))

abbrev pub kind_of : Alignment → ShiftKind
kind_of a = kind_by a.repeat a.agreed (length a.row)

-- a comparison spoils b at j: its text position is b + j, j in the pattern, and its byte is not w(j)
unfoldable pub spoils : (f : ℕ → ℕ) → (w : List ℕ) → (b : ℕ) → Comparison → Bool
spoils f w b c =
    let x = c.text_position in
    leb b x && ltb x (b + length w) && not (eqb (f x) (byte w (x - b)))

-- the j at which b is spoilt first, by the earliest comparison that spoils it; m where none does
unfoldable pub first_spoilt : (f : ℕ → ℕ) → (w : List ℕ) → (b : ℕ) → List Comparison → ℕ
first_spoilt f w b [] = length w
first_spoilt f w b (c ∷ later) = cond (spoils f w b c) (c.text_position - b) (first_spoilt f w b later)

-- where the pattern was laid: listed where all agree, else tried, with the pattern position that differs
unfoldable pub where_laid : Alignment → Explanation
where_laid a = cond (is_occurrence a) Listed (Tried (get_or a.row a.agreed 0))

-- the first alignment that stands at b or shifts past b tells why. Where it shifts past b, j says
-- where b is spoilt. With no such alignment `Listed`, which is never asked (`OneExplanation`)
unfoldable pub explained_by : (b j : ℕ) → List Alignment → Explanation
explained_by b j [] = Listed
explained_by b j (a ∷ later) =
    let otherwise = cond (ltb b (a.position + a.shift)) (PassedOver a.position j (kind_of a)) (explained_by b j later) in
    cond (eqb a.position b) (where_laid a) otherwise

-- why position b has no hold, by the alignments and the comparisons of the whole search
unfoldable pub explanation : (f : ℕ → ℕ) → (N : ℕ) → (w : List ℕ) → (b : ℕ) → Explanation
explanation f N w b =
    let search = alignments f N w in
    explained_by b (first_spoilt f w b (comparisons_of search)) search

-- of the pattern (motif) w in the text (chain) t
abbrev pub explanation_in : (b : ℕ) → (w t : List ℕ) → Explanation
explanation_in b w t = explanation (shown t) (span w t) w b
