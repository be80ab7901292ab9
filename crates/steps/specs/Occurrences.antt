-- Occurrences by their meaning (document 01, "Cards, motif, chain, frame"), over any text as in Steps. These are definitions.
use Rattle.std.specs.Prelude.{Bool, ◌&&◌, cond, List, [], ◌∷◌, ℕ, zero, suc, ◌+◌, leb, eqb, length}
use Rattle.tables.specs.Least.{all_from}
use Rattle.tables.specs.Sets.{byte}
use Rattle.steps.specs.Text.{shown, span}

-- an occurrence (find) is a position b with b + m at most N and f(b + j) = w(j) for each j from 0 to m - 1
unfoldable pub occurs : (f : ℕ → ℕ) → (N : ℕ) → (w : List ℕ) → (b : ℕ) → Bool
occurs f N w b = leb (b + length w) N && all_from (length w) 0 (λ j. eqb (f (b + j)) (byte w j))

-- the occurrences among so many positions from b on, ascending
unfoldable pub occurrences_from : (count b : ℕ) → (f : ℕ → ℕ) → (N : ℕ) → (w : List ℕ) → List ℕ
occurrences_from zero b f N w = []
occurrences_from (suc n) b f N w =
    let later = occurrences_from n (suc b) f N w in
    cond (occurs f N w b) (b ∷ later) later

-- all occurrences, ascending
unfoldable pub all_occurrences : (f : ℕ → ℕ) → (N : ℕ) → (w : List ℕ) → List ℕ
all_occurrences f N w = occurrences_from (suc N) 0 f N w

-- the occurrences (finds) of w in the text (chain) t
unfoldable pub occurrences : (w t : List ℕ) → List ℕ
occurrences w t = all_occurrences (shown t) (span w t) w
