-- Which bytes (cards) of a ring the rules claim, and refusal 12 (document 02, "A rule table").
-- These are definitions.
use Rattle.std.specs.Prelude.{Bool, not, cond, List, [], ◌∷◌, ℕ, suc, leb, length}
use Rattle.answers.specs.Refusals.{Refusal, refuse}
use Rattle.tables.specs.Least.{all_from}
use Rattle.steps.specs.Occurrences.{occurrences}
use Rattle.frames.specs.Frames.{is_held}
use Rattle.rules.specs.Rules.{Rule}

-- the rule of this pattern (motif) and this hold offset (hold place)
abbrev pub rule : (pattern : List ℕ) → (hold_offset : ℕ) → Rule
rule w q = record { pattern = w; hold_offset = q }

-- the occurrences (finds) of a rule's pattern
abbrev pub found_of : (t : List ℕ) → Rule → List ℕ
found_of t r = occurrences r.pattern t

-- a rule claims byte c of the ring t: c is the hold of one of its occurrences
unfoldable pub claims : Rule → (t : List ℕ) → (c : ℕ) → Bool
claims r t c = is_held r.hold_offset r.pattern t c

-- how many of the rules claim it
unfoldable pub claimants : List Rule → (t : List ℕ) → (c : ℕ) → ℕ
claimants [] t c = 0
claimants (r ∷ rs) t c =
    let later = claimants rs t c in
    cond (claims r t c) (suc later) later

-- two rules claim the same byte of this ring
unfoldable pub claimed_twice : List Rule → (t : List ℕ) → Bool
claimed_twice rs t = not (all_from (length t) 0 (λ c. leb (claimants rs t c) 1))

-- 12: two rules claim the same byte of this ring
abbrev pub claim_refusal : List Rule → (t : List ℕ) → Refusal
claim_refusal rs t = refuse 12 (claimed_twice rs t)
