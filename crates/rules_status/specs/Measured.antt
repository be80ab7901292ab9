-- What every search with a whole table measures before anything is written (document 02, "A rule
-- table"). These are definitions.
use Rattle.std.specs.Prelude.{Bool, List, [], ◌∷◌, ◌++◌, ℕ, length}
use Rattle.answers.specs.Refusals.{Refusal, refuse, first_of, text_refusal}
use Rattle.tables.specs.declared.TableLengths.{TableLengths}
use Rattle.rules.specs.Buffers.{tables_refusal}
use Rattle.rules.specs.Rules.{rules_of, table_refusals}
use Rattle.rules_claims.specs.Claims.{claim_refusal}

-- 11, then 4 and 5 of each rule from 1 up, 6, 7 for the tables' buffers and then for the call's
-- own, and 12
unfoldable pub search_refusals : (image t : List ℕ) → TableLengths → (own : List Refusal) → List Refusal
search_refusals x t l own =
    table_refusals x
    ++ (text_refusal (length t) ∷ tables_refusal (rules_of x) l ∷ (own ++ (claim_refusal (rules_of x) t ∷ [])))

-- the status where `short` says whether one of the call's own buffers is too short
unfoldable pub measured_status : (image t : List ℕ) → TableLengths → (short : Bool) → ℕ
measured_status x t l short = first_of (search_refusals x t l (refuse 7 short ∷ []))
