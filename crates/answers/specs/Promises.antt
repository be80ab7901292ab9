-- What is promised of a status (document 01, "Turned away, by who can cause it"): a type.
-- Its proof is in proofs/. These are definitions.
use Rattle.std.specs.Prelude.{true, false, List, [], ◌∷◌, ◌++◌, ◌≢◌, ◌↔◌, ◌≡◌, ℕ, ◌<◌}
use Rattle.answers.specs.Refusals.{Refusal, first_of}

-- none of the conditions holds
abbrev pub NoneHolds : List Refusal → Type 0
NoneHolds [] = Unit {0}
NoneHolds (r ∷ rs) = (r.holds ≡ false) × NoneHolds rs

-- none of their numbers is 0
abbrev pub Numbered : List Refusal → Type 0
Numbered [] = Unit {0}
Numbered (r ∷ rs) = (0 < r.number) × Numbered rs

-- one of the conditions has this number and holds, and none before it holds
pub record FirstHolds (rs : List Refusal) (number : ℕ) : Type 0 where
  pub before : List Refusal
  pub first : Refusal
  pub after : List Refusal
  pub split : rs ≡ before ++ (first ∷ after)
  pub none_before : NoneHolds before
  pub holds : first.holds ≡ true
  pub by_number : first.number ≡ number

-- a status is 0 just where none of the conditions holds, none being numbered 0;
-- it is another number just where the first condition that holds has that number
pub record StatusSays (rs : List Refusal) : Type 0 where
  pub done : Numbered rs → (first_of rs ≡ 0) ↔ NoneHolds rs
  pub refused : (number : ℕ) → number ≢ 0 → (first_of rs ≡ number) ↔ FirstHolds rs number

unfoldable pub RefusalsRight : Type 0
RefusalsRight = (rs : List Refusal) → StatusSays rs
