-- What is promised of a status behind a role, and what it is to stand behind one (document 02, "Who
-- may do what"). These are definitions.
use Rattle.std.specs.Prelude.{true, false, List, ◌∷◌, ◌↔◌, ◌≡◌, ℕ, ◌<◌}
use Rattle.answers.specs.Refusals.{Refusal, first_of}
use Rattle.roles.specs.Roles.{permitted, role_refusal, behind_role}
use Rattle.roles.specs.declared.Job.{Job}

-- 13 is the first of a call's conditions: before whatever it has without roles
unfoldable pub FirstRefusal : Type 0
FirstRefusal =
    (role : ℕ) (job : Job) (rs : List Refusal) →
    behind_role role job (first_of rs) ≡ first_of (role_refusal role job ∷ rs)

-- a role above 2 may do nothing
unfoldable pub NoneAbove : Type 0
NoneAbove = (role : ℕ) (job : Job) → 2 < role → permitted role job ≡ false

-- a call stands behind a role: As is what its contract allows, Without what the contract of the
-- call without roles allows, Refused that it answers 13 and zeros and leaves all as it was, and
-- status is the number that it answers
pub record Behind (role : ℕ) (job : Job) (As Without Refused : Type 0) (status : ℕ) : Type 0 where
  -- permitted, it answers and leaves exactly what the call without roles does
  pub as_without : permitted role job ≡ true → As ↔ Without
  -- not permitted, it is refused, whatever it is given
  pub refused : permitted role job ≡ false → As ↔ Refused
  -- 13 tells just that
  pub told : As → (status ≡ 13) ↔ (permitted role job ≡ false)
