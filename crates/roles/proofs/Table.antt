-- The table of who may do what has the fifteen entries of `permitted`. By the cases of role and job.
use mathlib.Core.Bool.{Bool, true, false}
use mathlib.Core.List.{List, [], ◌∷◌}
use mathlib.Core.Path.{◌≡◌, refl}
use Prim.Native.Nat.{ℕ, zero, suc, ◌<◌}
use native.Mathlib.Omega.{arith}
use lib.ListN.{get_or}
use Rattle.roles.specs.Roles.{permitted}
use Rattle.roles.specs.Table.{job_number, role_number}
use Rattle.roles.specs.declared.Job.{Job}
use Rattle.roles.specs.declared.Job.TheVariants.{Convert, Restore, Explain, Price, Edit}
use Rattle.roles.specs.declared.Role.{Role}
use Rattle.roles.specs.declared.Role.TheVariants.{Draughtswoman, Mender, Minder}

-- a row for each role, a column for each job
abbrev pub table : List (List Bool)
table =
    (true ∷ true ∷ true ∷ true ∷ true ∷ [])
    ∷ (true ∷ true ∷ true ∷ true ∷ false ∷ [])
    ∷ (true ∷ false ∷ true ∷ false ∷ false ∷ [])
    ∷ []

-- the entry of a role and a job
pub entry_right :
    (role : ℕ) (job : Job) → role < 3 → get_or (get_or table role []) (job_number job) false ≡ permitted role job
unfolding permitted
entry_right zero Convert l = refl
entry_right zero Restore l = refl
entry_right zero Explain l = refl
entry_right zero Price l = refl
entry_right zero Edit l = refl
entry_right (suc zero) Convert l = refl
entry_right (suc zero) Restore l = refl
entry_right (suc zero) Explain l = refl
entry_right (suc zero) Price l = refl
entry_right (suc zero) Edit l = refl
entry_right (suc (suc zero)) Convert l = refl
entry_right (suc (suc zero)) Restore l = refl
entry_right (suc (suc zero)) Explain l = refl
entry_right (suc (suc zero)) Price l = refl
entry_right (suc (suc zero)) Edit l = refl
entry_right (suc (suc (suc above))) job l = absurd (omega arith)

-- there are three roles
pub role_below : (role : Role) → role_number role < 3
role_below Draughtswoman = omega arith
role_below Mender = omega arith
role_below Minder = omega arith
