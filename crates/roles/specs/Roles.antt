-- Who may do what (document 02, "Who may do what"): which role may do which job, and the status of
-- a call behind a role. These are definitions.
use Rattle.std.specs.Prelude.{Bool, true, false, not, cond, ℕ, zero, suc}
use Rattle.answers.specs.Refusals.{Refusal, refuse}
use Rattle.roles.specs.declared.Job.{Job}
use Rattle.roles.specs.declared.Job.TheVariants.{Convert, Restore, Explain, Price, Edit}

-- the draughtswoman may do all
abbrev pub draughtswoman_may : Job → Bool
draughtswoman_may job = true

-- the mender all but edit
abbrev pub mender_may : Job → Bool
mender_may Convert = true
mender_may Restore = true
mender_may Explain = true
mender_may Price = true
mender_may Edit = false

-- the minder only convert and explain
abbrev pub minder_may : Job → Bool
minder_may Convert = true
minder_may Restore = false
minder_may Explain = true
minder_may Price = false
minder_may Edit = false

-- roles are 0 draughtswoman, 1 mender, 2 minder; a role above 2 may do nothing
unfoldable pub permitted : (role : ℕ) → Job → Bool
permitted zero job = draughtswoman_may job
permitted (suc zero) job = mender_may job
permitted (suc (suc zero)) job = minder_may job
permitted (suc (suc (suc above))) job = false

-- 13: a role above 2, or a job not permitted it
abbrev pub role_refusal : (role : ℕ) → Job → Refusal
role_refusal role job = refuse 13 (not (permitted role job))

-- the status of a call behind a role, s being that without roles: 13 before every other number
unfoldable pub behind_role : (role : ℕ) → Job → (s : ℕ) → ℕ
behind_role role job s = let r = role_refusal role job in cond r.holds r.number s
