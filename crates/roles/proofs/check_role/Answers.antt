-- `roles::check_role` meets its contract: a number that is no role's may do nothing, and the entry
-- of a role and a job is what is permitted. Assumes nothing.
use Rattle.std.proofs.Common.{[], ◌≡◌, false, refl, sym, ◌∙◌, get_or}
use Rattle.std.proofs.lemmas.Result.{err_from_is_err_and}
use denote.Enum.Declared.{tag_of}
use Rattle.roles.proofs.Behind.{behind_permitted, behind_refused, none_above}
use Rattle.roles.proofs.Table.{table, entry_right, role_below}
use Rattle.roles.specs.Promises.{NoneAbove}
use Rattle.roles.specs.Roles.{permitted}
use Rattle.roles.specs.Table.{job_number, role_number}
use Rattle.roles.specs.contracts.Job.{the_type as job_type}
use Rattle.roles.specs.contracts.Role.{the_type as role_type}
use Rattle.roles.specs.declared.Job.{Job}
use Rattle.roles.specs.declared.Job.TheVariants.{Convert, Restore, Explain, Price, Edit}
use Rattle.roles.specs.declared.Role.{Role}
use Rattle.roles.specs.declared.Role.TheVariants.{Draughtswoman, Mender, Minder}
use Rattle.roles.proofs.check_role.Goals as goal

-- a role as a number is its row
row : (role : Role) → tag_of role_type role ≡ role_number role
row Draughtswoman = refl
row Mender = refl
row Minder = refl

-- and a job is its column
column : (job : Job) → tag_of job_type job ≡ job_number job
column Convert = refl
column Restore = refl
column Explain = refl
column Price = refl
column Edit = refl

-- the entry that is read is what is permitted
read :
    (role : Role) (job : Job) →
    get_or (get_or table (tag_of role_type role) []) (tag_of job_type job) false ≡ permitted (role_number role) job
read role job = rw (row role, column job) (entry_right (role_number role) job (role_below role))

pub returns-in_err-role : goal.returns-in_err-role
unfolding NoneAbove
returns-in_err-role c =
    let p = err_from_is_err_and c.from_residual.result c.from_residual.ensures.1 in
    let (above, thirteen) = c.in_err-role.ensures in
    rw (p.1, p.2) (thirteen ∙ sym (behind_refused c.args.role c.args.job 0 (none_above c.args.role c.args.job above)))

pub returns-then-role-job : goal.returns-then-role-job
returns-then-role-job c =
    rw c.in_ok-role.ensures
    (sym (behind_permitted _ c.args.job 0 (sym (read c.in_ok-role.role c.args.job) ∙ c.if-role-job.true)))

pub returns-else-role-job : goal.returns-else-role-job
returns-else-role-job c =
    rw c.in_ok-role.ensures
    (sym (behind_refused _ c.args.job 0 (sym (read c.in_ok-role.role c.args.job) ∙ c.if-role-job.false)))
