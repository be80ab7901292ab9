-- The jobs as columns of the table of who may do what, and the roles as its rows. These are definitions.
use Rattle.std.specs.Prelude.{ℕ, ◌≡◌, ◌<◌, Result, Ok, Err}
use Rattle.answers.specs.Reasons.{number_of}
use Rattle.answers.specs.declared.Reason.{Reason}
use Rattle.roles.specs.declared.Job.{Job}
use Rattle.roles.specs.declared.Job.TheVariants.{Convert, Restore, Explain, Price, Edit}
use Rattle.roles.specs.declared.Role.{Role}
use Rattle.roles.specs.declared.Role.TheVariants.{Draughtswoman, Mender, Minder}

-- convert, put back, explain, price, edit the table: 0 to 4
abbrev pub job_number : Job → ℕ
job_number Convert = 0
job_number Restore = 1
job_number Explain = 2
job_number Price = 3
job_number Edit = 4

-- the number of each role
abbrev pub role_number : Role → ℕ
role_number Draughtswoman = 0
role_number Mender = 1
role_number Minder = 2

-- what a number is read as: the role of this number, or refused by 13 above 2
abbrev pub RoleRead : (number : ℕ) → Result Role Reason → Type 0
RoleRead number (Ok role) = number ≡ role_number role
RoleRead number (Err reason) = (2 < number) × (number_of reason ≡ 13)
