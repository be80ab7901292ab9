-- A status behind a role is that without roles where the job is permitted, and else 13. By what is
-- permitted.
use mathlib.Core.Bool.{true, false}
use mathlib.Core.Logic.{◌↔◌, ⊎_elim}
use mathlib.Core.Path.{◌≡◌, refl, sym, ◌∙◌, subst, subst⁻¹}
use Prim.Native.Nat.{ℕ, zero, suc, ◌<◌}
use native.Mathlib.Omega.{arith}
use Rattle.answers.specs.Refusals.{first_of}
use Rattle.tables.proofs.Cases.{true_or_false}
use Rattle.roles.specs.Promises.{FirstRefusal, NoneAbove, Behind}
use Rattle.roles.specs.Roles.{permitted, behind_role}
use Rattle.roles.specs.declared.Job.{Job}

-- where the job is permitted, the status is that without roles
pub behind_permitted : (role : ℕ) (job : Job) (s : ℕ) → permitted role job ≡ true → behind_role role job s ≡ s
unfolding behind_role
behind_permitted role job s h = rw h

-- where it is not, it is 13
pub behind_refused : (role : ℕ) (job : Job) (s : ℕ) → permitted role job ≡ false → behind_role role job s ≡ 13
unfolding behind_role
behind_refused role job s h = rw h

-- past the test of a role the status is that without roles
pub passed :
    (role : ℕ) (job : Job) (s : ℕ) {tested : ℕ} → tested ≡ behind_role role job 0 → tested ≡ 0 →
    behind_role role job s ≡ s
passed role job s h e =
    ⊎_elim (λ y. behind_permitted role job s y) (λ n. absurd (omega (arith, rw (behind_refused role job 0 n) at h)))
    (true_or_false (permitted role job))

-- and a role that the test refuses has the status of the test
pub stopped :
    (role : ℕ) (job : Job) (s : ℕ) {tested : ℕ} → tested ≡ behind_role role job 0 → (tested ≡ 0 → ⊥) →
    tested ≡ behind_role role job s
stopped role job s h d =
    ⊎_elim (λ y. absurd (d (h ∙ behind_permitted role job 0 y)))
    (λ n. h ∙ behind_refused role job 0 n ∙ sym (behind_refused role job s n))
    (true_or_false (permitted role job))

-- a role above 2 may do nothing
pub none_above : NoneAbove
unfolding NoneAbove permitted
none_above zero job l = absurd (omega arith)
none_above (suc zero) job l = absurd (omega arith)
none_above (suc (suc zero)) job l = absurd (omega arith)
none_above (suc (suc (suc above))) job l = refl

pub first_refusal : FirstRefusal
unfolding FirstRefusal behind_role first_of
first_refusal role job rs = refl

-- where a call's own numbers are others, 13 tells that a job is not permitted
told_by_13 : (role : ℕ) (job : Job) (s : ℕ) → s < 13 → (behind_role role job s ≡ 13) ↔ (permitted role job ≡ false)
told_by_13 role job s l = (
  (λ e.
      ⊎_elim (λ y. absurd (omega (arith, l, rw (behind_permitted role job s y) at e))) (λ n. n)
      (true_or_false (permitted role job))),
  (λ n. behind_refused role job s n),
)

-- so a call of status s without roles stands behind one, by what it is to have a status (Outcome)
-- and what it is to be refused
pub stands_behind :
    (Outcome : (status : ℕ) → Type 0) (role : ℕ) (job : Job) (s : ℕ) {Refused : Type 0} {status : ℕ} →
    Outcome 13 ↔ Refused → (Outcome (behind_role role job s) → status ≡ behind_role role job s) → s < 13 →
    Behind role job (Outcome (behind_role role job s)) (Outcome s) Refused status
stands_behind Outcome role job s refused answered l =
    record {
      as_without =
          λ y. let e = behind_permitted role job s y in (subst Outcome e, subst⁻¹ Outcome e);
      refused = λ n. rw (behind_refused role job s n) refused;
      told = λ o. rw (answered o) (told_by_13 role job s l);
    }
