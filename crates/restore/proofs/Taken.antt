-- When `restore` is done: where the job is within the limits, the buffer has room and the frames are a conversion, and only there; and that past
-- 4 to 7 the meaning decides (`StatusRight`). By its list of conditions, of which the last is the test.
use mathlib.Core.Bool.{true, not, cond}
use mathlib.Core.List.{List, [], ◌∷◌, ◌++◌}
use mathlib.Core.Logic.{⊎_elim}
use mathlib.Core.Path.{◌≡◌, ◌∙◌, ap}
use Prim.Native.Nat.{ℕ, ◌≤◌}
use native.Mathlib.Omega.{arith}
use borrow.Author.Tests.{ltb-false, le-ltb, not-false}
use lib.ListN.{length}
use Rattle.answers.proofs.Refusals.{done_none, limits_hold, limits_none}
use Rattle.answers.specs.Refusals.{first_of, job_refusals, WithinLimits, buffer_refusal}
use Rattle.answers.specs.declared.Answer.{Answer}
use Rattle.tables.proofs.Cases.{true_or_false, clash}
use Rattle.restore_conversions.proofs.Restored.{test_right}
use Rattle.restore_conversions.specs.Promises.{TestRight}
use Rattle.restore.specs.Promises.{StatusRight}
use Rattle.restore.specs.Restore.{conversion_refusal, restore_status, RestoreOutcomeOf}
use Rattle.restore_conversions.specs.Restored.{is_conversion}

pub record Restorable (q : ℕ) (w gs : List ℕ) (text_len : ℕ) : Type 0 where
  pub limits : WithinLimits (length w) q (length gs)
  pub room : length gs ≤ text_len
  pub conversion : is_conversion q w gs ≡ true

module _ (q : ℕ) (w gs : List ℕ) (x : ℕ) where
  pub restorable : restore_status q w gs x ≡ 0 → Restorable q w gs x
  unfolding restore_status job_refusals
  restorable e =
      let own = buffer_refusal x (length gs) ∷ conversion_refusal q w gs ∷ [] in
      let none = done_none (job_refusals (length w) q (length gs) ++ own) (omega arith) e in
      let (limits, rest) = limits_hold (length w) q (length gs) none in
      record { limits = limits; room = ltb-false _ _ rest.0; conversion = not-false _ rest.1.0 }

  -- past 4 to 7 the test decides
  pub tested : WithinLimits (length w) q (length gs) → length gs ≤ x → restore_status q w gs x ≡ cond (not (is_conversion q w gs)) 9 0
  unfolding restore_status first_of job_refusals
  tested limits room =
      let none = limits_none (length w) q (length gs) limits (le-ltb x (length gs) room) in
      rw (none.0, none.1.0, none.1.1.0, none.1.1.1)

  pub restorable_done : Restorable q w gs x → restore_status q w gs x ≡ 0
  restorable_done t = tested t.limits t.room ∙ rw t.conversion

pub status_of : {s q : ℕ} {w gs text text' : List ℕ} {r : Answer} → RestoreOutcomeOf s q w gs text text' r → r.status ≡ s
status_of o = ap (λ (a : Answer). a.status) o.answer

pub status_right : StatusRight
unfolding StatusRight TestRight
status_right q w gs text text' r b o h few short room =
    let limits : WithinLimits (length w) q (length gs) = record { hold_offset = h; pattern = few; text = short } in
    let status = status_of o ∙ tested q w gs (length text) limits room in
    let (means, passes) = test_right q w gs b h in
    ⊎_elim
    (λ e. (
      (λ done. means e, λ c. rw e at status),
      (λ nine. absurd (omega (arith, rw e at status)), λ none. absurd (none (means e))),
    ))
    (λ e. (
      (λ done. absurd (omega (arith, rw e at status)), λ c. absurd (clash _ (passes c) e)),
      (λ nine c. clash _ (passes c) e, λ none. rw e at status),
    ))
    (true_or_false (is_conversion q w gs))
