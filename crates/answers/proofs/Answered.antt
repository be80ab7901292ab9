-- What a call answers and leaves, by whether it is refused: it answers its status, a refused call leaves what was there, and a
-- call that answers 0 is done; and that an answer of zeros is that of a call that is done. By cases on the status.
use mathlib.Core.Path.{◌≡◌, refl, ap}
use Prim.Native.Nat.{ℕ, zero, suc}
use native.Mathlib.Omega.{arith}
use Rattle.answers.specs.Answers.{status_only, if_done, answered}
use Rattle.answers.specs.declared.Answer.{Answer}

pub refused_only : {A : Type 0} (s : ℕ) (done refused : A) → (s ≡ 0 → ⊥) → refused ≡ if_done s done refused
unfolding if_done
refused_only zero d r h = absurd (h refl)
refused_only (suc s) d r h = refl

pub refused_answer : (s : ℕ) (done : Answer) → (s ≡ 0 → ⊥) → status_only s ≡ answered s done
unfolding answered
refused_answer s done h = refused_only s done (status_only s) h

-- a call answers its status
pub status_answered : (s : ℕ) (done : Answer) {r : Answer} → r ≡ answered s done → done.status ≡ 0 → r.status ≡ s
unfolding answered if_done
status_answered zero done h e = rw h e
status_answered (suc s) done h e = rw h refl

pub done_only : (s : ℕ) (done : Answer) {r : Answer} → r ≡ answered s done → r.status ≡ 0 → s ≡ 0
unfolding answered if_done
done_only zero done h e = refl
done_only (suc s) done h e = absurd (omega (arith, ap (λ (a : Answer). a.status) h))

-- an answer of zeros is that of a call that is done and answers its status alone
made :
    (make : (s o c n p b : ℕ) → Answer) {s o c n p b : ℕ} → s ≡ 0 → o ≡ 0 → c ≡ 0 → n ≡ 0 → p ≡ 0 → b ≡ 0 →
    make s o c n p b ≡ make 0 0 0 0 0 0
made make s o c n p b = cc

pub zeros :
    {r : Answer} →
    (r.status ≡ 0) × ((r.occurrences ≡ 0) × ((r.comparisons ≡ 0) × ((r.ones ≡ 0) × ((r.period ≡ 0) × (r.bound ≡ 0))))) →
    r ≡ status_only 0
zeros (s, (o, (c, (n, (p, b))))) =
    made (λ s o c n p b. record { status = s; occurrences = o; comparisons = c; ones = n; period = p; bound = b }) s o c n p b
