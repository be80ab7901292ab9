-- Lists filled along a run of numbers: how often a number stands there, and that the numbers rise.
-- By induction on the run.
use mathlib.Core.Bool.{Bool, true, false, cond}
use mathlib.Core.List.{List, [], ◌∷◌, ◌++◌}
use mathlib.Core.Logic.{◌≢◌, ⊎_elim}
use mathlib.Core.Path.{◌≡◌, refl}
use Prim.Native.Nat.{ℕ, zero, suc, ◌+◌, ◌-◌, ◌≤◌, ◌<◌}
use native.Mathlib.Omega.{arith}
use lib.ListN.{length, get_or, drop, length-drop}
use lib.Seq.{get_or-drop}
use Rattle.tables.proofs.Cases.{eq_or_ne}
use Rattle.tables.proofs.Times.{times_none, times_here, times_other}
use Rattle.tables.specs.Promises.{times}

-- the list holds, in their order, the entries of the numbers from `at` on and below `past`: Q v h says that v has the entry h
pub data Run (Q : ℕ → ℕ → Type 0) (past : ℕ) : (at : ℕ) → List ℕ → Type 0 where
  end : Run Q past past []
  entry : {a : ℕ} {l : List ℕ} (h : ℕ) → Q a h → a < past → Run Q past (suc a) l → Run Q past a (h ∷ l)
  none : {a : ℕ} {l : List ℕ} → ((h : ℕ) → ¬ (Q a h)) → Run Q past (suc a) l → Run Q past a l

module _ {Q : ℕ → ℕ → Type 0} {p : ℕ} where
  -- a run that goes on where another ends
  pub run_append : {e a : ℕ} {l l' : List ℕ} → e ≤ p → Run Q e a l → Run Q p e l' → Run Q p a (l ++ l')
  run_append u end r' = r'
  run_append u (entry h q b r) r' = entry h q (omega arith) (run_append u r r')
  run_append u (none q r) r' = none q (run_append u r r')

  -- where a test tells whether a number has an entry
  pub run_if :
      {a : ℕ} {l : List ℕ} (h : ℕ) (t : Bool) → (t ≡ true → Q a h) → (t ≡ false → (g : ℕ) → ¬ (Q a g)) → a < p → Run Q p (suc a) l →
      Run Q p a (cond t (h ∷ l) l)
  run_if h true here never b r = entry h (here refl) b r
  run_if h false here never b r = none (never refl) r

  -- a number that is the entry of none in the run does not stand in the list
  pub run_never : (i : ℕ) {a : ℕ} {l : List ℕ} → Run Q p a l → ((v : ℕ) → a ≤ v → ¬ (Q v i)) → times i l ≡ 0
  run_never i end h = times_none i
  run_never i (entry {a} {l} x q b r) h =
      let later = run_never i r (λ v u. h v (omega arith)) in
      ⊎_elim (λ e. absurd (h a (omega arith) (rw e at q))) (λ d. omega (arith, times_other i x l d)) (eq_or_ne x i)
  run_never i (none q r) h = run_never i r (λ v u. h v (omega arith))

  -- a number that is the only entry of just one number v of the run stands in the list once
  pub run_once :
      (i v : ℕ) → Q v i → ((u : ℕ) → Q u i → u ≡ v) → ((h : ℕ) → Q v h → h ≡ i) →
      {a : ℕ} {l : List ℕ} → Run Q p a l → a ≤ v → v < p → times i l ≡ 1
  run_once i v at_v only same end b u = absurd (omega arith)
  run_once i v at_v only same (entry {a} {l} x q t r) b u =
      ⊎_elim
      (λ e.
      let at_a : a ≡ v = only a (rw e at q) in
      omega (arith, times_here i x l e, run_never i r (λ t c g. omega (arith, only t g))))
      (λ d.
      let past : a ≢ v = λ e. d (same x (rw e at q)) in
      omega (arith, times_other i x l d, run_once i v at_v only same r (omega arith) u))
      (eq_or_ne x i)
  run_once i v at_v only same (none {a} {l} q r) b u =
      let other : a ≢ v = λ e. q i (rw e at_v) in
      run_once i v at_v only same r (omega arith) u

  -- an entry is that of a number v of the run, and those past it are a run from v + 1 on
  pub run_entry :
      {a : ℕ} {l : List ℕ} → Run Q p a l → (i : ℕ) → i < length l →
      (v : ℕ) × (a ≤ v) × (v < p) × Q v (get_or l i 0) × Run Q p (suc v) (drop (suc i) l)
  run_entry end i b = absurd (omega arith)
  run_entry (entry {a} x q t r) zero b = (a, omega arith, t, q, r)
  run_entry (entry x q t r) (suc i) b = let (v, u, c, here, rest) = run_entry r i (omega arith) in (v, omega arith, c, here, rest)
  run_entry (none q r) i b = let (v, u, c, here, rest) = run_entry r i b in (v, omega arith, c, here, rest)

  -- so of two entries the later has the larger number
  pub run_rises :
      {a : ℕ} {l : List ℕ} → Run Q p a l → (i j : ℕ) → i < j → j < length l →
      (u v : ℕ) × (a ≤ u) × (u < v) × (v < p) × Q u (get_or l i 0) × Q v (get_or l j 0)
  run_rises {l = l} r i j c b =
      let (u, from, upto, here, rest) = run_entry r i (omega arith) in
      let (v, rises, past, there, more) = run_entry rest (j - suc i) (rw length-drop (omega arith)) in
      let place : suc i + (j - suc i) ≡ j = omega arith in
      (u, v, from, rises, past, here, rw (get_or-drop, place) at there)
