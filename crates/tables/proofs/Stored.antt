-- Values in the order of their indices, as the tables are stored: how many there are, and which one stands at a place; so of Δ2 and Δ1.
-- By the recursion of the values.
use mathlib.Core.List.{List}
use mathlib.Core.Path.{◌≡◌, refl, ap, ◌∙◌}
use Prim.Native.Nat.{ℕ, zero, suc, ◌+◌, ◌*◌, ◌-◌, ◌/◌, ◌%◌, ◌≤◌, ◌<◌}
use native.Mathlib.Nat.{add-zero, mod-eq_of_lt, div-eq_of_lt, mul-add-mod_self_right, mul-add-div_right, mul-le-mul_right, suc-mul}
use native.Mathlib.Omega.{arith}
use lib.ListN.{length, get_or}
use Rattle.tables.specs.Tables.{Δ2, values_from, stored_Δ2, Δ1, stored_Δ1}

pub values_length : (n i : ℕ) (f : ℕ → ℕ) → length (values_from n i f) ≡ n
unfolding values_from
values_length zero i f = refl
values_length (suc n) i f = ap suc (values_length n (suc i) f)

pub values_entry : (n i j : ℕ) (f : ℕ → ℕ) → j < n → get_or (values_from n i f) j 0 ≡ f (i + j)
unfolding values_from
values_entry zero i j f h = absurd (omega arith)
values_entry (suc n) i zero f h = let here : i + 0 ≡ i = omega arith in rw here
values_entry (suc n) i (suc j) f h =
    let later : suc i + j ≡ i + suc j = omega arith in
    rw later at (values_entry n (suc i) j f (omega arith))

pub stored_Δ2_length : (w : List ℕ) → length (stored_Δ2 w) ≡ length w + 1
unfolding stored_Δ2
stored_Δ2_length w = omega (arith, values_length (length w) 2 (Δ2 w))

pub stored_Δ2_entry : (w : List ℕ) (i : ℕ) → 1 ≤ i → i ≤ length w → get_or (stored_Δ2 w) i 0 ≡ Δ2 w (suc i)
unfolding stored_Δ2
stored_Δ2_entry w zero l u = absurd (omega arith)
stored_Δ2_entry w (suc i) l u =
    let place : 2 + i ≡ suc (suc i) = omega arith in
    rw place at (values_entry (length w) 2 i (Δ2 w) (omega arith))

pub stored_Δ1_length : (w : List ℕ) → length (stored_Δ1 w) ≡ 256 * length w
unfolding stored_Δ1
stored_Δ1_length w = values_length (256 * length w) 0 _

pub stored_entry : (w : List ℕ) (i : ℕ) → i < 256 * length w → get_or (stored_Δ1 w) i 0 ≡ Δ1 w (i / length w) (i % length w + 1)
unfolding stored_Δ1
stored_entry w i h =
    let from : 0 + i ≡ i = omega arith in
    rw from at (values_entry (256 * length w) 0 i (λ j. Δ1 w (j / length w) (j % length w + 1)) h)

-- Δ1(c, s) stands at c × m + s - 1
module _ (w : List ℕ) (c s : ℕ) (seen : c < 256) (positive : 1 ≤ s) (within : s ≤ length w) where
  pub stored_Δ1_inside : c * length w + s - 1 < length (stored_Δ1 w)
  stored_Δ1_inside = omega (arith, stored_Δ1_length w, mul-le-mul_right (length w) seen, suc-mul c (length w))

  pub stored_Δ1_entry : get_or (stored_Δ1 w) (c * length w + s - 1) 0 ≡ Δ1 w c s
  stored_Δ1_entry =
      let there : c * length w + s - 1 ≡ c * length w + (s - 1) = omega arith in
      let last : s - 1 < length w = omega arith in
      let back : s - 1 + 1 ≡ s = omega arith in
      let row = mul-add-div_right {m = length w} (omega arith) c (s - 1) in
      stored_entry w _ (rw (stored_Δ1_length w) at stored_Δ1_inside)
      ∙ rw (there, mul-add-mod_self_right, row, mod-eq_of_lt last, div-eq_of_lt last, add-zero, back)
