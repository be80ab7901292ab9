-- A table of rows of m entries: where a row ends, and that different entries stand apart.
-- By the products of the rows' numbers.
use mathlib.Core.Logic.{◌≢◌, ⊎_elim}
use Prim.Native.Nat.{ℕ, ◌+◌, ◌*◌, ◌≤◌, ◌<◌}
use native.Mathlib.Nat.{suc-mul, mul-le-mul_right}
use native.Mathlib.Omega.{arith}
use Rattle.tables.proofs.Cases.{le_or_lt}

-- row c ends where a later one begins, or before
pub row_end : (m c n : ℕ) → c < n → c * m + m ≤ n * m
row_end m c n h = rw suc-mul at (mul-le-mul_right m h)

pub rows_apart : (m c d x y : ℕ) → x < m → y < m → c ≢ d → c * m + x ≢ d * m + y
rows_apart m c d x y u v p e =
    ⊎_elim (λ h. omega (arith, row_end m c d (omega arith))) (λ h. omega (arith, row_end m d c h)) (le_or_lt c d)
