-- The least number that passes a test, and a test passed by a run of numbers. These are definitions.
use Rattle.std.specs.Prelude.{Bool, true, ◌&&◌, cond, ℕ, zero, suc}

-- the least number from `at` on that passes, where one of the first `count` does; else the number after those
unfoldable pub least_from : (count at : ℕ) → (test : ℕ → Bool) → ℕ
least_from zero i f = i
least_from (suc n) i f =
    let later = least_from n (suc i) f in
    cond (f i) i later

-- each of the `count` numbers from `at` on passes
unfoldable pub all_from : (count at : ℕ) → (test : ℕ → Bool) → Bool
all_from zero i f = true
all_from (suc n) i f = f i && all_from n (suc i) f
