-- Δ3 under way: what the functions that work it out ask of each other and leave. These are definitions.
use Rattle.std.specs.Prelude.{List, ◌≡◌, ℕ, ◌≤◌, ◌<◌, length, get_or}

-- each entry of a table is 0
abbrev pub Zeros : (table : List ℕ) → Type 0
Zeros table = (i : ℕ) → i < length table → get_or table i 0 ≡ 0

-- x is f(i) where i is at least `begin`, and else 0
abbrev pub ValueFrom : (begin : ℕ) (f : ℕ → ℕ) (i x : ℕ) → Type 0
ValueFrom begin f i x = (begin ≤ i → x ≡ f i) × (i < begin → x ≡ 0)

-- each entry x of a table is so, by its index i
abbrev pub ValuesFrom : (begin : ℕ) (f : ℕ → ℕ) (table : List ℕ) → Type 0
ValuesFrom begin f table = (i : ℕ) → i < length table → ValueFrom begin f i (get_or table i 0)
