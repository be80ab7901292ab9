-- What a caller's buffer (lent buffer) holds after a call. These are definitions.
use Rattle.std.specs.Prelude.{List, ◌++◌, ℕ, length, take, drop}

-- the new entries from entry `at` on, and before and past those what the buffer held before
unfoldable pub from_entry : {A : Type 0} → (at : ℕ) → (new old : List A) → List A
from_entry at new old = take at old ++ new ++ drop (length new) (drop at old)

-- the new entries from the first entry on, and past those what the buffer held before
unfoldable pub in_front : {A : Type 0} → (new old : List A) → List A
unfolding from_entry
in_front new old = from_entry 0 new old
