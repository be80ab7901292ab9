-- What is promised of the occurrences in a ring: each is a type, and its proof is in proofs/
-- (docs/PROMISES.md). These are definitions.
use Rattle.std.specs.Prelude.{true, List, ◌↔◌, ◌≡◌, ℕ, ◌+◌, ◌%◌, ◌≤◌, ◌<◌, eqb, length}
use Rattle.tables.specs.Least.{all_from}
use Rattle.tables.specs.Sets.{byte}
use Rattle.steps.specs.Occurrences.{occurrences}
use Rattle.ring.specs.Ring.{is_in, passing, StrictlyAscending}

-- the occurrences (finds) are the b from 0 to n - 1 with t((b + j) modulo n) = w(j) for each j from
-- 0 to m - 1, each once and ascending
unfoldable pub OccurrencesAround : Type 0
OccurrencesAround =
    (w t : List ℕ) → 1 ≤ length w →
    occurrences w t ≡ passing (length t) 0 (λ b. all_from (length w) 0 (λ j. eqb (byte t ((b + j) % length t)) (byte w j)))

-- w occurs at b around the ring t: b is below n, and t((b + j) modulo n) = w(j) for each j below m
unfoldable pub OccursAt : (w t : List ℕ) → (b : ℕ) → Type 0
OccursAt w t b = (b < length t) × ((j : ℕ) → j < length w → byte t ((b + j) % length t) ≡ byte w j)

-- b is among the occurrences (finds) just where w occurs at b. They ascend, so each is there once
unfoldable pub OccurrencesMeant : Type 0
OccurrencesMeant =
    (w t : List ℕ) → 1 ≤ length w →
    ((b : ℕ) → (is_in (occurrences w t) b ≡ true) ↔ OccursAt w t b) × StrictlyAscending (occurrences w t)
