-- What two calls have in common, one of a ring and one of the ring started r bytes (cards) later:
-- two calls of `search` or `convert`, and of `price`. Each is a type, and its proof is in proofs/.
-- These are definitions.
use Rattle.std.specs.Prelude.{List, ◌≡◌, ℕ, ◌≤◌, length, take}
use Rattle.convert.specs.Paired.{Call, CallTaken, Searches, Converts, AnySearch, found_by, LentAsLong}
use Rattle.price.specs.Promises.{PriceCall, Priced}
use Rattle.rotation_laws.specs.Promises.{rotated, rotated_positions}

-- what a search c of the ring t and a search d of the ring started r bytes later have in common
pub record AlikeRotated (r q : ℕ) (w t : List ℕ) (c d : Call) : Type 0 where
  -- the same occurrences (finds), turned back by r around the ring, again ascending, and as many
  pub occurrences_rotated : found_by d ≡ rotated_positions (length t) r (found_by c)
  pub same_number : d.answer.occurrences ≡ c.answer.occurrences
  -- after two conversions the n frames turned alike, and as many ones (holes)
  pub frames_rotated :
      Converts q w t c → Converts q w (rotated r t) d →
      take (length t) d.left.frames ≡ rotated r (take (length t) c.left.frames)
  pub same_ones : Converts q w t c → Converts q w (rotated r t) d → d.answer.ones ≡ c.answer.ones
  -- the same period and bound; the comparisons (looks) may differ, and the bound holds for each start
  pub same_period : d.answer.period ≡ c.answer.period
  pub same_bound : d.answer.bound ≡ c.answer.bound
  pub few : c.answer.comparisons ≤ c.answer.bound
  pub few_rotated : d.answer.comparisons ≤ d.answer.bound

-- a search of a ring and a search of the ring started r bytes later, r at most n, both taken, for
-- one pattern (motif) and one hold offset (hold place), have this in common
unfoldable pub SearchesRotated : Type 0
SearchesRotated =
    (r q : ℕ) (w t : List ℕ) → r ≤ length t →
    (c d : Call) → AnySearch q w t c → CallTaken c → AnySearch q w (rotated r t) d → CallTaken d →
    AlikeRotated r q w t c d

-- two calls of `search`, or two of `convert`, of a ring and of the ring started r bytes later, with buffers as long: both are taken, or both refused
-- (turned away) with the same status
unfoldable pub StatusRotated : Type 0
StatusRotated =
    (r q : ℕ) (w t : List ℕ) (c d : Call) → LentAsLong c d →
    (Searches w t c → Searches w (rotated r t) d → d.answer.status ≡ c.answer.status)
    × (Converts q w t c → Converts q w (rotated r t) d → d.answer.status ≡ c.answer.status)

-- two calls of `price`, both taken, of a ring and of the ring started r bytes later: they answer
-- the same pence
unfoldable pub PricesRotated : Type 0
PricesRotated =
    (r q : ℕ) (w t : List ℕ) (c d : PriceCall) → Priced q w t c → Priced q w (rotated r t) d →
    d.answer.pence ≡ c.answer.pence
