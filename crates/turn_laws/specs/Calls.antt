-- What two calls have in common, one of a job and one of the job turned: two calls of `search` or
-- `convert`, of `price`, of `count_ones`. Each is a type, and its proof is in proofs/. These are
-- definitions.
use Rattle.std.specs.Prelude.{List, ◌≡◌, ℕ, ◌<◌, length, take}
use Rattle.answers.specs.Bytes.{Bytes}
use Rattle.ones.specs.Ones.{count_answer}
use Rattle.convert.specs.Paired.{Call, CallTaken, Searches, Converts, AnySearch, found_by, LentAsLong}
use Rattle.turn.specs.Turn.{TurnOutcome}
use Rattle.turn.specs.Turned.{turned, turned_index}
use Rattle.turn.specs.declared.TurnAnswer.{TurnAnswer}
use Rattle.price.specs.Promises.{PriceCall, Priced}
use Rattle.turn_laws.specs.Promises.{turned_positions, turned_frames}

-- what a search c of the job q, w, t and a search d of the job turned, q', w', t', have in common:
-- the occurrences (finds), turned, and their number; of two conversions the n frames, turned, and
-- the number of ones (holes); the period and the bound
pub record AlikeTurned (way q : ℕ) (w t : List ℕ) (q' : ℕ) (w' t' : List ℕ) (c d : Call) : Type 0 where
  pub occurrences_turned : found_by d ≡ turned_positions way (length w) (length t) (found_by c)
  pub same_number : d.answer.occurrences ≡ c.answer.occurrences
  pub frames_turned :
      Converts q w t c → Converts q' w' t' d →
      take (length t) d.left.frames ≡ turned_frames way (take (length t) c.left.frames)
  pub same_ones : Converts q w t c → Converts q' w' t' d → d.answer.ones ≡ c.answer.ones
  pub same_period : d.answer.period ≡ c.answer.period
  pub same_bound : d.answer.bound ≡ c.answer.bound

-- `turn` is done, and a search of the job and one of what `turn` answered and left are both taken: for all that their contracts allow, this is so
unfoldable pub SearchesTurned : Type 0
SearchesTurned =
    (way q : ℕ) (w t p p' x x' : List ℕ) (r : TurnAnswer) → Bytes w → Bytes t →
    TurnOutcome way q w t p p' x x' r → r.answer.status ≡ 0 →
    let w' = take (length w) p' in
    let t' = take (length t) x' in
    (c d : Call) → AnySearch q w t c → CallTaken c → AnySearch r.q w' t' d → CallTaken d →
    AlikeTurned way q w t r.q w' t' c d

-- two calls of `search`, of a job and of the job turned, with buffers as long: both are taken, or
-- both refused (turned away) with the same status; so are two of `convert`, if the hold offset
-- (hold place) is in the pattern
unfoldable pub StatusTurned : Type 0
StatusTurned =
    (way q : ℕ) (w t : List ℕ) (c d : Call) → LentAsLong c d →
    let q' = turned_index way (length w) q in
    let w' = turned way w in
    let t' = turned way t in
    (Searches w t c → Searches w' t' d → d.answer.status ≡ c.answer.status)
    × (q < length w → Converts q w t c → Converts q' w' t' d → d.answer.status ≡ c.answer.status)

-- `turn` is done, and two calls of `price` are taken, one of the job and one of what `turn`
-- answered and left: they answer the same pence
unfoldable pub PricesTurned : Type 0
PricesTurned =
    (way q : ℕ) (w t p p' x x' : List ℕ) (r : TurnAnswer) → Bytes w → Bytes t →
    TurnOutcome way q w t p p' x x' r → r.answer.status ≡ 0 →
    (c d : PriceCall) → Priced q w t c → Priced r.q (take (length w) p') (take (length t) x') d →
    d.answer.pence ≡ c.answer.pence

-- `turn` is done: `count_ones` answers the same of the text that it left
unfoldable pub CountsTurned : Type 0
CountsTurned =
    (way q : ℕ) (w t p p' x x' : List ℕ) (r : TurnAnswer) → Bytes t →
    TurnOutcome way q w t p p' x x' r → r.answer.status ≡ 0 →
    count_answer (take (length t) x') ≡ count_answer t
