-- Both round trips by whole calls (document 02, "Back to cards"): `convert` and `restore`, one on
-- what the other left; and equal frames of two conversions. Each is a type, and its proof is in
-- proofs/. These are definitions.
use Rattle.std.specs.Prelude.{false, List, ◌≡◌, ℕ, ◌≤◌, length, take}
use Rattle.answers.specs.Bytes.{Bytes}
use Rattle.answers.specs.declared.Answer.{Answer}
use Rattle.tables.specs.Buffers.{lengths, needed, short_of}
use Rattle.tables.specs.declared.TableLengths.{TableLengths}
use Rattle.convert.specs.Paired.{Buffers, Call, CallTaken, Converts}
use Rattle.restore.specs.Restore.{RestoreOutcome}

-- `restore` answered r and left the buffer text': it is done, and the buffer begins with this text (chain)
pub record RestoredTo (t text' : List ℕ) (r : Answer) : Type 0 where
  pub done : r.status ≡ 0
  pub text : take (length t) text' ≡ t

-- `convert` and then `restore` on the frames that it left, with a buffer long enough: for all that their contracts allow, the text comes back
unfoldable pub CallsConvertedRestored : Type 0
CallsConvertedRestored =
    (q : ℕ) (w t : List ℕ) (c : Call) → Bytes t → Converts q w t c → CallTaken c
    → (text text' : List ℕ) (r : Answer) → RestoreOutcome q w (take (length t) c.left.frames) text text' r
    → length t ≤ length text → RestoredTo t text' r

-- two conversions by one pattern (motif) and one hold offset (hold place), both taken: where they
-- leave equal frames, their texts are equal
unfoldable pub CallsInjective : Type 0
CallsInjective =
    (q : ℕ) (w t u : List ℕ) (c d : Call) → Bytes t → Bytes u
    → Converts q w t c → CallTaken c → Converts q w u d → CallTaken d
    → take (length t) c.left.frames ≡ take (length u) d.left.frames → t ≡ u

-- the buffers that a conversion is lent are as long as its tables need, and have room for so many
-- frames
pub record RoomFor (need : TableLengths) (n : ℕ) (lent : Buffers) : Type 0 where
  pub tables : short_of need (lengths lent.tables) ≡ false
  pub found : n ≤ length lent.found
  pub frames : n ≤ length lent.frames

-- a conversion answered this status and left the buffer frame': it is done, and the buffer begins
-- with these frames
pub record ConvertedTo (gs : List ℕ) (status : ℕ) (frame' : List ℕ) : Type 0 where
  pub done : status ≡ 0
  pub frames : take (length gs) frame' ≡ gs

-- `restore` and then `convert` on the text that it left, with buffers long enough: for all that their contracts allow, the frames handed in
-- come back
unfoldable pub CallsRestoredConverted : Type 0
CallsRestoredConverted =
    (q : ℕ) (w gs text text' : List ℕ) (r : Answer) → RestoreOutcome q w gs text text' r → r.status ≡ 0
    → (c : Call) → Converts q w (take (length gs) text') c → RoomFor (needed (length w)) (length gs) c.lent
    → ConvertedTo gs c.answer.status c.left.frames
