-- A table of bytes is one after an edit that is taken: what is kept and what is put are bytes.
-- By the parts of the table, before, in and past what is put.
use mathlib.Core.List.{List, [], ◌∷◌, ◌++◌}
use Prim.Native.Nat.{ℕ, zero, suc, ◌-◌}
use native.Mathlib.Omega.{arith}
use lib.ListN.{length, take, drop}
use lib.Seq.{drop-nil}
use Rattle.answers.proofs.Bytes.{bytes_part}
use Rattle.answers.specs.Buffers.{from_entry}
use Rattle.answers.specs.Bytes.{Bytes}
use Rattle.rules.specs.Rules.{slot}
use Rattle.edit_rule.proofs.Taken.{EditTaken}
use Rattle.edit_rule.specs.Edit.{edited}

-- bytes after bytes are bytes
bytes_both : (xs ys : List ℕ) → Bytes xs → Bytes ys → Bytes (xs ++ ys)
unfolding Bytes
bytes_both [] ys h k = k
bytes_both (b ∷ xs) ys h k = (h.0, bytes_both xs ys h.1 k)

-- the bytes from entry f on
bytes_from : (xs : List ℕ) → Bytes xs → (f : ℕ) → Bytes (drop f xs)
unfolding Bytes
bytes_from [] h f = rw (drop-nil f) tt
bytes_from (b ∷ xs) h zero = h
bytes_from (b ∷ xs) h (suc f) = bytes_from xs h.1 f

-- bytes that are put into a table of bytes
bytes_put : (at : ℕ) (new old : List ℕ) → Bytes new → Bytes old → Bytes (from_entry at new old)
unfolding from_entry
bytes_put at new old h k =
    bytes_both (take at old ++ new) (drop (length new) (drop at old))
    (bytes_both (take at old) new (bytes_part old k 0 at) h)
    (bytes_from (drop at old) (bytes_from old k at) (length new))

-- a pattern's length and its hold offset are below 256
pub edited_bytes :
    (number q : ℕ) (w x : List ℕ) → EditTaken x number (length w) q → Bytes x → Bytes w → Bytes (edited x number q w)
unfolding edited Bytes
edited_bytes number q w x t h hw =
    let new : Bytes (length w ∷ q ∷ w) = (omega (arith, t.pattern), (omega (arith, t.pattern, t.hold_offset), hw)) in
    bytes_put (slot (number - 1)) (length w ∷ q ∷ w) x new h
