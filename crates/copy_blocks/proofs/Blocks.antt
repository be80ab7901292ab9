-- A buffer with some bytes in front: it is as long as it was; and once the others are written past them, all are in front.
-- By the laws of take and drop. Assumes nothing.
use mathlib.Core.List.{List}
use mathlib.Core.Path.{◌≡◌}
use Prim.Native.Nat.{ℕ, ◌≤◌}
use native.Mathlib.Omega.{arith}
use lib.ListN.{length, take, drop, take-append-drop}
use lib.Seq.{length-take-le}
use Rattle.answers.proofs.Fronts.{from_entry_length}
use Rattle.answers.proofs.Partly.{Put, ◌then◌, put_front}
use Rattle.answers.specs.Buffers.{in_front}

-- a buffer with some of the bytes in front is as long as it was
pub front_kept :
    (bytes old new : List ℕ) (at : ℕ) → at ≤ length bytes → length bytes ≤ length old → new ≡ in_front (take at bytes) old →
    length new ≡ length old
unfolding in_front
front_kept bytes old new at h room e = rw e (from_entry_length 0 (take at bytes) old (omega (arith, length-take-le at bytes h)))

-- once the bytes after these are put there too, all are in front
pub rest_written :
    (bytes old new out : List ℕ) (at next : ℕ) → at ≤ length bytes → new ≡ in_front (take at bytes) old →
    Put at (drop at bytes) new out next → out ≡ in_front bytes old
unfolding in_front
rest_written bytes old new out at next h e p =
    let front : Put 0 (take at bytes) old new at = record { buffer = e; after = omega (arith, length-take-le at bytes h) } in
    rw take-append-drop at (put_front (front then p))
