-- New entries that are put into a buffer from an entry on, with the entry after them: none, one stored, and more put after them.
-- A list that is written so entry by entry: what is left of it, one entry more, and the whole.
use mathlib.Core.List.{List, [], ◌∷◌, ◌++◌, append_assoc, append-nil}
use mathlib.Core.Path.{◌≡◌, refl, sym, ap}
use Prim.Native.Nat.{ℕ, ◌+◌, ◌≤◌, ◌<◌}
use native.Mathlib.Omega.{arith}
use lib.ListN.{length, set, length-append}
use Rattle.answers.proofs.Fronts.{from_entry_length, from_entry_none, from_entry_store, from_entry_append}
use Rattle.answers.specs.Buffers.{from_entry, in_front}

-- the new entries are put into the buffer `old` from entry `at` on: it is `out` afterwards, and `next` is the entry after them
pub record Put {A : Type 0} (at : ℕ) (new old out : List A) (next : ℕ) : Type 0 where
  pub buffer : out ≡ from_entry at new old
  pub after : next ≡ at + length new

module _ {A : Type 0} where
  -- as a function that puts so many entries says it of its result and its buffer
  pub put :
      {at next size : ℕ} {new old out : List A} → length new ≡ size →
      (next ≡ at + size) × (out ≡ from_entry at new old) → Put at new old out next
  put l e = record { buffer = e.1; after = rw l e.0 }

  pub put_none : (at : ℕ) (old : List A) → Put at [] old old at
  put_none at old = record { buffer = sym (from_entry_none at old); after = omega arith }

  module _ {at : ℕ} {new old out : List A} {next : ℕ} (p : Put at new old out next) where
    put_length : next ≤ length old → length out ≡ length old
    put_length room = rw p.buffer (from_entry_length at new old (omega (arith, p.after)))

    pub put_store : (x : A) → next < length old → Put at (new ++ (x ∷ [])) old (set out next x) (next + 1)
    put_store x room = record {
      buffer = rw p.buffer (from_entry_store at new old next x (sym p.after) room);
      after = rw length-append (omega (arith, p.after));
    }

  -- entries put after others; and where those are put from the first entry on
  pub put_more :
      {at : ℕ} {new more old out out' : List A} {next next' : ℕ} → at ≤ length old → Put at new old out next → Put next more out out' next' →
      Put at (new ++ more) old out' next'
  put_more {at} {new} {more} {old} room p q = record {
    buffer = rw (q.buffer, p.buffer) (from_entry_append at new old room more _ (sym p.after));
    after = rw length-append (omega (arith, p.after, q.after));
  }

  infixl 20 ◌then◌
  pub ◌then◌ :
      {new more old out out' : List A} {next next' : ℕ} → Put 0 new old out next → Put next more out out' next' →
      Put 0 (new ++ more) old out' next'
  ◌then◌ p q = put_more (omega arith) p q

  pub put_front : {new old out : List A} {next : ℕ} → Put 0 new old out next → out ≡ in_front new old
  unfolding in_front
  put_front p = p.buffer

-- of `whole`, to be put into the buffer `old` from entry `at` on, `left` is left: the buffer is `new`, and its entry `next` is written next
pub record PartlyWritten {A : Type 0} (at : ℕ) (old new whole left : List A) (next : ℕ) : Type 0 where
  pub done : List A
  pub split : done ++ left ≡ whole
  pub put : Put at done old new next

module _ {A : Type 0} (at : ℕ) (old : List A) where
  pub none_written : (whole : List A) → PartlyWritten at old old whole whole at
  none_written whole = record { done = []; split = refl; put = put_none at old }

  module _
      {new whole left : List A} {next : ℕ} (r : PartlyWritten at old new whole left next) (room : at + length whole ≤ length old) where
    sizes : length r.done + length left ≡ length whole
    sizes = rw length-append at (ap length r.split)

    pub kept_length : length new ≡ length old
    kept_length = put_length r.put (omega (arith, r.put.after, sizes, room))

  module _
      {new whole left : List A} {x : A} {next : ℕ} (r : PartlyWritten at old new whole (x ∷ left) next)
      (room : at + length whole ≤ length old) where
    pub room_left : next < length new
    room_left = omega (arith, r.put.after, sizes r room, room, kept_length r room)

    pub one_more : PartlyWritten at old (set new next x) whole left (next + 1)
    one_more = record {
      done = r.done ++ (x ∷ []);
      split = rw append_assoc r.split;
      put = put_store r.put x (omega (arith, r.put.after, sizes r room, room));
    }

  pub all_written : {new whole : List A} {next : ℕ} → PartlyWritten at old new whole [] next → Put at whole old new next
  all_written r = rw (← r.split, append-nil) r.put
