-- New entries in a buffer, from an entry on: their length, what stands there, one stored next to them, and more put
-- after them. The entry after them is `at` and their length, which an equation gives. In front is the case of entry 0.
use mathlib.Core.List.{List, [], ◌∷◌, ◌++◌, append_assoc, append-nil}
use mathlib.Core.Path.{◌≡◌, refl, sym, ◌∙◌}
use Prim.Native.Nat.{ℕ, suc, ◌+◌, ◌≤◌, ◌<◌}
use native.Mathlib.Omega.{arith}
use lib.ListN.{length, get_or, take, drop, set, replicate, length-append, length-take, length-drop, length-replicate, take-append-drop}
use lib.Seq.{length-take-le, get_or-take, take_at, drop-cons, drop-drop, drop-length, drop_at, set_at, append_snoc, sets, sets-eq}
use Rattle.answers.specs.Buffers.{from_entry, in_front}

-- a buffer that is an array of n zeros has n entries
pub zeros_length : (n : ℕ) → n ≡ length {A = ℕ} (replicate n 0)
zeros_length n = sym (length-replicate n 0)

module _ {A : Type 0} (at : ℕ) (new old : List A) where
  pub from_entry_length : at + length new ≤ length old → length (from_entry at new old) ≡ length old
  unfolding from_entry
  from_entry_length h = simp (length-append, length-take, length-drop) (omega arith)

  module _ (h : at ≤ length old) where
    pub from_entry_there : (n : ℕ) → length new ≡ n → take n (drop at (from_entry at new old)) ≡ new
    unfolding from_entry
    from_entry_there n e = rw (append_assoc, drop_at (take at old) _ at (length-take-le at old h)) (take_at new _ n e)

    front_length : (n : ℕ) → at + length new ≡ n → length (take at old ++ new) ≡ n
    front_length n e = rw (length-append, length-take-le at old h) e

    -- entries put after the new ones are new with them
    pub from_entry_append :
        (more : List A) (n : ℕ) → at + length new ≡ n → from_entry n more (from_entry at new old) ≡ from_entry at (new ++ more) old
    unfolding from_entry
    from_entry_append more n e =
        let front = front_length n e in
        rw (take_at (take at old ++ new) _ n front, drop_at (take at old ++ new) _ n front, drop-drop (length more) (length new))
        (rw (length-append, ← append_assoc (take at old) new more))

  -- a store next to the new entries puts one more there
  pub from_entry_store :
      (n : ℕ) (x : A) → at + length new ≡ n → n < length old → set (from_entry at new old) n x ≡ from_entry at (new ++ (x ∷ [])) old
  unfolding from_entry
  from_entry_store n x e h =
      let after : at + (length new + 1) ≡ suc n = omega arith in
      rw (drop-drop (length new) at old, e, drop-cons old n x h, set_at (take at old ++ new) _ _ x n (front_length (omega arith) n e))
      (simp (length-append, drop-drop, after, ← append_assoc (take at old) new (x ∷ []), append_snoc))

module _ {A : Type 0} where
  -- nothing is put
  pub from_entry_none : (at : ℕ) (old : List A) → from_entry at [] old ≡ old
  unfolding from_entry
  from_entry_none at old = rw append-nil (take-append-drop at old)

  -- stores one after another put their entries
  pub from_entry_sets : (at : ℕ) (new old : List A) → at + length new ≤ length old → sets old at new ≡ from_entry at new old
  unfolding from_entry
  from_entry_sets at new old h = rw (sets-eq, drop-drop)

  pub in_front_take : (new old : List A) (n : ℕ) → length new ≡ n → take n (in_front new old) ≡ new
  unfolding in_front
  in_front_take new old n e = from_entry_there 0 new old (omega arith) n e

  pub in_front_entry : (new old : List A) (i : ℕ) (d : A) → i < length new → get_or (in_front new old) i d ≡ get_or new i d
  in_front_entry new old i d l = sym (get_or-take (length new) (in_front new old) i d l) ∙ rw (in_front_take new old (length new) refl)

  -- as many new entries as the buffer has are all that it holds
  pub in_front_whole : (new old : List A) → length new ≡ length old → in_front new old ≡ new
  unfolding in_front
  in_front_whole new old e = rw (e, drop-length) (append-nil new)
