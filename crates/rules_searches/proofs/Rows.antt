-- What f gives for each of some elements stands one after another in a buffer: written one by one,
-- by `PartlyWritten` (how far it is, room for the next, one more, and all), and where each of it
-- stands.
use mathlib.Core.List.{List, [], ◌∷◌, ◌++◌, append_assoc, append-nil}
use mathlib.Core.Path.{◌≡◌, refl, sym, ◌∙◌, ap}
use Prim.Native.Nat.{ℕ, suc, ◌+◌, ◌≤◌, ◌<◌}
use native.Mathlib.Numerals.{add-one}
use native.Mathlib.Omega.{arith}
use lib.ListN.{length, take, drop, get_or, length-append, drop_of_length-le}
use lib.Seq.{drop-cons, split_at, take-suc, take_at, drop_at}
use Rattle.answers.proofs.Partly.{put_more, put_front, PartlyWritten, none_written, kept_length, all_written}
use Rattle.answers.specs.Buffers.{from_entry, in_front}
use Rattle.rules.specs.Buffers.{one_after_another}

-- of what is left some entries are put
module _
    {A : Type 0} {at : ℕ} {old new whole : List A} (some left : List A) {next : ℕ}
    (r : PartlyWritten at old new whole (some ++ left) next) (room : at + length whole ≤ length old) where
  room_for : next + length some ≤ length old
  room_for = omega (arith, r.put.after, rw (length-append, length-append) at (ap length r.split))

  some_more :
      {new' : List A} {next' : ℕ} → new' ≡ from_entry next some new → next' ≡ next + length some →
      PartlyWritten at old new' whole left next'
  some_more e n = record {
    done = r.done ++ some;
    split = rw append_assoc r.split;
    put = put_more (omega (arith, room)) r.put (record { buffer = e; after = n });
  }

module _ {X A : Type 0} (f : X → List A) (xs : List X) where
  -- the buffer `old` is `new` where what f gives for the first i is written, and `next` is the
  -- entry after it
  pub record RowsWritten (old new : List A) (next i : ℕ) : Type 0 where
    pub partly : PartlyWritten 0 old new (one_after_another f xs) (one_after_another f (drop i xs)) next

  pub rows_begun : (old : List A) → RowsWritten old old 0 0
  rows_begun old = record { partly = none_written 0 old _ }

  module _
      {old new : List A} {next i : ℕ} (r : RowsWritten old new next i)
      (room : length (one_after_another f xs) ≤ length old) where
    rows_length : length new ≡ length old
    rows_length = kept_length 0 old r.partly (omega arith)

    module _ (d : X) (l : i < length xs) where
      due :
          PartlyWritten 0 old new (one_after_another f xs)
          (f (get_or xs i d) ++ one_after_another f (drop (suc i) xs)) next
      unfolding one_after_another
      due = rw (drop-cons xs i d l) at r.partly

      pub row_room : next + length (f (get_or xs i d)) ≤ length new
      row_room =
          omega (
            arith,
            rows_length,
            room_for (f (get_or xs i d)) (one_after_another f (drop (suc i) xs)) due (omega arith),
          )

      pub row_more :
          {new' : List A} {next' : ℕ} → new' ≡ from_entry next (f (get_or xs i d)) new →
          next' ≡ next + length (f (get_or xs i d)) → RowsWritten old new' next' (i + 1)
      row_more e n = record {
        partly =
            rw add-one
            (some_more (f (get_or xs i d)) (one_after_another f (drop (suc i) xs)) due (omega arith) e n);
      }

    pub rows_ended : length xs ≤ i → new ≡ in_front (one_after_another f xs) old
    unfolding one_after_another
    rows_ended h = put_front (all_written 0 old (rw (drop_of_length-le xs {i = i} h) at r.partly))

-- where what f gives for one of them stands
module _ {X A : Type 0} (f : X → List A) where
  rows_append : (xs ys : List X) → one_after_another f (xs ++ ys) ≡ one_after_another f xs ++ one_after_another f ys
  unfolding one_after_another
  rows_append [] ys = refl
  rows_append (x ∷ xs) ys =
      rw (rows_append xs ys) (sym (append_assoc (f x) (one_after_another f xs) (one_after_another f ys)))

  module _ (xs : List X) (i : ℕ) (d : X) (l : i < length xs) where
    -- the first i, it, and the later ones
    rows_split :
        one_after_another f xs
        ≡ one_after_another f (take i xs) ++ (f (get_or xs i d) ++ one_after_another f (drop (suc i) xs))
    unfolding one_after_another
    rows_split = ap (one_after_another f) (split_at xs i d l) ∙ rows_append (take i xs) (get_or xs i d ∷ drop (suc i) xs)

    -- it stands after the first i
    pub row_there :
        (old : List A) (n k : ℕ) → length (one_after_another f (take i xs)) ≡ n → length (f (get_or xs i d)) ≡ k →
        take k (drop n (in_front (one_after_another f xs) old)) ≡ f (get_or xs i d)
    unfolding in_front from_entry
    row_there old n k first some =
        rw (rows_split, append_assoc, drop_at (one_after_another f (take i xs)) _ n first, append_assoc)
        (take_at (f (get_or xs i d)) _ k some)

    -- and adds its own length to theirs
    pub row_adds :
        length (one_after_another f (take (suc i) xs))
        ≡ length (one_after_another f (take i xs)) + length (f (get_or xs i d))
    unfolding one_after_another
    row_adds = rw (take-suc xs i d l, rows_append, length-append, append-nil)
