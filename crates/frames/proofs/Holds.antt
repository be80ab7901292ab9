-- Exactly the frames (b + q) modulo n of the occurrences b are holds (`HoldsRight`), each for one occurrence (`HoldsOnce`): frame i just where an
-- occurrence is q back from it around the ring. By induction on their list.
use mathlib.Core.Bool.{cond}
use mathlib.Core.List.{List, [], ◌∷◌, ◌++◌}
use mathlib.Core.Logic.{⊎_elim}
use mathlib.Core.Path.{◌≡◌, refl, sym, ◌∙◌}
use Prim.Native.Nat.{ℕ, ◌+◌, ◌%◌, ◌≤◌, ◌<◌}
use native.Mathlib.Nat.{mod-lt}
use native.Mathlib.Omega.{arith}
use borrow.Author.Tests.{eq-eqb, ne_eqb, lt-leb}
use lib.ListN.{length, get_or, set, drop, length-set}
use lib.Seq.{set-append_left, get_or-set_same, get_or-set_other}
use Rattle.answers.proofs.Bytes.{bytes_entry}
use Rattle.answers.specs.Buffers.{in_front}
use Rattle.tables.proofs.Cases.{true_or_false, eq_or_ne}
use Rattle.tables.specs.Sets.{byte}
pub use Rattle.steps.proofs.Occurrences.{occurrences_few}
use Rattle.steps.specs.Occurrences.{occurrences}
use Rattle.ring.proofs.Ascending.{passing_same}
use Rattle.ring.proofs.Back.{on_inverse}
use Rattle.ring.proofs.Listed.{is_in_passing_moved, ascending_count}
use Rattle.ring.proofs.Occurrences.{occurs_in, occurrences_passing, occurrences_ascend}
use Rattle.ring.specs.Ring.{back, is_in, ascending}
use Rattle.frames.specs.Frames.{hold, is_hold, holds, is_held, with_holds, frames}
use Rattle.frames.specs.Promises.{HoldsRight, holds_of, HoldsOnce}

-- a frame after holds are marked at positions
pub with_holds_at :
    (x i : ℕ) (positions frames : List ℕ) → i < length frames →
    get_or (with_holds x positions frames) i 0 ≡ cond (is_in positions i) x (get_or frames i 0)
unfolding with_holds is_in
with_holds_at x i [] fs h = refl
with_holds_at x i (j ∷ later) fs h =
    let h' : i < length (set fs j x) = rw length-set h in
    let always : cond (is_in later i) x x ≡ x = ⊎_elim (λ z. rw z) (λ z. rw z) (true_or_false (is_in later i)) in
    with_holds_at x i later (set fs j x) h'
    ∙ ⊎_elim
    (λ e. rw (eq-eqb j i e, e, get_or-set_same fs i x 0 h) always)
    (λ d. rw (ne_eqb j i d, get_or-set_other fs j i x 0 (λ e. d (sym e))))
    (eq_or_ne j i)

pub length_with_holds : (x : ℕ) (positions frames : List ℕ) → length (with_holds x positions frames) ≡ length frames
unfolding with_holds
length_with_holds x [] fs = refl
length_with_holds x (i ∷ later) fs = length_with_holds x later (set fs i x) ∙ length-set fs i x

pub length_frames : (q : ℕ) (w t : List ℕ) → length (frames q w t) ≡ length t
unfolding frames
length_frames q w t = length_with_holds hold (holds (length t) q (occurrences w t)) t

pub holds_right : HoldsRight
unfolding HoldsRight frames
holds_right q i w t h = with_holds_at hold i (holds (length t) q (occurrences w t)) t h

module _ (w t : List ℕ) (some : 1 ≤ length w) where
  -- position i is held just where the one that is q back from it is an occurrence
  pub held_at : (q i : ℕ) → i < length t → is_held q w t i ≡ occurs_in w t (back (length t) i q)
  unfolding holds
  held_at q i l =
      rw (occurrences_passing w t some) (is_in_passing_moved (on_inverse (length t) q) (occurs_in w t) i l)

-- in a text of bytes a frame is a hold just where it is held
pub frame_held :
    (q i : ℕ) (w t : List ℕ) → ((k : ℕ) → byte t k < hold) → i < length t →
    is_hold (get_or (frames q w t) i 0) ≡ is_held q w t i
unfolding HoldsRight
frame_held q i w t bytes h =
    rw (holds_right q i w t h)
    (⊎_elim (λ e. rw e) (λ e. rw e (lt-leb hold (byte t i) (bytes i)))
    (true_or_false (is_held q w t i)))

-- demand 3: after a conversion the holds are those of the occurrences
pub holds_listed :
    (q : ℕ) (w t : List ℕ) → ((k : ℕ) → byte t k < hold) →
    holds_of (frames q w t) ≡ ascending (length t) (holds (length t) q (occurrences w t))
unfolding holds_of ascending
holds_listed q w t bytes =
    rw (length_frames q w t)
    (passing_same (length t) 0 (λ i. is_hold (get_or (frames q w t) i 0)) (is_held q w t)
    (λ k l u. frame_held q k w t bytes (omega arith)))

-- those of different occurrences are different
pub holds_apart : (q : ℕ) (w t : List ℕ) → 1 ≤ length w → length (ascending (length t) (holds (length t) q (occurrences w t))) ≡ length (occurrences w t)
unfolding holds
holds_apart q w t some =
    ascending_count (on_inverse (length t) q) 0 (occurrences w t) (occurrences_ascend w t some)

pub holds_once : HoldsOnce
unfolding HoldsOnce
holds_once q w t h bytes = rw (holds_listed q w t (bytes_entry t bytes)) (holds_apart q w t (omega arith))

-- holds inside the first of two lists are marked there
pub with_holds_append :
    (x : ℕ) (n q : ℕ) (bs first second : List ℕ) → (1 ≤ length bs → 1 ≤ n) → n ≤ length first →
    with_holds x (holds n q bs) (first ++ second) ≡ with_holds x (holds n q bs) first ++ second
unfolding with_holds holds
with_holds_append x n q [] first second some h = refl
with_holds_append x n q (b ∷ later) first second some h =
    let here : (b + q) % n < n = mod-lt (b + q) (some (omega arith)) in
    let h' : n ≤ length (set first ((b + q) % n) x) = rw length-set h in
    rw (with_holds, set-append_left first second ((b + q) % n) x (omega arith))
    (with_holds_append x n q later (set first ((b + q) % n) x) second (λ l. some (omega arith)) h')

-- holds that are marked after the text is in front of a buffer: the frames are in front of it
pub frames_in_front :
    (q : ℕ) (w t buffer : List ℕ) → q < length w →
    with_holds hold (holds (length t) q (occurrences w t)) (in_front t buffer) ≡ in_front (frames q w t) buffer
unfolding in_front frames
frames_in_front q w t buffer h =
    rw length_with_holds
    (with_holds_append hold (length t) q (occurrences w t) t (drop (length t) buffer)
    (λ l. omega (arith, occurrences_few w t (omega arith))) (omega arith))
