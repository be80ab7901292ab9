-- Entries turned, one by one: entry i is the entry at the turned index, mirrored if the way mirrors; and what follows of it for bytes.
-- By the entries of a mapped and of a reversed list, each by induction on the list.
use mathlib.Core.Bool.{Bool, true, false, cond}
use mathlib.Core.List.{List, [], ◌∷◌, map, reverse, reverse-cons}
use mathlib.Core.Logic.{⊎_elim}
use mathlib.Core.Path.{◌≡◌, refl, sym, ap, ◌∙◌}
use Prim.Native.Nat.{ℕ, zero, suc, ◌-◌, ◌<◌}
use native.Mathlib.Nat.{eq-or-lt_of_le, le_of_suc-le-suc}
use native.Mathlib.Omega.{arith}
use lib.ListN.{length, get_or, length-map, length-reverse, get_or-append}
use lib.Seq.{get_or_at, ext_get_or}
use Rattle.answers.proofs.Bytes.{bytes_entry}
use Rattle.turn_mirror.proofs.Mirrored.{mirrored_right}
use Rattle.turn_mirror.specs.Mirrored.{mirrored}
use Rattle.turn_mirror.specs.Promises.{Mirror, MirroredRight}
use Rattle.turn.specs.Promises.{ByteTurned, TurnedTwice, IndexTurnedTwice}
use Rattle.turn.specs.Turned.{mirrors, reverses, turned_by, turned, turned_index}

mapped_entry : (f : ℕ → ℕ) (xs : List ℕ) (i : ℕ) → i < length xs → get_or (map f xs) i 0 ≡ f (get_or xs i 0)
mapped_entry f [] i h = absurd (omega arith)
mapped_entry f (x ∷ xs) zero h = refl
mapped_entry f (x ∷ xs) (suc i) h = mapped_entry f xs i (le_of_suc-le-suc h)

reversed_entry : (xs : List ℕ) (i : ℕ) → i < length xs → get_or (reverse xs) i 0 ≡ get_or xs (length xs - 1 - i) 0
reversed_entry [] i h = absurd (omega arith)
reversed_entry (x ∷ xs) i h =
    let size = suc (length xs) in
    rw (reverse-cons x xs)
    (⊎_elim
    (λ e. let first : size - 1 - i ≡ 0 = omega arith in rw first (get_or_at (reverse xs) x [] 0 i (length-reverse xs ∙ sym e)))
    (λ l.
    let later : size - 1 - i ≡ suc (length xs - 1 - i) = omega arith in
    rw later (get_or-append (reverse xs) (x ∷ []) 0 i (rw length-reverse l) ∙ reversed_entry xs i l))
    (eq-or-lt_of_le (le_of_suc-le-suc h)))

-- one entry mirrored, if the way mirrors
abbrev pub mirrored_if : (mirror : ℕ → ℕ) (way x : ℕ) → ℕ
mirrored_if mirror way x = cond (mirrors way) (mirror x) x

pub index_inside : (way m i : ℕ) → i < m → turned_index way m i < m
unfolding turned_index
index_inside way m i h = cases (reverses way)
  where
    cases : (z : Bool) → cond z (m - 1 - i) i < m
    cases true = omega arith
    cases false = h

pub index_turned_twice : IndexTurnedTwice
unfolding IndexTurnedTwice turned_index
index_turned_twice way m i h = cases (reverses way)
  where
    cases : (z : Bool) → cond z (m - 1 - cond z (m - 1 - i) i) (cond z (m - 1 - i) i) ≡ i
    cases true = omega arith
    cases false = refl

module _ (mirror : ℕ → ℕ) (way : ℕ) (xs : List ℕ) where
  -- the entries, mirrored if the way mirrors
  abbrev each : List ℕ
  each = cond (mirrors way) (map mirror xs) xs

  length_each : length each ≡ length xs
  length_each = cases (mirrors way)
    where
      cases : (z : Bool) → length (cond z (map mirror xs) xs) ≡ length xs
      cases true = length-map xs mirror
      cases false = refl

  each_entry : (i : ℕ) → i < length xs → get_or each i 0 ≡ mirrored_if mirror way (get_or xs i 0)
  each_entry i h = cases (mirrors way)
    where
      cases : (z : Bool) → get_or (cond z (map mirror xs) xs) i 0 ≡ cond z (mirror (get_or xs i 0)) (get_or xs i 0)
      cases true = mapped_entry mirror xs i h
      cases false = refl

  pub length_turned_by : length (turned_by mirror way xs) ≡ length xs
  unfolding turned_by
  length_turned_by = cases (reverses way) ∙ length_each
    where
      cases : (z : Bool) → length (cond z (reverse each) each) ≡ length each
      cases true = length-reverse each
      cases false = refl

  pub turned_by_entry :
      (i : ℕ) → i < length xs → get_or (turned_by mirror way xs) i 0 ≡ mirrored_if mirror way (get_or xs (turned_index way (length xs) i) 0)
  unfolding turned_by turned_index
  turned_by_entry i h = cases (reverses way)
    where
      cases : (z : Bool) → get_or (cond z (reverse each) each) i 0 ≡ mirrored_if mirror way (get_or xs (cond z (length xs - 1 - i) i) 0)
      cases true =
          reversed_entry each i (omega (arith, length_each)) ∙ rw length_each (each_entry (length xs - 1 - i) (omega arith))
      cases false = each_entry i h

module _ (way : ℕ) (xs : List ℕ) where
  pub length_turned : length (turned way xs) ≡ length xs
  unfolding turned
  length_turned = length_turned_by mirrored way xs

  pub turned_entry :
      (i : ℕ) → i < length xs → get_or (turned way xs) i 0 ≡ mirrored_if mirrored way (get_or xs (turned_index way (length xs) i) 0)
  unfolding turned
  turned_entry i h = turned_by_entry mirrored way xs i h

  -- in the ways that keep the order it is the entry of the same index
  pub entry_in_order :
      reverses way ≡ false → (i : ℕ) → i < length xs → get_or (turned way xs) i 0 ≡ mirrored_if mirrored way (get_or xs i 0)
  unfolding turned_index
  entry_in_order e i h = turned_entry i h ∙ ap (λ j. mirrored_if mirrored way (get_or xs j 0)) (same _ e)
    where
      same : (z : Bool) → z ≡ false → cond z (length xs - 1 - i) i ≡ i
      same z e = rw e refl

-- way 0 changes nothing
pub as_drawn : (way : ℕ) (xs : List ℕ) → way ≡ 0 → turned way xs ≡ xs
unfolding turned turned_by
as_drawn way xs e = rw e

-- a byte mirrored, if the way mirrors, and mirrored again is the byte that it was
module _ (way x : ℕ) (h : x < 256) where
  mirror_of : Mirror x
  unfolding MirroredRight
  mirror_of = mirrored_right x h

  twice_if : mirrored_if mirrored way (mirrored_if mirrored way x) ≡ x
  twice_if = cases (mirrors way)
    where
      cases : (z : Bool) → cond z (mirrored (cond z (mirrored x) x)) (cond z (mirrored x) x) ≡ x
      cases true = mirror_of.twice
      cases false = refl

pub byte_turned : ByteTurned
unfolding ByteTurned IndexTurnedTwice
byte_turned way i xs h =
    turned_entry way xs (turned_index way (length xs) i) (index_inside way (length xs) i h) ∙ rw (index_turned_twice way (length xs) i h)

pub turned_twice : TurnedTwice
unfolding TurnedTwice IndexTurnedTwice
turned_twice way xs b =
    let size = length_turned way xs in
    ext_get_or 0 _ xs (length_turned way (turned way xs) ∙ size)
    (λ i l.
    let h : i < length xs = rw (length_turned, length_turned) at l in
    turned_entry way (turned way xs) i (omega arith)
    ∙ rw (size, turned_entry way xs _ (index_inside way (length xs) i h), index_turned_twice way (length xs) i h)
    (twice_if way _ (bytes_entry xs b i)))
