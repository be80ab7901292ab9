-- A part of a buffer, from an entry on, is lent to a search, which puts its entries in front of the
-- part: they are put into the buffer from that entry on. By how lists are taken apart and put
-- together.
use mathlib.Core.List.{List, ◌++◌, append_assoc, append-nil}
use mathlib.Core.Path.{◌≡◌, sym, ◌∙◌, ap}
use Prim.Native.Nat.{ℕ, ◌+◌, ◌*◌, ◌-◌}
use native.Mathlib.Omega.{arith}
use lib.ListN.{length, take, drop, length-drop, drop_of_length-le, take-append-drop}
use Rattle.answers.specs.Answers.{if_done, answered}
use Rattle.answers.specs.Buffers.{from_entry, in_front}
use Rattle.answers.specs.declared.Answer.{Answer}
use Rattle.tables.specs.Buffers.{Tables, tables, tables_left}
use Rattle.tables.specs.Tables.{stored_order, stored_Δ2, stored_Δ1, stored_Δ3}
use Rattle.steps.specs.Occurrences.{occurrences}
use Rattle.search.specs.Search.{found_left, SearchOutcomeOf}
use Rattle.rules_searches.specs.Parts.{PartSearched}
use Rattle.rules_searches.specs.declared.Before.{Before}

-- the part of a buffer from an entry on
abbrev rest : {A : Type 0} → (at : ℕ) → List A → List A
rest at old = take (length old - at) (drop at old)

-- the buffer when that part is back, with what stands in it then
abbrev put_back : {A : Type 0} → (at : ℕ) → (part old : List A) → List A
put_back at part old = take at old ++ (part ++ drop (length old - at) (drop at old))

-- the parts of the tables' buffers after the rules before
abbrev parts_of : Before → Tables → Tables
parts_of b x =
    tables (rest (b.bytes + b.rules) x.order) (rest (b.bytes + b.rules) x.delta2) (rest (256 * b.bytes) x.delta1)
    (rest b.bytes x.delta3)

module _ {A : Type 0} (at : ℕ) (old : List A) where
  -- as many entries as there are from that entry on are all of them
  rest_all : rest at old ≡ drop at old
  rest_all =
      let none = drop_of_length-le (drop at old) {i = length old - at} (rw (length-drop) (omega arith)) in
      sym (append-nil _) ∙ rw none at (take-append-drop (length old - at) (drop at old))

  -- new entries in front of the part are new entries of the buffer, from that entry on
  part_put :
      (new : List A) {part : List A} → part ≡ in_front new (rest at old) → put_back at part old ≡ from_entry at new old
  unfolding in_front from_entry
  part_put new e =
      let none = drop_of_length-le (drop at old) {i = length old - at} (rw (length-drop) (omega arith)) in
      rw (e, none, rest_all, append-nil (new ++ drop (length new) (drop at old)))
      (sym (append_assoc (take at old) new _))

-- a search whose buffers are parts of others leaves its tables and occurrences there
pub searched_part :
    (w t : List ℕ) (b : Before) (lent : Tables) (found : List ℕ) {left : Tables} {found' : List ℕ} {r : Answer} →
    SearchOutcomeOf 0 w t (parts_of b lent) left (rest b.occurrences found) found' r →
    PartSearched w t b lent
    (tables (put_back (b.bytes + b.rules) left.order lent.order)
    (put_back (b.bytes + b.rules) left.delta2 lent.delta2)
    (put_back (256 * b.bytes) left.delta1 lent.delta1) (put_back b.bytes left.delta3 lent.delta3))
    found (put_back b.occurrences found' found) r
unfolding tables_left if_done answered found_left
searched_part w t b lent found o =
    record {
      answer = o.answer;
      order = part_put (b.bytes + b.rules) lent.order (stored_order w) (ap (λ (x : Tables). x.order) o.tables);
      delta2 = part_put (b.bytes + b.rules) lent.delta2 (stored_Δ2 w) (ap (λ (x : Tables). x.delta2) o.tables);
      delta1 = part_put (256 * b.bytes) lent.delta1 (stored_Δ1 w) (ap (λ (x : Tables). x.delta1) o.tables);
      delta3 = part_put b.bytes lent.delta3 (stored_Δ3 w) (ap (λ (x : Tables). x.delta3) o.tables);
      occurrences_left = part_put b.occurrences found (occurrences w t) o.occurrences_left;
    }
