-- What it is that the status of a search with a whole table is 0 (`MeasuredTaken`), and how the
-- call's own buffers are measured together. None of the conditions holds, and each says what it
-- says.
use mathlib.Core.Bool.{Bool, true, false, ◌||◌, cond}
use mathlib.Core.List.{List, [], ◌∷◌, ◌++◌}
use mathlib.Core.Path.{◌≡◌, refl, sym, ◌∙◌}
use Prim.Native.Nat.{ℕ, ◌≤◌}
use native.Mathlib.Omega.{arith}
use borrow.Author.Tests.{ltb-false, le-ltb}
use lib.Dec.{ltb}
use lib.ListN.{length}
use Rattle.answers.proofs.Refusals.{done_none, none_done, none_both, both_none, numbered_both}
use Rattle.answers.proofs.Refusals.{same_past, first_refused, first_passed}
use Rattle.answers.specs.Promises.{NoneHolds, Numbered}
use Rattle.answers.specs.Refusals.{Refusal, refuse, first_of, longest_text, text_refusal, buffer_refusal}
use Rattle.tables.specs.Buffers.{short_of}
use Rattle.tables.specs.declared.TableLengths.{TableLengths}
use Rattle.rules.proofs.Taken.{taken_refusals}
use Rattle.rules.proofs.Tested.{table_taken, table_some, table_numbered}
use Rattle.rules.specs.Buffers.{all_needed, tables_refusal}
use Rattle.rules.specs.Rules.{TableTaken, table_size, count_of, rules_of, table_refusals}
use Rattle.rules_claims.specs.Claims.{claimed_twice, claim_refusal}
use Rattle.rules_status.specs.Measured.{search_refusals, measured_status}

module _ (x t : List ℕ) (l : TableLengths) (own : List Refusal) where
  -- a search with a whole table is taken, with the call's own conditions
  pub record MeasuredTaken : Type 0 where
    pub table : TableTaken x
    pub some : 1 ≤ count_of x
    pub text : length t ≤ longest_text
    pub tables_room : short_of (all_needed (rules_of x)) l ≡ false
    pub own_room : NoneHolds own
    pub once : claimed_twice (rules_of x) t ≡ false

  -- what is measured past the text, and past the table
  abbrev past_text : List Refusal
  past_text = tables_refusal (rules_of x) l ∷ (own ++ (claim_refusal (rules_of x) t ∷ []))

  abbrev past_table : List Refusal
  past_table = text_refusal (length t) ∷ past_text

  -- a status of 0 says that it is taken
  pub search_taken : length x ≡ table_size → Numbered own → first_of (search_refusals x t l own) ≡ 0 → MeasuredTaken
  unfolding search_refusals
  search_taken size numbered e =
      let last = claim_refusal (rules_of x) t ∷ [] in
      let some_number : Numbered past_table =
      (omega arith, (omega arith, numbered_both own last numbered (omega arith))) in
      let none =
      done_none (search_refusals x t l own)
      (numbered_both (table_refusals x) past_table (table_numbered x) some_number) e in
      let (table, (text, (room, rest))) = none_both (table_refusals x) past_table none in
      let (own_room, once) = none_both own last rest in
      let tested = none_done (table_refusals x) table in
      record {
        table = table_taken x size tested;
        some = table_some x tested;
        text = ltb-false longest_text (length t) text;
        tables_room = room;
        own_room = own_room;
        once = once.0;
      }

  -- and back
  pub taken_search : MeasuredTaken → first_of (search_refusals x t l own) ≡ 0
  unfolding search_refusals
  taken_search m =
      let none : NoneHolds past_table = (
        le-ltb longest_text (length t) m.text,
        (m.tables_room, both_none own (claim_refusal (rules_of x) t ∷ []) m.own_room (m.once, tt)),
      ) in
      first_passed (table_refusals x) past_table (table_numbered x) refl (taken_refusals x m.table m.some)
      ∙ none_done past_table none

-- two conditions of one number before others are one
either_before : (a b : Bool) (number later : ℕ) → cond a number (cond b number later) ≡ cond (a || b) number later
either_before true b n later = refl
either_before false b n later = refl

-- the status that is measured, where `short` says whether the call's own buffers are too short
module _ (x t : List ℕ) (l : TableLengths) (short : Bool) where
  pub measured_taken :
      length x ≡ table_size → measured_status x t l short ≡ 0 → MeasuredTaken x t l (refuse 7 short ∷ [])
  unfolding measured_status
  measured_taken size e = search_taken x t l (refuse 7 short ∷ []) size (omega arith) e

  -- it is the table's where that is refused, then the text's, and past these it goes by 7 and 12
  module _ {s : ℕ} (tested : s ≡ first_of (table_refusals x)) where
    pub table_refused : (s ≡ 0 → ⊥) → s ≡ measured_status x t l short
    unfolding measured_status search_refusals
    table_refused h = first_refused (table_refusals x) (past_table x t l (refuse 7 short ∷ [])) tested h

    module _ (e : s ≡ 0) {s' : ℕ} (tested' : s' ≡ first_of (text_refusal (length t) ∷ [])) where
      past : measured_status x t l short ≡ first_of (past_table x t l (refuse 7 short ∷ []))
      unfolding measured_status search_refusals
      past = first_passed (table_refusals x) (past_table x t l (refuse 7 short ∷ [])) (table_numbered x) tested e

      -- where the text is refused, so is the call
      pub text_refused : (s' ≡ 0 → ⊥) → s' ≡ measured_status x t l short
      text_refused h =
          first_refused (text_refusal (length t) ∷ []) (past_text x t l (refuse 7 short ∷ [])) tested' h ∙ sym past

      pub rooms_decide :
          s' ≡ 0 →
          measured_status x t l short
          ≡ cond (short_of (all_needed (rules_of x)) l || short) 7 (cond (claimed_twice (rules_of x) t) 12 0)
      unfolding first_of
      rooms_decide e' =
          past
          ∙ first_passed (text_refusal (length t) ∷ []) (past_text x t l (refuse 7 short ∷ [])) (omega arith) tested' e'
          ∙ either_before (short_of (all_needed (rules_of x)) l) short 7 _

-- two own buffers are measured together
pub measured_both :
    (x t : List ℕ) (l : TableLengths) (f g n : ℕ) →
    first_of (search_refusals x t l (buffer_refusal f n ∷ buffer_refusal g n ∷ []))
    ≡ measured_status x t l (ltb f n || ltb g n)
unfolding search_refusals measured_status first_of
measured_both x t l f g n =
    same_past (table_refusals x) _ _ (λ none. rw (either_before (ltb f n)))

-- and so is one
pub measured_one :
    (x t : List ℕ) (l : TableLengths) (f n : ℕ) →
    first_of (search_refusals x t l (buffer_refusal f n ∷ [])) ≡ measured_status x t l (ltb f n)
unfolding measured_status
measured_one x t l f n = refl
