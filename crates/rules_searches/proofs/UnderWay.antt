-- The caller's buffers and the answers while the rules are searched one after another: how far they
-- are, one rule more, and all of them. Each buffer by `RowsWritten`, and the answers as a list that
-- is told from the front.
use mathlib.Core.List.{List, [], ◌++◌, map}
use mathlib.Core.Path.{◌≡◌, refl, sym, ◌∙◌, ap}
use Prim.Native.Nat.{ℕ, ◌+◌, ◌*◌, ◌≤◌, ◌<◌}
use native.Mathlib.Omega.{arith}
use native.Mathlib.Numerals.{add-one}
use lib.ListN.{length, take, drop, get_or, set, length-map, length-set, length-take, length-replicate}
use lib.Seq.{take_all, take-suc, take-suc-set}
use Rattle.std.proofs.lemmas.List.{map-append}
use Rattle.answers.specs.Buffers.{from_entry, in_front}
use Rattle.answers.specs.declared.Answer.{Answer}
use Rattle.tables.proofs.Order.{stored_order_length}
use Rattle.tables.proofs.RepeatShift.{stored_Δ3_length}
use Rattle.tables.proofs.Stored.{stored_Δ2_length, stored_Δ1_length}
use Rattle.tables.specs.Buffers.{Tables}
use Rattle.steps.proofs.Occurrences.{occurrences_few}
use Rattle.steps.specs.Occurrences.{occurrences}
use Rattle.rules.proofs.Listed.{rules_counted, rule_listed, pattern_length}
use Rattle.rules.proofs.Taken.{table_patterned, patterned_each}
use Rattle.rules.specs.Buffers.{order_of, delta2_of, delta1_of, delta3_of}
use Rattle.rules.specs.Rules.{Rule, rule_of, count_of, length_at, rule_at, rules_of, TableTaken}
use Rattle.rules_answers.specs.Answers.{told as told_by, no_answers, told_of, all_told}
use Rattle.rules_answers.specs.declared.RuleAnswer.{RuleAnswer}
use Rattle.rules_claims.specs.Claims.{found_of}
use Rattle.rules_searches.proofs.Rooms.{RowsFit, rows_fit}
use Rattle.rules_searches.proofs.Rows.{RowsWritten, rows_begun, row_room, row_more, rows_ended}
use Rattle.rules_searches.specs.Parts.{PartFit, PartSearched}
use Rattle.rules_searches.specs.Searches.{RulesFit, RulesSearched}
use Rattle.rules_searches.specs.declared.Before.{Before}

-- a rule past the last
abbrev none : Rule
none = record { pattern = []; hold_offset = 0 }

-- there is an answer for each rule, in front of 16
pub slots : (x : List ℕ) → TableTaken x → length (take (count_of x) no_answers) ≡ count_of x
unfolding no_answers
slots x taken = rw (length-take, length-replicate) (omega (arith, taken.few))

-- of the first i an entry each is told, and of one more
told_more :
    {X A : Type 0} (g : X → A) (xs : List X) (told : List A) (i : ℕ) (d : X) {a : A} → i < length xs → i < length told →
    take i told ≡ map g (take i xs) → a ≡ g (get_or xs i d) → take (i + 1) (set told i a) ≡ map g (take (i + 1) xs)
told_more g xs told i d {a} l l' e here =
    rw (add-one, take-suc-set told i a l', take-suc xs i d l, map-append, e, here) refl

module _ (x t : List ℕ) (lent : Tables) (found₀ : List ℕ) where
  abbrev rs : List Rule
  rs = rules_of x

  -- the rules before i are searched
  pub record UnderWay (left : Tables) (found : List ℕ) (told : List RuleAnswer) (b : Before) (i : ℕ) : Type 0 where
    pub whole : length told ≡ count_of x
    pub counted : b.rules ≡ i
    pub small : b.bytes ≤ 128 * i
    pub few : b.occurrences ≤ 16384 * i
    pub order : RowsWritten order_of rs lent.order left.order (b.bytes + b.rules) i
    pub delta2 : RowsWritten delta2_of rs lent.delta2 left.delta2 (b.bytes + b.rules) i
    pub delta1 : RowsWritten delta1_of rs lent.delta1 left.delta1 (256 * b.bytes) i
    pub delta3 : RowsWritten delta3_of rs lent.delta3 left.delta3 b.bytes i
    pub finds : RowsWritten (found_of t) rs found₀ found b.occurrences i
    pub answered : take i told ≡ map (told_of t) (take i rs)

  pub begun :
      (told : List RuleAnswer) → length told ≡ count_of x →
      UnderWay lent found₀ told (record { rules = 0; bytes = 0; occurrences = 0 }) 0
  begun told whole = record {
    whole = whole;
    counted = refl;
    small = omega arith;
    few = omega arith;
    order = rows_begun order_of rs lent.order;
    delta2 = rows_begun delta2_of rs lent.delta2;
    delta1 = rows_begun delta1_of rs lent.delta1;
    delta3 = rows_begun delta3_of rs lent.delta3;
    finds = rows_begun (found_of t) rs found₀;
    answered = refl;
  }

  module _
      (taken : TableTaken x) (fit : RulesFit x t lent found₀) {left : Tables} {found : List ℕ} {told : List RuleAnswer}
      {b : Before} {i : ℕ} (u : UnderWay left found told b i) where
    room : RowsFit rs lent
    room = rows_fit rs lent (table_patterned x taken) fit.tables

    module _ (l : i < count_of x) where
      abbrev w : List ℕ
      w = (rule_at x i).pattern

      here : rule_of rs i ≡ rule_at x i
      here = rule_listed x i none l

      within : i < length rs
      within = rw (rules_counted x) l

      size : length w ≡ length_at x i
      size = pattern_length x taken.size i (omega (arith, taken.few)) (taken.lengths i l)

      some : 1 ≤ length w
      some = rw here at (patterned_each rs (table_patterned x taken) i within)

      pub part_fit : PartFit w t b left found
      part_fit =
          record {
            taken = record { some = some; few = rw size (taken.lengths i l) };
            text = fit.text;
            small = omega (arith, u.small, u.counted, taken.few);
            order_room =
                rw (← stored_order_length w some)
                (rw here at (row_room order_of rs u.order room.order none within));
            delta2_room =
                rw (← stored_Δ2_length w)
                (rw here at (row_room delta2_of rs u.delta2 room.delta2 none within));
            delta1_room =
                rw (← stored_Δ1_length w)
                (rw here at (row_room delta1_of rs u.delta1 room.delta1 none within));
            delta3_room =
                rw (← stored_Δ3_length w)
                (rw here at (row_room delta3_of rs u.delta3 room.delta3 none within));
            room = rw here at (row_room (found_of t) rs u.finds fit.room none within);
          }

      -- rule i too, whose pattern has so many bytes
      pub turned :
          {left' : Tables} {found' : List ℕ} {searched : Answer} {m : ℕ} {r : RuleAnswer} →
          PartSearched w t b left left' found found' searched → m ≡ length_at x i → r ≡ told_by searched →
          UnderWay left' found' (set told i r)
          (record { rules = b.rules + 1; bytes = b.bytes + m; occurrences = b.occurrences + searched.occurrences })
          (i + 1)
      turned p measured e =
          let h : _ ≡ length (occurrences w t) = ap (λ (a : Answer). a.occurrences) p.answer in
          record {
            whole = rw length-set u.whole;
            counted = omega (arith, u.counted);
            small = omega (arith, u.small, taken.lengths i l);
            few = omega (arith, u.few, occurrences_few w t some, fit.text);
            order =
                row_more order_of rs u.order room.order none within
                (rw here p.order) (rw (here, stored_order_length w some) (omega (arith, size)));
            delta2 =
                row_more delta2_of rs u.delta2 room.delta2 none within
                (rw here p.delta2) (rw (here, stored_Δ2_length w) (omega (arith, size)));
            delta1 =
                row_more delta1_of rs u.delta1 room.delta1 none within
                (rw here p.delta1) (rw (here, stored_Δ1_length w) (omega (arith, size)));
            delta3 =
                row_more delta3_of rs u.delta3 room.delta3 none within
                (rw here p.delta3) (rw (here, stored_Δ3_length w) (omega (arith, size)));
            finds =
                row_more (found_of t) rs u.finds fit.room none within
                (rw here p.occurrences_left) (rw here (omega arith));
            answered =
                told_more (told_of t) rs told i none within (omega (arith, u.whole)) u.answered
                (e ∙ rw (here, p.answer));
          }

    -- all rules, where there is an answer for each and none for others
    pub ended : count_of x ≤ i → RulesSearched x t lent left found₀ found (told ++ drop (count_of x) no_answers)
    unfolding all_told in_front from_entry
    ended h =
        let all : length rs ≤ i = rw (rules_counted x) h in
        let answers : told ≡ map (told_of t) rs =
        sym (take_all i told (omega (arith, u.whole))) ∙ u.answered ∙ ap (map (told_of t)) (take_all i rs all) in
        let order = rows_ended order_of rs u.order room.order all in
        let delta2 = rows_ended delta2_of rs u.delta2 room.delta2 all in
        let delta1 = rows_ended delta1_of rs u.delta1 room.delta1 all in
        let delta3 = rows_ended delta3_of rs u.delta3 room.delta3 all in
        record {
          answers = rw (answers, length-map, rules_counted) refl;
          tables = λ j. record { order = order j; delta2 = delta2 j; delta1 = delta1 j; delta3 = delta3 j };
          occurrences_left = rows_ended (found_of t) rs u.finds fit.room all;
        }
