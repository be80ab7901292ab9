-- The worked examples hold of the definitions, and the wrong claims beside them do not.
-- Each claim is computed; the longest jobs go by the laws of written files and of equal bytes.
use mathlib.Core.Bool.{Bool, true, false, ◌&&◌, and-false, true≢false, and-eq-true_iff}
use mathlib.Core.List.{List, [], ◌∷◌}
use mathlib.Core.Path.{◌≡◌, refl, sym, ◌∙◌, ap}
use Prim.Native.Nat.{ℕ, zero, suc, ◌+◌, ◌*◌, ◌%◌, ◌≤◌, ◌<◌}
use native.Mathlib.Nat.{mod-lt, suc-mul}
use native.Mathlib.Omega.{arith}
use borrow.Author.Tests.{ltb-true, eqb-false}
use lib.Count.{ones}
use lib.Dec.{ltb, leb, eqb}
use lib.ListN.{length, replicate, length-replicate, get_or, get_or-replicate}
use Rattle.answers.proofs.Bytes.{each_byte}
use Rattle.answers.specs.Answers.{counted, if_done, answered}
use Rattle.answers.specs.Buffers.{from_entry, in_front}
use Rattle.answers.specs.Bytes.{Bytes}
use Rattle.answers.specs.Refusals.{first_of, longest_pattern, longest_text, job_refusals}
use Rattle.hex_digits.specs.Hex.{is_digit, digit_value, digit, digits, all_digits, number}
use Rattle.hex_lines.specs.Lines.{line, lines}
use Rattle.job.specs.Job.{first_line, job_file, edition_in, m_in, q_in, n_in, bytes_in, pattern_in, text_in, good_line, good_lines, file_refusals, file_status}
use Rattle.job.proofs.RoundTrip.{written_read}
use Rattle.job.specs.Promises.{WrittenRead}
use Rattle.job.specs.Read.{read_status, read_answer}
use Rattle.job.specs.Write.{write_status, write_answer}
use Rattle.tables.specs.Least.{least_from, all_from}
use Rattle.tables.specs.Buffers.{tables_left}
use Rattle.tables.specs.Prepare.{prepare_status}
use Rattle.tables.specs.Sets.{byte, Pos, Neg}
use Rattle.tables.specs.Tables.{h_min, k_min, r_min, period, second_group_from, second_group, third_group_from, third_group, order, stored_order, Δ2, values_from, stored_Δ2, Δ1, stored_Δ1, repeats, Δ3, Δ3_defined, stored_Δ3, falling, repeat_row, repeat_shifts}
use Rattle.steps.proofs.Text.{shown_at}
use Rattle.steps.specs.Occurrences.{occurs, occurrences_from, all_occurrences, occurrences}
use Rattle.steps.specs.Bound.{bound}
use Rattle.steps.specs.Promises.{SameAt}
use Rattle.steps.specs.Steps.{agreeing, row, shifts, step, alignments_from, alignments, compared, is_occurrence, repeat_after, comparisons_of, listed, comparisons}
use Rattle.steps.specs.Text.{shown, span}
use Rattle.ring.specs.Ring.{back, is_in, passing, ascending}
use Rattle.search.specs.Search.{search_status, found_left}
use Rattle.frames.specs.Frames.{holds, with_holds, frames}
use Rattle.ones.specs.Ones.{ones_of, count_status, count_answer}
use Rattle.ones.specs.Words.{word_of}
use Rattle.convert.specs.Convert.{convert_status, frames_left}
use Rattle.convert.specs.Paired.{by_search, by_convert}
use Rattle.rotation_laws.specs.Promises.{rotated, rotated_positions}
use Rattle.turn_mirror.specs.Mirrored.{reversed_bits, mirrored}
use Rattle.turn.specs.Turn.{turn_status, turn_answer, turned_left}
use Rattle.turn.specs.Turned.{turned_by, turned, turned_index}
use Rattle.restore.specs.Restore.{restore_status, restored_left}
use Rattle.restore_conversions.specs.Walk.{rule_right}
use Rattle.restore_conversions.specs.Restored.{is_frame, names_rule, restored_byte, all_restored, restored, converts_again, is_conversion}
use Rattle.price_tariff.proofs.Cost.{cost_equal}
use Rattle.price_tariff.specs.Tariff.{byte_price, sum_from, total, rebate, cost}
use Rattle.price.specs.Price.{job_cost, price_status, price_answer}
use Rattle.explain_answers.specs.Answer.{explained}
use Rattle.explain_meaning.specs.Explanation.{kind_by, spoils, first_spoilt, where_laid, explained_by, explanation}
use Rattle.explain.specs.Explain.{explain_status, explain_answer}
use Rattle.rules.specs.Buffers.{one_after_another, sum_over, all_tables_left}
use Rattle.rules.specs.Rules.{held, rule_of, rules_from, rules_of, slot_refusals, table_refusals, named_refusals}
use Rattle.edit_rule.specs.Edit.{edit_refusals, edit_status, edited}
use Rattle.rules_claims.specs.Claims.{claims, claimants, claimed_twice}
use Rattle.rules_meet.specs.Meeting.{agree_at, can_meet}
use Rattle.rules_status.specs.Measured.{search_refusals}
use Rattle.rules_answers.specs.Answers.{nothing_told, no_answers, all_told, rules_answered}
use Rattle.search_rules.specs.SearchRules.{search_rules_status, all_found_left}
use Rattle.rules_frames.specs.RuleFrames.{marked, rule_frames}
use Rattle.convert_rules.specs.ConvertRules.{convert_rules_status, rule_frames_left}
use Rattle.convert_rules.specs.Paired.{by_search as rules_by_search, by_convert as rules_by_convert}
use Rattle.price_rules.specs.PriceRules.{price_rules_answer}
use Rattle.rules_conversions.specs.Conversions.{restored as restored_by_rules}
use Rattle.rules_conversions.specs.Conversions.{converts_again as converts_again_by_rules}
use Rattle.rules_conversions.specs.Conversions.{is_conversion as is_conversion_by_rules}
use Rattle.restore_rules.specs.RestoreRules.{measured, restore_rules_status, restored_left as restored_by_rules_left}
use Rattle.explain_rule.specs.ExplainRule.{explain_rule_status}
use Rattle.rules_turn_laws.specs.Promises.{turned_rule, turned_rules}
use Rattle.roles.specs.Promises.{Behind}
use Rattle.roles.specs.Roles.{permitted, behind_role}
use Rattle.roles.specs.declared.Job.TheVariants.{Edit}
use Rattle.report_lines.specs.Printed.{report_status, report_answer, refused_report}
use Rattle.report.specs.Report.{done_report, seek_report}
use Rattle.worked_examples.specs.Examples.{a, b, left_by_ac, bytes, shorthand_k_min, shorthand, Holds, examples, All, AllHold}

-- the first row's proof, then those of the rows below
infixr 20 ◌then◌
abbrev ◌then◌ : {A B : Type 0} → A → B → A × B
x then y = (x, y)

-- a job within the limits is taken
taken :
    (m q n : ℕ) → q < m → m ≤ longest_pattern → n ≤ longest_text → file_status (job_file q (replicate m a) (replicate n a)) ≡ 0
unfolding WrittenRead
taken m q n hq hm hn =
    let w = length-replicate m a in
    let t = length-replicate n a in
    (written_read q (replicate m a) (replicate n a) (all_a m) (all_a n) (omega arith) (omega arith) (omega arith)).taken
  where
    all_a : (k : ℕ) → Bytes (replicate k a)
    all_a k = each_byte (replicate k a) (λ i l. rw (get_or-replicate k i a 0 (rw length-replicate at l)) (omega arith))

-- a byte that a text does not show occurs nowhere in it, so the text's frames are its bytes
none_occurs : (f : ℕ → ℕ) (N d count at : ℕ) → ((x : ℕ) → eqb (f x) d ≡ false) → occurrences_from count at f N (d ∷ []) ≡ []
unfolding occurrences_from occurs all_from
none_occurs f N d zero i none = refl
none_occurs f N d (suc k) i none = rw (none (i + 0), and-false (leb (i + 1) N), none_occurs f N d k (suc i) none)

-- a text of equal bytes shows no other
shown_equal : (n c x : ℕ) → 1 ≤ n → shown (replicate n c) x ≡ c
shown_equal n c x some =
    let inside : x % length (replicate n c) < n = rw (length-replicate n c) (mod-lt x some) in
    rw (shown_at (replicate n c) x) (get_or-replicate n (x % length (replicate n c)) c 0 inside)

job_none : (n c d q : ℕ) → 1 ≤ n → eqb c d ≡ false → job_cost q (d ∷ []) (replicate n c) ≡ cost (replicate n c) (replicate n c)
unfolding occurrences all_occurrences frames holds with_holds
job_none n c d q some e =
    let (t, w) : List ℕ × List ℕ = (replicate n c, d ∷ []) in
    rw (none_occurs (shown t) (span w t) d (suc (span w t)) 0 (λ x. rw (shown_equal n c x some) e))

-- the ones of equal bytes, by those of one
ones_equal : (n c : ℕ) → ones_of (replicate n c) ≡ n * ones c
unfolding ones_of
ones_equal zero c = omega arith
ones_equal (suc n) c = omega (arith, ones_equal n c, suc-mul n (ones c))

-- numbers that differ are not equal, nor are values that a function takes to such numbers
unequal : {x y : ℕ} → eqb x y ≡ false → x ≡ y → ⊥
unequal {x} {y} = eqb-false x y

apart : {A : Type 0} {x y : A} (f : A → ℕ) → eqb (f x) (f y) ≡ false → x ≡ y → ⊥
apart f d e = unequal d (ap f e)

-- bytes, by a test of each
all_bytes : List ℕ → Bool
all_bytes [] = true
all_bytes (c ∷ t) = ltb c 256 && all_bytes t

tested_bytes : (t : List ℕ) → all_bytes t ≡ true → Bytes t
unfolding Bytes all_bytes
tested_bytes [] e = tt
tested_bytes (c ∷ t) e =
    let (small, rest) = (and-eq-true_iff (ltb c 256) (all_bytes t)).0 e in
    (ltb-true c 256 small, tested_bytes t rest)

-- what is so of 0 and of 1 is so of each number below 2
below_2 : (f g : ℕ → ℕ) → f 0 ≡ g 0 → f 1 ≡ g 1 → (i : ℕ) → i < 2 → f i ≡ g i
below_2 f g first second zero l = first
below_2 f g first second (suc zero) l = second
below_2 f g first second (suc (suc i)) l = absurd (omega (arith, l))

-- a job that is permitted, done, and one that is not, refused
may_edit : Behind 0 Edit (true ≡ true) (true ≡ true) (false ≡ true) 0
unfolding permitted
may_edit =
    record {
      as_without = λ y. ((λ o. o), (λ o. o));
      refused = λ n. absurd (true≢false n);
      told = λ o. ((λ e. absurd (omega (arith, e))), (λ n. absurd (true≢false n)));
    }

may_not_edit : Behind 1 Edit (true ≡ true) (false ≡ true) (true ≡ true) 13
unfolding permitted
may_not_edit =
    record {
      as_without = λ y. absurd (true≢false (sym y));
      refused = λ n. ((λ o. o), (λ o. o));
      told = λ o. ((λ e. refl), (λ n. refl));
    }

pub examples_hold : AllHold examples
unfolding bytes Holds examples All AllHold shorthand_k_min shorthand SameAt
    if_done answered count_answer first_of job_refusals is_digit digit_value digit digits all_digits number
    lines read_status write_status prepare_status search_status convert_status count_status report_status refused_report first_line job_file edition_in m_in q_in n_in bytes_in pattern_in text_in good_line good_lines file_refusals file_status
    least_from all_from Pos Neg h_min k_min r_min period second_group_from second_group third_group_from third_group order stored_order Δ2 values_from stored_Δ2 Δ1
    repeats Δ3 Δ3_defined stored_Δ3 falling repeat_row repeat_shifts
    occurs occurrences_from all_occurrences occurrences bound shown span
    agreeing row shifts step alignments_from alignments compared is_occurrence repeat_after comparisons_of listed comparisons
    holds with_holds frames ones ones_of word_of line done_report seek_report
    reversed_bits mirrored turned_by turned turned_index turn_status turn_answer turned_left from_entry in_front
    back passing ascending rotated rotated_positions
    is_frame names_rule restored_byte all_restored rule_right restored converts_again is_conversion restore_status restored_left
    byte_price sum_from total rebate cost price_status price_answer tables_left stored_Δ1 found_left
    frames_left read_answer write_answer report_answer
    kind_by spoils first_spoilt where_laid explained_by explanation explain_status explain_answer
    one_after_another sum_over all_tables_left rules_from rules_of
    slot_refusals table_refusals named_refusals edit_refusals edit_status edited
    held is_in claims claimants claimed_twice agree_at can_meet
    no_answers all_told rules_answered search_refusals search_rules_status all_found_left
    marked rule_frames convert_rules_status rule_frames_left price_rules_answer
    restored_by_rules converts_again_by_rules is_conversion_by_rules measured restore_rules_status
    restored_by_rules_left explain_rule_status turned_rule turned_rules all_bytes permitted behind_role
examples_hold =
    (refl, (refl, (refl, tt)))
    then (refl, (refl, (refl, tt)))
    then (refl, (refl, (refl, tt)))
    then (refl, (refl, ((refl, refl), (refl, (refl, tt)))))
    then ((refl, refl), (refl, tt))
    then ((refl, refl), (refl, tt))
    then ((refl, refl), (refl, tt))
    then ((refl, refl), (refl, tt))
    then ((refl, refl), (refl, tt))
    then (refl, tt)
    then (taken 128 0 0 (omega arith) (omega arith) (omega arith), (refl, (refl, (refl, (refl, (refl, (refl, (refl, (refl, (refl, (refl, (refl, (refl, (refl, (refl, tt)))))))))))))))
    then (taken 5 4 0 (omega arith) (omega arith) (omega arith), (refl, (refl, (refl, (refl, (refl, tt))))))
    then (taken 1 0 16384 (omega arith) (omega arith) (omega arith), (refl, (refl, (refl, (refl, (refl, (refl, (refl, (refl, (refl, tt))))))))))
    then (refl, (refl, (refl, (refl, (refl, (refl, (refl, (refl, (refl, (refl, (refl, (refl, (refl, (refl, tt))))))))))))))
    then (refl, (refl, (refl, (refl, (refl, (refl, (refl, (refl, (refl, (refl, (refl, (refl, (refl, (refl, (refl, (refl, (refl, (refl, (refl, tt)))))))))))))))))))
    then (refl, (refl, (refl, (refl, (refl, (refl, tt))))))
    then (refl, (refl, (refl, (refl, (refl, tt)))))
    then (refl, (refl, (refl, (refl, (refl, (refl, (refl, (refl, (refl, tt)))))))))
    then ((refl, refl), ((refl, refl), ((refl, refl), ((refl, refl), (refl, (refl, ((refl, refl), ((refl, refl), ((refl, refl), ((refl, refl), tt))))))))))
    then (refl, (refl, (refl, (refl, (refl, (refl, (refl, (refl, (refl, (refl, (refl, (refl, (refl, (refl, (refl, (refl, (refl, (refl, tt))))))))))))))))))
    then (refl, (record { answer = refl; text_left = refl }, (record { answer = refl; text_left = refl }, (record { answer = refl; text_left = refl }, (record { answer = refl; text_left = refl }, (refl, (refl, (refl, (refl, (refl, (refl, (refl, (refl, (refl, (refl, (refl, tt))))))))))))))))
    then (refl, (refl, (refl, (refl, (refl, (refl, (refl, (refl, (refl, (refl, (record { answer = refl; text_left = refl }, (record { answer = refl; text_left = refl }, (record { answer = refl; text_left = refl }, (record { answer = refl; text_left = refl }, (record { answer = refl; text_left = refl }, (record { answer = refl; text_left = refl }, tt))))))))))))))))
    then (record { answer = refl; text_left = refl }, (record { answer = refl; text_left = refl }, (record { answer = refl; text_left = refl }, (record { answer = refl; text_left = refl }, (record { answer = refl; text_left = refl }, (record { answer = refl; text_left = refl }, (refl, (refl, (refl, (refl, (refl, tt)))))))))))
    then (refl, (refl, (refl, (refl, (refl, (refl, (refl, (refl, (refl, (refl, (refl, (refl, (refl, (refl, (refl, (refl, (refl, tt)))))))))))))))))
    then (job_none 4097 0x00 b 0 (omega arith) refl ∙ cost_equal 4097 0x00 0x00, (cost_equal 4096 0x00 0x00, (cost_equal 4097 0x00 0x00, (cost_equal 4096 0x00 256, (cost_equal 4097 0x00 256, (cost_equal 16384 0xFF 256, (refl, (refl, (refl, (refl, (refl, (refl, tt))))))))))))
    then (record { answer = refl; tables = refl; occurrences_left = refl }, (record { answer = refl; tables = refl; occurrences_left = refl }, (record { answer = refl; tables = refl; occurrences_left = refl }, (record { answer = refl; tables = refl; occurrences_left = refl }, (record { answer = refl; tables = refl; occurrences_left = refl }, (record { answer = refl; tables = refl; occurrences_left = refl }, (record { answer = refl; tables = refl; occurrences_left = refl }, (refl, (refl, (refl, (refl, (refl, (refl, (refl, (refl, (refl, (refl, (refl, (refl, (refl, (refl, tt)))))))))))))))))))))
    then (refl, (refl, (refl, (refl, (ones_equal 8192 0xFF, (ap counted (ones_equal 8192 0xFF), tt))))))
    then (refl, (refl, (refl, (refl, (refl, (refl, (refl, (refl, (refl, (refl, (refl, (refl, (refl, (refl, (refl, (refl, (refl, (refl, tt))))))))))))))))))
    then (record { answer = refl; tables = refl }, (record { answer = refl; tables = refl }, (record { answer = refl; tables = refl; occurrences_left = refl }, (record { answer = refl; tables = refl; occurrences_left = refl }, (record { answer = refl; tables = refl; occurrences_left = refl }, (record { answer = refl; tables = refl; occurrences_left = refl; moves_and_holds_left = refl }, (record { answer = refl; tables = refl; occurrences_left = refl; moves_and_holds_left = refl }, (record { answer = refl; pattern_left = refl; text_left = refl }, (record { answer = refl; pattern_left = refl; text_left = refl }, (record { answer = refl; file_left = refl }, (record { answer = refl; file_left = refl }, (record { answer = refl; pattern_left = refl; text_left = refl }, (record { answer = refl; pattern_left = refl; text_left = refl }, (record { answer = refl; out_left = refl }, (record { answer = refl; out_left = refl }, (record { answer = refl; out_left = refl }, tt))))))))))))))))
    then (refl, (refl, ((refl, refl), (refl, (refl, (refl, ((refl, refl, omega arith, omega arith), tt)))))))
    then (refl, (refl, (refl, (record { answer = refl; tables = refl }, (record { answer = refl; tables = refl }, (record { answer = refl; tables = refl }, (refl, (refl, (refl, (refl, tt))))))))))
    then (refl, ((refl, refl), (refl, (refl, ((refl, refl), (refl, (refl, (refl, (refl, (refl, (refl, tt)))))))))))
    then (refl, (refl, (refl, (refl, (refl, tt)))))
    then (refl, (refl, (refl, (refl, (refl, (refl, tt))))))
    then (refl, (refl, (refl, (refl, (refl, (refl, (refl, (refl, (refl, (refl, (refl, (refl, (refl, (refl, (refl, (refl, (refl, (refl, (refl, (refl, (refl, (refl, (refl, tt)))))))))))))))))))))))
    then (refl, (refl, (refl, (refl, (refl, (refl, (refl, (refl, (refl, (refl, (refl, (refl, (refl, (refl, (refl, (refl, (refl, (refl, (refl, (record { answer = refl; tables = refl }, (record { answer = refl; tables = refl }, (record { answer = refl; tables = refl }, (record { answer = refl; tables = refl }, tt)))))))))))))))))))))))
    then (refl, ((refl, refl), (refl, (refl, ((refl, refl), ((refl, refl), (refl, (refl, (refl, (refl, (refl, (record { answer = refl; text_left = refl }, (record { answer = refl; text_left = refl }, (refl, (record { answer = refl; tables = refl; occurrences_left = refl; moves_and_holds_left = refl }, (record { answer = refl; tables = refl; occurrences_left = refl }, (record { answer = refl; tables = refl; occurrences_left = refl }, (record { answer = refl; tables = refl }, (refl, (refl, (refl, (refl, tt))))))))))))))))))))))
    then (refl, (refl, ((refl, refl), (refl, (refl, (refl, ((refl, refl), (refl, ((refl, refl), (refl, (refl, ((refl, refl), (refl, (refl, (refl, (refl, (refl, ((by_convert (record { answer = refl; tables = refl; occurrences_left = refl; moves_and_holds_left = refl }), refl, by_convert (record { answer = refl; tables = refl; occurrences_left = refl; moves_and_holds_left = refl }), refl, record { tables = refl; found = refl; frames = refl }), ((by_search (record { answer = refl; tables = refl; occurrences_left = refl }), refl, by_search (record { answer = refl; tables = refl; occurrences_left = refl }), refl, record { tables = refl; found = refl; frames = refl }), tt)))))))))))))))))))
    then (refl, (refl, ((refl, (refl, (refl, tt))), ((by_search (record { answer = refl; tables = refl; occurrences_left = refl }), refl, by_search (record { answer = refl; tables = refl; occurrences_left = refl }), refl, refl, (refl, (refl, (refl, tt)))), ((by_convert (record { answer = refl; tables = refl; occurrences_left = refl; moves_and_holds_left = refl }), refl, by_convert (record { answer = refl; tables = refl; occurrences_left = refl; moves_and_holds_left = refl }), refl, refl, (refl, (refl, (refl, tt)))), ((record { lent = left_by_ac; left = left_by_ac; outcome = record { answer = refl; tables = refl }; taken = refl }, record { lent = left_by_ac; left = left_by_ac; outcome = record { answer = refl; tables = refl }; taken = refl }, refl, (refl, (refl, (refl, tt)))), ((record { lent = left_by_ac; left = left_by_ac; outcome = record { answer = refl; tables = refl }; taken = refl }, record { lent = left_by_ac; left = left_by_ac; outcome = record { answer = refl; tables = refl }; taken = refl }, refl, (refl, (refl, (refl, tt)))), ((record { lent = left_by_ac; left = left_by_ac; outcome = record { answer = refl; tables = refl }; taken = refl }, record { lent = left_by_ac; left = left_by_ac; outcome = record { answer = refl; tables = refl }; taken = refl }, refl, (refl, (refl, (refl, tt)))), ((record { allowed = record { answer = refl; tables = refl; occurrences_left = refl }; taken = refl }, record { allowed = record { answer = refl; tables = refl; occurrences_left = refl }; taken = refl }, refl, (refl, (refl, (refl, tt)))), tt)))))))))
    then (refl, tt)
    then (unequal refl then apart length refl then apart length refl then unequal refl then apart length refl then (λ o. apart length refl o.0)
    then unequal refl then apart length refl then unequal refl then unequal refl then unequal refl then apart length refl then apart length refl
    then unequal refl then unequal refl then unequal refl then unequal refl then unequal refl then unequal refl then unequal refl
    then apart (λ r. r.delta3) refl then unequal refl then unequal refl then apart (λ r. r.ones) refl then apart (λ l. byte l 0) refl
    then apart (λ l. byte l 0) refl then unequal refl then apart (λ l. byte l 0) refl then apart (λ r. r.q) refl
    then apart (λ l. byte l 0) refl then apart (λ l. byte l 0) refl then true≢false then unequal refl
    then (λ o. apart (λ l. byte l 0) refl o.text_left) then unequal refl then unequal refl then unequal refl then unequal refl
    then (λ o. apart (λ r. r.pence) refl o.answer) then (λ o. apart (λ r. r.period) refl o.answer)
    then (λ o. apart (λ l. byte l 0) refl o.occurrences_left) then (λ o. apart (λ l. byte l 0) refl o.moves_and_holds_left)
    then (λ o. apart (λ r. r.answer.status) refl o.answer) then (λ o. apart (λ r. r.answer.status) refl o.answer)
    then (λ o. apart (λ r. r.answer.status) refl o.answer) then (λ o. apart (λ r. r.answer.status) refl o.answer)
    then apart (λ e. (explained e).place) refl then apart (λ r. r.place) refl then unequal refl
    then (λ o. apart (λ r. r.answer.status) refl o.answer) then apart (λ l. byte l 0) refl then apart (λ l. byte l 0) refl
    then (λ o. unequal refl o.3) then (λ o. unequal refl o.1.0) then (λ o. unequal refl o.5.1.0) then unequal refl
    then (λ o. absurd (omega (arith, o.3))) then (λ o. unequal refl o.1.taken)
    then (λ o. apart (λ r. r.pence) refl o.1.allowed.answer) then (λ no. no refl)
    then (λ o. apart (λ x. byte x.delta2 0) refl o.tables) then (λ o. apart (λ r. r.occurrences) refl o.answer)
    then (λ o. apart (λ r. r.period) refl o.answer) then (λ o. apart (λ r. r.status) refl o.answer)
    then (λ o. apart (λ x. byte x.delta2 0) refl o.tables) then (λ o. apart (λ l. byte l 0) refl o.pattern_left)
    then (λ o. apart (λ l. byte l 0) refl o.file_left) then (λ o. apart (λ l. byte l 0) refl o.pattern_left)
    then (λ o. apart (λ l. byte l 0) refl o.out_left) then (λ o. apart (λ x. byte x.delta2 0) refl o.tables)
    then (λ o. unequal refl o.4.found) then (λ o. unequal refl o.3) then (λ o. unequal refl o.3.1.0)
    then (λ o. unequal refl o.3.1.0) then (λ o. unequal refl o.4) then tt)
    then (refl, (refl, (refl, (refl, (refl, (refl, (refl, (refl, (refl, (refl, (refl, (refl, (refl, (refl, (refl, (refl, (refl, (refl, (refl, (refl, tt))))))))))))))))))))
    then (refl, (refl, (refl, (refl, (refl, (refl, (refl, (refl, (refl, (refl, (refl, (refl, (refl, (refl, (refl, (refl, (refl, (refl, (refl, (refl, (refl, (record { answer = refl; table_left = refl }, (record { answer = refl; table_left = refl }, (record { answer = refl; table_left = refl }, (record { answer = refl; table_left = refl }, (record { answer = refl; table_left = refl }, tt))))))))))))))))))))))))))
    then (refl, (refl, (refl, (refl, (refl, (refl, (refl, (refl, (refl, (refl, (refl, (refl, (refl, (refl, (refl, (refl, (refl, (refl, (refl, (refl, (refl, (refl, tt))))))))))))))))))))))
    then (refl, (refl, (refl, (refl, (refl, (refl, (refl, (refl, (refl, (refl, (refl, (refl, (refl, (refl, (refl, (refl, (refl, (refl, (refl, (refl, (refl, (refl, tt))))))))))))))))))))))
    then (refl, (refl, (refl, (refl, (refl, (refl, (refl, (refl, (refl, (refl, (refl, (refl, (refl, (refl, (refl, (refl, (refl, (refl, (refl, (refl, (refl, (refl, (refl, tt)))))))))))))))))))))))
    then (record { answer = refl; tables = refl; occurrences_left = refl }, (record { answer = refl; tables = refl; occurrences_left = refl }, (record { answer = refl; tables = refl; occurrences_left = refl }, (record { answer = refl; tables = refl; occurrences_left = refl }, (record { answer = refl; tables = refl; occurrences_left = refl; moves_and_holds_left = refl }, (record { answer = refl; tables = refl; occurrences_left = refl; moves_and_holds_left = refl }, (record { answer = refl; tables = refl; occurrences_left = refl; moves_and_holds_left = refl }, (record { answer = refl; tables = refl; occurrences_left = refl; moves_and_holds_left = refl }, (record { answer = refl; tables = refl; occurrences_left = refl; moves_and_holds_left = refl }, (record { answer = refl; tables = refl; occurrences_left = refl }, (record { answer = refl; tables = refl; occurrences_left = refl }, (record { answer = refl; tables = refl; occurrences_left = refl }, (record { answer = refl; tables = refl; occurrences_left = refl }, tt)))))))))))))
    then (refl, (refl, (refl, (refl, (refl, (refl, (refl, (refl, (refl, (refl, (refl, (refl, (refl, (refl, (refl, (refl, (refl, (refl, (refl, (refl, (refl, (refl, (refl, (refl, (refl, (refl, (record { answer = refl; text_left = refl }, (record { answer = refl; text_left = refl }, (record { answer = refl; text_left = refl }, tt)))))))))))))))))))))))))))))
    then (refl, (refl, (refl, (refl, (refl, (refl, (refl, (refl, (refl, (refl, (refl, (record { answer = refl; tables = refl }, (record { answer = refl; tables = refl }, (record { answer = refl; tables = refl }, (record { answer = refl; tables = refl }, tt)))))))))))))))
    then (refl, (refl, (refl, (refl, (refl, ((refl, omega arith, rules_by_search (record { answer = refl; tables = refl; occurrences_left = refl }), refl, rules_by_search (record { answer = refl; tables = refl; occurrences_left = refl }), refl, record { tables = refl; found = refl; frames = refl }), ((refl, omega arith, rules_by_search (record { answer = refl; tables = refl; occurrences_left = refl }), refl, rules_by_search (record { answer = refl; tables = refl; occurrences_left = refl }), refl, refl, (refl, (refl, (refl, tt)))), ((refl, omega arith, rules_by_convert (record { answer = refl; tables = refl; occurrences_left = refl; moves_and_holds_left = refl }), refl, rules_by_convert (record { answer = refl; tables = refl; occurrences_left = refl; moves_and_holds_left = refl }), refl, refl, (refl, (refl, (refl, tt)))), ((record { size = refl; size' = refl; bytes = tested_bytes _ refl; rules = refl; lengths = below_2 _ _ refl refl }, tested_bytes _ refl, rules_by_convert (record { answer = refl; tables = refl; occurrences_left = refl; moves_and_holds_left = refl }), refl, rules_by_convert (record { answer = refl; tables = refl; occurrences_left = refl; moves_and_holds_left = refl }), refl), (record { size = refl; one = refl; rule = refl }, (record { tables = refl; found = omega arith; frames = omega arith }, (record { allowed = record { answer = refl; tables = refl; occurrences_left = refl }; taken = refl }, tt))))))))))))
    then (unequal refl then apart length refl then unequal refl then unequal refl then (λ o. apart (λ l. byte l 3) refl o.table_left)
    then apart (λ l. byte l 0) refl then apart (λ l. byte l 0) refl then apart (λ l. (get_or l 0 nothing_told).unmatched) refl
    then apart (λ r. r.order) refl then unequal refl then true≢false then true≢false then unequal refl then unequal refl
    then (λ o. apart (λ r. (get_or r.rules 1 nothing_told).unmatched) refl o.answer)
    then (λ o. apart (λ l. byte l 0) refl o.moves_and_holds_left) then (λ o. apart (λ r. r.pence) refl o.answer)
    then apart (λ l. byte l 0) refl then unequal refl then (λ o. apart (λ l. byte l 0) refl o.text_left) then unequal refl
    then (λ o. apart (λ r. r.answer.status) refl o.answer) then apart (λ rs. (rule_of rs 0).hold_offset) refl
    then (λ o. unequal refl o.5) then (λ o. unequal refl o.7.0) then (λ o. apart (λ rs. (rule_of rs 0).hold_offset) refl o.0.rules)
    then (λ o. apart (λ r. r.status) refl o.answer) then (λ o. apart (λ l. byte l 0) refl o.occurrences_left)
    then (λ o. apart (λ x. byte x.delta2 0) refl o.tables)
    then (λ o. apart (λ x. byte x.delta2 0) refl o.tables) then (λ o. apart (λ r. r.status) refl o.answer)
    then (λ o. apart (λ x. byte x.delta2 0) refl o.tables)
    then (λ o. unequal refl o.one) then (λ o. true≢false o.tables)
    then (λ o. apart (λ r. r.pence) refl o.allowed.answer) then tt)
    then (refl, (refl, (refl, (refl, (refl, (refl, (refl, (refl, (refl, (refl, (refl, (refl, (refl, (refl, (refl, (refl, (refl, (refl, (refl, (refl, (refl, tt)))))))))))))))))))))
    then (refl, (refl, (refl, (refl, (refl, (refl, (refl, (may_edit, (may_not_edit, (record { answer = refl; tables = refl; occurrences_left = refl; moves_and_holds_left = refl }, (record { answer = refl; tables = refl; occurrences_left = refl; moves_and_holds_left = refl }, (record { answer = refl; tables = refl; occurrences_left = refl; moves_and_holds_left = refl }, (record { answer = refl; tables = refl; occurrences_left = refl; moves_and_holds_left = refl }, (record { answer = refl; text_left = refl }, (record { answer = refl; text_left = refl }, (record { answer = refl; text_left = refl }, (record { answer = refl; text_left = refl }, (record { answer = refl; tables = refl }, (record { answer = refl; tables = refl }, (record { answer = refl; tables = refl }, (record { answer = refl; tables = refl }, (record { answer = refl; tables = refl; occurrences_left = refl }, (record { answer = refl; tables = refl; occurrences_left = refl }, (record { answer = refl; tables = refl; occurrences_left = refl }, (record { answer = refl; tables = refl; occurrences_left = refl }, (record { answer = refl; table_left = refl }, (record { answer = refl; table_left = refl }, (record { answer = refl; table_left = refl }, (record { answer = refl; table_left = refl }, tt)))))))))))))))))))))))))))))
    then ((λ e. true≢false (sym e)) then unequal refl
    then (λ o. true≢false (sym ((o.as_without refl).1 refl))) then (λ o. true≢false (sym ((o.refused refl).1 refl)))
    then (λ o. true≢false ((o.told refl).0 refl)) then (λ o. apart (λ x. byte x.delta2 0) refl o.tables)
    then (λ o. apart (λ l. byte l 0) refl o.text_left) then (λ o. apart (λ r. r.status) refl o.answer)
    then (λ o. apart (λ r. r.answer.status) refl o.answer)
    then (λ o. apart (λ r. r.answer.status) refl o.answer) then (λ o. apart (λ l. byte l 3) refl o.table_left) then tt)
    then tt
