-- The five calls stand behind their roles (`ConvertBehind` and the others). What a refused call
-- answers and leaves is read off at status 13, and no call has that number without roles.
use mathlib.Core.Bool.{false}
use mathlib.Core.List.{[], ◌∷◌}
use mathlib.Core.Path.{◌≡◌, refl, ◌∙◌, ap}
use Prim.Native.Nat.{ℕ, zero, suc, ◌<◌}
use native.Mathlib.Omega.{arith}
use lib.ListN.{length}
use Rattle.answers.specs.Answers.{if_done}
use Rattle.answers.specs.declared.Answer.{Answer}
use Rattle.tables.specs.Buffers.{lengths, tables_left}
use Rattle.price.specs.declared.PriceAnswer.{PriceAnswer}
use Rattle.ones.specs.Ones.{ones_of}
use Rattle.convert.specs.Paired.{Buffers}
use Rattle.explain.specs.Explain.{explain_answer, ExplainOutcomeOf}
use Rattle.rules.specs.Buffers.{all_tables_left}
use Rattle.rules.specs.Rules.{rules_of}
use Rattle.edit_rule.specs.Edit.{EditOutcomeOf}
use Rattle.rules_answers.proofs.Answered.{status_answered}
use Rattle.rules_answers.specs.Answers.{rules_done, rules_answered}
use Rattle.search_rules.specs.SearchRules.{all_found_left}
use Rattle.convert_rules.specs.ConvertRules.{rule_frames_left, ConvertRulesOutcomeOf}
use Rattle.price_rules.specs.PriceRules.{price_rules_answer, PriceRulesOutcomeOf}
use Rattle.restore_rules.specs.RestoreRules.{restored_left, RestoreRulesOutcomeOf}
use Rattle.explain_rule.specs.ExplainRule.{numbered_pattern}
use Rattle.rules_one_laws.proofs.Calls.{status_explained}
use Rattle.roles.proofs.Behind.{stands_behind}
use Rattle.roles.specs.Roles.{permitted}
use Rattle.roles.specs.declared.Job.TheVariants.{Convert, Restore, Explain, Price, Edit}
use Rattle.roles_laws.proofs.Numbers.{convert_below, restore_below, explain_below, price_below, edit_below}
use Rattle.roles_laws.specs.Promises.{ConvertBehind, RestoreBehind, ExplainBehind, PriceBehind, EditBehind}
use Rattle.roles_laws.specs.Promises.{EditsByOthers, KeptOut}

pub restore_behind : RestoreBehind
unfolding RestoreBehind restored_left if_done
restore_behind role x gs text text' r =
    stands_behind (λ s. RestoreRulesOutcomeOf s (rules_of x) gs text text' r) role Restore _
    ((λ o. (o.answer, o.text_left)), (λ h. record { answer = h.0; text_left = h.1 }))
    (λ o. ap (λ (a : Answer). a.status) o.answer)
    (restore_below x gs (length text))

pub edit_behind : EditBehind
unfolding EditBehind if_done
edit_behind role number q w x x' r =
    stands_behind (λ s. EditOutcomeOf s number q w x x' r) role Edit _
    ((λ o. (o.answer, o.table_left)), (λ h. record { answer = h.0; table_left = h.1 }))
    (λ o. ap (λ (a : Answer). a.status) o.answer)
    (edit_below x number (length w) q)

pub price_behind : PriceBehind
unfolding PriceBehind price_rules_answer all_tables_left all_found_left if_done
price_behind role x t c =
    stands_behind
    (λ s. PriceRulesOutcomeOf s (rules_of x) t c.lent c.left c.found c.found' c.answer) role Price _ (
      (λ o. (o.answer, (o.tables, o.occurrences_left))),
      (λ h. record { answer = h.0; tables = h.1.0; occurrences_left = h.1.1 }),
    )
    (λ o. ap (λ (a : PriceAnswer). a.answer.status) o.answer)
    (price_below x t (lengths c.lent) (length c.found))

pub explain_behind : ExplainBehind
unfolding ExplainBehind explain_answer tables_left if_done
explain_behind role number b x t lent left r =
    stands_behind (λ s. ExplainOutcomeOf s b (numbered_pattern x number) t lent left r) role Explain _
    ((λ o. (o.answer, o.tables)), (λ h. record { answer = h.0; tables = h.1 }))
    (λ o. status_explained _ b (numbered_pattern x number) t o.answer)
    (explain_below x number (length t) b (lengths lent))

-- buffers are the same where each of them is
pub same_buffers :
    {b b' : Buffers} → b'.tables ≡ b.tables → b'.found ≡ b.found → b'.frames ≡ b.frames → b' ≡ b
same_buffers t f g = rw (t, f, g) refl

pub convert_behind : ConvertBehind
unfolding ConvertBehind rules_answered all_tables_left all_found_left rule_frames_left if_done
convert_behind role x t c =
    let b = c.lent in
    let b' = c.left in
    stands_behind
    (λ s.
    ConvertRulesOutcomeOf s (rules_of x) t b.tables b'.tables b.found b'.found b.frames b'.frames
    c.answer)
    role Convert _ (
      (λ o. (o.answer, same_buffers o.tables o.occurrences_left o.moves_and_holds_left)),
      (λ h.
          record {
            answer = h.0;
            tables = ap (λ (a : Buffers). a.tables) h.1;
            occurrences_left = ap (λ (a : Buffers). a.found) h.1;
            moves_and_holds_left = ap (λ (a : Buffers). a.frames) h.1;
          }),
    )
    (λ o. status_answered _ (rules_done (rules_of x) t (ones_of t)) o.answer refl)
    (convert_below x t (lengths b.tables) (length b.found) (length b.frames))

-- none but the draughtswoman may edit
no_edit : (role : ℕ) → 0 < role → permitted role Edit ≡ false
unfolding permitted
no_edit zero l = absurd (omega arith)
no_edit (suc zero) l = refl
no_edit (suc (suc zero)) l = refl
no_edit (suc (suc (suc above))) l = refl

pub kept_out : KeptOut
unfolding KeptOut EditsByOthers EditBehind
kept_out [] x x' e = e
kept_out (c ∷ cs) x x' e =
    let here = edit_behind c.role c.number c.hold_offset c.pattern x c.left c.answer in
    kept_out cs c.left x' e.1.1 ∙ ((here.refused (no_edit c.role e.0)).0 e.1.0).1
