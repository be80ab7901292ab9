-- What a call with a table of rules answers, by its status: one that answers 0 is done, and what it
-- tells then of each rule, and past them. By cases on the status, and by what stands in front.
use mathlib.Core.List.{List, [], ◌∷◌, map}
use mathlib.Core.Path.{◌≡◌, refl, ◌∙◌, ap}
use Prim.Native.Nat.{ℕ, zero, suc, ◌+◌, ◌-◌, ◌≤◌, ◌<◌}
use native.Mathlib.Omega.{arith}
use lib.ListN.{length, get_or, drop, replicate, length-map}
use lib.Seq.{get_or-drop, get_or-append-add}
use Rattle.answers.proofs.Answered.{refused_only}
use Rattle.answers.proofs.Fronts.{in_front_entry}
use Rattle.answers.specs.Answers.{if_done}
use Rattle.answers.specs.Buffers.{from_entry, in_front}
use Rattle.rules.specs.Rules.{Rule, rule_of, most_rules}
use Rattle.rules_answers.specs.Answers.{nothing_told, no_answers, told_of, all_told, rules_refused}
use Rattle.rules_answers.specs.Answers.{rules_answered}
use Rattle.rules_answers.specs.declared.RulesAnswer.{RulesAnswer}

-- a refused call answers its status and zeros
pub refused_answer : (s : ℕ) (done : RulesAnswer) → (s ≡ 0 → ⊥) → rules_refused s ≡ rules_answered s done
unfolding rules_answered
refused_answer s done h = refused_only s done (rules_refused s) h

-- a call answers its status
pub status_answered :
    (s : ℕ) (done : RulesAnswer) {r : RulesAnswer} → r ≡ rules_answered s done → done.status ≡ 0 → r.status ≡ s
unfolding rules_answered if_done
status_answered zero done h e = rw h e
status_answered (suc s) done h e = rw h refl

-- a call that answers 0 is done
pub done_only : (s : ℕ) (done : RulesAnswer) {r : RulesAnswer} → r ≡ rules_answered s done → r.status ≡ 0 → s ≡ 0
unfolding rules_answered if_done
done_only zero done h e = refl
done_only (suc s) done h e = absurd (omega (arith, ap (λ (a : RulesAnswer). a.status) h))

-- past the new entries a buffer holds what it held
past_front :
    {A : Type 0} (new old : List A) (i : ℕ) (d : A) → length new ≤ i → get_or (in_front new old) i d ≡ get_or old i d
unfolding in_front from_entry
past_front new old i d h =
    let k : length new + (i - length new) ≡ i = omega arith in
    rw k at
    (get_or-append-add new (drop (length new) old) (i - length new) d ∙ get_or-drop (length new) old (i - length new) d)

-- an entry inside of what f gives for each
mapped :
    {X A : Type 0} (f : X → A) (xs : List X) (i : ℕ) (d : X) (e : A) → i < length xs →
    get_or (map f xs) i e ≡ f (get_or xs i d)
mapped f [] i d e l = absurd (omega arith)
mapped f (x ∷ xs) zero d e l = refl
mapped f (x ∷ xs) (suc i) d e l = mapped f xs i d e (omega arith)

-- an entry of a list of equal ones
same_entry : {A : Type 0} (n i : ℕ) (a : A) → get_or (replicate n a) i a ≡ a
same_entry zero i a = refl
same_entry (suc n) zero a = refl
same_entry (suc n) (suc i) a = same_entry n i a

module _ (rs : List Rule) (t : List ℕ) (i : ℕ) where
  -- of each rule its search is told
  pub rule_told : i < length rs → get_or (all_told rs t) i nothing_told ≡ told_of t (rule_of rs i)
  unfolding all_told
  rule_told l =
      in_front_entry (map (told_of t) rs) no_answers i nothing_told (rw length-map l)
      ∙ mapped (told_of t) rs i (record { pattern = []; hold_offset = 0 }) nothing_told l

  -- and past them nothing
  pub past_told : length rs ≤ i → get_or (all_told rs t) i nothing_told ≡ nothing_told
  unfolding all_told no_answers
  past_told h =
      past_front (map (told_of t) rs) _ i nothing_told (rw length-map h) ∙ same_entry most_rules i nothing_told
