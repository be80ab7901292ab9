-- What calls with two tables share, where each byte of the one ring is claimed as often as some
-- byte of the other: a byte is claimed twice in both rings or in neither, and so the calls have the
-- same status. By going to that byte and back. And what a call that is taken says of its table.
use mathlib.Core.Bool.{false}
use mathlib.Core.List.{List, [], ◌∷◌}
use mathlib.Core.Logic.{◌≢◌, ⊎_elim}
use mathlib.Core.Path.{◌≡◌, refl, sym, ◌∙◌, ap}
use Prim.Native.Nat.{ℕ, ◌<◌}
use native.Mathlib.Omega.{arith}
use lib.ListN.{length}
use Rattle.answers.specs.Refusals.{Refusal, first_of}
use Rattle.tables.proofs.Cases.{true_or_false, eq_or_ne, clash}
use Rattle.tables.specs.declared.TableLengths.{TableLengths}
use Rattle.steps.specs.Occurrences.{occurrences}
use Rattle.ring.proofs.Back.{Inverse}
use Rattle.ones.specs.Ones.{ones_of}
use Rattle.price.specs.Promises.{PriceCall}
use Rattle.price.specs.declared.PriceAnswer.{PriceAnswer}
use Rattle.rules.specs.Buffers.{tables_refusal}
use Rattle.rules.specs.Rules.{Rule, rules_of, table_size, table_refusals, TableTaken}
use Rattle.rules_answers.proofs.Answered.{status_answered, done_only}
use Rattle.rules_answers.specs.Answers.{rules_done}
use Rattle.rules_claims.proofs.Twice.{once_each, each_once}
use Rattle.rules_claims.specs.Claims.{claimants, claimed_twice}
use Rattle.rules_status.proofs.Measured.{search_taken}
use Rattle.rules_status.specs.Measured.{search_refusals}
use Rattle.search_rules.specs.SearchRules.{search_rules_status, search_rules_status_of}
use Rattle.convert_rules.specs.ConvertRules.{convert_rules_status}
use Rattle.convert_rules.specs.Paired.{RulesCall, RulesTaken, SearchesRules, ConvertsRules, AnyRulesSearch}
use Rattle.convert_rules.specs.Paired.{by_search, by_convert, RulesLentAsLong, RuleExact, told_by}
use Rattle.price_rules.specs.PriceRules.{price_rules_answer}
use Rattle.price_rules.specs.Promises.{PricesRules, RulesPriced}
use Rattle.rules_rotation_laws.specs.Calls.{PriceLentAsLong}

-- where byte c of u is claimed as often as byte g c of t, none is claimed twice in u where none is
-- in t, and back
module _
    (rs rs' : List Rule) (t u : List ℕ) {f g : ℕ → ℕ} (size : length u ≡ length t) (v : Inverse (length t) f g)
    (same : (c : ℕ) → c < length t → claimants rs' u c ≡ claimants rs t (g c)) where
  once_there : claimed_twice rs t ≡ false → claimed_twice rs' u ≡ false
  once_there e =
      each_once rs' u
      (λ c l.
      let inside : c < length t = omega arith in
      rw (same c inside) (once_each rs t e (g c) (v.inside_back c inside)))

  once_back : claimed_twice rs' u ≡ false → claimed_twice rs t ≡ false
  once_back e =
      each_once rs t
      (λ c l.
      let there = v.inside c l in
      omega (arith, rw (v.undone c l) at (same (f c) there), once_each rs' u e (f c) (omega arith)))

  -- so one is in both or in neither
  pub twice_moved : claimed_twice rs' u ≡ claimed_twice rs t
  twice_moved =
      ⊎_elim
      (λ e. ⊎_elim (λ e'. e' ∙ sym e) (λ e'. absurd (clash _ e (once_back e'))) (true_or_false (claimed_twice rs' u)))
      (λ e. once_there e ∙ sym e)
      (true_or_false (claimed_twice rs t))

-- what a status goes by is the same of the table x' and the ring u as of the table x and the ring t
pub record Alike (x x' t u : List ℕ) : Type 0 where
  pub refusals : table_refusals x' ≡ table_refusals x
  pub needed : (l : TableLengths) → tables_refusal (rules_of x') l ≡ tables_refusal (rules_of x) l
  pub text : length u ≡ length t
  pub twice : claimed_twice (rules_of x') u ≡ claimed_twice (rules_of x) t

module _ {x x' t u : List ℕ} (a : Alike x x' t u) where
  -- then the status is the same, whatever the call's own conditions
  same_status :
      (l : TableLengths) (own : List Refusal) →
      first_of (search_refusals x' u l own) ≡ first_of (search_refusals x t l own)
  unfolding search_refusals
  same_status l own =
      rw (a.refusals, a.needed l, a.text, a.twice)

  -- so two calls with buffers as long answer the same status
  pub statuses_alike :
      (c d : RulesCall) → RulesLentAsLong c d →
      (SearchesRules x t c → SearchesRules x' u d → d.answer.status ≡ c.answer.status)
      × (ConvertsRules x t c → ConvertsRules x' u d → d.answer.status ≡ c.answer.status)
  unfolding search_rules_status convert_rules_status
  statuses_alike c d same = (
    λ h h'.
        status_answered _ (rules_done (rules_of x') u 0) h'.answer refl
        ∙ rw (same.tables, same.found, a.text, same_status)
        (sym (status_answered _ (rules_done (rules_of x) t 0) h.answer refl)),
    λ h h'.
        status_answered _ (rules_done (rules_of x') u (ones_of u)) h'.answer refl
        ∙ rw (same.tables, same.found, same.frames, a.text, same_status)
        (sym (status_answered _ (rules_done (rules_of x) t (ones_of t)) h.answer refl)),
  )

module _ {x t : List ℕ} (size : length x ≡ table_size) where
  -- the table of a search that is taken is taken
  pub search_table : {c : RulesCall} → AnyRulesSearch x t c → RulesTaken c → TableTaken x
  unfolding search_rules_status convert_rules_status
  search_table (by_search h) e = (search_taken x t _ _ size (omega arith) (done_only _ _ h.answer e)).table
  search_table (by_convert h) e = (search_taken x t _ _ size (omega arith) (done_only _ _ h.answer e)).table

  -- so is that of a call of `price_rules`
  pub price_table : {c : PriceCall} → RulesPriced x t c → TableTaken x
  unfolding search_rules_status price_rules_answer
  price_table {c} p =
      let status : search_rules_status_of x t c.lent c.found ≡ 0 =
      sym (ap (λ (a : PriceAnswer). a.answer.status) p.allowed.answer) ∙ p.taken in
      (search_taken x t _ _ size (omega arith) status).table

-- a list of length 0 is empty
no_entries : (xs : List ℕ) → length xs ≡ 0 → xs ≡ []
no_entries [] e = refl
no_entries (y ∷ xs) e = absurd (omega arith)

-- where a rule has as many occurrences in both calls, it is marked as one that found nothing in
-- both or in neither
pub unmatched_alike :
    {x x' t u w w' : List ℕ} {c d : RulesCall} {i q q' : ℕ} → RuleExact x t c i w q → RuleExact x' u d i w' q' →
    length (occurrences w' u) ≡ length (occurrences w t) → (told_by d i).unmatched ≡ (told_by c i).unmatched
unmatched_alike {x} {x'} {t} {u} {w} {w'} {c} {d} {i} a b same =
    let there : (told_by c i).unmatched ≡ 1 → (told_by d i).unmatched ≡ 1 = λ e.
    b.unmatched_where_none.1 (no_entries _ (same ∙ ap length (a.unmatched_where_none.0 e))) in
    let back : (told_by d i).unmatched ≡ 1 → (told_by c i).unmatched ≡ 1 = λ e.
    a.unmatched_where_none.1 (no_entries _ (sym same ∙ ap length (b.unmatched_where_none.0 e))) in
    ⊎_elim
    (λ e. there e ∙ sym e)
    (λ n.
    let n' : (told_by d i).unmatched ≢ 1 = λ e. n (back e) in
    omega (arith, a.unmatched_or_not, b.unmatched_or_not))
    (eq_or_ne (told_by c i).unmatched 1)

-- the status of a call of `price_rules` is that of its conditions
price_status :
    (x t : List ℕ) (c : PriceCall) → PricesRules x t c →
    c.answer.answer.status ≡ search_rules_status_of x t c.lent c.found
unfolding price_rules_answer
price_status x t c p = ap (λ (a : PriceAnswer). a.answer.status) p.answer

-- so two calls of `price_rules` with buffers as long answer the same status
pub prices_alike :
    {x x' t u : List ℕ} → Alike x x' t u → (c d : PriceCall) → PriceLentAsLong c d → PricesRules x t c →
    PricesRules x' u d → d.answer.answer.status ≡ c.answer.answer.status
unfolding search_rules_status
prices_alike {x} {x'} {t} {u} a c d same p p' =
    price_status x' u d p' ∙ rw (same.tables, same.found, a.text, same_status a) (sym (price_status x t c p))
