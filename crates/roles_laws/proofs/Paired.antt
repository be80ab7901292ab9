-- Two calls behind roles (`RefusedAlike`, `SameAsWithout`): each is refused, or the call without
-- roles, and then the equations of the outcomes give both.
use mathlib.Core.Path.{◌≡◌, refl, sym, ◌∙◌}
use Prim.Native.Nat.{ℕ}
use Rattle.price.specs.Promises.{PriceCall}
use Rattle.convert_rules.specs.Paired.{RulesCall}
use Rattle.roles.specs.Promises.{Behind}
use Rattle.roles.specs.declared.Job.{Job}
use Rattle.roles_laws.proofs.Promises.{convert_behind, restore_behind, explain_behind, price_behind}
use Rattle.roles_laws.proofs.Promises.{edit_behind, same_buffers}
use Rattle.roles_laws.specs.Paired.{Alike, RefusedAlike, SameAsWithout}
use Rattle.roles_laws.specs.Promises.{ConvertBehind, RestoreBehind, ExplainBehind, PriceBehind, EditBehind}

-- two that are refused have the answer of the refusal
both :
    {R As As' Without Without' Kept Kept' : Type 0} {job : Job} {role role' s s' : ℕ} {r r' a : R} →
    Behind role job As Without ((r ≡ a) × Kept) s → Behind role' job As' Without' ((r' ≡ a) × Kept') s' →
    Alike job role role' As As' r r'
both b b' n n' o o' = ((b.refused n).0 o).0 ∙ sym ((b'.refused n').0 o').0

pub refused_alike : RefusedAlike
unfolding ConvertBehind RestoreBehind ExplainBehind PriceBehind EditBehind
refused_alike =
    record {
      converting = λ role role' x x' t t' c c'. both (convert_behind role x t c) (convert_behind role' x' t' c');
      restoring = λ role role' x x' gs gs' text left text' left' r r'.
          both (restore_behind role x gs text left r) (restore_behind role' x' gs' text' left' r');
      explaining = λ role role' number number' b b' x x' t t' lent left lent' left' r r'.
          both (explain_behind role number b x t lent left r) (explain_behind role' number' b' x' t' lent' left' r');
      pricing = λ role role' x x' t t' c c'. both (price_behind role x t c) (price_behind role' x' t' c');
      editing = λ role role' number number' q q' w w' x y x' y' r r'.
          both (edit_behind role number q w x y r) (edit_behind role' number' q' w' x' y' r');
    }

-- two things that are the same third
same : {A : Type 0} {x y z : A} → x ≡ z → y ≡ z → y ≡ x
same p q = q ∙ sym p

-- calls are the same where each of their parts is
same_call : {c d : RulesCall} → d.lent ≡ c.lent → d.left ≡ c.left → d.answer ≡ c.answer → d ≡ c
same_call e l a = rw (e, l, a) refl

same_price :
    {c d : PriceCall} → d.lent ≡ c.lent → d.found ≡ c.found → d.left ≡ c.left → d.found' ≡ c.found' →
    d.answer ≡ c.answer → d ≡ c
same_price e f l g a = rw (e, f, l, g, a) refl

pub same_as_without : SameAsWithout
unfolding ConvertBehind RestoreBehind ExplainBehind PriceBehind EditBehind
same_as_without =
    record {
      converting = λ role x t c d y e o p.
          let o' = ((convert_behind role x t c).as_without y).0 o in
          let p' = rw e at p in
          same_call e
          (same_buffers (same o'.tables p'.tables) (same o'.occurrences_left p'.occurrences_left)
          (same o'.moves_and_holds_left p'.moves_and_holds_left))
          (same o'.answer p'.answer);
      restoring = λ role x gs text left left' r r' y o p.
          let o' = ((restore_behind role x gs text left r).as_without y).0 o in
          (same o'.answer p.answer, same o'.text_left p.text_left);
      explaining = λ role number b x t lent left left' r r' y o p.
          let o' = ((explain_behind role number b x t lent left r).as_without y).0 o in
          (same o'.answer p.answer, same o'.tables p.tables);
      pricing = λ role x t c d y e f o p.
          let o' = ((price_behind role x t c).as_without y).0 o in
          let p' = rw (e, f) at p in
          same_price e f (same o'.tables p'.tables) (same o'.occurrences_left p'.occurrences_left)
          (same o'.answer p'.answer);
      editing = λ role number q w x left left' r r' y o p.
          let o' = ((edit_behind role number q w x left r).as_without y).0 o in
          (same o'.answer p.answer, same o'.table_left p.table_left);
    }
