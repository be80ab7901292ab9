-- How long it is what stands rule after rule in a buffer: the sum of what each rule needs, by
-- induction on the rules; so buffers that are not short of all that is needed have room for the
-- tables of all rules.
use mathlib.Core.Bool.{false}
use mathlib.Core.List.{List, [], ◌∷◌}
use mathlib.Core.Path.{◌≡◌, refl}
use Prim.Native.Nat.{ℕ, ◌≤◌}
use lib.ListN.{length, length-append}
use Rattle.tables.proofs.Order.{stored_order_length}
use Rattle.tables.proofs.RepeatShift.{stored_Δ3_length}
use Rattle.tables.proofs.Rooms.{roomy}
use Rattle.tables.proofs.Stored.{stored_Δ2_length, stored_Δ1_length}
use Rattle.tables.specs.Buffers.{Tables, lengths, short_of}
use Rattle.rules.specs.Buffers.{one_after_another, sum_over, needed_for, all_needed, order_of, delta2_of, delta1_of}
use Rattle.rules.specs.Buffers.{delta3_of}
use Rattle.rules.specs.Rules.{Rule, Patterned}

-- what f gives for rules that have a pattern is as long as the sum of what g gives
rows_sum :
    {A : Type 0} (f : Rule → List A) (g : Rule → ℕ) → ((r : Rule) → 1 ≤ length r.pattern → length (f r) ≡ g r) →
    (rs : List Rule) → Patterned rs → length (one_after_another f rs) ≡ sum_over g rs
unfolding one_after_another sum_over Patterned
rows_sum f g e [] h = refl
rows_sum f g e (r ∷ rs) h = rw (length-append, e r h.0, rows_sum f g e rs h.1)

-- the tables of all rules have room
pub record RowsFit (rs : List Rule) (lent : Tables) : Type 0 where
  pub order : length (one_after_another order_of rs) ≤ length lent.order
  pub delta2 : length (one_after_another delta2_of rs) ≤ length lent.delta2
  pub delta1 : length (one_after_another delta1_of rs) ≤ length lent.delta1
  pub delta3 : length (one_after_another delta3_of rs) ≤ length lent.delta3

-- where no buffer is too short they have
pub rows_fit :
    (rs : List Rule) (lent : Tables) → Patterned rs → short_of (all_needed rs) (lengths lent) ≡ false → RowsFit rs lent
rows_fit rs lent some e =
    let room = roomy (all_needed rs) (lengths lent) e in
    record {
      order =
          rw (rows_sum order_of (λ r. (needed_for r).order) (λ r h. stored_order_length r.pattern h) rs some)
          room.order;
      delta2 =
          rw (rows_sum delta2_of (λ r. (needed_for r).delta2) (λ r h. stored_Δ2_length r.pattern) rs some)
          room.delta2;
      delta1 =
          rw (rows_sum delta1_of (λ r. (needed_for r).delta1) (λ r h. stored_Δ1_length r.pattern) rs some)
          room.delta1;
      delta3 =
          rw (rows_sum delta3_of (λ r. (needed_for r).delta3) (λ r h. stored_Δ3_length r.pattern) rs some)
          room.delta3;
    }
