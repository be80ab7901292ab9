-- The steps as they go on from where they stand (`Stretch`): by one alignment of which one
-- comparison differs or all agree, and one part after another. Each unfolds one step of the run
-- that remains.
use mathlib.Core.Bool.{cond}
use mathlib.Core.List.{List, [], ◌∷◌, ◌++◌, append_assoc}
use mathlib.Core.Path.{◌≡◌, refl, ◌∙◌, ap}
use Prim.Native.Nat.{ℕ, suc, ◌+◌, ◌<◌, min}
use native.Mathlib.Omega.{arith}
use borrow.Author.Tests.{eq-eqb, ne_eqb}
use lib.Dec.{eqb}
use lib.ListN.{length, length-append}
use Rattle.steps.proofs.Rows.{row_few}
use Rattle.steps.proofs.Steps.{step_count, step_listed}
use Rattle.steps.specs.Steps.{row, comparisons_of, listed}
use Rattle.steps.specs.Text.{shown}
use Rattle.alignment.proofs.Laying.{further, right_after, remaining_on}
use Rattle.alignment.specs.Laid.{ComparedSo, laid_after, remaining}
use Rattle.alignment.specs.Ready.{Taken}
use Rattle.alignment.specs.declared.Laid.{Laid}
use Rattle.run_state.specs.Progress.{at, Standing, Stretch}
use Rattle.run_state.specs.declared.Progress.{Progress}

module _ {w t : List ℕ} (taken : Taken w t) where
  module _ {x : Progress} {agreed : ℕ} (standing : Standing w t x) (ended : ComparedSo w t x.laid agreed) where
    -- the alignment, and how the pattern is laid after it
    abbrev here : Laid
    here = x.laid

    abbrev next : Laid
    next = laid_after w t here

    -- so many of its comparisons are made, and what it lists is new
    stretch_one :
        {h n : ℕ} {new : List ℕ} → listed (remaining w t here) ≡ new ++ listed (remaining w t next) → h ≡ x.occurrences + length new →
        n ≡ x.comparisons + min (suc agreed) (length (row w here.repeat)) → Stretch w t x (at next h n) new
    stretch_one {new = new} on occurrences_on made =
        let f = shown t in
        let on_comparisons : length (comparisons_of (remaining w t here)) ≡ min (suc agreed) (length (row w here.repeat)) + length (comparisons_of (remaining w t next)) =
        rw (remaining_on taken here ended.inside, step_count f w here.position here.shift here.repeat, ← ended.count) in
        let few = row_few w here.repeat taken.some in
        record {
          standing =
              record {
                inside = omega (arith, ended.inside, (right_after taken here standing.right).within);
                right = right_after taken here standing.right;
                told = omega (arith, standing.told, ap length on, length-append new (listed (remaining w t next)));
                few = omega (arith, standing.few, taken.few, further taken here refl);
              };
          forward = omega (arith, further taken here refl);
          listed_on = on;
          occurrences_on = occurrences_on;
          comparisons_on = omega (arith, on_comparisons);
        }

    -- what it lists
    on_listed : listed (remaining w t here) ≡ cond (eqb agreed (length (row w here.repeat))) (here.position ∷ listed (remaining w t next)) (listed (remaining w t next))
    on_listed = rw (remaining_on taken here ended.inside, step_listed (shown t) w here.position here.shift here.repeat, ← ended.count)

    -- one comparison differed
    pub stretch_differing :
        agreed < length (row w here.repeat) → Stretch w t x (at next x.occurrences (x.comparisons + agreed + 1)) []
    stretch_differing l =
        stretch_one (rw (ne_eqb agreed (length (row w here.repeat)) (omega arith)) at on_listed) (omega arith) (omega arith)

    -- all agree, and it is an occurrence
    pub stretch_agreeing :
        agreed ≡ length (row w here.repeat) → Stretch w t x (at next (x.occurrences + 1) (x.comparisons + agreed)) (here.position ∷ [])
    stretch_agreeing e =
        stretch_one (rw (eq-eqb agreed (length (row w here.repeat)) e) at on_listed) (omega arith) (omega arith)

  -- nothing is passed
  pub stretch_none : (x : Progress) → Standing w t x → Stretch w t x x []
  stretch_none x standing =
      record { standing = standing; forward = omega arith; listed_on = refl; occurrences_on = omega arith; comparisons_on = refl }

  -- one part after another
  pub stretch_then :
      {x y z : Progress} {new more : List ℕ} → Stretch w t x y new → Stretch w t y z more → Stretch w t x z (new ++ more)
  stretch_then {new = new} {more = more} p q =
      record {
        standing = q.standing;
        forward = omega (arith, p.forward, q.forward);
        listed_on = p.listed_on ∙ rw (q.listed_on, append_assoc);
        occurrences_on = rw length-append (omega (arith, p.occurrences_on, q.occurrences_on));
        comparisons_on = p.comparisons_on ∙ q.comparisons_on;
      }
