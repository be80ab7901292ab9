-- The walk to a position b, as it goes on (`Reaching`): from the first alignment, by one that ends before b, by one that spoils b or not, and to the one
-- that reaches b (`ReachedAt`). Each unfolds one step of the run that remains.
use mathlib.Core.List.{List, [], ◌∷◌, ◌++◌, append_assoc}
use mathlib.Core.Logic.{◌≢◌}
use mathlib.Core.Path.{◌≡◌, refl, sym, ◌∙◌, ap}
use Prim.Native.Nat.{ℕ, suc, ◌+◌, ◌≤◌, ◌<◌}
use native.Mathlib.Omega.{arith}
use lib.ListN.{length}
use Rattle.steps.proofs.Passed.{passed_spoilt}
use Rattle.steps.proofs.Rows.{row_below}
use Rattle.steps.proofs.Runs.{comparisons_append, comparisons_one, comparisons_split}
use Rattle.steps.proofs.Steps.{step_comparisons, step_position}
use Rattle.steps.specs.Promises.{PassedSpoilt}
use Rattle.steps.specs.Steps.{Comparison, Alignment, agreeing, row, alignments, compared, comparisons_of}
use Rattle.steps.specs.Text.{shown, span}
use Rattle.alignment.proofs.Laying.{first_right, right_after, remaining_on}
use Rattle.alignment.specs.Laid.{laid_first, ComparedSo, alignment, laid_after, remaining}
use Rattle.alignment.specs.Ready.{Taken}
use Rattle.alignment.specs.declared.Laid.{Laid}
use Rattle.explain_meaning.proofs.Spoilt.{earliest_first, first_few, first_then, first_kept, none_along}
use Rattle.explain_meaning.specs.Explanation.{first_spoilt}
use Rattle.explain_walk.specs.Reach.{Reaching, ReachedAt}

module _ {w t : List ℕ} (taken : Taken w t) (b : ℕ) (in_text : b + length w ≤ span w t) where
  some : 1 ≤ length w
  some = taken.some

  -- the text and how far it goes
  abbrev f : ℕ → ℕ
  f = shown t

  abbrev N : ℕ
  N = span w t

  -- the first alignment
  pub reaching_first : Reaching w t b (laid_first w) (length w)
  unfolding alignments comparisons_of first_spoilt
  reaching_first =
      record {
        before = [];
        split = refl;
        low = omega arith;
        right = first_right taken;
        spoilt = refl;
      }

  module _ {x : Laid} {j : ℕ} (so_far : Reaching w t b x j) where
    abbrev here : Alignment
    here = alignment w t x

    abbrev next : Laid
    next = laid_after w t x

    -- the alignments after it
    abbrev later : List Alignment
    later = remaining w t next

    on : alignments f N w ≡ so_far.before ++ (here ∷ later)
    on = so_far.split ∙ ap (λ (l : List Alignment). so_far.before ++ l) (remaining_on taken x (omega (arith, so_far.low)))

    -- what is made when the alignment is done
    abbrev pub made : List Comparison
    made = comparisons_of so_far.before ++ compared here

    to_next : {j' : ℕ} → next.position ≤ b → j' ≡ first_spoilt f w b made → Reaching w t b next j'
    to_next l spoilt =
        record {
          before = so_far.before ++ (here ∷ []);
          split = on ∙ sym (append_assoc so_far.before (here ∷ []) later);
          low = l;
          right = right_after taken x so_far.right;
          spoilt = rw (comparisons_append so_far.before (here ∷ []), comparisons_one here) spoilt;
        }

    pub reaching_on : {y : Laid} {j' : ℕ} → y ≡ next → y.position ≤ b → j' ≡ first_spoilt f w b made → Reaching w t b y j'
    reaching_on same l spoilt = rw same (to_next (rw same at l) spoilt)

    -- an alignment that ends before b spoils nothing of it
    spoilt_not : x.position + length w ≤ b → first_spoilt f w b (compared here) ≡ length w
    spoilt_not l =
        rw (step_comparisons f w x.position x.shift x.repeat)
        (none_along f w b x.position (suc (agreeing f w x.position (row w x.repeat))) (row w x.repeat)
        (λ y a u low. absurd (omega (arith, row_below w x.repeat some y u))))

    pub reaching_over : {y : Laid} → y ≡ next → j ≡ length w → x.position + length w ≤ b → Reaching w t b y (length w)
    reaching_over same e l =
        rw same
        (to_next (omega (arith, (right_after taken x so_far.right).within))
        (sym (first_then f w b (comparisons_of so_far.before) (compared here) (sym so_far.spoilt ∙ e) ∙ spoilt_not l)))

    -- what the alignment adds: nothing where b is spoilt before it, else what its comparisons spoil
    pub spoilt_before : j ≢ length w → j ≡ first_spoilt f w b made
    spoilt_before d =
        so_far.spoilt ∙ sym (first_kept f w b (comparisons_of so_far.before) (compared here) (λ e. d (so_far.spoilt ∙ e)))

    pub spoilt_here : {j' : ℕ} → j ≡ length w → j' ≡ first_spoilt f w b (compared here) → j' ≡ first_spoilt f w b made
    spoilt_here e h = h ∙ sym (first_then f w b (comparisons_of so_far.before) (compared here) (sym so_far.spoilt ∙ e))

    -- the alignment reaches b
    module _
        {j' agreed : ℕ} {y : Laid} (ended : ComparedSo w t x agreed) (spoilt : j' ≡ first_spoilt f w b made) (same : y ≡ next)
        (beyond : b < y.position) where
      past : b < next.position
      past = rw same at beyond

      -- these are the comparisons up to it
      made_is : comparisons_of (so_far.before ++ (here ∷ [])) ≡ made
      made_is = comparisons_append so_far.before (here ∷ []) ∙ rw (comparisons_one here)

      -- one that shifts past it has spoilt it
      spoilt_past : x.position < b → j' ≢ length w
      unfolding PassedSpoilt
      spoilt_past l e =
          let at = step_position f w x.position x.shift x.repeat in
          let found = passed_spoilt f N w some so_far.before here later on b (rw at l) (rw at past) in
          omega (arith, (earliest_first f w b made (rw made_is at found)).inside)

      -- and no later comparison is the earliest
      spoilt_all : x.position < b → first_spoilt f w b (comparisons_of (alignments f N w)) ≡ j'
      spoilt_all l =
          ap (first_spoilt f w b) (ap comparisons_of on ∙ comparisons_split so_far.before here later ∙ rw made_is)
          ∙ first_kept f w b made (comparisons_of later) (λ e. spoilt_past l (spoilt ∙ e))
          ∙ sym spoilt

      pub reached : ReachedAt w t b (record { laid = x; agreed = agreed; spoilt = j' })
      reached =
          record {
            made = record { before = so_far.before; later = later; split = on };
            ended = ended;
            low = so_far.low;
            high = past;
            few = omega (arith, spoilt, first_few f w b made);
            spoilt_is = spoilt_all;
          }
