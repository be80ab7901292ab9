-- The alignments that the walk passes over quickly: one by the order whose first comparison differs, and one after an occurrence of which all agree.
-- By the laws of the pattern as it is laid after each.
use mathlib.Core.Bool.{Bool, false}
use mathlib.Core.List.{List}
use mathlib.Core.Logic.{◌≢◌}
use mathlib.Core.Path.{◌≡◌, refl, sym, ◌∙◌}
use Prim.Native.Nat.{ℕ, ◌+◌, ◌-◌, ◌≤◌}
use native.Mathlib.Omega.{arith}
use lib.ListN.{length}
use Rattle.tables.specs.Sets.{byte}
use Rattle.tables.specs.Tables.{Δ1, period, repeats}
use Rattle.steps.proofs.Text.{span_ends}
use Rattle.steps.specs.Steps.{row}
use Rattle.steps.specs.Text.{shown, span}
use Rattle.alignment.proofs.Laying.{after_agreeing, after_first}
use Rattle.alignment.specs.Laid.{laid_at, ComparedSo, laid_after}
use Rattle.alignment.specs.Ready.{Taken}
use Rattle.alignment.specs.declared.Laid.{Laid}
use Rattle.explain_walk.proofs.Reaching.{reaching_over}
use Rattle.explain_walk.specs.Reach.{Reaching}

module _ {w t : List ℕ} (taken : Taken w t) (b : ℕ) (in_text : b + length w ≤ span w t) where
  -- the first comparison differs
  pub passed_differing :
      {x : Laid} {k : ℕ} → Reaching w t b x (length w) → x.position + length w ≤ b →
      byte t (x.position + (length w - 1)) ≢ byte w (length w - 1) →
      k ≡ Δ1 w (shown t (x.position + (length w - 1))) x.shift →
      Reaching w t b (laid_at (x.position + k) k false) (length w)
  passed_differing {x} so_far before differs shifted =
      let ends = span_ends w t taken.some b in_text in
      let next = after_first taken x (omega (arith, ends)) differs shifted in
      reaching_over taken b in_text so_far (sym next) refl before

  -- all agree, after an occurrence
  pub passed_occurrence :
      {x : Laid} {repeat : Bool} → x.repeat ≡ repeat → repeat ≡ repeats w → Reaching w t b x (length w) → x.position + length w ≤ b →
      {agreed count p : ℕ} → ComparedSo w t x agreed → count ≡ length (row w repeat) → agreed ≡ count → p ≡ period w →
      Reaching w t b (laid_at (x.position + p) p repeat) (length w)
  passed_occurrence {x} {repeat} same_row repeats_so so_far before {p = p} ended count_is all same =
      let next : laid_after w t x ≡ laid_at (x.position + p) p repeat =
      after_agreeing taken ended (all ∙ count_is ∙ rw same_row) ∙ rw (same, repeats_so) in
      reaching_over taken b in_text so_far (sym next) refl before
