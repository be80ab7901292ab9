-- `restore_conversions::all_frames` meets its contract. The loop's invariant: all that were tested
-- are frames, and all that are left, just where all are. Assumes nothing.
use Rattle.std.proofs.Common.{Bool, ◌&&◌, ℕ, suc, ◌-◌, ◌<◌, ◌≡◌, length, get_or, sym, ◌∙◌, ap, add-one, arith}
use mathlib.Core.Bool.{and_assoc, and-true}
use Rattle.tables.proofs.Least.{run_over, run_on}
use Rattle.tables.specs.Least.{all_from}
use Rattle.restore_conversions.proofs.all_frames.Goals as goal
use Rattle.restore_conversions.specs.Restored.{is_frame}

-- one frame more
next :
    (test : ℕ → Bool) (n : ℕ) (all : Bool) (at : ℕ) (whole : Bool) → at < n → all && all_from (n - at) at test ≡ whole →
    (all && test at) && all_from (n - suc at) (suc at) test ≡ whole
next test n all at whole inside e =
    and_assoc all (test at) _ ∙ ap (λ (rest : Bool). all && rest) (sym (run_on test n at inside)) ∙ e

pub loop-frame-preserved : goal.loop-frame-preserved
loop-frame-preserved c =
    let args = c.args in
    let passes = λ (i : ℕ). is_frame args.count (get_or args.frames.now i 0) in
    rw (c.is_frame-all.ensures, add-one)
    (next passes (length args.frames.now) c.loop-frame.all c.loop-frame.frame-index _ (omega arith) c.loop-frame.invariant)

pub returns : goal.returns
returns c =
    let now = c.loop-frame in
    sym (and-true _) ∙ ap (λ (rest : Bool). now.all && rest) (sym (run_over _ _ now.frame-index (omega arith))) ∙ now.invariant
