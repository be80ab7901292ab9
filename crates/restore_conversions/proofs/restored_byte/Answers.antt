-- `restore_conversions::restored_byte` meets its contract: a frame below 256 is a move, and any
-- other names its rule; of one rule that is 256. Assumes nothing.
use Rattle.std.proofs.Common.{◌≡◌, true, List, ℕ, ◌<◌, length, sym, arith}
use Rattle.restore_conversions.proofs.Numbered.{move_restored, hold_restored, held_at_number, one_low}
use Rattle.restore_conversions.proofs.restored_byte.Goals as goal
use Rattle.restore_conversions.specs.Restored.{is_frame}

-- one rule's frame that is not its hold is a move
move : (held : List ℕ) (g : ℕ) → is_frame (length held) g ≡ true → length held ≡ 1 → (g ≡ 256 → ⊥) → g < 256
move held g frame one other = omega (arith, one_low _ (rw one at frame), other)

pub overflow_cast-result : goal.overflow_cast-result
overflow_cast-result c = record { fits = move _ _ c.requires c.if-held-eq1.true c.if-frame-eq-HOLD.false }

pub bounds-held-from : goal.bounds-held-from
bounds-held-from c = omega (arith, (held_at_number c.args.held.now c.args.frame c.requires (omega arith)).0, c.from.ensures)

pub returns-then-frame-eq-HOLD : goal.returns-then-frame-eq-HOLD
returns-then-frame-eq-HOLD c = rw c.if-frame-eq-HOLD.true (sym (hold_restored _ 0 (omega arith)))

pub returns-else-frame-eq-HOLD : goal.returns-else-frame-eq-HOLD
returns-else-frame-eq-HOLD c = sym (move_restored _ _ (move _ _ c.requires c.if-held-eq1.true c.if-frame-eq-HOLD.false))

pub returns-then-frame-lt-HOLD : goal.returns-then-frame-lt-HOLD
returns-then-frame-lt-HOLD c = sym (move_restored _ _ (omega arith))

pub returns-else-frame-lt-HOLD : goal.returns-else-frame-lt-HOLD
returns-else-frame-lt-HOLD c = rw c.from.ensures (sym (held_at_number c.args.held.now _ c.requires (omega arith)).1)
