-- `restore_conversions::Walk::numbered_byte` meets its contract: a move is its own byte and adds
-- the 0, and a hold adds the byte of its rule to 0. Assumes nothing.
use Rattle.std.proofs.Common.{⊎_elim, arith}
use Rattle.restore_conversions.proofs.Numbered.{number_inside, one_is_zero, numbered_restored}
use Rattle.restore_conversions.proofs.Walk.numbered_byte.Goals as goal

pub bounds-self-from : goal.bounds-self-from
bounds-self-from c =
    let walk = c.args.self.now in
    omega (arith, c.from.ensures, number_inside walk.bytes.now walk.ready.zero c.args.frame c.requires)

pub overflow_add-result : goal.overflow_add-result
overflow_add-result c =
    let walk = c.args.self.now in
    ⊎_elim
    (λ e. record { fits = omega (arith, e) })
    (λ e. record { fits = omega (arith, rw (← c.from.ensures) at e) })
    (one_is_zero walk.bytes.now walk.ready.zero c.args.frame c.requires)

pub returns : goal.returns
returns c = rw c.from.ensures (numbered_restored _ c.args.self.now.ready.zero _ c.requires)
