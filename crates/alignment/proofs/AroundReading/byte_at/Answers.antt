-- `alignment::Around::byte_at` meets its contract: a text of which a position is shown is not
-- empty. Assumes nothing.
use Rattle.std.proofs.Common.{arith}
use mathlib.Core.Logic.{⊎_elim}
use Rattle.tables.proofs.Cases.{eq_or_ne}
use Rattle.steps.proofs.Text.{span_none}
use Rattle.std.proofs.Common.{length}
use Rattle.alignment.proofs.AroundReading.byte_at.Goals as goal

pub byte_at-requires : goal.byte_at-requires
byte_at-requires c =
    let a = c.args in
    ⊎_elim (λ e. absurd (omega (arith, span_none a._pattern.now a.text.now e))) (λ d. omega arith)
    (eq_or_ne (length a.text.now) 0)
