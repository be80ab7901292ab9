-- `price::price` meets its contract: a refused call leaves everything, and past the refusals the
-- cost goes by what the search finds, by the laws of what pricing leaves. Assumes nothing.
use Rattle.std.proofs.Common.{◌≡◌, ℕ, refl, sym}
use Rattle.std.specs.Prelude.{ltb}
use Rattle.answers.proofs.Answered.{zeros}
use Rattle.answers.proofs.Bytes.{each_byte}
use Rattle.answers.proofs.Reasons.{numbered}
use Rattle.answers.specs.Answers.{status_only}
use Rattle.answers.specs.declared.Answer.{Answer}
use Rattle.search.proofs.Searched.{search_fit}
use Rattle.tables.specs.Buffers.{measured_status}
use Rattle.tables.specs.declared.TableLengths.{TableLengths}
use Rattle.convert.proofs.Taken.{ConversionTaken, search_taken}
use Rattle.price.proofs.Priced.{status_is, price_taken, refused, countable, done}
use Rattle.price.proofs.price.Goals as goal

-- the job is priced
fit :
    {m q n found : ℕ} {l l' : TableLengths} → 0 ≡ measured_status m q n l (ltb found n) → l ≡ l' →
    ConversionTaken m q n l' found n
fit measured e = price_taken (sym (status_is _ _ _ _ measured e))

pub returns-in-Err : goal.returns-in-Err
returns-in-Err c =
    rw (c.from.ensures, ← status_is _ _ _ _ c.in-Err.ensures c.lengths-lengths.ensures)
    (refused _ (numbered _))

pub search_within-searched-requires : goal.search_within-searched-requires
search_within-searched-requires c = search_fit (search_taken (fit c.in_default.ensures c.lengths-lengths.ensures))

pub cost_by_holds-requires : goal.cost_by_holds-requires
cost_by_holds-requires c =
    countable (fit c.in_default.ensures c.lengths-lengths.ensures) c.search_within-searched.ensures

pub returns : goal.returns
returns c =
    let bytes = each_byte c.args.text.now (λ i l. (c.type_inv.text i).fits) in
    rw (
      zeros c.default.ensures,
      c.cost_by_holds.ensures,
      ← status_is _ _ _ _ c.in_default.ensures c.lengths-lengths.ensures,
    )
    (done (fit c.in_default.ensures c.lengths-lengths.ensures) c.search_within-searched.ensures bytes)
