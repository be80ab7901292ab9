-- `rules_status::check` meets its contract: the table decides, then the text, then the room, then
-- 12. Assumes nothing.
use Rattle.std.proofs.Common.{◌≡◌, Bool, ◌||◌, cond, List, [], ◌∷◌, ℕ, length, refl, sym}
use Rattle.std.proofs.lemmas.Result.{err_from_is_err_and}
use Rattle.answers.proofs.Reasons.{numbered}
use Rattle.answers.proofs.Refusals.{text_within}
use Rattle.answers.specs.Refusals.{first_of, text_refusal}
use Rattle.tables.specs.Buffers.{short_of}
use Rattle.tables.specs.declared.TableLengths.{TableLengths}
use Rattle.rules.specs.Buffers.{all_needed}
use Rattle.rules.specs.Rules.{rules_of, table_refusals}
use Rattle.rules_claims.specs.Claims.{claimed_twice}
use Rattle.rules_status.proofs.Measured.{table_refused, text_refused, rooms_decide}
use Rattle.rules_status.specs.Measured.{measured_status}
use Rattle.rules_status.proofs.check.Goals as goal

-- past the table and the text 7 and 12 decide, by what the table y that is passed on tells
rooms :
    (x t : List ℕ) (l : TableLengths) (short : Bool) → 0 ≡ first_of (table_refusals x) →
    0 ≡ first_of (text_refusal (length t) ∷ []) → {y : List ℕ} → y ≡ x → {needs : TableLengths} →
    needs ≡ all_needed (rules_of y) → {few twice : Bool} → few ≡ short_of needs l →
    twice ≡ claimed_twice (rules_of y) t → measured_status x t l short ≡ cond (few || short) 7 (cond twice 12 0)
rooms x t l short table text same needed few twice =
    rw (few, twice, needed, same) (rooms_decide x t l short table refl text refl)

pub returns-in_err-table-clause-status : goal.returns-in_err-table-clause-status
returns-in_err-table-clause-status c =
    let p = err_from_is_err_and c.from_residual.result c.from_residual.ensures.1 in
    rw (p.1, p.2) (table_refused _ _ _ _ c.in_err-table.ensures.status (numbered _))

pub returns-in_err-check_text-clause-status : goal.returns-in_err-check_text-clause-status
returns-in_err-check_text-clause-status c =
    let p =
    err_from_is_err_and c.from_residual-in_err-check_text.result c.from_residual-in_err-check_text.ensures.1 in
    rw (p.1, p.2)
    (text_refused _ _ _ _ c.in_ok-table.ensures.status refl c.in_err-check_text.ensures (numbered _))

pub returns-then-short_of-short-clause-status : goal.returns-then-short_of-short-clause-status
returns-then-short_of-short-clause-status c =
    let t = c.in_ok-table.ensures in
    rw (
      rooms _ c.args.text.now c.args.lengths c.args.short t.status c.in_ok-check_text.ensures t.table c.needed.ensures
          c.short_of.ensures refl,
      c.if-short_of-short.true,
    )

pub claimed_twice-requires : goal.claimed_twice-requires
claimed_twice-requires c = record { text = text_within _ (sym c.in_ok-check_text.ensures) }

-- past 7 what the rules claim decides
pub returns-then-claimed_twice-clause-status : goal.returns-then-claimed_twice-clause-status
returns-then-claimed_twice-clause-status c =
    let t = c.in_ok-table.ensures in
    rw (
      rooms _ _ _ _ t.status c.in_ok-check_text.ensures t.table c.needed.ensures c.short_of.ensures c.claimed_twice.ensures,
      c.if-short_of-short.false,
      c.if-claimed_twice.true,
    )

pub returns-clause-status : goal.returns-clause-status
returns-clause-status c =
    let t = c.in_ok-table.ensures in
    rw (
      rooms _ _ _ _ t.status c.in_ok-check_text.ensures t.table c.needed.ensures c.short_of.ensures c.claimed_twice.ensures,
      c.if-short_of-short.false,
      c.if-claimed_twice.false,
    )
