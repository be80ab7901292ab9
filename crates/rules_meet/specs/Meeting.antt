-- Whether two rules can claim one byte (card) of some ring: laid with their hold offsets (hold
-- places) on it, they agree wherever both cover. These are definitions.
use Rattle.std.specs.Prelude.{Bool, true, cond, ℕ, ◌+◌, ◌-◌, ltb, leb, eqb, length}
use Rattle.tables.specs.Least.{all_from}
use Rattle.tables.specs.Sets.{byte}
use Rattle.rules.specs.Rules.{Rule}

-- position j of r's pattern lies on position j + q' - q of that of s: either s does not cover it,
-- or it is the same byte there
unfoldable pub agree_at : (r s : Rule) → (j : ℕ) → Bool
agree_at r s j =
    cond (ltb (j + s.hold_offset) r.hold_offset) true
    (cond (leb (length s.pattern) (j + s.hold_offset - r.hold_offset)) true
    (eqb (byte r.pattern j) (byte s.pattern (j + s.hold_offset - r.hold_offset))))

-- two rules can meet: they agree at each position of the first's pattern
unfoldable pub can_meet : (r s : Rule) → Bool
can_meet r s = all_from (length r.pattern) 0 (agree_at r s)
