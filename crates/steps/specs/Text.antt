-- The text (chain) as a search sees it (document 02, "Chains are laced into a ring": after its last byte comes its first). The steps, the
-- occurrences and what is promised of them see a text through these two. These are definitions.
use Rattle.std.specs.Prelude.{cond, List, ℕ, ◌+◌, ◌-◌, ◌%◌, eqb, length}
use Rattle.tables.specs.Sets.{byte}

-- t(x modulo n), the byte (card) that the text shows at position (place) x, for n of 1 or more
unfoldable pub shown : (t : List ℕ) → (x : ℕ) → ℕ
shown t x = byte t (x % length t)

-- how far a search for w goes: the positions below are shown. These are n + m - 1, up to n + m - 2, and none of an empty text
unfoldable pub span : (w t : List ℕ) → ℕ
span w t = cond (eqb (length t) 0) 0 (length t + length w - 1)
