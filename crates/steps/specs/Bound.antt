-- The bound on the count of comparisons (looks) of demand 3. These are definitions.
use Rattle.std.specs.Prelude.{cond, List, ℕ, ◌+◌, ◌*◌, ◌-◌, ltb, leb, length}
use Rattle.tables.specs.Tables.{period}
use Rattle.steps.specs.Occurrences.{occurrences}
use Rattle.steps.specs.Text.{span}

-- for m, N positions shown, h finds and the period p: 0 for N below m; 2 × N - m for m at least
-- 3 × p (document 02, "Long repeats"); else 2 × N - m + h × (the larger of 0 and m - 2 × p)
unfoldable pub bound : (m N h p : ℕ) → ℕ
bound m N h p = cond (ltb N m) 0 (cond (leb (3 * p) m) (2 * N - m) (2 * N - m + h * (m - 2 * p)))

-- of a search for w in the text (chain) t: N is its span, n + m - 1 (document 02, "Chains are laced
-- into a ring")
abbrev pub search_bound : (w t : List ℕ) → ℕ
search_bound w t = bound (length w) (span w t) (length (occurrences w t)) (period w)
