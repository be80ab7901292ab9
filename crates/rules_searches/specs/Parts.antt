-- What searching for one rule takes and leaves, its tables and occurrences (finds) standing after
-- those of the rules before it. These are definitions.
use Rattle.std.specs.Prelude.{List, ◌≡◌, ℕ, ◌+◌, ◌*◌, ◌≤◌, length}
use Rattle.answers.specs.Buffers.{from_entry}
use Rattle.answers.specs.Refusals.{longest_text}
use Rattle.answers.specs.declared.Answer.{Answer}
use Rattle.tables.specs.Buffers.{Tables, PatternTaken}
use Rattle.tables.specs.Tables.{stored_order, stored_Δ2, stored_Δ1, stored_Δ3}
use Rattle.steps.specs.Occurrences.{occurrences}
use Rattle.search.specs.Search.{search_done}
use Rattle.rules_searches.specs.declared.Before.{Before}

-- after the tables and the occurrences of the rules before there is room for those of the next
pub record PartFit (w t : List ℕ) (before : Before) (lent : Tables) (found : List ℕ) : Type 0 where
  pub taken : PatternTaken w
  pub text : length t ≤ longest_text
  pub small : before.bytes + before.rules ≤ 4096
  pub order_room : before.bytes + before.rules + (length w + 1) ≤ length lent.order
  pub delta2_room : before.bytes + before.rules + (length w + 1) ≤ length lent.delta2
  pub delta1_room : 256 * before.bytes + 256 * length w ≤ length lent.delta1
  pub delta3_room : before.bytes + length w ≤ length lent.delta3
  pub room : before.occurrences + length (occurrences w t) ≤ length found

-- the next has been searched for, and what stood before its part is as it was
pub record PartSearched
    (w t : List ℕ) (before : Before) (lent left : Tables) (found found' : List ℕ) (r : Answer) : Type 0 where
  pub answer : r ≡ search_done w t
  pub order : left.order ≡ from_entry (before.bytes + before.rules) (stored_order w) lent.order
  pub delta2 : left.delta2 ≡ from_entry (before.bytes + before.rules) (stored_Δ2 w) lent.delta2
  pub delta1 : left.delta1 ≡ from_entry (256 * before.bytes) (stored_Δ1 w) lent.delta1
  pub delta3 : left.delta3 ≡ from_entry before.bytes (stored_Δ3 w) lent.delta3
  pub occurrences_left : found' ≡ from_entry before.occurrences (occurrences w t) found
