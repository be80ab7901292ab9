-- What the functions of this crate ask of a pattern and a table of links, and what they leave in one. These are definitions.
use Rattle.std.specs.Prelude.{List, ◌≡◌, ℕ, ◌≤◌, ◌<◌, length, get_or}
use Rattle.restore_prefixes.specs.Prefixes.{link}

-- entry k of a table is the link of the prefix of length k, for k from 0 to `last`
pub record LinksTo (last : ℕ) (w table : List ℕ) : Type 0 where
  pub room : last < length table
  pub entry : (k : ℕ) → k ≤ last → get_or table k 0 ≡ link w k
