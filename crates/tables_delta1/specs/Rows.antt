-- How Δ1 is worked out, a row for each byte: tables changed in place, links between positions that have the same byte, and rows before and
-- after they are written. The contracts of src/lib.rt cite these. These are definitions.
use Rattle.std.specs.Prelude.{Bool, ◌&&◌, ◌||◌, cond, List, ◌⊎◌, ◌≡◌, ℕ, zero, suc, ◌+◌, ◌*◌, ◌-◌, ◌≤◌, ◌<◌, ltb, eqb, length, get_or}
use Rattle.answers.specs.Refusals.{longest_pattern}
use Rattle.tables.specs.Sets.{byte}
use Rattle.tables.specs.Tables.{Δ1}

-- the first n entries of a table are changed, each to f of its index and of what stood there, and the others are kept
pub record Changed (f : (i entry : ℕ) → ℕ) (n : ℕ) (before after : List ℕ) : Type 0 where
  pub same_length : length after ≡ length before
  pub changed : (i : ℕ) → i < n → get_or after i 0 ≡ f i (get_or before i 0)
  pub kept : (i : ℕ) → n ≤ i → get_or after i 0 ≡ get_or before i 0

-- all entries are changed so
abbrev pub EachChanged : (f : (i entry : ℕ) → ℕ) → (before after : List ℕ) → Type 0
EachChanged f before after = Changed f (length before) before after

-- all entries have one value
abbrev pub Filled : (value : ℕ) → (table : List ℕ) → Type 0
Filled v table = (x : ℕ) → x < length table → get_or table x 0 ≡ v

-- v starts with the pattern (motif) reversed, its last byte first, and goes on with 256, which is no byte
pub record Reversed (w v : List ℕ) : Type 0 where
  pub bytes : (x i : ℕ) → x + i + 1 ≡ length w → get_or v x 0 ≡ byte w i
  pub below : (x : ℕ) → x < length w → get_or v x 0 < 256
  pub past : (x : ℕ) → length w ≤ x → x < length v → get_or v x 0 ≡ 256

-- whether a shift may move a to where b is known: a is the same byte, or is past the pattern
abbrev pub allows : (a b : ℕ) → Bool
allows a b = eqb a 256 || eqb a b

-- an entry that is lowered to k if a test holds, and if it is larger than k
abbrev pub lowered_if : (test : Bool) → (k entry : ℕ) → ℕ
lowered_if t k e = cond (t && ltb k e) k e

-- each entry of a row is lowered to the shift k if that may move what stands in `moved` to where `known` has its byte
abbrev pub Lowered : (known moved : List ℕ) → (k : ℕ) → (before after : List ℕ) → Type 0
Lowered known moved k before after = EachChanged (λ x e. lowered_if (allows (get_or moved x 0) (get_or known x 0)) k e) before after

-- the last position below i that has the byte c, plus one; 0 if there is none
unfoldable pub last_below : (w : List ℕ) → (c i : ℕ) → ℕ
last_below w c zero = 0
last_below w c (suc i) = cond (eqb (byte w i) c) (suc i) (last_below w c i)

-- the last position below m - 1 that has the byte c, plus one; 0 if there is none
abbrev pub last_of : (w : List ℕ) → (c : ℕ) → ℕ
last_of w c = last_below w c (length w - 1)

-- the links of the positions below n are right: each leads to the nearest position before it that has the same byte
abbrev pub Linked : (w : List ℕ) → (n : ℕ) → (last : List ℕ) → Type 0
Linked w n last = (i : ℕ) → i < n → get_or last (i + 1) 0 ≡ last_below w (byte w i) i

-- the entry for the byte c and a last shift of x + 1, in a table with rows of m entries
abbrev pub entry : (table : List ℕ) → (m c x : ℕ) → ℕ
entry t m c x = get_or t (c * m + x) 0

-- the pattern has 1 to 128 bytes, there is room for its links, and the table has its 256 rows
pub record Sizes (w last table : List ℕ) : Type 0 where
  pub some : 1 ≤ length w
  pub short : length w ≤ longest_pattern
  pub links : length w ≤ length last
  pub entries : length table ≡ 256 * length w

-- each row's last entry is what the positions below n make it, and the other entries are m
pub record RowEnds (w : List ℕ) (n : ℕ) (table : List ℕ) : Type 0 where
  pub ends : (c x : ℕ) → c < 256 → x + 1 ≡ length w → entry table (length w) c x ≡ length w - last_below w c n
  pub others : (c x : ℕ) → c < 256 → x + 1 < length w → entry table (length w) c x ≡ length w

-- the row of the byte at a position is to be written: that is the last position below m - 1 that has it, and each entry is right or m
pub record RowBegun (w reversed last : List ℕ) (position : ℕ) (row : List ℕ) : Type 0 where
  pub short : length w ≤ longest_pattern
  pub within : position + 1 < length w
  pub is_last : last_of w (byte w position) ≡ position + 1
  pub reversed_room : 2 * length w ≤ length reversed
  pub is_reversed : Reversed w reversed
  pub links_room : length w ≤ length last
  pub linked : Linked w (length w - 1) last
  pub entries : length row ≡ length w
  pub begun : (x : ℕ) → x < length w → (get_or row x 0 ≡ Δ1 w (byte w position) (x + 1)) ⊎ (get_or row x 0 ≡ length w)

-- the row of c is right: each entry is Δ1(c, s)
abbrev pub RightRow : (w : List ℕ) → (c : ℕ) → (row : List ℕ) → Type 0
RightRow w c row = (x : ℕ) → x < length w → get_or row x 0 ≡ Δ1 w c (x + 1)

-- all rows are to be written: their ends and the links are right
pub record RowsBegun (w reversed last table : List ℕ) : Type 0 where
  pub sizes : Sizes w last table
  pub reversed_room : 2 * length w ≤ length reversed
  pub is_reversed : Reversed w reversed
  pub linked : Linked w (length w - 1) last
  pub ends : RowEnds w (length w - 1) table

-- the table is right: each entry is Δ1(c, s)
abbrev pub RightTable : (w table : List ℕ) → Type 0
RightTable w table = (c x : ℕ) → c < 256 → x < length w → entry table (length w) c x ≡ Δ1 w c (x + 1)
