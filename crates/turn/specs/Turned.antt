-- Bytes, a pattern (motif) or a text (chain), turned (document 02, "Mirrored edges"). These are definitions.
use Rattle.std.specs.Prelude.{Bool, ◌||◌, cond, List, map, reverse, ℕ, ◌-◌, eqb}
use Rattle.turn_mirror.specs.Mirrored.{mirrored}

-- ways 1 and 3 mirror each byte (card)
abbrev pub mirrors : (way : ℕ) → Bool
mirrors way = eqb way 1 || eqb way 3

-- ways 2 and 3 reverse the order
abbrev pub reverses : (way : ℕ) → Bool
reverses way = eqb way 2 || eqb way 3

-- a byte turned
abbrev pub turned_byte : (way c : ℕ) → ℕ
turned_byte way c = cond (mirrors way) (mirrored c) c

-- entries turned: in way 0 as drawn, 1 each mirrored by `mirror`, 2 their order reversed, 3 both
unfoldable pub turned_by : (mirror : ℕ → ℕ) → (way : ℕ) → (entries : List ℕ) → List ℕ
turned_by mirror way entries =
    let each = cond (mirrors way) (map mirror entries) entries in
    cond (reverses way) (reverse each) each

-- bytes (cards) turned
unfoldable pub turned : (way : ℕ) → (bytes : List ℕ) → List ℕ
turned way bytes = turned_by mirrored way bytes

-- turning the order moves index i of m entries, so also the hold offset (hold place) q, to m - 1 - i
unfoldable pub turned_index : (way m i : ℕ) → ℕ
turned_index way m i = cond (reverses way) (m - 1 - i) i
