-- What the functions that test frames ask of each other and tell: frames that are moves or holds, a pattern with its links, which holds of a rule
-- are right, and how far the frames are walked over. These are definitions.
use Rattle.std.specs.Prelude.{Bool, true, false, Option, Some, None, List, ◌∷◌, ◌≡◌, ℕ, ◌+◌, ◌-◌, ◌%◌, ◌≤◌, ◌<◌, eqb, length, get_or, drop}
use Rattle.std.specs.Bool.{beq}
use Rattle.tables.specs.Least.{all_from}
use Rattle.steps.specs.Text.{shown}
use Rattle.frames.specs.Frames.{is_held}
use Rattle.restore_prefixes.specs.Links.{LinksTo}
use Rattle.restore_prefixes.specs.Prefixes.{longest_prefix}
use Rattle.restore_conversions.specs.Restored.{is_frame, all_restored}

-- each is a frame by so many rules: a move, or a hold of one of them
pub record AllFrames (count : ℕ) (gs : List ℕ) : Type 0 where
  pub frame : (i : ℕ) → i < length gs → is_frame count (get_or gs i 0) ≡ true

-- the frame at position x of the ring
abbrev pub frame_at : (gs : List ℕ) → (x : ℕ) → ℕ
frame_at gs x = get_or gs (x % length gs) 0

-- the bytes that the rules hold, of a list that has the byte of rule k at k
abbrev pub behind : (bytes : List ℕ) → List ℕ
behind bs = drop 1 bs

-- such a list has a 0 in front
abbrev pub ZeroFirst : (bytes : List ℕ) → Type 0
ZeroFirst bs = bs ≡ 0 ∷ behind bs

-- the bytes held by number, a pattern that is not empty, all its links, and frames by these rules
pub record WalkReady (bytes w links gs : List ℕ) : Type 0 where
  pub zero : ZeroFirst bytes
  pub some : 1 ≤ length w
  pub linked : LinksTo (length w) w links
  pub frames : AllFrames (length (behind bytes)) gs

-- the frame of a hold, the hold offset and the pattern of one of the rules; the bytes that all of them hold
module _ (frame q : ℕ) (w hs gs : List ℕ) where
  -- frame i is that one just where an occurrence in what is put back holds it
  abbrev pub right_at : (i : ℕ) → Bool
  right_at i = beq (eqb (get_or gs i 0) frame) (is_held q w (all_restored hs gs) i)

  -- the holds of the rule are right: this is so of each frame
  unfoldable pub rule_right : Bool
  rule_right = all_from (length gs) 0 right_at

  -- the byte that is shown at a position
  abbrev pub shows : (x : ℕ) → ℕ
  shows = shown (all_restored hs gs)

  -- frame (b + q) modulo n is that one
  abbrev pub holds_at : (b : ℕ) → Bool
  holds_at b = eqb (frame_at gs (b + q)) frame

  -- the whole pattern ends before b + m
  abbrev pub ends_from : (b : ℕ) → Bool
  ends_from b = eqb (longest_prefix shows w (b + length w)) (length w)

  -- the one is so just where the other is for each position before b, and the longest prefix that ends before b + m - 1 has this length
  pub record Walked (b prefix : ℕ) : Type 0 where
    pub here : prefix ≡ longest_prefix shows w (b + (length w - 1))
    pub right : (c : ℕ) → c < b → holds_at c ≡ ends_from c

  -- what walking over the positions up to `end` tells: the length of the longest prefix that ends then, or none where a hold is not right
  abbrev pub WalkTold : (end : ℕ) → Option ℕ → Type 0
  WalkTold end (Some longest) = Walked end longest
  WalkTold end None = rule_right ≡ false
