-- `restore_conversions::Walk::holds_match` meets its contract: what is read is the frames around
-- the ring, and the two walks go over all positions. Assumes nothing.
use Rattle.std.proofs.Common.{List, Option, Some, None, ℕ, ◌≡◌, ◌+◌, ◌≤◌, ◌<◌, length, get_or, sym, ◌∙◌, mod-eq_of_lt, rules, arith}
use Rattle.std.specs.Option.{is_some}
use Rattle.restore_conversions.proofs.Walked.{walked_all}
use Rattle.restore_conversions.proofs.Walk.holds_match.Goals as goal
use Rattle.restore_conversions.specs.Walk.{frame_at, rule_right, WalkTold}

-- a walk over all positions tells whether the holds are right
all_told :
    (h q : ℕ) (w hs gs : List ℕ) (told : Option ℕ) → 1 ≤ length w → WalkTold h q w hs gs (length gs) told →
    is_some told ≡ rule_right h q w hs gs
all_told h q w hs gs (Some longest) some walked = sym (walked_all h q w hs gs some walked (omega arith))
all_told h q w hs gs None some wrong = sym wrong

-- a frame inside the frames is the one around the ring
around : (gs : List ℕ) (x frame : ℕ) → x < length gs → frame ≡ get_or gs x 0 → frame ≡ frame_at gs x
around gs x frame inside e = rw (mod-eq_of_lt inside) e

pub walked-requires-clause-reads : goal.walked-requires-clause-reads
walked-requires-clause-reads c = λ b j l inside.
    let there : b + j < length c.args.self.now.frames.now = omega (arith, c.saturating_sub-inside.ensures) in
    search (rules, arith)

pub walked-requires-clause-frames : goal.walked-requires-clause-frames
walked-requires-clause-frames c = λ b j frame l inside read.
    let gs = c.args.self.now.frames.now in
    let there : b + j < length gs = omega (arith, c.saturating_sub-inside.ensures) in
    let is : frame ≡ get_or gs (b + j) 0 = search rules in
    around gs (b + j) frame there is

pub returns : goal.returns
returns c = c.is_some.ensures ∙ all_told _ _ _ _ _ _ c.args.self.now.ready.some c.walked-2.ensures
