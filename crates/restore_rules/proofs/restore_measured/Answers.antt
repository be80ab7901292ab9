-- `restore_rules::restore_measured` meets its contract: the bytes held are the first entries of
-- what is lent, the test decides, and then the frames are put back. Assumes nothing.
use Rattle.std.proofs.Common.{List, ◌∷◌, ℕ, ◌≡◌, ◌+◌, ◌-◌, length, take, drop, sym, ◌∙◌, ap, take_all, arith}
use Rattle.std.proofs.lemmas.List.{length-map}
use Rattle.rules.specs.Rules.{held, count_of, rules_of}
use Rattle.rules_conversions.proofs.Restored.{all_frames}
use Rattle.rules_conversions.specs.Conversions.{all_held, restored}
use Rattle.restore_rules.proofs.restore_measured.Goals as goal

-- the bytes that the rules hold, as they are lent: behind a 0, and then without it
module _
    (x entries : List ℕ) (n : ℕ) (counted : n ≡ count_of x)
    (h : take (count_of x + 1) entries ≡ 0 ∷ all_held (rules_of x)) where
  abbrev lent : List ℕ
  lent = take (n + 1) entries

  bytes : lent ≡ 0 ∷ all_held (rules_of x)
  bytes = rw counted h

  behind : take (length lent - 1) (drop 1 lent) ≡ all_held (rules_of x)
  behind = rw bytes (take_all (length (0 ∷ all_held (rules_of x)) - 1) (all_held (rules_of x)) (omega arith))

  size : length (take (length lent - 1) (drop 1 lent)) ≡ length (rules_of x)
  size = ap length behind ∙ length-map (rules_of x) held

pub write_restored-requires-clause-frames : goal.write_restored-requires-clause-frames
write_restored-requires-clause-frames c =
    rw (size _ _ _ c.count-count.ensures.answer c.held_bytes-entries.ensures.held)
    (all_frames _ _ (sym c.is_conversion.ensures ∙ c.if-not-is_conversion.false))

-- past the test
pub returns-clause-text : goal.returns-clause-text
unfolding restored
returns-clause-text c =
    let passed = sym c.is_conversion.ensures ∙ c.if-not-is_conversion.false in
    let all = behind _ _ _ c.count-count.ensures.answer c.held_bytes-entries.ensures.held in
    rw (passed, ← all) c.write_restored.ensures
