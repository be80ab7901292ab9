-- `job_reader::are_lines` meets its contract: all lines are good just where as many are good as there
-- are (`lines_counted`). Assumes nothing.
use Rattle.std.proofs.Common.{List, ℕ, ◌≡◌, ◌+◌, ◌*◌, ◌-◌, ◌/◌, ◌≤◌, ◌<◌, ◌∙◌, arith, length, get_or, take, drop, rules, tests, length-drop, get_or-drop}
use lib.Seq.{length-take-le}
use mir.Val.{bool_byte}
use Rattle.std.proofs.lemmas.Iterator.{YieldsList-from_slice, YieldsList-from_map}
use Rattle.std.proofs.lemmas.Iterator.Consumers.{sum_by_from_yields_List, fits_by_from_yields_list}
use Rattle.std.proofs.lemmas.List.{get_or-take}
use Rattle.job_reader.proofs.Lines.{three_good, lines_counted}
use Rattle.job_reader.proofs.are_lines.Goals as goal

-- the part of the file has three bytes for each line
module _ (from count : ℕ) (file : List ℕ) (inside : from + 3 * count ≤ length file) where
  size : from + 3 * count - from ≡ 3 * count
  size = omega arith

  lines : length (take (from + 3 * count - from) (drop from file)) / 3 ≡ count
  lines = omega (arith, length-take-le (from + 3 * count - from) (drop from file) (omega (arith, length-drop from file)))

  same : (i : ℕ) → i < 3 * count → get_or (take (from + 3 * count - from) (drop from file)) i 0 ≡ get_or file (from + i) 0
  same i h = get_or-take _ _ i 0 (omega arith) ∙ get_or-drop from file i 0

pub sum-good-requires-clause-fits : goal.sum-good-requires-clause-fits
sum-good-requires-clause-fits c =
    let count = c.args.count in
    let file = c.args.file.now in
    let (few, _) = lines_counted count c.args.from _ file (same c.args.from count file c.requires.inside) in
    fits_by_from_yields_list (λ line. bool_byte (three_good line)) _ c.map.result _
    (YieldsList-from_map _ _ (YieldsList-from_slice c.as_chunks.result.0.now cc)
    c.map.ensures.closure (λ x r q k. search (rules, tests)))
    (rw (c.as_chunks.ensures.front, lines c.args.from count file c.requires.inside) (omega (arith, few, c.requires.few)))

pub returns : goal.returns
returns c =
    let count = c.args.count in
    let file = c.args.file.now in
    let (_, all) = lines_counted count c.args.from _ file (same c.args.from count file c.requires.inside) in
    let sum =
    sum_by_from_yields_List (λ line. bool_byte (three_good line)) _ c.map.result _ c.sum-good.ensures.ran
    (YieldsList-from_map _ _ (YieldsList-from_slice c.as_chunks.result.0.now cc)
    c.map.ensures.closure (λ x r q k. search (rules, tests))) in
    rw (sum, c.as_chunks.ensures.front, lines c.args.from count file c.requires.inside) all
