-- `ones::ones_of` meets its contract: the sums over the words and over the rest are the ones of
-- the text, as `words_counted` says. No sum is above these, so none overflows. Assumes nothing.
use Rattle.std.proofs.Common.{◌≡◌, ◌+◌, ◌/◌, arith, length, rules, tests}
use Rattle.std.proofs.lemmas.Iterator.{YieldsList-from_slice, YieldsList-from_map}
use Rattle.std.proofs.lemmas.Iterator.Consumers.{sum_by_from_yields_List, fits_by_from_yields_list}
use Rattle.std.specs.Int.Count.{ones}
use Rattle.answers.proofs.Bytes.{each_byte}
use Rattle.ones.proofs.Sums.{ones_of_few}
use Rattle.ones.proofs.Words.{words_counted}
use Rattle.ones.specs.Ones.{ones_of}
use Rattle.ones.specs.Words.{word_of}
use Rattle.ones.proofs.ones_of.Goals as goal

pub sum-ones-requires-clause-fits : goal.sum-ones-requires-clause-fits
sum-ones-requires-clause-fits c =
    let text = c.args.text.now in
    let bytes = each_byte text (λ i l. (c.type_inv.text i).fits) in
    fits_by_from_yields_list (λ word. ones (word_of word)) _ c.map.result _
    (YieldsList-from_map _ _ (YieldsList-from_slice c.as_chunks.result.0.now cc)
    c.map.ensures.closure (λ x r q k. search (rules, tests)))
    (rw c.as_chunks.ensures.front
    (omega (arith, words_counted (length text / 8) text bytes, ones_of_few text bytes)))

-- the two sums together
both : (c : goal.After-ones_by_bytes) → c.sum-ones.result + c.ones_by_bytes.result ≡ ones_of c.args.text.now
both c =
    let text = c.args.text.now in
    let bytes = each_byte text (λ i l. (c.type_inv.text i).fits) in
    let sum =
    sum_by_from_yields_List (λ word. ones (word_of word)) _ c.map.result _ c.sum-ones.ensures.ran
    (YieldsList-from_map _ _ (YieldsList-from_slice c.as_chunks.result.0.now cc)
    c.map.ensures.closure (λ x r q k. search (rules, tests))) in
    rw (sum, c.as_chunks.ensures.front, c.ones_by_bytes.ensures, c.as_chunks.ensures.back)
    (words_counted (length text / 8) text bytes)

pub overflow_add-result : goal.overflow_add-result
overflow_add-result c =
    let text = c.args.text.now in
    omega (arith, both c, ones_of_few text (each_byte text (λ i l. (c.type_inv.text i).fits)))

pub returns : goal.returns
returns c = both c
