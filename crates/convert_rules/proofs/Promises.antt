-- When a conversion by a table of rules is refused by 12 (`ConvertedUnlessClaimed`,
-- `ConvertClaimedAt12`): it answers what is measured, with the buffer for the frames.
-- So it goes as for a search.
use mathlib.Core.Bool.{◌||◌}
use mathlib.Core.List.{List}
use mathlib.Core.Path.{◌≡◌, refl, sym, ◌∙◌}
use Prim.Native.Nat.{ℕ}
use borrow.Author.Tests.{le-ltb}
use lib.Dec.{ltb}
use lib.ListN.{length}
use Rattle.tables.specs.Buffers.{lengths}
use Rattle.ones.specs.Ones.{ones_of}
use Rattle.rules.specs.Rules.{rules_of}
use Rattle.rules_answers.proofs.Answered.{status_answered}
use Rattle.rules_answers.specs.Answers.{rules_done}
use Rattle.rules_status.proofs.Measured.{measured_both}
use Rattle.rules_status.specs.Measured.{measured_status}
use Rattle.search_rules.proofs.Promises.{by_claims, measured_decides, claimed_at_12}
use Rattle.convert_rules.specs.ConvertRules.{convert_rules_status, convert_rules_status_of}
use Rattle.convert_rules.specs.Paired.{RulesCall, ConvertsRules}
use Rattle.convert_rules.specs.Promises.{ConvertedUnlessClaimed, ConvertClaimedAt12}

-- a call answers what is measured
status_of :
    (x t : List ℕ) (c : RulesCall) → ConvertsRules x t c →
    let b = c.lent in
    let n = length t in
    c.answer.status ≡ measured_status x t (lengths b.tables) (ltb (length b.found) n || ltb (length b.frames) n)
unfolding convert_rules_status
status_of x t c o =
    let b = c.lent in
    let status = convert_rules_status_of x t b.tables b.found b.frames in
    status_answered status (rules_done (rules_of x) t (ones_of t)) o.answer refl
    ∙ measured_both x t (lengths b.tables) (length b.found) (length b.frames) (length t)

pub converted_unless_claimed : ConvertedUnlessClaimed
unfolding ConvertedUnlessClaimed
converted_unless_claimed x t c o m room =
    let listed = le-ltb (length c.lent.found) (length t) m.occurrences in
    let framed = le-ltb (length c.lent.frames) (length t) room in
    by_claims (rules_of x) t (status_of x t c o ∙ measured_decides m (rw (listed, framed)))

pub convert_claimed_at_12 : ConvertClaimedAt12
unfolding ConvertClaimedAt12
convert_claimed_at_12 x t c o e = claimed_at_12 x t (lengths c.lent.tables) _ (sym (status_of x t c o) ∙ e)
