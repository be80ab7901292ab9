-- Rules of which no two can meet never claim one byte (`NeverTwice`).
-- Two rules that claim one can meet (`met`).
use mathlib.Core.Logic.{⊎_elim}
use Rattle.tables.proofs.Cases.{le_or_lt, clash}
use Rattle.rules.specs.Rules.{rule_of}
use Rattle.rules_claims.proofs.Twice.{two_claimants, each_once}
use Rattle.rules_claims.specs.Claims.{claimants}
use Rattle.rules_meet.proofs.Meeting.{met}
use Rattle.rules_meet.specs.Promises.{NeverTwice}

pub never_twice : NeverTwice
unfolding NeverTwice
never_twice rs apart t =
    each_once rs t
    (λ c l.
    ⊎_elim
    (λ e. e)
    (λ more.
    let (i, j, u, k, k') = two_claimants t c rs more in
    absurd (clash _
    (met (rule_of rs i) (rule_of rs j) t c l k.claimed k'.claimed)
    (apart i j u k'.inside)))
    (le_or_lt (claimants rs t c) 1))
