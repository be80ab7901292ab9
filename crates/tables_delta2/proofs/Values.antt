-- The values of Δ2 while they are written: the next one, and that all are written with the last.
-- By the definition of the values; the last is the period, r_min(0).
use mathlib.Core.List.{List, [], ◌∷◌}
use mathlib.Core.Logic.{◌≢◌}
use mathlib.Core.Path.{◌≡◌, sym, ◌∙◌, ap}
use Prim.Native.Nat.{ℕ, suc, ◌+◌, ◌-◌, ◌≤◌, ◌<◌}
use native.Mathlib.Numerals.{add-one}
use native.Mathlib.Omega.{arith}
use lib.ListN.{length, get_or, set, length-set}
use Rattle.answers.proofs.Partly.{Put, put_none, put_store, ◌then◌, put_front}
use Rattle.answers.proofs.Partly.{PartlyWritten, one_more, all_written}
use Rattle.answers.specs.Buffers.{in_front}
use Rattle.tables_delta2.specs.Links.{ShiftsLinked}
use Rattle.tables.proofs.LaterShift.{Δ2_end}
use Rattle.tables.proofs.Periods.{period_r_min}
use Rattle.tables.specs.Tables.{k_min, r_min, order, Δ2, values_from, stored_Δ2}

-- Δ2 after its first entry, from entry i on
abbrev pub values : (w : List ℕ) (i : ℕ) → List ℕ
values w i = values_from (length w + 1 - i) (i + 1) (Δ2 w)

pub next_value : (w : List ℕ) (i : ℕ) → i ≤ length w → values w i ≡ Δ2 w (i + 1) ∷ values w (i + 1)
unfolding values_from
next_value w i u =
    let n = length w - i in
    let here : length w + 1 - i ≡ suc n = omega arith in
    let later : length w + 1 - (i + 1) ≡ n = omega arith in
    let next : suc (i + 1) ≡ i + 1 + 1 = omega arith in
    rw (here, later, next)

last_value : (w : List ℕ) (i : ℕ) → i ≡ length w → values w i ≡ Δ2 w (i + 1) ∷ []
unfolding values_from
last_value w i e =
    let here : length w + 1 - i ≡ 1 = omega arith in
    rw here

last_is : (w : List ℕ) (i : ℕ) → 1 ≤ length w → i ≡ length w → Δ2 w (i + 1) ≡ r_min w 0
last_is w i some e = rw (e, add-one) (Δ2_end w some ∙ period_r_min w some)

-- the first entry is stored, and the others are put after it
all_put :
    (w d d' : List ℕ) (next : ℕ) → 1 ≤ length d → Put 1 (values w 1) (set d 0 0) d' next → d' ≡ in_front (stored_Δ2 w) d
unfolding stored_Δ2
all_put w d d' next room p =
    let all : length w + 1 - 1 ≡ length w = omega arith in
    put_front (put_store (put_none 0 d) 0 room then rw all at p)

-- with the last entry all are written
pub finished :
    (w d d' : List ℕ) (i v : ℕ) → 1 ≤ length w → i ≡ length w → v ≡ r_min w 0 → 1 + length (values w 1) ≤ length (set d 0 0) →
    PartlyWritten 1 (set d 0 0) d' (values w 1) (values w i) i → set d' (length w) v ≡ in_front (stored_Δ2 w) d
finished w d d' i v some e last room p =
    let value : v ≡ Δ2 w (i + 1) = last ∙ sym (last_is w i some e) in
    let all = one_more 1 (set d 0 0) (rw (last_value w i e) at p) room in
    let size = rw length-set at room in
    ap (λ (x : ℕ). set d' x v) (sym e) ∙ rw value (all_put w d _ (i + 1) (omega arith) (all_written 1 (set d 0 0) all))

-- the shifts are linked where entry i is in the second group
abbrev pub LinkedAt : (w : List ℕ) (i : ℕ) (next : List ℕ) → Type 0
LinkedAt w i next = i < length w → k_min w (get_or (order w) i 0) ≢ 0 → ShiftsLinked w i next
