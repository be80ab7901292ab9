-- A comparison spoils each position that a step's shift passes over (`passed_over`), and the shift keeps what the next step relies on
-- (`carried_on`): by the ways in which a step ends, from what the tables say of each shift.
use mathlib.Core.Bool.{Bool, true, false, ◌&&◌, and-eq-true_iff, true≢false}
use mathlib.Core.List.{List, [], ◌++◌}
use mathlib.Core.Logic.{inl, ⊎_elim}
use mathlib.Core.Path.{◌≡◌, refl, sym, ◌∙◌, ap}
use Prim.Native.Nat.{ℕ, suc, ◌+◌, ◌-◌, ◌≤◌, ◌<◌}
use native.Mathlib.Omega.{arith}
use borrow.Author.Tests.{eqb-true}
use lib.Dec.{eqb}
use lib.ListN.{length, get_or}
use Rattle.tables.proofs.Cases.{true_or_false, le_or_lt}
use Rattle.tables.proofs.FirstShift.{Δ1_facts}
use Rattle.tables.proofs.Groups.{order_first}
use Rattle.tables.proofs.HMin.{period_outside}
use Rattle.tables.proofs.Order.{order_length, order_stands}
use Rattle.tables.proofs.Periods.{period_facts, period_refutes}
use Rattle.tables.proofs.RepeatRow.{repeat_row_length, repeat_row_entry}
use Rattle.tables.specs.Facts.{InNeg, OutNeg, FirstShift, Refuted, by_agreed, by_differing}
use Rattle.tables.specs.Sets.{byte}
use Rattle.tables.specs.Tables.{period, order, Δ1, repeats}
use Rattle.steps.proofs.Compared.{compared_before, compared_after, compared_along}
use Rattle.steps.proofs.Outcome.{Outcome, none_agreed, order_differed, repeat_differed, all_agreed, step_outcome}
use Rattle.steps.proofs.Rows.{row_order, row_repeat, row_first, row_some, row_below}
use Rattle.steps.proofs.Steps.{Agrees, Ends, agreeing_ends, step_comparisons, step_repeat}
use Rattle.steps.specs.Promises.{ComparedAt, Spoilt}
use Rattle.steps.specs.Steps.{Comparison, agreeing, row, step, repeat_after, compared}

-- pattern position g agrees at b, and its text position is among those compared
abbrev pub Seen : (f : ℕ → ℕ) (w : List ℕ) (made : List Comparison) (b g : ℕ) → Type 0
Seen f w made b g = Agrees f w b g × ComparedAt made (b + g)

-- what is known at b of a repeat: it comes after an occurrence p before, so that all but the last p positions are seen
pub record Repeated (f : ℕ → ℕ) (w : List ℕ) (made : List Comparison) (b s : ℕ) : Type 0 where
  pub long : repeats w ≡ true
  pub shifted : s ≡ period w
  pub front : (g : ℕ) → g + period w < length w → Seen f w made b g

-- what is known at b of the shift s before: s is from 1 to m, and position m - s - 1 is seen where s is below m
pub record Carried (f : ℕ → ℕ) (w : List ℕ) (made : List Comparison) (b s : ℕ) (repeat : Bool) : Type 0 where
  pub positive : 1 ≤ s
  pub within : s ≤ length w
  pub seen : (g : ℕ) → g + s + 1 ≡ length w → Seen f w made b g
  pub repeated : repeat ≡ true → Repeated f w made b s

module _
    (f : ℕ → ℕ) (w : List ℕ) (made : List Comparison) (b s : ℕ) (repeat : Bool) (nonempty : 1 ≤ length w)
    (known : Carried f w made b s repeat) where
  -- the last position, which is compared first
  abbrev last : ℕ
  last = length w - 1

  -- the comparisons made when the step is done
  abbrev all : List Comparison
  all = made ++ compared (step f w b s repeat)

  abbrev entry : (x : ℕ) → ℕ
  entry x = get_or (row w repeat) x 0

  -- i entries of the row agreed, and they and the next one are compared
  record RowCompared (i : ℕ) : Type 0 where
    ends : Ends f w b (row w repeat) i
    at : (x : ℕ) → x ≤ i → x < length (row w repeat) → ComparedAt all (b + entry x)

  row_compared : RowCompared (agreeing f w b (row w repeat))
  row_compared = record { ends = agreeing_ends f w b (row w repeat); at = at }
    where
      at : (x : ℕ) → x ≤ agreeing f w b (row w repeat) → x < length (row w repeat) → ComparedAt all (b + entry x)
      at x l u =
          compared_after made (compared (step f w b s repeat)) (b + entry x)
          (rw (step_comparisons f w b s repeat) (compared_along b (suc (agreeing f w b (row w repeat))) (row w repeat) x (omega arith) u))

  before : (g : ℕ) → Seen f w made b g → Seen f w all b g
  before g h = (h.0, compared_before made (compared (step f w b s repeat)) (b + g) h.1)

  -- a byte that was compared spoils each position that it excludes
  spoilt_by : (g j : ℕ) → g < length w → ComparedAt all (b + g) → InNeg w (f (b + g)) g j → Spoilt f w all (b + j)
  spoilt_by g j l at (u, miss) =
      let there : b + g ≡ b + j + (g - j) = omega arith in
      record { j = g - j; inside = omega arith; compared = rw there at at; differs = λ e. miss (sym e ∙ ap f (sym there)) }

  seen_spoils : (g j : ℕ) → g < length w → Seen f w all b g → InNeg w (byte w g) g j → Spoilt f w all (b + j)
  seen_spoils g j l (agrees, at) n = spoilt_by g j l at (rw agrees at n)

  module _ {i : ℕ} (here : RowCompared i) where
    -- an entry that agreed is seen, and so is each position where all agreed
    seen_at : (x : ℕ) → x < i → Seen f w all b (entry x)
    seen_at x l = (here.ends.agree x l, here.at x (omega arith) (omega (arith, here.ends.within)))

    seen_in_order : i ≡ length (row w repeat) → repeat ≡ false → (g : ℕ) → g < length w → Seen f w all b g
    seen_in_order e r g u =
        let (x, v, same) = order_stands w nonempty g u in
        let at : entry x ≡ g = rw (row_order w r) same in
        rw at at (seen_at x (omega (arith, ap length (row_order w r))))

    -- of the row of a repeat: those above the last one compared, and those in front of it
    seen_in_repeat : repeat ≡ true → (g : ℕ) → g < length w → length w ≤ g + i → Seen f w all b g
    seen_in_repeat r g u l =
        let x = length w - 1 - g in
        let whole = ap length (row_repeat w r) ∙ repeat_row_length w in
        let at : entry x ≡ g =
        rw (row_repeat w r) (omega (arith, repeat_row_entry w x (omega (arith, here.ends.within, whole)))) in
        rw at at (seen_at x (omega arith))

    seen_in_front : repeat ≡ true → (g : ℕ) → g + period w < length w → Seen f w all b g
    seen_in_front r g l = before g ((known.repeated r).front g l)

    seen_whole : i ≡ length (row w repeat) → (g : ℕ) → g < length w → Seen f w all b g
    seen_whole e g u =
        ⊎_elim
        (λ r.
        let whole = ap length (row_repeat w r) ∙ repeat_row_length w in
        ⊎_elim
        (λ l. seen_in_repeat r g u (omega arith))
        (λ l. seen_in_front r g (omega arith))
        (le_or_lt (length w) (g + period w)))
        (λ r. seen_in_order e r g u)
        (true_or_false repeat)

    -- the last position is compared first
    last_compared : ComparedAt all (b + last)
    last_compared = rw (row_first w repeat) at (here.at 0 (omega arith) (row_some w repeat nonempty))

    last_seen : 1 ≤ i → Seen f w all b last
    last_seen l = rw (row_first w repeat) at (seen_at 0 l)

  -- a shift that keeps the byte shown at the last position
  carried_by :
      {k : ℕ} (next : Bool) → 1 ≤ k → k ≤ length w → ComparedAt all (b + last) → OutNeg w (f (b + last)) last k →
      (next ≡ true → Repeated f w all (b + k) k) → Carried f w all (b + k) k next
  carried_by {k} next l u at keeps repeated = record { positive = l; within = u; seen = seen; repeated = repeated }
    where
      seen : (g : ℕ) → g + k + 1 ≡ length w → Seen f w all (b + k) g
      seen g e =
          let back : last - k ≡ g = omega arith in
          let there : b + last ≡ b + k + g = omega arith in
          (rw (back, there) at (keeps (omega arith)), rw there at at)

  first_facts : FirstShift w (f (b + last)) s (Δ1 w (f (b + last)) s)
  first_facts = Δ1_facts w (f (b + last)) s known.positive known.within

  -- where one differed, the next is no repeat
  no_repeat : {i k : ℕ} → i < length (row w repeat) → eqb i (length (row w repeat)) && repeats w ≡ true → Repeated f w all (b + k) k
  no_repeat {i} l e =
      absurd (omega (arith, eqb-true i (length (row w repeat)) ((and-eq-true_iff (eqb i (length (row w repeat))) (repeats w)).0 e).0))

  carried : {i k : ℕ} → RowCompared i → Outcome f w b s repeat i k → Carried f w all (b + k) k (eqb i (length (row w repeat)) && repeats w)
  carried here (none_agreed z q) =
      let facts = first_facts in
      rw q
      (carried_by _ facts.positive facts.within (last_compared here) (facts.outside_seen last (omega arith))
      (no_repeat (omega (arith, row_some w repeat nonempty))))
  carried here (order_differed r l u facts) =
      let (agrees, at) = last_seen here l in
      carried_by _ facts.positive facts.within at (rw agrees at (rw (order_first w) at (facts.outside_agreed 0 l)))
      (no_repeat (omega (arith, ap length (row_order w r), order_length w nonempty)))
  carried {i} here (repeat_differed r l u facts) =
      let (agrees, at) = last_seen here l in
      let above : length w - 1 - i < last = omega (arith, (period_facts w nonempty).within) in
      carried_by _ facts.positive facts.within at (rw agrees at (facts.outside_known last (omega arith, inl above)))
      (no_repeat (omega (arith, ap length (row_repeat w r), repeat_row_length w)))
  carried {i} here (all_agreed e q) =
      let p = period_facts w nonempty in
      let seen = seen_whole here e in
      let (agrees, at) = seen last (omega arith) in
      rw q
      (carried_by _ p.positive p.within at (rw agrees at (period_outside w (period w) last p.value (omega arith)))
      (λ next. record {
        long = ((and-eq-true_iff (eqb i (length (row w repeat))) (repeats w)).0 next).1;
        shifted = refl;
        front = λ g l.
            let there : b + (g + period w) ≡ b + period w + g = omega arith in
            let (same, compared) = seen (g + period w) l in
            (p.value g l ∙ same ∙ ap f there, rw there at compared);
      }))

  spoilt : {i k : ℕ} → RowCompared i → Outcome f w b s repeat i k → (j : ℕ) → 1 ≤ j → j < k → Spoilt f w all (b + j)
  spoilt here (none_agreed z q) j l u =
      ⊎_elim
      (λ (g, e, n). seen_spoils g j (omega arith) (before g (known.seen g e)) n)
      (λ (g, e, n). let same : g ≡ last = omega arith in spoilt_by last j (omega arith) (last_compared here) (rw same at n))
      (first_facts.least j l (omega arith))
  spoilt {i} here (order_differed r v t facts) j l u = go (facts.least j l u)
    where
      go : Refuted w i j → Spoilt f w all (b + j)
      go (by_agreed x a n) =
          let at : entry x ≡ get_or (order w) x 0 = ap (λ (o : List ℕ). get_or o x 0) (row_order w r) in
          seen_spoils (entry x) j (row_below w repeat nonempty x (omega (arith, here.ends.within))) (seen_at here x a) (rw (sym at) at n)
      go (by_differing q (n, same)) =
          let at : entry i ≡ get_or (order w) i 0 = ap (λ (o : List ℕ). get_or o i 0) (row_order w r) in
          let inside : i < length (row w repeat) = omega (arith, ap length (row_order w r), order_length w nonempty) in
          let differs = rw at at (here.ends.differ inside) in
          spoilt_by (entry i) j (row_below w repeat nonempty i inside) (here.at i (omega arith) inside)
          (rw at (n, λ z. differs (sym same ∙ z)))
  spoilt {i} here (repeat_differed r v t facts) j l u =
      let inside : i < length (row w repeat) = omega (arith, ap length (row_repeat w r), repeat_row_length w) in
      let at : entry i ≡ length w - 1 - i = rw (row_repeat w r) (repeat_row_entry w i t) in
      let differs = rw at at (here.ends.differ inside) in
      ⊎_elim
      (λ (n, same). spoilt_by (length w - 1 - i) j (omega arith) (rw at at (here.at i (omega arith) inside)) (n, λ z. differs (sym same ∙ z)))
      (λ (g, (x, where_known), n).
      seen_spoils g j x (⊎_elim (λ a. seen_in_repeat here r g x (omega arith)) (seen_in_front here r g) where_known) n)
      (facts.least j l u)
  spoilt here (all_agreed e q) j l u =
      let (g, x, n) = period_refutes w j nonempty l (omega arith) in
      seen_spoils g j x (seen_whole here e g x) n

  -- where all agree in the row, every position does
  pub all_agree : agreeing f w b (row w repeat) ≡ length (row w repeat) → (g : ℕ) → g < length w → Agrees f w b g
  all_agree e g l = (seen_whole row_compared e g l).0

  -- a step keeps what the next one relies on, and spoils every position that its shift passes over
  pub carried_on : let here = step f w b s repeat in Carried f w all (b + here.shift) here.shift (repeat_after w here)
  carried_on = rw (step_repeat f w b s repeat) (carried row_compared (step_outcome f w b s nonempty repeat))

  pub passed_over : (j : ℕ) → 1 ≤ j → j < (step f w b s repeat).shift → Spoilt f w all (b + j)
  passed_over = spoilt row_compared (step_outcome f w b s nonempty repeat)

-- the first step relies on nothing
pub carried_first : (f : ℕ → ℕ) (w : List ℕ) (b : ℕ) → 1 ≤ length w → Carried f w [] b (length w) false
carried_first f w b h =
    record { positive = h; within = omega arith; seen = λ g e. absurd (omega arith); repeated = λ e. absurd (true≢false (sym e)) }
