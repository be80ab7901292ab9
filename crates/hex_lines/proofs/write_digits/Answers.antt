-- `hex_lines::write_digits` meets its contract: each turn puts the digit before those passed, and the
-- digits passed at the end are all. Assumes nothing.
use Rattle.std.proofs.Common.{List, [], ◌∷◌, ◌≡◌, refl, ℕ, suc, ◌+◌, ◌-◌, ◌/◌, ◌%◌, ◌^◌, ◌<◌, arith}
use Rattle.std.proofs.Math.ListN.{set}
use Rattle.std.proofs.Math.Seq.{sets, set_comm}
use Rattle.answers.proofs.Fronts.{from_entry_sets}
use Rattle.hex_digits.proofs.Numbers.{length_digits}
use Rattle.hex_digits.specs.Hex.{digit, digits}
use Rattle.hex_lines.proofs.Lines.{digit_before, places_above}
use Rattle.hex_lines.proofs.write_digits.Goals as goal

-- a store below a run of stores
set_below : (xs o : List ℕ) (i j d : ℕ) → j < i → set (sets o i xs) j d ≡ sets (set o j d) i xs
set_below [] o i j d h = refl
set_below (x ∷ xs) o i j d h = rw (set_below xs (set o i x) (suc i) j d (omega arith), set_comm o i j x d (λ e. omega arith))

-- a turn: the digit before those passed
turn : (o out : List ℕ) (number at left done rest d : ℕ)
    → rest ≡ number / 16 ^ done
    → out ≡ sets o (at + left) (digits done number)
    → 0 < left
    → d ≡ digit (rest % 16 % 16)
    → set out (at + (left - 1)) d ≡ sets o (at + (left - 1)) (digits (suc done) number)
turn o out number at left done rest d r e h q =
    let next : at + left ≡ suc (at + (left - 1)) = omega arith in
    rw (e, q, r, digit_before, next) (set_below (digits done number) o (suc (at + (left - 1))) (at + (left - 1)) _ (omega arith))

pub loop-i-init : goal.loop-i-init
unfolding digits
loop-i-init c = (0, omega arith, omega arith, refl)

pub loop-i-preserved : goal.loop-i-preserved
loop-i-preserved c =
    let (done, _, places, stores) = c.loop-i.invariant in (
      suc done,
      omega arith,
      rw (places, places_above done c.args.number),
      turn _ _ c.args.number c.args.at c.loop-i.i done c.loop-i.rest _ places stores (omega arith) c.digit_of.ensures,
    )

pub returns-clause-written : goal.returns-clause-written
returns-clause-written c =
    let (done, _, _, stores) = c.loop-i.invariant in
    let all : done ≡ c.args.count = omega arith in
    let none : c.args.at + c.loop-i.i ≡ c.args.at = omega arith in
    let number = digits c.args.count c.args.number in
    rw (rw (all, none) at stores) (from_entry_sets c.args.at number c.args.out.now (rw length_digits (omega arith)))
