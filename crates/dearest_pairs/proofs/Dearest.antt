-- The dearest pair of a size: none has a greater C, it has it, and every pair before it has less.
-- By induction on the pairs: the first either has the greatest C of all, or the greatest is that of
-- the later ones.
use mathlib.Core.Bool.{Bool, true, false}
use mathlib.Core.List.{List, [], ◌∷◌, ◌++◌}
use mathlib.Core.Path.{◌≡◌, refl, ap}
use Prim.Native.Nat.{ℕ, zero, suc, ◌+◌, ◌≤◌, ◌<◌}
use native.Mathlib.Omega.{arith}
use borrow.Author.Tests.{eqb-true, eqb-false}
use lib.Dec.{eqb}
use lib.ListN.{length, get_or, length-append}
use lib.Pow.{pow_pos}
use lib.Seq.{get_or-append_seam}
use Rattle.convert.proofs.Paired.{every_search_exact}
use Rattle.convert.specs.Paired.{EverySearchExact}
use Rattle.dearest_pairs.proofs.Pairs.{place, inside, stands, every_pair}
use Rattle.dearest_pairs.specs.Dearest.{cost, greatest, first_with, dearest}
use Rattle.dearest_pairs.specs.Pairs.{Pair, pair, pairs}
use Rattle.dearest_pairs.specs.Promises.{EveryPair, AllBelow, DearestRight, CostAnswered}

-- none of some pairs has a greater C than the greatest
pub none_greater : (xs : List Pair) (i : ℕ) (d : Pair) → i < length xs → cost (get_or xs i d) ≤ greatest xs
unfolding greatest
none_greater [] i d h = absurd (omega arith)
none_greater (x ∷ xs) zero d h = omega arith
none_greater (x ∷ xs) (suc i) d h = omega (arith, none_greater xs i d (omega arith))

-- where some C is above 0 there is a pair
some_pair : (xs : List Pair) → 0 < greatest xs → 1 ≤ length xs
unfolding greatest
some_pair [] h = absurd (omega arith)
some_pair (x ∷ xs) h = omega arith

-- the first of some pairs that has this C, with those before it, which have less
record First (C : ℕ) (xs : List Pair) : Type 0 where
  before : List Pair
  after : List Pair
  split : xs ≡ before ++ (first_with C xs ∷ after)
  has_it : cost (first_with C xs) ≡ C
  less : AllBelow C before

-- a pair with less before the others
less_before : {C : ℕ} (x : Pair) {xs : List Pair} → eqb (cost x) C ≡ false → cost x < C → First C xs → First C (x ∷ xs)
unfolding first_with AllBelow
less_before x other less r =
    record {
      before = x ∷ r.before;
      after = r.after;
      split = rw other (ap (λ ys. x ∷ ys) r.split);
      has_it = rw other r.has_it;
      less = (less, r.less);
    }

first_greatest : (xs : List Pair) (C : ℕ) → greatest xs ≡ C → 1 ≤ length xs → First C xs
unfolding greatest first_with AllBelow
first_greatest [] C e h = absurd (omega arith)
first_greatest (x ∷ xs) C e h = go (λ later some. first_greatest xs C later some) (eqb (cost x) C) refl
  where
    go : (greatest xs ≡ C → 1 ≤ length xs → First C xs) → (z : Bool) → eqb (cost x) C ≡ z → First C (x ∷ xs)
    go among true is = record { before = []; after = xs; split = rw is; has_it = rw is (eqb-true _ _ is); less = tt }
    go among false is =
        let other = eqb-false (cost x) C is in
        let later : greatest xs ≡ C = omega (arith, other, e) in
        less_before x is (omega (arith, other, e)) (among later (some_pair xs (omega (arith, other, e))))

-- a pair that stands between others stands at a place
at_split :
    (xs before after : List Pair) (x d : Pair) → xs ≡ before ++ (x ∷ after) → (length before < length xs) × (get_or xs (length before) d ≡ x)
at_split xs before after x d e =
    let sizes : length xs ≡ length before + length (x ∷ after) = rw length-append at (ap length e) in
    (omega (arith, sizes), rw e (get_or-append_seam before x after d))

pub dearest_right : DearestRight
unfolding DearestRight dearest EveryPair
dearest_right m n =
    let xs = pairs m n in
    let d = pair [] [] in
    let all = every_pair m n in
    let some : 1 ≤ length xs = rw all.count (pow_pos (m + n)) in
    let r = first_greatest xs (greatest xs) refl some in
    let (before_it, there) = at_split xs r.before r.after _ d r.split in
    record {
      none_greater = λ x s. rw (stands s d) at (none_greater xs (place s) d (inside s));
      of_size = rw there at (all.of_size (length r.before) (rw all.count at before_it));
      has_it = r.has_it;
      before = r.before;
      after = r.after;
      split = r.split;
      first = r.less;
    }

pub cost_answered : CostAnswered
unfolding CostAnswered cost EverySearchExact
cost_answered q x c h taken = (every_search_exact q x.pattern x.text c h taken).comparisons_counted
