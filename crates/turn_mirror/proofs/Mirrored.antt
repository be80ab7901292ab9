-- The rule of mirrored bytes (`mirrored_right`), and that of a table of them (`mirror_table_right`).
-- Each is one test over all 256 bytes, carried to each of them by `all_each`.
use mathlib.Core.Bool.{Bool, true, ◌&&◌, and-eq-true_iff}
use mathlib.Core.Path.{◌≡◌, refl}
use Prim.Native.Nat.{ℕ, ◌-◌, ◌<◌}
use native.Mathlib.Omega.{arith}
use borrow.Author.Tests.{ltb-true, eqb-true, eq-eqb}
use lib.Dec.{ltb, eqb}
use lib.ListN.{get_or}
use Rattle.tables.proofs.Least.{all_each, each_all}
use Rattle.tables.specs.Least.{all_from}
use Rattle.turn_mirror.specs.Mirrored.{bit, reversed_bits, mirrored}
use Rattle.turn_mirror.specs.Promises.{MirroredRight, entry_right, MirrorTableRight}

-- bit i of the mirrored byte is bit 7 - i of the byte
same_bit : (c i : ℕ) → Bool
same_bit c i = eqb (bit (mirrored c) i) (bit c (7 - i))

-- the byte keeps the rule
mirror : (c : ℕ) → Bool
mirror c = all_from 8 0 (same_bit c) && (ltb (mirrored c) 256 && eqb (mirrored (mirrored c)) c)

pub mirrored_right : MirroredRight
unfolding MirroredRight same_bit mirror
mirrored_right c h =
    let all = all_each 256 0 mirror every c (omega arith) h in
    let (bits, rest) = (and-eq-true_iff (all_from 8 0 (same_bit c)) _).0 all in
    let (byte, twice) = (and-eq-true_iff (ltb (mirrored c) 256) _).0 rest in
    record {
      bits = λ i l. eqb-true _ _ (all_each 8 0 (same_bit c) bits i (omega arith) l);
      byte = ltb-true _ _ byte;
      twice = eqb-true _ _ twice;
    }
  where
    every : all_from 256 0 mirror ≡ true
    every = unfold mirror same_bit reversed_bits mirrored all_from in refl

pub mirror_table_right : MirrorTableRight
unfolding MirrorTableRight
mirror_table_right table = (
  λ test.
      let passes : (c : ℕ) → c < 256 → (eqb (get_or table c 0) (mirrored c) ≡ true) × (eqb (get_or table (get_or table c 0) 0) c ≡ true) = λ c h.
      (and-eq-true_iff (eqb (get_or table c 0) (mirrored c)) _).0 (all_each 256 0 (entry_right table) test c (omega arith) h) in
      record { entry = λ c h. eqb-true _ _ (passes c h).0; twice = λ c h. eqb-true _ _ (passes c h).1 },
  λ r. each_all 256 0 (entry_right table) (λ c l h. rw (eq-eqb _ _ (r.entry c h)) (eq-eqb _ _ (r.twice c h))),
)
