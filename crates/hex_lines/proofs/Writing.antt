-- The lines of a list of numbers, written one after another into a buffer from an entry on: none yet, and one more.
-- Each line is put after those that are there.
use mathlib.Core.List.{List}
use mathlib.Core.Path.{◌≡◌, refl, sym}
use Prim.Native.Nat.{ℕ, ◌+◌, ◌*◌, ◌≤◌, ◌<◌}
use native.Mathlib.Nat.{mul-zero, mul-suc}
use native.Mathlib.Numerals.{add-one}
use native.Mathlib.Omega.{arith}
use lib.ListN.{length, take, get_or}
use lib.Seq.{length-take-le, take-suc}
use Rattle.answers.proofs.Fronts.{from_entry_none, from_entry_append}
use Rattle.answers.specs.Buffers.{from_entry}
use Rattle.hex_lines.proofs.Lines.{length_lines, lines_snoc}
use Rattle.hex_lines.specs.Lines.{line, lines}

module _ (n at : ℕ) (numbers old : List ℕ) where
  -- what a loop over the numbers keeps: i lines are written, the next begins at `next`, and the buffer is as long as it was
  pub record SoFar (i : ℕ) (out : List ℕ) (next : ℕ) : Type 0 where
    pub few : i ≤ length numbers
    pub kept : length out ≡ length old
    pub after : next ≡ at + (n + 1) * i
    pub written : out ≡ from_entry at (lines n (take i numbers)) old

  pub none_so_far : SoFar 0 old at
  unfolding lines
  none_so_far =
      record { few = omega arith; kept = refl; after = rw (mul-zero (n + 1)) (omega arith); written = sym (from_entry_none at old) }

  pub one_more :
      {i : ℕ} {out out' : List ℕ} {next next' : ℕ} → at ≤ length old → i < length numbers → length out' ≡ length old → SoFar i out next →
      (next' ≡ next + (n + 1)) × (out' ≡ from_entry next (line n (get_or numbers i 0)) out) → SoFar (i + 1) out' next'
  one_more {i} room l k r e = record {
    few = omega arith;
    kept = k;
    after = rw (add-one i, mul-suc) (omega (arith, e.0, r.after));
    written =
        rw (e.1, r.written, add-one i, take-suc numbers i 0 l, lines_snoc)
        (from_entry_append at (lines n (take i numbers)) old room (line n (get_or numbers i 0)) _
        (rw (length_lines, length-take-le i numbers r.few) (sym r.after)));
  }
