-- `job_reader::read_lines` meets its contract: each line of two digits gives its byte, and those of all
-- lines fill the buffer. Assumes nothing.
use Rattle.std.proofs.Common.{List, ◌≡◌, ◌∙◌, ℕ, ◌+◌, ◌-◌, ◌≤◌, arith, add-zero, length}
use native.Mathlib.Nat.{sub-zero}
use Rattle.answers.proofs.Fronts.{in_front_whole}
use Rattle.answers.proofs.Partly.{put_front, none_written, one_more, all_written}
use Rattle.hex_digits.proofs.Digits.{digit_from, value_below}
use Rattle.hex_digits.proofs.Pairs.{pair_number, high_digit, low_digit}
use Rattle.job.proofs.Lengths.{length_bytes}
use Rattle.job.specs.Job.{bytes_in}
use Rattle.job_reader.proofs.Reading.{bytes_from, line_digits}
use Rattle.job_reader.proofs.read_lines.Goals as goal

-- the buffer has room for all
room : (n from : ℕ) (file : List ℕ) → 0 + length (bytes_in n from file) ≤ n
room n from file = rw length_bytes (omega arith)

pub loop-i-init : goal.loop-i-init
loop-i-init c = rw (sub-zero, add-zero) (none_written 0 _ _)

pub value_of-requires : goal.value_of-requires
value_of-requires c =
    let digits = line_digits _ _ _ c.requires.good c.loop-i.i (omega arith) in
    digit_from _ (high_digit _ _ digits)

pub value_of-requires-in-loop-i : goal.value_of-requires-in-loop-i
value_of-requires-in-loop-i c =
    let digits = line_digits _ _ _ c.requires.good c.loop-i.i (omega arith) in
    digit_from _ (low_digit _ _ digits)

pub overflow_mul-byte : goal.overflow_mul-byte
overflow_mul-byte c =
    let digits = line_digits _ _ _ c.requires.good c.loop-i.i (omega arith) in
    omega (arith, value_below _ (high_digit _ _ digits))

pub overflow_add-byte : goal.overflow_add-byte
overflow_add-byte c =
    let digits = line_digits _ _ _ c.requires.good c.loop-i.i (omega arith) in
    omega (arith, value_below _ (high_digit _ _ digits), value_below _ (low_digit _ _ digits))

pub loop-i-preserved : goal.loop-i-preserved
loop-i-preserved c =
    let n = length c.args.out.now in
    let file = c.args.file.now in
    let due = rw (bytes_from n c.loop-i.i c.args.from file (omega arith)) at c.loop-i.invariant in
    rw (c.value_of.ensures, c.value_of-in-loop-i.ensures, ← pair_number) (one_more 0 _ due (room n c.args.from file))

pub returns : goal.returns
unfolding bytes_in
returns c =
    let none : length c.args.out.now - c.loop-i.i ≡ 0 = omega arith in
    put_front (all_written 0 _ (rw none at c.loop-i.invariant)) ∙ in_front_whole _ _ (length_bytes _ _ _)
