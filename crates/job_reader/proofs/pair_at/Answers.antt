-- `job_reader::pair_at` meets its contract: the two bytes at the place are the pair.
-- Assumes nothing.
use Rattle.hex_digits.proofs.Pairs.{both_digits, pair_number}
use Rattle.job_reader.proofs.pair_at.Goals as goal

pub returns : goal.returns
returns c = rw (both_digits, pair_number) c.pair.ensures
