-- `turn_mirror::mirrored_bytes` meets its contract: one test over the whole table, computed.
-- By `mirror_table_right`, which carries it to each entry. Assumes nothing.
use Rattle.std.proofs.Common.{refl}
use Rattle.tables.specs.Least.{all_from}
use Rattle.turn_mirror.proofs.Mirrored.{mirror_table_right}
use Rattle.turn_mirror.specs.Mirrored.{reversed_bits, mirrored}
use Rattle.turn_mirror.specs.Promises.{MirrorTableRight}
use Rattle.turn_mirror.proofs.mirrored_bytes.Goals as goal

pub returns : goal.returns
unfolding all_from reversed_bits mirrored MirrorTableRight
returns c = (mirror_table_right _).0 refl
