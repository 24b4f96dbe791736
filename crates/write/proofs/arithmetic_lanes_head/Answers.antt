use Rattle.std.proofs.Common.{refl}
use Rattle.base.specs.PackLaws.{spells_written}
use Rattle.write.specs.Pieces.{if_name}
use Rattle.signs.specs.Text.{bytes}
use Rattle.write.proofs.arithmetic_lanes_head.Goals as goal

pub returns : goal.returns
returns c = c.three_types.ensures.head c.lane_arith_number-opcode.ensures (if_name c.dot_if.ensures (spells_written 3 (bytes "add") refl))
