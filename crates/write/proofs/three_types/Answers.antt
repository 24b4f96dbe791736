use Rattle.std.proofs.Common.{refl}
use Rattle.base.specs.PackLaws.{spells_written}
use Rattle.write.specs.Pieces.{end, name, maybe, maybe_last, opcode, if_name}
use Rattle.signs.specs.Text.{bytes}
use Rattle.write.proofs.three_types.Goals as goal

pub returns : goal.returns
returns c = record {
  head = λ s o. opcode s
      (name c.dot.ensures c.video_number.ensures
      (name c.dot-2.ensures c.video_number-2.ensures
      (name c.dot-3.ensures c.video_number-3.ensures
      (maybe (if_name c.dot_if.ensures (spells_written 3 (bytes "sat") refl)) (maybe_last o end)))));
}
