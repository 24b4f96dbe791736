use Rattle.std.proofs.Common.{refl}
use Rattle.base.specs.PackLaws.{spells_written}
use Rattle.write.specs.Pieces.{end, name, maybe, maybe_both, opcode, if_name}
use Rattle.signs.specs.Text.{bytes}
use Rattle.write.proofs.comparison_head.Goals as goal

pub returns : goal.returns
returns c = record {
  head = λ s o. opcode s
      (name c.dot.ensures c.cmp_number.ensures
      (maybe_both c.combination_modifier.ensures (if_name c.dot_if.ensures (spells_written 3 (bytes "ftz") refl))
      (maybe o (name c.dot-2.ensures c.type_number.ensures end))));
}
