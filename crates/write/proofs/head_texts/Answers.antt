use Rattle.std.proofs.Common.{refl}
use Rattle.base.specs.PackLaws.{spells_written}
use Rattle.write.specs.Pieces.{end, skip, name, no_name, one_name, opcode}
use Rattle.signs.specs.Text.{bytes}
use Rattle.write.proofs.head_texts.Goals as goal

pub returns-in-Set : goal.returns-in-Set
returns-in-Set c =
    rw c.in-Set.is
    (c.comparison_head.ensures.head
    (spells_written 3 (bytes "set") refl)
    (one_name c.dot.ensures c.set_type_number.ensures))

pub returns-in-Setp : goal.returns-in-Setp
returns-in-Setp c =
    rw c.in-Setp.is
    (c.comparison_head-in-Setp.ensures.head (spells_written 4 (bytes "setp") refl) no_name)

pub returns-in-Selp : goal.returns-in-Selp
returns-in-Selp c =
    rw c.in-Selp.is
    (opcode (spells_written 4 (bytes "selp") refl)
    (name c.dot-dtype.ensures c.type_number.ensures (skip (skip (skip (skip end))))))
