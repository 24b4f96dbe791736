use Rattle.std.proofs.Common.{refl}
use Rattle.base.specs.PackLaws.{spells_written}
use Rattle.write.specs.Pieces.{end, skip, name, maybe, opcode, if_name}
use Rattle.signs.specs.Text.{bytes}
use Rattle.write.proofs.slct_head.Goals as goal

pub returns-in-S32 : goal.returns-in-S32
returns-in-S32 c w =
    rw c.in-S32.is
    (opcode (spells_written 4 (bytes "slct") refl)
    (name c.dot-dtype.ensures c.type_number.ensures (name c.dot.ensures (spells_written 3 (bytes "s32") refl) (skip (skip (skip end))))))

pub returns-in-F32 : goal.returns-in-F32
returns-in-F32 c w =
    rw c.in-F32.is
    (opcode (spells_written 4 (bytes "slct") refl)
    (maybe (if_name c.dot_if.ensures (spells_written 3 (bytes "ftz") refl))
    (name c.dot-dtype.ensures c.type_number.ensures (name c.dot-in-F32.ensures (spells_written 3 (bytes "f32") refl) (skip (skip end))))))
