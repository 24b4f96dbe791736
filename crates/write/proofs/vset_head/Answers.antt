use Rattle.std.proofs.Common.{refl}
use Rattle.base.specs.PackLaws.{spells_written}
use Rattle.signs.specs.Text.{bytes}
use Rattle.write.proofs.vset_head.Goals as goal

pub returns : goal.returns
returns c = c.two_types.ensures.head (spells_written 4 (bytes "vset") refl) c.form_modifier.ensures
