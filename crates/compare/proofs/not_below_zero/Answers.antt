use Rattle.std.proofs.Common.{rules}
use Rattle.std.proofs.lemmas.Int.{to_z-of_z}
use mir.Syntax.{w32}
use mir.Val.{SFits}
use lib.Ieee.{le}
use Rattle.rules.specs.Execution.{not_below_zero}
use Rattle.compare.proofs.Laws.{signed_word}
use Rattle.compare.proofs.not_below_zero.Goals as goal

pub returns-in-S32 : goal.returns-in-S32
unfolding not_below_zero
returns-in-S32 c =
    let f : SFits w32 c.cast_signed.result = search rules in
    rw (c.in-S32.is, to_z-of_z w32 c.cast_signed.result f, c.cast_signed.ensures, signed_word c.args.c (search rules))

pub returns-in-F32 : goal.returns-in-F32
unfolding not_below_zero le
returns-in-F32 c = rw (c.float_of.ensures, c.from.ensures, c.flush.ensures, c.in-F32.is)
