use Rattle.std.proofs.Common.{rules}
use Rattle.video.proofs.Laws.{part_is, chosen_part}
use Rattle.video.proofs.part.Goals as goal

pub returns : goal.returns
returns c =
    let a = c.args in
    part_is a.w a.x a.i _
    (rw (c.either-y.ensures, c.either-3.ensures, c.either-2.ensures, c.either.ensures)
    (chosen_part a.w a.x a.i _ (search rules) c.lane_size-n.ensures.0))
