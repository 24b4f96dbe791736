use Rattle.std.proofs.Common.{get_or}
use Rattle.video.specs.Exact.{exactly}
use Rattle.video.proofs.Laws.{merged_is}
use Rattle.video.proofs.merge.Goals as goal

pub returns : goal.returns
returns c = simp (
  c.rejoin.ensures,
  c.either-4.ensures,
  c.low_part-4.ensures.0,
  c.either-3.ensures,
  c.low_part-3.ensures.0,
  c.either-2.ensures,
  c.low_part-2.ensures.0,
  c.either.ensures,
  c.low_part.ensures.0,
  c.parts-k.ensures,
)
    (merged_is c.args.l (λ i. exactly (get_or c.args.t i 0)) c.args.c)
