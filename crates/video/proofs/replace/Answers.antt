use Rattle.video.proofs.Laws.{replaced_is}
use Rattle.video.proofs.replace.Goals as goal

pub returns : goal.returns
returns c = simp (
  c.rejoin.ensures,
  c.either-4.ensures,
  c.part-4.ensures.0,
  c.either-3.ensures,
  c.part-3.ensures.0,
  c.either-2.ensures,
  c.part-2.ensures.0,
  c.either.ensures,
  c.part.ensures.0,
)
    (replaced_is _ _ _ _ c.requires)
