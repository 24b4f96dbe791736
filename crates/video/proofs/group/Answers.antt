use Rattle.base.specs.Moved.{un_up}
use Rattle.video.proofs.group.Goals as goal

pub returns-then-l : goal.returns-then-l
returns-then-l c = simp (
  c.low.ensures,
  c.sum.ensures.0,
  c.total.ensures.0,
  c.wide.ensures.0,
  c.if-l.true,
  un_up,
)
