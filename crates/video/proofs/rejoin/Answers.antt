use Rattle.std.proofs.Common.{add-zero, mul-zero}
use Rattle.video.specs.Exact.{rejoined_of}
use Rattle.video.proofs.rejoin.Goals as goal

pub returns-in-Half : goal.returns-in-Half
unfolding rejoined_of
returns-in-Half c = simp (
  add-zero,
  mul-zero,
  c.in-Half.is,
  c.wide-l1.ensures.0,
  c.wide-l0.ensures.0,
)

pub returns-in-Byte : goal.returns-in-Byte
unfolding rejoined_of
returns-in-Byte c = simp (
  add-zero,
  mul-zero,
  c.in-Byte.is,
  c.wide-l3.ensures.0,
  c.wide-l2.ensures.0,
  c.wide-l1.ensures.0,
  c.wide-l0.ensures.0,
)
