use Rattle.std.proofs.Common.{arith}
use Rattle.base.specs.Moved.{un_up}
use Rattle.video.specs.Exact.{bias}
use Rattle.video.proofs.total.Goals as goal

pub returns-in-Byte : goal.returns-in-Byte
returns-in-Byte c = (
  simp (
    c.sum-in-Byte-4.ensures.0,
    c.sum-in-Byte-3.ensures.0,
    c.sum-in-Byte-2.ensures.0,
    c.sum-in-Byte.ensures.0,
    c.in-Byte.is,
    c.addend-t0.ensures.0,
    c.addend-t1.ensures.0,
    c.addend-t2.ensures.0,
    c.addend-t3.ensures.0,
    un_up bias 0,
  ),
  omega arith,
)
