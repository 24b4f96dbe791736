use Rattle.std.proofs.Common.{arith}
use Rattle.base.specs.Moved.{un_up}
use Rattle.video.specs.Exact.{bias}
use Rattle.video.proofs.truth.Goals as goal

pub returns : goal.returns
returns c = (rw (c.wide.ensures.0, c.bit_of.ensures.0, c.holds.ensures) (un_up bias _), omega arith)
