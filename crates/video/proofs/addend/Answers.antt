use Rattle.std.proofs.Common.{arith}
use Rattle.base.specs.Moved.{un_up}
use Rattle.video.specs.Exact.{bias}
use Rattle.video.proofs.addend.Goals as goal

pub returns-else-masked : goal.returns-else-masked
returns-else-masked c = (rw c.if-masked.false (un_up bias 0), omega arith)
