use Rattle.std.proofs.Common.{arith, ◌/◌}
use Rattle.base.specs.Moved.{un_minus, un_up}
use Rattle.video.specs.Exact.{bias}
use Rattle.video.proofs.lowest.Goals as goal

pub returns-then-signed : goal.returns-then-signed
returns-then-signed c = (rw c.if-signed.true (un_minus bias (c.args.n / 2) (omega arith)), omega arith)

pub returns-else-signed : goal.returns-else-signed
returns-else-signed c = (rw c.if-signed.false (un_up bias 0), omega arith)
