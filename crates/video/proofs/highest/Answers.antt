use Rattle.std.proofs.Common.{arith, ◌-◌, ◌/◌}
use Rattle.base.specs.Moved.{un_up}
use Rattle.video.specs.Exact.{bias}
use Rattle.video.proofs.highest.Goals as goal

pub returns-then-signed : goal.returns-then-signed
returns-then-signed c = (rw c.if-signed.true (un_up bias (c.args.n / 2 - 1)), omega arith)

pub returns-else-signed : goal.returns-else-signed
returns-else-signed c = (rw c.if-signed.false (un_up bias (c.args.n - 1)), omega arith)
