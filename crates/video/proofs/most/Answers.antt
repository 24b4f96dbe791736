use Rattle.std.proofs.Common.{le-ltb, lt-ltb, rules}
use Rattle.base.specs.Moved.{un_lt}
use Rattle.video.specs.Exact.{bias}
use Rattle.video.proofs.most.Goals as goal

pub returns-then-x-y : goal.returns-then-x-y
returns-then-x-y c = (rw (un_lt bias _ _, lt-ltb _ _ c.if-x-y.true), search rules)

pub returns-else-x-y : goal.returns-else-x-y
returns-else-x-y c = (rw (un_lt bias _ _, le-ltb _ _ c.if-x-y.false), search rules)
