use Rattle.std.proofs.Common.{le-ltb, lt-ltb}
use Rattle.base.specs.Moved.{un_lt}
use Rattle.video.specs.Exact.{bias}
use Rattle.video.proofs.apply.Goals as goal

pub returns-then-x-y : goal.returns-then-x-y
returns-then-x-y c = rw (c.in-Vabsdiff.is, un_lt bias _ _, lt-ltb _ _ c.if-x-y.true) c.difference-then-x-y.ensures

pub returns-else-x-y : goal.returns-else-x-y
returns-else-x-y c = rw (c.in-Vabsdiff.is, un_lt bias _ _, le-ltb _ _ c.if-x-y.false) c.difference-in-Vabsdiff.ensures
