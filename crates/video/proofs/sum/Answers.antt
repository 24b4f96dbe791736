use Rattle.std.proofs.Common.{arith}
use Rattle.base.specs.Moved.{un_add}
use Rattle.video.specs.Exact.{bias}
use Rattle.video.proofs.sum.Goals as goal

pub returns : goal.returns
returns c = (un_add bias c.args.x c.args.y (omega arith), omega arith)
