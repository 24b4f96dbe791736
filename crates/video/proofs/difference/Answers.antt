use Rattle.std.proofs.Common.{arith}
use Rattle.base.specs.Moved.{un_sub}
use Rattle.video.specs.Exact.{bias}
use Rattle.video.proofs.difference.Goals as goal

pub returns : goal.returns
returns c = (un_sub bias c.args.x c.args.y (omega arith) (omega arith), omega arith)
