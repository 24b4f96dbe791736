use Rattle.std.proofs.Common.{arith}
use Rattle.video.proofs.Laws.{low_lane}
use Rattle.record.specs.declared.LaneWidth.TheVariants.{Half, Byte}
use Rattle.video.proofs.low_part.Goals as goal

pub returns-in-Half : goal.returns-in-Half
returns-in-Half c = rw c.in-Half.is (low_lane c.args.z Half, omega arith)

pub returns-in-Byte : goal.returns-in-Byte
returns-in-Byte c = rw c.in-Byte.is (low_lane c.args.z Byte, omega arith)
