use Rattle.std.proofs.Common.{arith}
use Rattle.video.proofs.Laws.{average_high, average_low}
use Rattle.video.proofs.average.Goals as goal

pub returns-then-z-ge-BIAS : goal.returns-then-z-ge-BIAS
returns-then-z-ge-BIAS c = (average_high _ _ _ c.sum-z.ensures.0 c.if-z-ge-BIAS.true, omega arith)

pub returns : goal.returns
returns c = (average_low _ _ _ c.sum-z.ensures.0 c.if-z-ge-BIAS.false, omega arith)
