use Rattle.std.proofs.Common.{◌≤◌}
use Rattle.samples.proofs.read_values.Given as goal

abbrev pub invariant-loop-token : goal.invariant-loop-token
invariant-loop-token l = l.count ≤ 32
