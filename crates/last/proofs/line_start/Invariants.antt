use Rattle.std.proofs.Common.{◌≡◌}
use Rattle.last.specs.Back.{line_start}
use Rattle.last.proofs.line_start.Given as goal

abbrev pub invariant-loop-k : goal.invariant-loop-k
invariant-loop-k l = line_start l.s l.k ≡ line_start l.s l.end
