use Rattle.std.proofs.Common.{drop, ◌≡◌}
use Rattle.starts.specs.Over.{over_at}
use Rattle.starts.proofs.first_over.Given as goal

abbrev pub invariant-loop-i : goal.invariant-loop-i
invariant-loop-i l = over_at 0 l.line ≡ over_at l.i (drop l.i l.line)
