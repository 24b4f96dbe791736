use Rattle.std.proofs.Common.{◌≡◌, ◌-◌}
use Rattle.starts.specs.Starts.{operand_from}
use Rattle.starts.proofs.operand_start.Given as goal

abbrev pub invariant-loop-turn : goal.invariant-loop-turn
invariant-loop-turn l = operand_from 0 l.k l.s ≡ operand_from l.place (l.k - l._turn) l.w
