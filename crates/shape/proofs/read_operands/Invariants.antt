use Rattle.std.proofs.Common.{◌-◌, ◌≡◌}
use Rattle.shape.specs.Turns.{most_turns}
use Rattle.shape.specs.Operands.{operands_scanned, operands_read, list_left}
use Rattle.shape.proofs.read_operands.Given as goal

abbrev pub invariant-loop-n : goal.invariant-loop-n
invariant-loop-n l = operands_read (operands_scanned l.s) ≡ list_left (most_turns - l.n) l.w l.place (record { n = l.n; at = l.at })
