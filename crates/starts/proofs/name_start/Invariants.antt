use Rattle.std.proofs.Common.{◌≡◌, ◌-◌}
use Rattle.starts.specs.Starts.{name_from}
use Rattle.starts.proofs.name_start.Given as goal

abbrev pub invariant-loop-turn : goal.invariant-loop-turn
invariant-loop-turn l = name_from 0 l.k l.s ≡ name_from l.place (l.k - l._turn) l.w
