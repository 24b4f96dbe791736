use Rattle.std.proofs.Common.{drop, ◌≡◌}
use Rattle.begins.specs.Machines.{wrong_from}
use Rattle.viable.specs.States.{step, is_wrong, shape_place_of}
use Rattle.viable.proofs.shape_place.Given as goal

abbrev pub invariant-loop-i : goal.invariant-loop-i
invariant-loop-i l = shape_place_of l.line ≡ wrong_from step is_wrong l.s l.i (drop l.i l.line)
