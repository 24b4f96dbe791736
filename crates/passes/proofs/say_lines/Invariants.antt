-- What was printed, and that what is printed from here on goes behind it.
use Rattle.std.proofs.Common.{length, ◌-◌}
use Rattle.passlog.specs.OutputLaws.{Called}
use Rattle.passes.proofs.say_lines.Given as goal

abbrev pub invariant-loop-at : goal.invariant-loop-at
invariant-loop-at g l = Called l.floor l.input l.at l.number l.t

abbrev pub decreases-loop-at : goal.decreases-loop-at
decreases-loop-at g l = length l.input - l.at
