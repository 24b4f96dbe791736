use Rattle.passlog.specs.StepLaws.{Listed}
use Rattle.passlog.proofs.end.Given as goal

abbrev pub invariant-loop-e : goal.invariant-loop-e
invariant-loop-e l = Listed l.e-items l.initial.out l.e-index l.used l.out
