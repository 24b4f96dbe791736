use Rattle.std.proofs.Common.{drop, ◌+◌, ◌≡◌}
use Rattle.scan.specs.Runs.{in_class, run_length}
use Rattle.scan.proofs.run_len.Given as goal

abbrev pub invariant-loop-i : goal.invariant-loop-i
invariant-loop-i l = run_length (in_class l.c) l.s ≡ l.i + run_length (in_class l.c) (drop l.i l.s)
