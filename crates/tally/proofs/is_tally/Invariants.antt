use Rattle.std.proofs.Common.{drop, take, ◌-◌, ◌≡◌, ◌≤◌}
use Rattle.tally.specs.Passes.{entries_fit}
use Rattle.tally.proofs.is_tally.Given as goal

abbrev pub invariant-loop-i : goal.invariant-loop-i
invariant-loop-i l = (l.i ≤ l.n) × (entries_fit (drop l.i (take l.n l.entries)) ≡ entries_fit (take l.n l.entries))

abbrev pub decreases-loop-i : goal.decreases-loop-i
decreases-loop-i l = l.n - l.i
