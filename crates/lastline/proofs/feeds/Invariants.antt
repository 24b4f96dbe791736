use Rattle.std.proofs.Common.{drop, ◌+◌, ◌≡◌, ◌≤◌}
use Rattle.lastline.specs.Steps.{feeds_in}
use Rattle.lastline.proofs.feeds.Given as goal

abbrev pub invariant-loop-b : goal.invariant-loop-b
invariant-loop-b l = (l.n + feeds_in (drop l.b-index l.s) ≡ feeds_in l.s) × (l.n ≤ l.b-index)
