use Rattle.std.proofs.Common.{drop, take, ◌+◌, ◌-◌, ◌≡◌, ◌≤◌}
use Rattle.tally.specs.Places.{place_of}
use Rattle.tally.proofs.place.Given as goal

abbrev pub invariant-loop-i : goal.invariant-loop-i
invariant-loop-i l = (l.i ≤ l.n) × (l.i + place_of l.tag (drop l.i (take l.n l.entries)) ≡ l.from + place_of l.tag (drop l.from (take l.n l.entries)))

abbrev pub decreases-loop-i : goal.decreases-loop-i
decreases-loop-i l = l.n - l.i
