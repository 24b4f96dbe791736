use Rattle.std.proofs.Common.{drop, length, ◌-◌, ◌≡◌, ◌≤◌}
use Rattle.base.specs.Pack.{pack}
use Rattle.scan.proofs.code.Given as goal

abbrev pub invariant-loop-b : goal.invariant-loop-b
invariant-loop-b l = (length l.w ≤ 9) × (l.number ≡ pack (drop (length l.w - length l.yielded) l.w))
