use Rattle.std.proofs.Common.{◌-◌, ◌≡◌}
use Rattle.shape.specs.Turns.{most_turns}
use Rattle.shape.specs.Head.{head_of, head_read, head_left}
use Rattle.shape.proofs.read_head.Given as goal

abbrev pub invariant-loop-n : goal.invariant-loop-n
invariant-loop-n l = head_read (head_of l.s) ≡ head_left (most_turns - l.n) l.w l.place (record { n = l.n; at = l.at })
