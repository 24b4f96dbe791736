use Rattle.std.proofs.Common.{length, take, ◌≡◌}
use Rattle.text.specs.Buffer.{buffer, Puts}
use Rattle.text.proofs.put.Given as goal

abbrev pub invariant-loop-b : goal.invariant-loop-b
invariant-loop-b l =
    (length l.out ≡ length l.initial.out)
    × Puts (buffer l.initial.out l.at) (take l.b-index l.text) (buffer l.out l.next)
