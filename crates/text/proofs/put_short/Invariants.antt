use Rattle.std.proofs.Common.{length, ◌<◌, ◌^◌, ◌≡◌}
use Rattle.base.specs.Pack.{radix, unpacked}
use Rattle.text.specs.Buffer.{buffer, filled}
use Rattle.text.proofs.put_short.Given as goal

abbrev pub invariant-loop-left : goal.invariant-loop-left
invariant-loop-left l =
    (l.left < radix ^ 10)
    × (length l.out ≡ length l.initial.out)
    × (filled (buffer l.out l.next) (unpacked l.left) ≡ filled (buffer l.initial.out l.at) (unpacked l.x))

abbrev pub decreases-loop-left : goal.decreases-loop-left
decreases-loop-left l = l.left
