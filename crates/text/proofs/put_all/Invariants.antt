use Rattle.std.proofs.Common.{drop, length, ◌≡◌}
use Rattle.text.specs.Buffer.{buffer, filled}
use Rattle.base.specs.Pack.{spelled}
use Rattle.text.proofs.put_all.Given as goal

abbrev pub invariant-loop-x : goal.invariant-loop-x
invariant-loop-x l =
    (length l.out ≡ length l.initial.out)
    × (filled (buffer l.out l.next) (spelled (drop l.x-index l.texts))
    ≡ filled (buffer l.initial.out l.at) (spelled l.texts))
