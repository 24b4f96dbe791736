use Rattle.std.proofs.Common.{◌-◌, ◌≡◌}
use Rattle.signs.specs.Digits.{zero_byte}
use Rattle.masks.specs.Masks.{falling}
use Rattle.masks.proofs.mask_of.Given as goal

abbrev pub invariant-loop-rest : goal.invariant-loop-rest
invariant-loop-rest l = falling (l.last - zero_byte) l.mask l.rest ≡ falling (l.initial.last - zero_byte) l.initial.mask l.initial.rest

abbrev pub decreases-loop-rest : goal.decreases-loop-rest
decreases-loop-rest l = l.rest
