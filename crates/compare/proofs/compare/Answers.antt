use Rattle.compare.specs.Mirror.{compared_hold}
use Rattle.compare.proofs.Laws.{float_by_is}
use Rattle.compare.proofs.compare.Goals as goal

pub returns-in-Single-Single : goal.returns-in-Single-Single
unfolding compared_hold
returns-in-Single-Single c = simp (
  c.floats_hold.ensures,
  c.in-Single-Single.is-0,
  c.in-Single-Single.is-1,
  float_by_is,
)

pub returns-in-Double-Double : goal.returns-in-Double-Double
unfolding compared_hold
returns-in-Double-Double c = simp (
  c.floats_hold-in-Double-Double.ensures,
  c.in-Double-Double.is-0,
  c.in-Double-Double.is-1,
  float_by_is,
)
