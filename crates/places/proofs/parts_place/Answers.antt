use Rattle.std.proofs.Common.{eq-eqb, ne_eqb}
use Rattle.places.specs.Mirror.{parts_place_of}
use Rattle.places.proofs.parts_place.Goals as goal

pub returns-then-n-eq-NO_ROW : goal.returns-then-n-eq-NO_ROW
unfolding parts_place_of
returns-then-n-eq-NO_ROW c = simp (
  c.modifier_place.ensures,
  eq-eqb _ _ c.if-n-eq-NO_ROW.true,
)

pub returns : goal.returns
unfolding parts_place_of
returns c = simp (
  c.guarded_place.ensures,
  ne_eqb _ _ c.if-n-eq-NO_ROW.false,
)
