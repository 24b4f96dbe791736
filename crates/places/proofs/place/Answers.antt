use Rattle.std.proofs.Common.{eq-eqb, ne_eqb}
use Rattle.places.specs.Mirror.{place_of}
use Rattle.places.proofs.place.Goals as goal

pub returns-then-n-eq-NO_SHAPE : goal.returns-then-n-eq-NO_SHAPE
unfolding place_of
returns-then-n-eq-NO_SHAPE c = simp (
  c.shape_place.ensures,
  eq-eqb _ _ c.if-n-eq-NO_SHAPE.true,
)

pub returns-then-n-eq-NO_OPCODE : goal.returns-then-n-eq-NO_OPCODE
unfolding place_of
returns-then-n-eq-NO_OPCODE c = simp (
  c.head_start.ensures,
  eq-eqb _ _ c.if-n-eq-NO_OPCODE.true,
  ne_eqb _ _ c.if-n-eq-NO_SHAPE.false,
)

pub returns-then-n-eq-OUTSIDE : goal.returns-then-n-eq-OUTSIDE
unfolding place_of
returns-then-n-eq-OUTSIDE c = simp (
  c.first_over.ensures,
  eq-eqb _ _ c.if-n-eq-OUTSIDE.true,
  ne_eqb _ _ c.if-n-eq-NO_OPCODE.false,
  ne_eqb _ _ c.if-n-eq-NO_SHAPE.false,
)

pub returns-then-n-eq-SAME_PAIR : goal.returns-then-n-eq-SAME_PAIR
unfolding place_of
returns-then-n-eq-SAME_PAIR c = simp (
  c.second_start.ensures,
  eq-eqb _ _ c.if-n-eq-SAME_PAIR.true,
  ne_eqb _ _ c.if-n-eq-OUTSIDE.false,
  ne_eqb _ _ c.if-n-eq-NO_OPCODE.false,
  ne_eqb _ _ c.if-n-eq-NO_SHAPE.false,
)

pub returns : goal.returns
unfolding place_of
returns c = simp (
  c.shaped_place.ensures,
  ne_eqb _ _ c.if-n-eq-SAME_PAIR.false,
  ne_eqb _ _ c.if-n-eq-OUTSIDE.false,
  ne_eqb _ _ c.if-n-eq-NO_OPCODE.false,
  ne_eqb _ _ c.if-n-eq-NO_SHAPE.false,
)
