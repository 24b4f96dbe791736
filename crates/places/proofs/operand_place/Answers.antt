use Rattle.places.specs.Mirror.{legal_place_of}
use Rattle.places.proofs.operand_place.Goals as goal

pub returns : goal.returns
unfolding legal_place_of
returns c = simp (
  c.further.ensures,
  c.operand_start.ensures,
  c.rest.ensures,
  c.operand_index-k.ensures,
  c.operands_start-start.ensures,
)
