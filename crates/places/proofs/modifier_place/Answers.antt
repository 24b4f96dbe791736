use Rattle.places.specs.Mirror.{modifier_place_of}
use Rattle.places.proofs.modifier_place.Goals as goal

pub returns : goal.returns
unfolding modifier_place_of
returns c = simp (
  c.further.ensures,
  c.name_start.ensures,
  c.rest.ensures,
  c.row_place-k.ensures,
  c.head_start-start.ensures,
)
