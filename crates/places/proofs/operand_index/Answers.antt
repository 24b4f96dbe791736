use Rattle.places.specs.Mirror.{operand_index_of}
use Rattle.places.proofs.operand_index.Goals as goal

pub returns : goal.returns
unfolding operand_index_of
returns c = simp (
  c.operand_index_by.ensures,
  c.row.ensures,
)
