use Rattle.std.proofs.Common.{refl, ◌∙◌}
use Rattle.write.specs.Pieces.{first_text, behind}
use Rattle.write.proofs.choice_texts.Goals as goal

pub returns : goal.returns
returns c = rw (c.joined.ensures, c.further-2.ensures, c.further.ensures) (behind _ _ c.operand_piece-2.ensures c.operand_piece-3.ensures ∙ rw (first_text c.operand_piece.ensures) refl)
