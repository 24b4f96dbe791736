use Rattle.std.proofs.Common.{refl, ◌∙◌}
use Rattle.write.specs.Pieces.{behind}
use Rattle.write.proofs.sources_texts.Goals as goal

pub returns : goal.returns
returns c = rw (c.joined.ensures, c.further-2.ensures, c.further.ensures) (behind _ _ c.operand_piece.ensures c.operand_piece-2.ensures ∙ rw c.combination_last.ensures refl)
