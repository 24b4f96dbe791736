use Rattle.std.proofs.Common.{refl, ◌∙◌}
use Rattle.write.specs.Pieces.{first_text, behind}
use Rattle.write.proofs.scalar_texts.Goals as goal

pub returns : goal.returns
returns c = rw (c.joined.ensures, c.further-2.ensures, c.further.ensures) (behind _ _ c.selected_piece.ensures c.selected_piece-2.ensures ∙ rw (first_text c.form_piece.ensures, c.form_last.ensures) refl)
