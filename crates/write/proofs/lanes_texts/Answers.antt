use Rattle.std.proofs.Common.{refl, ◌∙◌}
use Rattle.write.specs.Pieces.{first_text, last_text, behind}
use Rattle.write.proofs.lanes_texts.Goals as goal

pub returns : goal.returns
returns c = rw (c.joined.ensures, c.further-3.ensures, c.further-2.ensures, c.further.ensures) (behind _ _ (rw c.default_digits-asel.ensures at c.digits_piece.ensures) (rw c.default_digits-bsel.ensures at c.digits_piece-2.ensures) ∙ rw (first_text c.mask_piece.ensures, last_text c.bare.ensures) refl)
