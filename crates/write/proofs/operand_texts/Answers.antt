use Rattle.std.proofs.Common.{refl, ◌∙◌}
use Rattle.write.specs.Pieces.{first_text, last_text}
use Rattle.write.proofs.operand_texts.Goals as goal

pub returns-in-Set : goal.returns-in-Set
returns-in-Set c = rw c.in-Set.is (c.sources_texts.ensures ∙ rw (first_text c.bare.ensures) refl)

pub returns-in-Setp : goal.returns-in-Setp
returns-in-Setp c = rw c.in-Setp.is (c.sources_texts-in-Setp.ensures ∙ rw (first_text c.destination_piece.ensures) refl)

pub returns-in-Selp : goal.returns-in-Selp
returns-in-Selp c =
    rw c.in-Selp.is
    (c.choice_texts.ensures ∙ rw (c.further.ensures, last_text c.bare-in-Selp.ensures) refl)

pub returns-in-Slct : goal.returns-in-Slct
returns-in-Slct c =
    rw c.in-Slct.is
    (c.choice_texts-in-Slct.ensures ∙ rw (c.further-in-Slct.ensures, last_text c.bare-in-Slct.ensures) refl)
