use Rattle.std.proofs.Common.{inl, inr}
use Rattle.write.specs.Pieces.{last_text, blank_text}
use Rattle.write.proofs.form_last.Goals as goal

pub returns-in-Plain : goal.returns-in-Plain
returns-in-Plain c = rw c.in-Plain.is blank_text

pub returns-in-Merge : goal.returns-in-Merge
returns-in-Merge c =
    let shown = last_text c.bare.ensures in
    elim c.in-Merge.is [ inl w ↦ rw (w.2, c.further.ensures) shown | inr w ↦ rw (w.2, c.further.ensures) shown ]
