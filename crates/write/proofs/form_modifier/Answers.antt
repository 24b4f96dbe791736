use Rattle.std.proofs.Common.{inl, inr}
use Rattle.write.specs.Pieces.{no_name, one_name}
use Rattle.write.proofs.form_modifier.Goals as goal

pub returns-in-Plain : goal.returns-in-Plain
returns-in-Plain c = elim c.in-Plain.is [ inl w ↦ rw w.1 no_name | inr w ↦ rw w.3 no_name ]

pub returns-in-Combine : goal.returns-in-Combine
returns-in-Combine c = rw c.in-Combine.is (one_name c.dot.ensures c.op2_number.ensures)
