-- No two outcomes satisfy a contract as it stands in src/lib.rt. Assumes nothing.
use Rattle.std.specs.Prelude.{Option, ℕ}
use Rattle.std.proofs.Common.{◌≡◌}
use contract.Lifetimes.{Lfts}
use borrow.Fn.Kinds.{Dens, ended_of}
use denote.Triple.Clauses.{AtExit}
use Rattle.lastline.specs.Steps.{asked_one, said_one}
use Rattle.lastline.specs.TextLaws.{asks_one, lays_one}
use Rattle.record.specs.declared.Word.{Word}
use Rattle.lastline.proofs.register_of.Kinds as register-of-kinds
use Rattle.lastline.proofs.register_of.Reads as register_of
use Rattle.lastline.proofs.answer.Kinds as answer-kinds
use Rattle.lastline.proofs.answer.Reads as answer

pub register_of_one_outcome : (κs : Lfts 1) (a : Dens κs register-of-kinds.ps) (x y : Option Word) (s t : AtExit (ended_of 1 register-of-kinds.ps register-of-kinds.r) κs)
    → register_of.Post κs a x s → register_of.Post κs a y t → x ≡ y
register_of_one_outcome κs a x y s t p q = asked_one x y (asks_one p q)

pub answer_one_outcome : (κs : Lfts 2) (a : Dens κs answer-kinds.ps) (x y : Option ℕ) (s t : AtExit (ended_of 2 answer-kinds.ps answer-kinds.r) κs)
    → answer.Post κs a x s → answer.Post κs a y t → (x ≡ y) × (s.1.1.0.now ≡ t.1.1.0.now)
answer_one_outcome κs a x y s t p q = let z = lays_one p q in (said_one x y z.0, z.1)
