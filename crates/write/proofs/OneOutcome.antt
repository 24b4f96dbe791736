-- No two outcomes satisfy a contract as it stands in src/lib.rt.
use Rattle.std.specs.Prelude.{Result, ℕ}
use contract.Lifetimes.{Lfts}
use borrow.Fn.Kinds.{Dens, ended_of}
use denote.Triple.Clauses.{AtExit}
use Rattle.base.specs.Promise.{one_outcome}
use Rattle.rules.specs.Writing.{Outcome}
use Rattle.write.specs.Answers.{answers_one}
use Rattle.refusals.specs.declared.Refusal.{Refusal}
use mathlib.Core.Path.{ap, ◌≡◌}
use Rattle.write.proofs.write.Kinds as write-kinds
use Rattle.write.proofs.write.Reads as write

pub write_one_outcome :
    (κs : Lfts 1) (a : Dens κs write-kinds.ps) (x y : Result ℕ Refusal) (s t : AtExit (ended_of 1 write-kinds.ps write-kinds.r) κs)
    → write.Post κs a x s → write.Post κs a y t
    → (x ≡ y) × (s.1.0.now ≡ t.1.0.now)
write_one_outcome κs a x y s t p q =
    let z = one_outcome p q in
    (answers_one x y (ap (λ (o : Outcome). o.answer) z), ap (λ (o : Outcome). o.buffer) z)
