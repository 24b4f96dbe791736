-- No two outcomes satisfy a contract as it stands in src/lib.rt.
use Rattle.std.specs.Prelude.{Result}
use mathlib.Core.Path.{ap, ◌≡◌}
use contract.Lifetimes.{Lfts}
use borrow.Fn.Kinds.{Dens, ended_of}
use denote.Triple.Clauses.{AtExit}
use Rattle.base.specs.Promise.{one_outcome}
use Rattle.rules.specs.Executing.{Outcome}
use Rattle.execute.specs.Answers.{answers_one}
use Rattle.execute.specs.declared.Executed.{Executed}
use Rattle.refusals.specs.declared.Refusal.{Refusal}
use Rattle.execute.proofs.execute.Kinds as execute-kinds
use Rattle.execute.proofs.execute.Reads as execute

pub execute_one_outcome :
    (κs : Lfts 4) (a : Dens κs execute-kinds.ps) (x y : Result Executed Refusal) (s t : AtExit (ended_of 4 execute-kinds.ps execute-kinds.r) κs)
    → execute.Post κs a x s → execute.Post κs a y t
    → (x ≡ y) × (s.1.1.0.now ≡ t.1.1.0.now) × (s.1.1.1.0.now ≡ t.1.1.1.0.now) × (s.1.1.1.1.0.now ≡ t.1.1.1.1.0.now) × (s.1.1.1.1.1.0.now ≡ t.1.1.1.1.1.0.now)
execute_one_outcome κs a x y s t p q =
    let z = one_outcome p q in
    (answers_one x y (ap (λ (o : Outcome). o.answer) z), ap (λ (o : Outcome). o.files.words) z, ap (λ (o : Outcome). o.files.halves) z, ap (λ (o : Outcome). o.files.doubles) z, ap (λ (o : Outcome). o.files.preds) z)
