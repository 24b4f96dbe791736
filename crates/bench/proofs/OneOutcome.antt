-- No two outcomes satisfy a contract as it stands in src/lib.rt.
use Rattle.std.specs.Prelude.{Result, ℕ}
use mathlib.Core.Path.{ap, ◌≡◌}
use contract.Lifetimes.{Lfts}
use borrow.Fn.Kinds.{Dens, ended_of}
use denote.Triple.Clauses.{AtExit}
use Rattle.base.specs.Promise.{one_outcome}
use Rattle.rules.specs.Executing as executing
use Rattle.execute.specs.Answers as executed
use Rattle.execute.specs.declared.Executed.{Executed}
use Rattle.refusals.specs.declared.Refusal.{Refusal}
use Rattle.read.specs.Answering.{answers_unique}
use Rattle.read.specs.Paper.{answers_one}
use Rattle.record.specs.declared.Record.{Record}
use Rattle.read.specs.declared.Refused.{Refused}
use Rattle.rules.specs.Writing as writing
use Rattle.write.specs.Answers as written
use Rattle.bench.proofs.execute.Kinds as execute-kinds
use Rattle.bench.proofs.execute.Reads as execute
use Rattle.bench.proofs.read.Kinds as read-kinds
use Rattle.bench.proofs.read.Reads as read
use Rattle.bench.proofs.write.Kinds as write-kinds
use Rattle.bench.proofs.write.Reads as write

pub execute_one_outcome :
    (κs : Lfts 4) (a : Dens κs execute-kinds.ps) (x y : Result Executed Refusal) (s t : AtExit (ended_of 4 execute-kinds.ps execute-kinds.r) κs)
    → execute.Post κs a x s → execute.Post κs a y t
    → (x ≡ y) × (s.1.1.0.now ≡ t.1.1.0.now) × (s.1.1.1.0.now ≡ t.1.1.1.0.now) × (s.1.1.1.1.0.now ≡ t.1.1.1.1.0.now) × (s.1.1.1.1.1.0.now ≡ t.1.1.1.1.1.0.now)
execute_one_outcome κs a x y s t p q =
    let z = one_outcome p q in
    (executed.answers_one x y (ap (λ (o : executing.Outcome). o.answer) z), ap (λ (o : executing.Outcome). o.files.words) z, ap (λ (o : executing.Outcome). o.files.halves) z, ap (λ (o : executing.Outcome). o.files.doubles) z, ap (λ (o : executing.Outcome). o.files.preds) z)

pub read_one_outcome :
    (κs : Lfts 1) (a : Dens κs read-kinds.ps) (x y : Result Record Refused) (s t : AtExit (ended_of 1 read-kinds.ps read-kinds.r) κs)
    → read.Post κs a x s → read.Post κs a y t → x ≡ y
read_one_outcome κs a x y s t p q = answers_one x y (answers_unique _ _ _ _ _ p q)

pub write_one_outcome :
    (κs : Lfts 1) (a : Dens κs write-kinds.ps) (x y : Result ℕ Refusal) (s t : AtExit (ended_of 1 write-kinds.ps write-kinds.r) κs)
    → write.Post κs a x s → write.Post κs a y t
    → (x ≡ y) × (s.1.0.now ≡ t.1.0.now)
write_one_outcome κs a x y s t p q =
    let z = one_outcome p q in
    (written.answers_one x y (ap (λ (o : writing.Outcome). o.answer) z), ap (λ (o : writing.Outcome). o.buffer) z)
