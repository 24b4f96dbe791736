-- No two outcomes satisfy the contracts as they stand in src/lib.rt. Assumes nothing.
use Rattle.std.specs.Prelude.{Option, Result, ℕ}
use Rattle.std.proofs.Common.{◌≡◌, ap}
use contract.Lifetimes.{Lfts}
use borrow.Fn.Kinds.{Dens, ended_of}
use denote.Triple.Clauses.{AtExit}
use Rattle.base.specs.Promise.{one_outcome}
use Rattle.tally.specs.declared.Read.{Read}
use Rattle.passlog.specs.declared.Progress.{Progress}
use Rattle.passlog.specs.declared.EndError.{EndError}
use Rattle.passlog.specs.SpellingLaws.{read_one, floor_one}
use Rattle.passlog.specs.Steps.{lines_one, floors_one, EndOutcome, answers_one}
use Rattle.passlog.specs.OutputLaws.{logs_one}
use Rattle.passlog.proofs.read_of.Kinds as read-of-kinds
use Rattle.passlog.proofs.read_of.Reads as Read-of
use Rattle.passlog.proofs.floor_of.Kinds as floor-of-kinds
use Rattle.passlog.proofs.floor_of.Reads as floor-of
use Rattle.passlog.proofs.log_line.Kinds as log-line-kinds
use Rattle.passlog.proofs.log_line.Reads as log-line
use Rattle.passlog.proofs.end.Kinds as end-kinds
use Rattle.passlog.proofs.end.Reads as end

pub read_of_one_outcome :
    (κs : Lfts 1) (a : Dens κs read-of-kinds.ps) (x y : Option Read) (s t : AtExit (ended_of 1 read-of-kinds.ps read-of-kinds.r) κs)
    → Read-of.Post κs a x s → Read-of.Post κs a y t → x ≡ y
read_of_one_outcome κs a x y s t p q = lines_one x y (read_one p q)

pub floor_of_one_outcome :
    (κs : Lfts 1) (a : Dens κs floor-of-kinds.ps) (x y : Option ℕ) (s t : AtExit (ended_of 1 floor-of-kinds.ps floor-of-kinds.r) κs)
    → floor-of.Post κs a x s → floor-of.Post κs a y t → x ≡ y
floor_of_one_outcome κs a x y s t p q = floors_one x y (floor_one p q)

pub log_line_one_outcome :
    (κs : Lfts 2) (a : Dens κs log-line-kinds.ps) (x y : Progress) (s t : AtExit (ended_of 2 log-line-kinds.ps log-line-kinds.r) κs)
    → log-line.Post κs a x s → log-line.Post κs a y t → (x ≡ y) × (s.1.1.1.1.1.0.now ≡ t.1.1.1.1.1.0.now)
log_line_one_outcome κs a x y s t p q = logs_one x y p q

pub end_one_outcome :
    (κs : Lfts 1) (a : Dens κs end-kinds.ps) (x y : Result ℕ EndError) (s t : AtExit (ended_of 1 end-kinds.ps end-kinds.r) κs)
    → end.Post κs a x s → end.Post κs a y t → (x ≡ y) × (s.1.0.now ≡ t.1.0.now)
end_one_outcome κs a x y s t p q =
    let z = one_outcome p q in
    (answers_one x y (ap (λ (o : EndOutcome). o.answer) z), ap (λ (o : EndOutcome). o.buffer) z)
