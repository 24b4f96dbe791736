-- No two outcomes, place and buffer left, satisfy the contracts of what is put, as they stand in src/lib.rt; that of `some_lines` has its law beside its proof.
use Rattle.report.specs.OutputLaws.{SameCall, prints_one}
use Rattle.report.specs.declared.Progress.{Progress}
use denote.Triple.Clauses.{AtExit}
use borrow.Fn.Kinds.{Dens, ended_of}
use contract.Lifetimes.{Lfts}
use Rattle.record.specs.Registers.{files}
use Rattle.std.proofs.Common.{ℕ, ◌≡◌}
use Rattle.text.specs.Buffer.{puts_one}
use Rattle.report.proofs.put_refused.Kinds as put-refused-kinds
use Rattle.report.proofs.put_refused.Reads as Put-refused
use Rattle.report.proofs.put_standard.Kinds as put-standard-kinds
use Rattle.report.proofs.put_standard.Reads as put-standard
use Rattle.report.proofs.some_lines.Kinds as some-lines-kinds
use Rattle.report.proofs.some_lines.Reads as some-lines

pub put_standard_one_outcome :
    (κs : Lfts 1) (a : Dens κs put-standard-kinds.ps) (x y : ℕ) (s t : AtExit (ended_of 1 put-standard-kinds.ps put-standard-kinds.r) κs)
    → put-standard.Post κs a x s → put-standard.Post κs a y t → (x ≡ y) × (s.0.now ≡ t.0.now)
put_standard_one_outcome κs a x y s t p q = puts_one p q

pub put_refused_one_outcome :
    (κs : Lfts 1) (a : Dens κs put-refused-kinds.ps) (x y : ℕ) (s t : AtExit (ended_of 1 put-refused-kinds.ps put-refused-kinds.r) κs)
    → Put-refused.Post κs a x s → Put-refused.Post κs a y t → (x ≡ y) × (s.0.now ≡ t.0.now)
put_refused_one_outcome κs a x y s t p q = puts_one p q

pub some_lines_one_outcome :
    (κs : Lfts 6) (a : Dens κs some-lines-kinds.ps) (x y : Progress) (s t : AtExit (ended_of 6 some-lines-kinds.ps some-lines-kinds.r) κs)
    → some-lines.Post κs a x s → some-lines.Post κs a y t
    → SameCall x y (files s.1.1.1.1.1.0.now s.1.1.1.1.1.1.0.now s.1.1.1.1.1.1.1.0.now s.1.1.1.1.1.1.1.1.0.now) (files t.1.1.1.1.1.0.now t.1.1.1.1.1.1.0.now t.1.1.1.1.1.1.1.0.now t.1.1.1.1.1.1.1.1.0.now)
    s.1.1.1.1.1.1.1.1.1.0.now t.1.1.1.1.1.1.1.1.1.0.now
some_lines_one_outcome κs a x y s t p q = prints_one x y p q
