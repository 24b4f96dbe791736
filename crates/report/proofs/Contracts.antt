-- The contract of `some_lines` as it stands in src/lib.rt says `Prints` of the call's own target, mode and listing, and of what is lent. If it spoke of others, this
-- law would fail.
use contract.Lifetimes.{Lfts}
use borrow.Fn.Kinds.{Dens, ended_of}
use denote.Triple.Clauses.{AtExit}
use Rattle.record.specs.Registers.{files}
use Rattle.report.specs.Chunks.{Prints}
use Rattle.report.specs.declared.Progress.{Progress}
use Rattle.report.proofs.some_lines.Reads as some_lines
use Rattle.report.proofs.some_lines.Kinds as some-lines-kinds

pub some_lines_prints :
    (κs : Lfts 6) (a : Dens κs some-lines-kinds.ps) (x : Progress) (s : AtExit (ended_of 6 some-lines-kinds.ps some-lines-kinds.r) κs)
    → some_lines.Post κs a x s
    → Prints a.0 a.1.0 a.1.1.0.now a.1.1.1.0 a.1.1.1.1.0
    (files a.1.1.1.1.1.0.now a.1.1.1.1.1.1.0.now a.1.1.1.1.1.1.1.0.now a.1.1.1.1.1.1.1.1.0.now)
    a.1.1.1.1.1.1.1.1.1.0.now x.at x.number x.len
    (files s.1.1.1.1.1.0.now s.1.1.1.1.1.1.0.now s.1.1.1.1.1.1.1.0.now s.1.1.1.1.1.1.1.1.0.now)
    s.1.1.1.1.1.1.1.1.1.0.now
some_lines_prints κs a x s h = h
