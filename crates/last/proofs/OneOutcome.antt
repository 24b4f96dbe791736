-- No two outcomes satisfy the contract as it stands in src/lib.rt. Assumes nothing.
use Rattle.std.specs.Prelude.{Result, Option, ℕ}
use mathlib.Core.Path.{◌≡◌}
use contract.Lifetimes.{Lfts}
use borrow.Fn.Kinds.{Dens, ended_of}
use denote.Triple.Clauses.{AtExit}
use Rattle.base.specs.Promise.{one_outcome}
use Rattle.last.specs.Last.{answers_one}
use Rattle.last.specs.Back.{own_answer}
use Rattle.last.specs.LastLaws.{read_of_full}
use Rattle.refusals.specs.declared.Refusal.{Refusal}
use Rattle.last.proofs.last_writer.Kinds as last-writer-kinds
use Rattle.last.proofs.last_writer.Reads as last-writer

pub last_writer_one_outcome : (κs : Lfts 1) (a : Dens κs last-writer-kinds.ps) (x y : Result (Option ℕ) Refusal) (s t : AtExit (ended_of 1 last-writer-kinds.ps last-writer-kinds.r) κs)
    → last-writer.Post κs a x s → last-writer.Post κs a y t → x ≡ y
last_writer_one_outcome κs a x y s t p q = answers_one x y (one_outcome (p own_answer read_of_full) (q own_answer read_of_full))
