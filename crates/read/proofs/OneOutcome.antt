-- No two outcomes satisfy a contract as it stands in src/lib.rt.
use Rattle.std.specs.Prelude.{Result}
use mathlib.Core.Path.{◌≡◌}
use contract.Lifetimes.{Lfts}
use borrow.Fn.Kinds.{Dens, ended_of}
use denote.Triple.Clauses.{AtExit}
use Rattle.read.specs.Paper.{answers_one}
use Rattle.read.specs.Answering.{answers_unique}
use Rattle.record.specs.declared.Record.{Record}
use Rattle.read.specs.declared.Refused.{Refused}
use Rattle.read.proofs.read.Kinds as read-kinds
use Rattle.read.proofs.read.Reads as read

pub read_one_outcome :
    (κs : Lfts 1) (a : Dens κs read-kinds.ps) (x y : Result Record Refused) (s t : AtExit (ended_of 1 read-kinds.ps read-kinds.r) κs)
    → read.Post κs a x s → read.Post κs a y t → x ≡ y
read_one_outcome κs a x y s t p q = answers_one x y (answers_unique _ _ _ _ _ p q)
