-- No two outcomes satisfy a contract as it stands in src/lib.rt.
use Rattle.std.specs.Prelude.{Result}
use mathlib.Core.Path.{◌≡◌}
use contract.Lifetimes.{Lfts}
use borrow.Fn.Kinds.{Dens, ended_of}
use denote.Triple.Clauses.{AtExit}
use Rattle.base.specs.Promise.{one_outcome}
use Rattle.heads.specs.declared.HeadError.{HeadError}
use Prim.Native.Nat.{ℕ}
use Rattle.heads.proofs.name.Kinds as name-kinds
use Rattle.heads.proofs.name.Reads as name
use Rattle.heads.proofs.row.Kinds as row-kinds
use Rattle.record.specs.declared.Instruction.{Instruction}
use Rattle.heads.proofs.row.Reads as row

pub name_one_outcome :
    (κs : Lfts 0) (a : Dens κs name-kinds.ps) (x y : ℕ) (s t : AtExit (ended_of 0 name-kinds.ps name-kinds.r) κs)
    → name.Post κs a x s → name.Post κs a y t → x ≡ y
name_one_outcome κs a x y s t p q = one_outcome p q

pub row_one_outcome :
    (κs : Lfts 0) (a : Dens κs row-kinds.ps) (x y : Result Instruction HeadError) (s t : AtExit (ended_of 0 row-kinds.ps row-kinds.r) κs)
    → row.Post κs a x s → row.Post κs a y t → x ≡ y
row_one_outcome κs a x y s t p q = one_outcome p q
