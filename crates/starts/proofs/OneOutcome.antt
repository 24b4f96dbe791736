-- No two outcomes satisfy a contract as it stands in src/lib.rt.
use contract.Lifetimes.{Lfts}
use borrow.Fn.Kinds.{Dens, ended_of}
use denote.Triple.Clauses.{AtExit}
use Prim.Native.Nat.{ℕ}
use mathlib.Core.Path.{◌≡◌}
use Rattle.base.specs.Promise.{one_outcome}
use Rattle.starts.proofs.head_start.Kinds as head-start-kinds
use Rattle.starts.proofs.head_start.Reads as head-start
use Rattle.starts.proofs.name_start.Kinds as name-start-kinds
use Rattle.starts.proofs.name_start.Reads as name-start
use Rattle.starts.proofs.operands_start.Kinds as operands-start-kinds
use Rattle.starts.proofs.operands_start.Reads as operands-start
use Rattle.starts.proofs.operand_start.Kinds as operand-start-kinds
use Rattle.starts.proofs.operand_start.Reads as operand-start
use Rattle.starts.proofs.second_start.Kinds as second-start-kinds
use Rattle.starts.proofs.second_start.Reads as second-start
use Rattle.starts.proofs.first_over.Kinds as first-over-kinds
use Rattle.starts.proofs.first_over.Reads as first-over

pub head_start_one_outcome :
    (κs : Lfts 1) (a : Dens κs head-start-kinds.ps) (x y : ℕ) (s t : AtExit (ended_of 1 head-start-kinds.ps head-start-kinds.r) κs)
    → head-start.Post κs a x s → head-start.Post κs a y t → x ≡ y
head_start_one_outcome κs a x y s t p q = one_outcome p q

pub name_start_one_outcome :
    (κs : Lfts 1) (a : Dens κs name-start-kinds.ps) (x y : ℕ) (s t : AtExit (ended_of 1 name-start-kinds.ps name-start-kinds.r) κs)
    → name-start.Post κs a x s → name-start.Post κs a y t → x ≡ y
name_start_one_outcome κs a x y s t p q = one_outcome p q

pub operands_start_one_outcome :
    (κs : Lfts 1) (a : Dens κs operands-start-kinds.ps) (x y : ℕ) (s t : AtExit (ended_of 1 operands-start-kinds.ps operands-start-kinds.r) κs)
    → operands-start.Post κs a x s → operands-start.Post κs a y t → x ≡ y
operands_start_one_outcome κs a x y s t p q = one_outcome p q

pub operand_start_one_outcome :
    (κs : Lfts 1) (a : Dens κs operand-start-kinds.ps) (x y : ℕ) (s t : AtExit (ended_of 1 operand-start-kinds.ps operand-start-kinds.r) κs)
    → operand-start.Post κs a x s → operand-start.Post κs a y t → x ≡ y
operand_start_one_outcome κs a x y s t p q = one_outcome p q

pub second_start_one_outcome :
    (κs : Lfts 1) (a : Dens κs second-start-kinds.ps) (x y : ℕ) (s t : AtExit (ended_of 1 second-start-kinds.ps second-start-kinds.r) κs)
    → second-start.Post κs a x s → second-start.Post κs a y t → x ≡ y
second_start_one_outcome κs a x y s t p q = one_outcome p q

pub first_over_one_outcome :
    (κs : Lfts 1) (a : Dens κs first-over-kinds.ps) (x y : ℕ) (s t : AtExit (ended_of 1 first-over-kinds.ps first-over-kinds.r) κs)
    → first-over.Post κs a x s → first-over.Post κs a y t → x ≡ y
first_over_one_outcome κs a x y s t p q = one_outcome p q
