-- No two outcomes satisfy a contract as it stands in src/lib.rt.
use contract.Lifetimes.{Lfts}
use borrow.Fn.Kinds.{Dens, ended_of}
use denote.Triple.Clauses.{AtExit}
use Prim.Native.Nat.{ℕ}
use mathlib.Core.Path.{◌≡◌}
use Rattle.base.specs.Promise.{one_outcome}
use Rattle.fillplace.proofs.operand_place.Kinds as operand-place-kinds
use Rattle.fillplace.proofs.operand_place.Reads as operand_place

pub operand_place_one_outcome :
    (κs : Lfts 0) (a : Dens κs operand-place-kinds.ps) (x y : ℕ) (s t : AtExit (ended_of 0 operand-place-kinds.ps operand-place-kinds.r) κs)
    → operand_place.Post κs a x s → operand_place.Post κs a y t → x ≡ y
operand_place_one_outcome κs a x y s t p q = one_outcome p q
