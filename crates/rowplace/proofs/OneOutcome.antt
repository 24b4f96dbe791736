-- No two outcomes satisfy a contract as it stands in src/lib.rt.
use contract.Lifetimes.{Lfts}
use borrow.Fn.Kinds.{Dens, ended_of}
use denote.Triple.Clauses.{AtExit}
use Prim.Native.Nat.{ℕ}
use mathlib.Core.Path.{◌≡◌}
use Rattle.base.specs.Promise.{one_outcome}
use Rattle.rowplace.proofs.row_place.Kinds as row-place-kinds
use Rattle.rowplace.proofs.row_place.Reads as row-place

pub row_place_one_outcome :
    (κs : Lfts 0) (a : Dens κs row-place-kinds.ps) (x y : ℕ) (s t : AtExit (ended_of 0 row-place-kinds.ps row-place-kinds.r) κs)
    → row-place.Post κs a x s → row-place.Post κs a y t → x ≡ y
row_place_one_outcome κs a x y s t p q = one_outcome p q
