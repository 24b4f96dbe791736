-- No two outcomes satisfy a contract as it stands in src/lib.rt.
use Prim.Native.Nat.{ℕ}
use mathlib.Core.Path.{◌≡◌}
use contract.Lifetimes.{Lfts}
use borrow.Fn.Kinds.{Dens, ended_of}
use denote.Triple.Clauses.{AtExit}
use Rattle.base.specs.Promise.{one_outcome}
use Rattle.lines.proofs.until.Kinds as until-kinds
use Rattle.lines.proofs.until.Reads as until
use Rattle.lines.proofs.left.Kinds as left-kinds
use Rattle.lines.proofs.left.Reads as left

pub until_one_outcome :
    (κs : Lfts 1) (a : Dens κs until-kinds.ps) (x y : ℕ) (s t : AtExit (ended_of 1 until-kinds.ps until-kinds.r) κs)
    → until.Post κs a x s → until.Post κs a y t → x ≡ y
until_one_outcome κs a x y s t p q = one_outcome p.0 q.0

pub left_one_outcome :
    (κs : Lfts 0) (a : Dens κs left-kinds.ps) (x y : ℕ) (s t : AtExit (ended_of 0 left-kinds.ps left-kinds.r) κs)
    → left.Post κs a x s → left.Post κs a y t → x ≡ y
left_one_outcome κs a x y s t p q = one_outcome p q
