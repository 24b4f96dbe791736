-- No two outcomes satisfy a contract as it stands in src/lib.rt.
use mathlib.Core.Path.{◌≡◌}
use mathlib.Core.Bool.{Bool}
use contract.Lifetimes.{Lfts}
use borrow.Fn.Kinds.{Dens, ended_of}
use denote.Triple.Clauses.{AtExit}
use Rattle.base.specs.Promise.{one_outcome}
use Prim.Native.Nat.{ℕ}
use Rattle.compare.proofs.bool_op.Kinds as bool-op-kinds
use Rattle.compare.proofs.bool_op.Reads as bool-op
use Rattle.compare.proofs.comparison.Kinds as comparison-kinds
use Rattle.compare.proofs.comparison.Reads as comparison
use Rattle.compare.proofs.not_below_zero.Kinds as not-below-zero-kinds
use Rattle.compare.proofs.not_below_zero.Reads as not-below-zero
use Rattle.compare.proofs.set_value.Kinds as set-value-kinds
use Rattle.compare.proofs.set_value.Reads as set-value

pub bool_op_one_outcome :
    (κs : Lfts 0) (a : Dens κs bool-op-kinds.ps) (x y : Bool) (s t : AtExit (ended_of 0 bool-op-kinds.ps bool-op-kinds.r) κs)
    → bool-op.Post κs a x s → bool-op.Post κs a y t → x ≡ y
bool_op_one_outcome κs a x y s t p q = one_outcome p q

pub comparison_one_outcome :
    (κs : Lfts 0) (a : Dens κs comparison-kinds.ps) (x y : Bool) (s t : AtExit (ended_of 0 comparison-kinds.ps comparison-kinds.r) κs)
    → comparison.Post κs a x s → comparison.Post κs a y t → x ≡ y
comparison_one_outcome κs a x y s t p q = one_outcome p q

pub not_below_zero_one_outcome :
    (κs : Lfts 0) (a : Dens κs not-below-zero-kinds.ps) (x y : Bool) (s t : AtExit (ended_of 0 not-below-zero-kinds.ps not-below-zero-kinds.r) κs)
    → not-below-zero.Post κs a x s → not-below-zero.Post κs a y t → x ≡ y
not_below_zero_one_outcome κs a x y s t p q = one_outcome p q

pub set_value_one_outcome :
    (κs : Lfts 0) (a : Dens κs set-value-kinds.ps) (x y : ℕ) (s t : AtExit (ended_of 0 set-value-kinds.ps set-value-kinds.r) κs)
    → set-value.Post κs a x s → set-value.Post κs a y t → x ≡ y
set_value_one_outcome κs a x y s t p q = one_outcome p q
