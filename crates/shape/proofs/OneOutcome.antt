-- No two outcomes satisfy a contract as it stands in src/lib.rt.
use Rattle.std.specs.Prelude.{Result, ℕ}
use mathlib.Core.Path.{◌≡◌}
use contract.Lifetimes.{Lfts}
use borrow.Fn.Kinds.{Dens, ended_of}
use denote.Triple.Clauses.{AtExit}
use Rattle.base.specs.Promise.{one_outcome}
use Rattle.shape.specs.Line.{Scanned}
use Rattle.shape.specs.declared.Divider.{Divider}
use Rattle.shape.proofs.read_divider.Kinds as read-divider-kinds
use Rattle.shape.proofs.read_divider.Reads as read-divider
use Rattle.shape.proofs.read_guard.Kinds as read-guard-kinds
use Rattle.shape.proofs.read_guard.Reads as read-guard
use Rattle.shape.proofs.read_operand.Kinds as read-operand-kinds
use Rattle.shape.proofs.read_operand.Reads as read-operand
use Rattle.shape.proofs.shape.Kinds as shape-kinds
use Rattle.shape.proofs.shape.Reads as shape
use Rattle.tree.specs.declared.Guarding.{Guarding}
use Rattle.tree.specs.declared.Tree.{Tree}

pub read_operand_one_outcome :
    (κs : Lfts 1) (a : Dens κs read-operand-kinds.ps) (x y : Result (Tree × ℕ) ℕ) (s t : AtExit (ended_of 1 read-operand-kinds.ps read-operand-kinds.r) κs)
    → read-operand.Post κs a x s → read-operand.Post κs a y t → x ≡ y
read_operand_one_outcome κs a x y s t p q = one_outcome p q

pub read_divider_one_outcome :
    (κs : Lfts 1) (a : Dens κs read-divider-kinds.ps) (x y : Result Divider ℕ) (s t : AtExit (ended_of 1 read-divider-kinds.ps read-divider-kinds.r) κs)
    → read-divider.Post κs a x s → read-divider.Post κs a y t → x ≡ y
read_divider_one_outcome κs a x y s t p q = one_outcome p q

pub read_guard_one_outcome :
    (κs : Lfts 1) (a : Dens κs read-guard-kinds.ps) (x y : Result (Guarding × ℕ) ℕ) (s t : AtExit (ended_of 1 read-guard-kinds.ps read-guard-kinds.r) κs)
    → read-guard.Post κs a x s → read-guard.Post κs a y t → x ≡ y
read_guard_one_outcome κs a x y s t p q = one_outcome p q

pub shape_one_outcome :
    (κs : Lfts 1) (a : Dens κs shape-kinds.ps) (x y : Scanned) (s t : AtExit (ended_of 1 shape-kinds.ps shape-kinds.r) κs)
    → shape.Post κs a x s → shape.Post κs a y t → x ≡ y
shape_one_outcome κs a x y s t p q = one_outcome p q
