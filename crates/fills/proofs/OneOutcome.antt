-- No two outcomes satisfy a contract as it stands in src/lib.rt.
use Rattle.std.specs.Prelude.{Result, ℕ}
use mathlib.Core.Path.{◌≡◌}
use contract.Lifetimes.{Lfts}
use borrow.Fn.Kinds.{Dens, ended_of}
use denote.Triple.Clauses.{AtExit}
use Rattle.base.specs.Promise.{one_outcome}
use Rattle.tree.specs.declared.Tree.{Tree}
use Rattle.fills.proofs.fill_in.Kinds as fill-in-kinds
use Rattle.fills.proofs.fill_in.Reads as fill-in
use Rattle.fills.proofs.tree_at.Kinds as tree-at-kinds
use Rattle.fills.proofs.tree_at.Reads as tree-at
use Rattle.record.specs.declared.Instruction.{Instruction}

pub tree_at_one_outcome :
    (κs : Lfts 0) (a : Dens κs tree-at-kinds.ps) (x y : Tree) (s t : AtExit (ended_of 0 tree-at-kinds.ps tree-at-kinds.r) κs)
    → tree-at.Post κs a x s → tree-at.Post κs a y t → x ≡ y
tree_at_one_outcome κs a x y s t p q = one_outcome p q

pub fill_in_one_outcome :
    (κs : Lfts 0) (a : Dens κs fill-in-kinds.ps) (x y : Result Instruction ℕ) (s t : AtExit (ended_of 0 fill-in-kinds.ps fill-in-kinds.r) κs)
    → fill-in.Post κs a x s → fill-in.Post κs a y t → x ≡ y
fill_in_one_outcome κs a x y s t p q = one_outcome p q
