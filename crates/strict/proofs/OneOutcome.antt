-- No two outcomes satisfy the contract as it stands in src/lib.rt.
use contract.Lifetimes.{Lfts}
use borrow.Fn.Kinds.{Dens, ended_of}
use denote.Triple.Clauses.{AtExit}
use mathlib.Core.Bool.{Bool}
use mathlib.Core.Path.{◌≡◌}
use Rattle.base.specs.Promise.{one_outcome}
use Rattle.strict.proofs.passes.Kinds as passes-kinds
use Rattle.strict.proofs.passes.Reads as passes

pub passes_one_outcome :
    (κs : Lfts 0) (a : Dens κs passes-kinds.ps) (x y : Bool) (s t : AtExit (ended_of 0 passes-kinds.ps passes-kinds.r) κs)
    → passes.Post κs a x s → passes.Post κs a y t → x ≡ y
passes_one_outcome κs a x y s t p q = one_outcome p q
