-- No two outcomes satisfy a contract as it stands in src/lib.rt.
use contract.Lifetimes.{Lfts}
use borrow.Fn.Kinds.{Dens, ended_of}
use denote.Triple.Clauses.{AtExit}
use mathlib.Core.Bool.{Bool}
use mathlib.Core.Path.{◌≡◌}
use Rattle.base.specs.Promise.{one_outcome}
use Rattle.record.specs.declared.SlctType.{SlctType}
use Rattle.std.specs.Prelude.{Option}
use Rattle.record.specs.declared.Target.{Target}
use Rattle.targets.proofs.allows.Kinds as allows-kinds
use Rattle.targets.proofs.allows.Reads as allows
use Rattle.targets.proofs.flushes.Kinds as flushes-kinds
use Rattle.targets.proofs.flushes.Reads as flushes
use Rattle.targets.proofs.slct_type_at.Kinds as slct-type-at-kinds
use Rattle.targets.proofs.slct_type_at.Reads as slct-type-at
use Rattle.targets.proofs.target_of.Kinds as target-of-kinds
use Rattle.targets.proofs.target_of.Reads as target-of

pub allows_one_outcome :
    (κs : Lfts 0) (a : Dens κs allows-kinds.ps) (x y : Bool) (s t : AtExit (ended_of 0 allows-kinds.ps allows-kinds.r) κs)
    → allows.Post κs a x s → allows.Post κs a y t → x ≡ y
allows_one_outcome κs a x y s t p q = one_outcome p q

pub flushes_one_outcome :
    (κs : Lfts 0) (a : Dens κs flushes-kinds.ps) (x y : Bool) (s t : AtExit (ended_of 0 flushes-kinds.ps flushes-kinds.r) κs)
    → flushes.Post κs a x s → flushes.Post κs a y t → x ≡ y
flushes_one_outcome κs a x y s t p q = one_outcome p q

pub slct_type_at_one_outcome :
    (κs : Lfts 0) (a : Dens κs slct-type-at-kinds.ps) (x y : SlctType) (s t : AtExit (ended_of 0 slct-type-at-kinds.ps slct-type-at-kinds.r) κs)
    → slct-type-at.Post κs a x s → slct-type-at.Post κs a y t → x ≡ y
slct_type_at_one_outcome κs a x y s t p q = one_outcome p q

pub target_of_one_outcome :
    (κs : Lfts 1) (a : Dens κs target-of-kinds.ps) (x y : Option Target) (s t : AtExit (ended_of 1 target-of-kinds.ps target-of-kinds.r) κs)
    → target-of.Post κs a x s → target-of.Post κs a y t → x ≡ y
target_of_one_outcome κs a x y s t p q = one_outcome p q
