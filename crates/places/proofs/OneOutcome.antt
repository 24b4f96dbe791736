-- No two outcomes satisfy a contract as it stands in src/lib.rt.
use contract.Lifetimes.{Lfts}
use borrow.Fn.Kinds.{Dens, ended_of}
use denote.Triple.Clauses.{AtExit}
use mathlib.Core.Bool.{Bool}
use Prim.Native.Nat.{ℕ}
use mathlib.Core.Path.{◌≡◌}
use Rattle.base.specs.Promise.{one_outcome}
use Rattle.places.proofs.guard_good.Kinds as guard-good-kinds
use Rattle.places.proofs.guard_good.Reads as guard_good
use Rattle.places.proofs.place.Kinds as place-kinds
use Rattle.places.proofs.place.Reads as place

pub guard_good_one_outcome :
    (κs : Lfts 0) (a : Dens κs guard-good-kinds.ps) (x y : Bool) (s t : AtExit (ended_of 0 guard-good-kinds.ps guard-good-kinds.r) κs)
    → guard_good.Post κs a x s → guard_good.Post κs a y t → x ≡ y
guard_good_one_outcome κs a x y s t p q = one_outcome p q

pub place_one_outcome :
    (κs : Lfts 1) (a : Dens κs place-kinds.ps) (x y : ℕ) (s t : AtExit (ended_of 1 place-kinds.ps place-kinds.r) κs)
    → place.Post κs a x s → place.Post κs a y t → x ≡ y
place_one_outcome κs a x y s t p q = one_outcome p q
