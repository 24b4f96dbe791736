-- No two outcomes satisfy a contract as it stands in src/lib.rt.
use mathlib.Core.Path.{◌≡◌}
use Prim.Native.Nat.{ℕ}
use contract.Lifetimes.{Lfts}
use borrow.Fn.Kinds.{Dens, ended_of}
use denote.Triple.Clauses.{AtExit}
use Rattle.base.specs.Promise.{one_outcome}
use Rattle.video.proofs.arithmetic.Kinds as arithmetic-kinds
use Rattle.video.proofs.arithmetic.Reads as arithmetic
use Rattle.video.proofs.arithmetic_lanes.Kinds as arithmetic-lanes-kinds
use Rattle.video.proofs.arithmetic_lanes.Reads as arithmetic-lanes
use Rattle.video.proofs.vset.Kinds as vset-kinds
use Rattle.video.proofs.vset.Reads as vset
use Rattle.video.proofs.vset_lanes.Kinds as vset-lanes-kinds
use Rattle.video.proofs.vset_lanes.Reads as vset-lanes

pub arithmetic_one_outcome :
    (κs : Lfts 0) (a : Dens κs arithmetic-kinds.ps) (x y : ℕ) (s t : AtExit (ended_of 0 arithmetic-kinds.ps arithmetic-kinds.r) κs)
    → arithmetic.Post κs a x s → arithmetic.Post κs a y t → x ≡ y
arithmetic_one_outcome κs a x y s t p q = one_outcome p q

pub arithmetic_lanes_one_outcome :
    (κs : Lfts 0) (a : Dens κs arithmetic-lanes-kinds.ps) (x y : ℕ) (s t : AtExit (ended_of 0 arithmetic-lanes-kinds.ps arithmetic-lanes-kinds.r) κs)
    → arithmetic-lanes.Post κs a x s → arithmetic-lanes.Post κs a y t → x ≡ y
arithmetic_lanes_one_outcome κs a x y s t p q = one_outcome p q

pub vset_one_outcome :
    (κs : Lfts 0) (a : Dens κs vset-kinds.ps) (x y : ℕ) (s t : AtExit (ended_of 0 vset-kinds.ps vset-kinds.r) κs)
    → vset.Post κs a x s → vset.Post κs a y t → x ≡ y
vset_one_outcome κs a x y s t p q = one_outcome p q

pub vset_lanes_one_outcome :
    (κs : Lfts 0) (a : Dens κs vset-lanes-kinds.ps) (x y : ℕ) (s t : AtExit (ended_of 0 vset-lanes-kinds.ps vset-lanes-kinds.r) κs)
    → vset-lanes.Post κs a x s → vset-lanes.Post κs a y t → x ≡ y
vset_lanes_one_outcome κs a x y s t p q = one_outcome p q
