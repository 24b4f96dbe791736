-- No two outcomes satisfy a contract as it stands in src/lib.rt.
use mathlib.Core.Path.{◌≡◌}
use contract.Lifetimes.{Lfts}
use borrow.Fn.Kinds.{Dens, ended_of}
use denote.Triple.Clauses.{AtExit}
use Rattle.std.specs.Prelude.{ℕ, Option}
use Rattle.base.specs.Promise.{one_outcome}
use Rattle.refusals.specs.Numbers.{first_numbers_one}
use Rattle.refusals.specs.declared.Refusal.{Refusal}
use Rattle.refusals.proofs.Refusal.number.Kinds as number-kinds
use Rattle.refusals.proofs.Refusal.number.Reads as number
use Rattle.refusals.proofs.executing.Kinds as executing-kinds
use Rattle.refusals.proofs.executing.Reads as executing
use Rattle.refusals.proofs.reading.Kinds as reading-kinds
use Rattle.refusals.proofs.reading.Reads as reading

pub number_one_outcome :
    (κs : Lfts 0) (a : Dens κs number-kinds.ps) (x y : ℕ) (s t : AtExit (ended_of 0 number-kinds.ps number-kinds.r) κs)
    → number.Post κs a x s → number.Post κs a y t → x ≡ y
number_one_outcome κs a x y s t p q = one_outcome p q

pub executing_one_outcome :
    (κs : Lfts 0) (a : Dens κs executing-kinds.ps) (x y : Option Refusal) (s t : AtExit (ended_of 0 executing-kinds.ps executing-kinds.r) κs)
    → executing.Post κs a x s → executing.Post κs a y t → x ≡ y
executing_one_outcome κs a x y s t p q = first_numbers_one x y (one_outcome p q)

pub reading_one_outcome :
    (κs : Lfts 0) (a : Dens κs reading-kinds.ps) (x y : Option Refusal) (s t : AtExit (ended_of 0 reading-kinds.ps reading-kinds.r) κs)
    → reading.Post κs a x s → reading.Post κs a y t → x ≡ y
reading_one_outcome κs a x y s t p q = first_numbers_one x y (one_outcome p q)
