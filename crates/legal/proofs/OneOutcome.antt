-- No two outcomes satisfy a contract as it stands in src/lib.rt.
use mathlib.Core.Path.{◌≡◌}
use mathlib.Core.Bool.{Bool}
use contract.Lifetimes.{Lfts}
use borrow.Fn.Kinds.{Dens, ended_of}
use denote.Triple.Clauses.{AtExit}
use Rattle.base.specs.Promise.{one_outcome}
use Rattle.legal.proofs.legal.Kinds as legal-kinds
use Rattle.legal.proofs.legal.Reads as legal
use Rattle.legal.proofs.numbers_in_range.Kinds as numbers-in-range-kinds
use Rattle.legal.proofs.numbers_in_range.Reads as numbers-in-range
use Rattle.legal.proofs.pair_apart.Kinds as pair-apart-kinds
use Rattle.legal.proofs.pair_apart.Reads as pair-apart

pub legal_one_outcome :
    (κs : Lfts 0) (a : Dens κs legal-kinds.ps) (x y : Bool) (s t : AtExit (ended_of 0 legal-kinds.ps legal-kinds.r) κs)
    → legal.Post κs a x s → legal.Post κs a y t → x ≡ y
legal_one_outcome κs a x y s t p q = one_outcome p q

pub numbers_in_range_one_outcome :
    (κs : Lfts 0) (a : Dens κs numbers-in-range-kinds.ps) (x y : Bool) (s t : AtExit (ended_of 0 numbers-in-range-kinds.ps numbers-in-range-kinds.r) κs)
    → numbers-in-range.Post κs a x s → numbers-in-range.Post κs a y t → x ≡ y
numbers_in_range_one_outcome κs a x y s t p q = one_outcome p q

pub pair_apart_one_outcome :
    (κs : Lfts 0) (a : Dens κs pair-apart-kinds.ps) (x y : Bool) (s t : AtExit (ended_of 0 pair-apart-kinds.ps pair-apart-kinds.r) κs)
    → pair-apart.Post κs a x s → pair-apart.Post κs a y t → x ≡ y
pair_apart_one_outcome κs a x y s t p q = one_outcome p q
