-- No two outcomes satisfy a contract as it stands in src/lib.rt.
use Rattle.std.specs.Prelude.{Option}
use contract.Lifetimes.{Lfts}
use borrow.Fn.Kinds.{Dens, ended_of}
use denote.Triple.Clauses.{AtExit}
use Prim.Native.Nat.{ℕ}
use mathlib.Core.Path.{◌≡◌}
use Rattle.base.specs.PackLaws.{spells_one}
use Rattle.base.specs.Promise.{one_outcome}
use Rattle.masks.proofs.mask_number.Kinds as mask-number-kinds
use Rattle.masks.proofs.mask_number.Reads as mask-number
use Rattle.masks.proofs.digits_number.Kinds as digits-number-kinds
use Rattle.masks.proofs.digits_number.Reads as digits_number
use Rattle.masks.proofs.mask_of.Kinds as mask-of-kinds
use Rattle.masks.proofs.mask_of.Reads as mask-of
use Rattle.masks.proofs.digits_of.Kinds as digits-of-kinds
use Rattle.masks.proofs.digits_of.Reads as digits_of
use Rattle.record.specs.declared.Digits.{Digits}
use Rattle.record.specs.declared.Mask.{Mask}

pub mask_number_one_outcome : (κs : Lfts 0) (a : Dens κs mask-number-kinds.ps) (x y : ℕ) (s t : AtExit (ended_of 0 mask-number-kinds.ps mask-number-kinds.r) κs) → mask-number.Post κs a x s → mask-number.Post κs a y t → x ≡ y
mask_number_one_outcome κs a x y s t p q = spells_one p q

pub digits_number_one_outcome : (κs : Lfts 0) (a : Dens κs digits-number-kinds.ps) (x y : ℕ) (s t : AtExit (ended_of 0 digits-number-kinds.ps digits-number-kinds.r) κs) → digits_number.Post κs a x s → digits_number.Post κs a y t → x ≡ y
digits_number_one_outcome κs a x y s t p q = spells_one p q

pub mask_of_one_outcome : (κs : Lfts 0) (a : Dens κs mask-of-kinds.ps) (x y : Option Mask) (s t : AtExit (ended_of 0 mask-of-kinds.ps mask-of-kinds.r) κs) → mask-of.Post κs a x s → mask-of.Post κs a y t → x ≡ y
mask_of_one_outcome κs a x y s t p q = one_outcome p q

pub digits_of_one_outcome : (κs : Lfts 0) (a : Dens κs digits-of-kinds.ps) (x y : Option Digits) (s t : AtExit (ended_of 0 digits-of-kinds.ps digits-of-kinds.r) κs) → digits_of.Post κs a x s → digits_of.Post κs a y t → x ≡ y
digits_of_one_outcome κs a x y s t p q = one_outcome p q
