-- No two outcomes satisfy a contract as it stands in src/lib.rt.
use mathlib.Core.Path.{◌≡◌}
use contract.Lifetimes.{Lfts}
use borrow.Fn.Kinds.{Dens, ended_of}
use denote.Triple.Clauses.{AtExit}
use Rattle.base.specs.Promise.{one_outcome}
use Rattle.record.specs.declared.Digits.{Digits}
use Rattle.record.specs.declared.Mask.{Mask}
use mathlib.Core.Bool.{Bool}
use Rattle.fits.proofs.default_digits.Kinds as default-digits-kinds
use Rattle.fits.proofs.default_digits.Reads as default-digits
use Rattle.fits.proofs.full_mask.Kinds as full-mask-kinds
use Rattle.fits.proofs.full_mask.Reads as full-mask
use Rattle.fits.proofs.modifiers_fit.Kinds as modifiers-fit-kinds
use Rattle.fits.proofs.modifiers_fit.Reads as modifiers-fit
use Rattle.fits.proofs.operands_fit.Kinds as operands-fit-kinds
use Rattle.fits.proofs.operands_fit.Reads as operands-fit

pub default_digits_one_outcome :
    (κs : Lfts 0) (a : Dens κs default-digits-kinds.ps) (x y : Digits) (s t : AtExit (ended_of 0 default-digits-kinds.ps default-digits-kinds.r) κs)
    → default-digits.Post κs a x s → default-digits.Post κs a y t → x ≡ y
default_digits_one_outcome κs a x y s t p q = one_outcome p q

pub full_mask_one_outcome :
    (κs : Lfts 0) (a : Dens κs full-mask-kinds.ps) (x y : Mask) (s t : AtExit (ended_of 0 full-mask-kinds.ps full-mask-kinds.r) κs)
    → full-mask.Post κs a x s → full-mask.Post κs a y t → x ≡ y
full_mask_one_outcome κs a x y s t p q = one_outcome p q

pub modifiers_fit_one_outcome :
    (κs : Lfts 0) (a : Dens κs modifiers-fit-kinds.ps) (x y : Bool) (s t : AtExit (ended_of 0 modifiers-fit-kinds.ps modifiers-fit-kinds.r) κs)
    → modifiers-fit.Post κs a x s → modifiers-fit.Post κs a y t → x ≡ y
modifiers_fit_one_outcome κs a x y s t p q = one_outcome p q

pub operands_fit_one_outcome :
    (κs : Lfts 0) (a : Dens κs operands-fit-kinds.ps) (x y : Bool) (s t : AtExit (ended_of 0 operands-fit-kinds.ps operands-fit-kinds.r) κs)
    → operands-fit.Post κs a x s → operands-fit.Post κs a y t → x ≡ y
operands_fit_one_outcome κs a x y s t p q = one_outcome p q
