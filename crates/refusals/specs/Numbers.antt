-- The documents' number of each refusal: 1 to 11 of document 01, 12 of T-07, 15 of T-09, 19, 20 and 23 of T-13, 22 of T-11.
use Rattle.std.specs.Prelude.{ℕ, ◌≡◌, refl, Option, None, Some, unwrap_or, cond, eqb}
use Rattle.std.proofs.Common.{sym, ap, ◌∙◌}
use Rattle.refusals.specs.declared.Refusal.{Refusal}
use Rattle.refusals.specs.declared.Refusal.TheVariants.{LineTooLong, NoShape, NoOpcode, NoRow, NoFit, OutOfFile, SamePair, NotLegal, TooShort, WrongSizes, WrongPreds, TargetTooOld, AgainstItself, LowerPass, TallyFull, NotTally, ListingTooLong}

abbrev pub number_of : Refusal → ℕ
number_of LineTooLong = 1
number_of NoShape = 2
number_of NoOpcode = 3
number_of NoRow = 4
number_of NoFit = 5
number_of OutOfFile = 6
number_of SamePair = 7
number_of NotLegal = 8
number_of TooShort = 9
number_of WrongSizes = 10
number_of WrongPreds = 11
number_of TargetTooOld = 12
number_of AgainstItself = 15
number_of LowerPass = 19
number_of TallyFull = 20
number_of ListingTooLong = 22
number_of NotTally = 23

-- 0 is no refusal's number
pub above_0 : (r : Refusal) → number_of r ≡ 0 → ⊥
above_0 LineTooLong e = cc
above_0 NoShape e = cc
above_0 NoOpcode e = cc
above_0 NoRow e = cc
above_0 NoFit e = cc
above_0 OutOfFile e = cc
above_0 SamePair e = cc
above_0 NotLegal e = cc
above_0 TooShort e = cc
above_0 WrongSizes e = cc
above_0 WrongPreds e = cc
above_0 TargetTooOld e = cc
above_0 AgainstItself e = cc
above_0 LowerPass e = cc
above_0 TallyFull e = cc
above_0 NotTally e = cc
above_0 ListingTooLong e = cc

-- the number of the refusal that there is, 0 where there is none
abbrev pub first_number : Option Refusal → ℕ
first_number None = 0
first_number (Some r) = number_of r

-- the refusal of a number, `None` where no refusal has it
numbered : ℕ → Option Refusal
numbered n =
    cond (eqb n 1) (Some LineTooLong)
    (cond (eqb n 2) (Some NoShape)
    (cond (eqb n 3) (Some NoOpcode)
    (cond (eqb n 4) (Some NoRow)
    (cond (eqb n 5) (Some NoFit)
    (cond (eqb n 6) (Some OutOfFile)
    (cond (eqb n 7) (Some SamePair)
    (cond (eqb n 8) (Some NotLegal)
    (cond (eqb n 9) (Some TooShort)
    (cond (eqb n 10) (Some WrongSizes)
    (cond (eqb n 11) (Some WrongPreds)
    (cond (eqb n 12) (Some TargetTooOld)
    (cond (eqb n 15) (Some AgainstItself)
    (cond (eqb n 19) (Some LowerPass)
    (cond (eqb n 20) (Some TallyFull)
    (cond (eqb n 22) (Some ListingTooLong)
    (cond (eqb n 23) (Some NotTally)
    None))))))))))))))))

back : (r : Refusal) → numbered (number_of r) ≡ Some r
unfolding numbered
back LineTooLong = refl
back NoShape = refl
back NoOpcode = refl
back NoRow = refl
back NoFit = refl
back OutOfFile = refl
back SamePair = refl
back NotLegal = refl
back TooShort = refl
back WrongSizes = refl
back WrongPreds = refl
back TargetTooOld = refl
back AgainstItself = refl
back LowerPass = refl
back TallyFull = refl
back ListingTooLong = refl
back NotTally = refl

first_back : (x : Option Refusal) → numbered (first_number x) ≡ x
unfolding numbered
first_back None = refl
first_back (Some r) = back r

-- one to one: no two refusals have a number
pub numbers_one : (a b : Refusal) → number_of a ≡ number_of b → a ≡ b
numbers_one a b e = ap (λ (x : Option Refusal). unwrap_or x a) (sym (back a) ∙ ap numbered e ∙ back b)

pub first_numbers_one : (x y : Option Refusal) → first_number x ≡ first_number y → x ≡ y
first_numbers_one x y e = sym (first_back x) ∙ ap numbered e ∙ first_back y
