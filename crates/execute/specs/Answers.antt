-- What each answer of `execute` says in the documents' words and numbers.
use Rattle.std.specs.Prelude.{◌≡◌, refl, Result, Ok, Err}
use Rattle.std.proofs.Common.{ap}
use Rattle.rules.specs.Executing.{Answer, done, skipped, refused}
use Rattle.refusals.specs.declared.Refusal.{Refusal}
use Rattle.refusals.specs.Numbers.{number_of, numbers_one}
use Rattle.execute.specs.declared.Executed.{Executed}
use Rattle.execute.specs.declared.Executed.TheVariants.{Done, Skipped}

abbrev pub answer_of : Result Executed Refusal → Answer
answer_of (Ok Done) = done
answer_of (Ok Skipped) = skipped
answer_of (Err r) = refused (number_of r)

-- one to one: no two answers say the same
pub answers_one : (x y : Result Executed Refusal) → answer_of x ≡ answer_of y → x ≡ y
answers_one (Ok Done) (Ok Done) e = refl
answers_one (Ok Skipped) (Ok Skipped) e = refl
answers_one (Err m) (Err n) e = ap Err (numbers_one m n cc)
answers_one (Ok Done) (Ok Skipped) e = cc
answers_one (Ok Done) (Err n) e = cc
answers_one (Ok Skipped) (Ok Done) e = cc
answers_one (Ok Skipped) (Err n) e = cc
answers_one (Err m) (Ok Done) e = cc
answers_one (Err m) (Ok Skipped) e = cc
