-- What each answer of `read` says in the documents' words: the number of document 01, the place of T-05.
use Rattle.std.specs.Prelude.{◌≡◌, ℕ, Result, Ok, Err, Option, None, Some}
use Rattle.std.proofs.Common.{ap, ap₂, sym}
use Rattle.rules.specs.Reading.{Answer, read, refused, refused_at}
use Rattle.record.specs.declared.Record.{Record}
use Rattle.refusals.specs.declared.Refusal.{Refusal}
use Rattle.refusals.specs.Numbers.{number_of, numbers_one}
use Rattle.read.specs.declared.Refused.{Refused}

-- a number, and the place behind it where there is one
abbrev pub placed : ℕ → Option ℕ → Answer
placed n None = refused n
placed n (Some p) = refused_at n p

abbrev pub refused_answer : Refused → Answer
refused_answer x = placed (number_of x.refusal) x.place

abbrev pub answer_of : Result Record Refused → Answer
answer_of (Ok m) = read m
answer_of (Err x) = refused_answer x

-- one to one: no two answers say the same
placed_one : (m n : ℕ) (p q : Option ℕ) → placed m p ≡ placed n q → (m ≡ n) × (p ≡ q)
placed_one m n None None e = (cc, cc)
placed_one m n None (Some q) e = cc
placed_one m n (Some p) None e = cc
placed_one m n (Some p) (Some q) e = (cc, cc)

pub refused_one : (x y : Refused) → refused_answer x ≡ refused_answer y → x ≡ y
refused_one x y e =
    let z = placed_one _ _ x.place y.place e in
    let k : x.refusal ≡ y.refusal = numbers_one _ _ z.0 in
    ap₂ (λ (r : Refusal) (p : Option ℕ). record { refusal = r; place = p }) k z.1

never : {A : Type 0} (m : Record) (n : ℕ) (p : Option ℕ) → read m ≡ placed n p → A
never m n None e = cc
never m n (Some p) e = cc

pub answers_one : (x y : Result Record Refused) → answer_of x ≡ answer_of y → x ≡ y
answers_one (Ok m) (Ok n) e = cc
answers_one (Ok m) (Err y) e = never m _ y.place e
answers_one (Err x) (Ok n) e = never n _ x.place (sym e)
answers_one (Err x) (Err y) e = ap Err (refused_one x y e)
