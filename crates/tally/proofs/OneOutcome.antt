-- No two outcomes satisfy the contracts as they stand in src/lib.rt; Contracts.antt says that those of `pass` and `lend` are the ones named here. Assumes
-- nothing.
use Rattle.std.specs.Prelude.{Result}
use Prim.Native.Nat.{ℕ}
use mathlib.Core.Path.{◌≡◌, ap}
use mathlib.Core.Bool.{Bool}
use contract.Lifetimes.{Lfts}
use borrow.Fn.Kinds.{Dens, ended_of}
use denote.Triple.Clauses.{AtExit}
use Rattle.base.specs.Promise.{one_outcome}
use Rattle.tally.specs.Lent.{Outcome, answers_one}
use Rattle.tally.proofs.Contracts.{Leaves}
use Rattle.tally.specs.declared.Passed.{Passed}
use Rattle.refusals.specs.declared.Refusal.{Refusal}
use Rattle.tally.specs.declared.Read.{Read}
use Rattle.tally.specs.declared.Tally.{Tally}
use Rattle.tally.specs.declared.Updated.{Updated}
use Rattle.tally.proofs.votes.Kinds as votes-kinds
use Rattle.tally.proofs.votes.Reads as votes
use Rattle.tally.proofs.is_tally.Kinds as is-tally-kinds
use Rattle.tally.proofs.is_tally.Reads as is-tally
use Rattle.tally.proofs.empty.Kinds as empty-kinds
use Rattle.tally.proofs.empty.Reads as empty
use Rattle.tally.proofs.update.Kinds as update-kinds
use Rattle.tally.proofs.update.Reads as update

pub votes_one_outcome :
    (κs : Lfts 0) (a : Dens κs votes-kinds.ps) (x y : ℕ) (s t : AtExit (ended_of 0 votes-kinds.ps votes-kinds.r) κs)
    → votes.Post κs a x s → votes.Post κs a y t → x ≡ y
votes_one_outcome κs a x y s t p q = one_outcome p q

pub is_tally_one_outcome :
    (κs : Lfts 0) (a : Dens κs is-tally-kinds.ps) (x y : Bool) (s t : AtExit (ended_of 0 is-tally-kinds.ps is-tally-kinds.r) κs)
    → is-tally.Post κs a x s → is-tally.Post κs a y t → x ≡ y
is_tally_one_outcome κs a x y s t p q = one_outcome p q

pub empty_one_outcome :
    (κs : Lfts 0) (a : Dens κs empty-kinds.ps) (x y : Tally) (s t : AtExit (ended_of 0 empty-kinds.ps empty-kinds.r) κs)
    → empty.Post κs a x s → empty.Post κs a y t → x ≡ y
empty_one_outcome κs a x y s t p q = one_outcome p q

-- ==== the calls: an answer and the struct that is left

pub pass_one_outcome : (t : Tally) (r : Read) (floor : ℕ) (x y : Result Passed Refusal) (s u : Tally) → Leaves t r floor x s → Leaves t r floor y u → (x ≡ y) × (s ≡ u)
pass_one_outcome t r floor x y s u p q =
    let z = one_outcome p q in
    (answers_one x y (ap (λ (o : Outcome). o.answer) z), ap (λ (o : Outcome). o.tally) z)

-- `update` and `lend` return both in one
abbrev Returns : Tally → Read → ℕ → Updated → Type 0
Returns t r floor x = Leaves t r floor x.answer x.tally

pub lend_one_outcome : (t : Tally) (r : Read) (floor : ℕ) (x y : Updated) → Returns t r floor x → Returns t r floor y → x ≡ y
lend_one_outcome t r floor x y p q =
    let e = pass_one_outcome t r floor x.answer y.answer x.tally y.tally p q in
    λ i. record { answer = e.0 i; tally = e.1 i }

pub update_one_outcome :
    (κs : Lfts 0) (a : Dens κs update-kinds.ps) (x y : Updated) (s t : AtExit (ended_of 0 update-kinds.ps update-kinds.r) κs)
    → update.Post κs a x s → update.Post κs a y t → x ≡ y
update_one_outcome κs a x y s t p q = lend_one_outcome a.0 a.1.0 a.1.1.0 x y p q
