-- What the contracts as they stand in src/lib.rt say: nothing is asked of the caller, and the answer and the tally are those of the call's own tally, read
-- and floor. A weaker contract would fail here. Assumes nothing.
use Rattle.std.specs.Prelude.{Result}
use Prim.Native.Nat.{ℕ}
use mathlib.Core.Path.{◌≡◌, refl}
use mathlib.Core.Bool.{Bool}
use contract.Lifetimes.{Lfts}
use borrow.Fn.Kinds.{Dens, ended_of}
use denote.Triple.Clauses.{AtExit}
use Rattle.tally.specs.Votes.{vote_of}
use Rattle.tally.specs.Passes.{is_tally}
use Rattle.tally.specs.Lent.{entries_of, outcome, answer_of, call_of, empty_tally}
use Rattle.tally.specs.declared.Passed.{Passed}
use Rattle.refusals.specs.declared.Refusal.{Refusal}
use Rattle.tally.specs.declared.Read.{Read}
use Rattle.tally.specs.declared.Tally.{Tally}
use Rattle.tally.specs.declared.Updated.{Updated}
use Rattle.tally.proofs.votes.Kinds as votes-kinds
use Rattle.tally.proofs.votes.Reads as votes
use Rattle.tally.proofs.is_tally.Kinds as is-tally-kinds
use Rattle.tally.proofs.is_tally.Reads as is-tally
use Rattle.tally.proofs.empty.Kinds as empty-kinds
use Rattle.tally.proofs.empty.Reads as empty
use Rattle.tally.proofs.update.Kinds as update-kinds
use Rattle.tally.proofs.update.Reads as update
use Rattle.tally.proofs.pass.Kinds as pass-kinds
use Rattle.tally.proofs.pass.Reads as pass
use Rattle.tally.proofs.lend.Kinds as lend-kinds
use Rattle.tally.proofs.lend.Reads as lend

pub votes_asks_nothing : (κs : Lfts 0) (a : Dens κs votes-kinds.ps) → votes.Pre κs a
votes_asks_nothing κs a = tt

pub votes_promise : (κs : Lfts 0) (a : Dens κs votes-kinds.ps) (x : ℕ) (s : AtExit (ended_of 0 votes-kinds.ps votes-kinds.r) κs) → votes.Post κs a x s → x ≡ vote_of a.1.0 a.0
votes_promise κs a x s p = p

pub is_tally_asks_nothing : (κs : Lfts 0) (a : Dens κs is-tally-kinds.ps) → is-tally.Pre κs a
is_tally_asks_nothing κs a = tt

pub is_tally_promise : (κs : Lfts 0) (a : Dens κs is-tally-kinds.ps) (x : Bool) (s : AtExit (ended_of 0 is-tally-kinds.ps is-tally-kinds.r) κs)
    → is-tally.Post κs a x s → x ≡ is_tally (entries_of a.0)
is_tally_promise κs a x s p = p

pub empty_asks_nothing : (κs : Lfts 0) (a : Dens κs empty-kinds.ps) → empty.Pre κs a
empty_asks_nothing κs a = tt

pub empty_promise : (κs : Lfts 0) (a : Dens κs empty-kinds.ps) (x : Tally) (s : AtExit (ended_of 0 empty-kinds.ps empty-kinds.r) κs) → empty.Post κs a x s → x ≡ empty_tally
empty_promise κs a x s p = p

-- an answer and the struct that is left
abbrev pub Leaves : Tally → Read → ℕ → Result Passed Refusal → Tally → Type 0
Leaves t r floor x left = outcome (answer_of x) left ≡ call_of t r floor

pub update_asks_nothing : (κs : Lfts 0) (a : Dens κs update-kinds.ps) → update.Pre κs a
update_asks_nothing κs a = tt

pub update_promise : (κs : Lfts 0) (a : Dens κs update-kinds.ps) (x : Updated) (s : AtExit (ended_of 0 update-kinds.ps update-kinds.r) κs)
    → update.Post κs a x s → Leaves a.0 a.1.0 a.1.1.0 x.answer x.tally
update_promise κs a x s p = p

pub pass_asks_nothing : (κs : Lfts 1) (a : Dens κs pass-kinds.ps) → pass.Pre κs a ≡ Unit {0}
pass_asks_nothing κs a = refl

pub pass_promise : (κs : Lfts 1) (a : Dens κs pass-kinds.ps) (x : Result Passed Refusal) (s : AtExit (ended_of 1 pass-kinds.ps pass-kinds.r) κs)
    → pass.Post κs a x s ≡ Leaves a.0.now a.1.0 a.1.1.0 x s.0.now
pass_promise κs a x s = refl

pub lend_asks_nothing : (κs : Lfts 0) (a : Dens κs lend-kinds.ps) → lend.Pre κs a ≡ Unit {0}
lend_asks_nothing κs a = refl

pub lend_promise : (κs : Lfts 0) (a : Dens κs lend-kinds.ps) (x : Updated) (s : AtExit (ended_of 0 lend-kinds.ps lend-kinds.r) κs)
    → lend.Post κs a x s ≡ Leaves a.0 a.1.0 a.1.1.0 x.answer x.tally
lend_promise κs a x s = refl
