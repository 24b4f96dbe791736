-- What the contracts as they stand in src/lib.rt say: nothing is asked of the caller, and each speaks of the call's own word, listing, register and buffer. A
-- weaker contract would fail here. Assumes nothing.
use Rattle.std.specs.Prelude.{Option, ℕ}
use contract.Lifetimes.{Lfts}
use borrow.Fn.Kinds.{Dens, ended_of}
use denote.Triple.Clauses.{AtExit}
use Rattle.lastline.specs.LastText.{Asks}
use Rattle.lastline.specs.Steps.{asked_of, said_of, Lays}
use Rattle.record.specs.declared.Word.{Word}
use Rattle.lastline.proofs.register_of.Kinds as register-of-kinds
use Rattle.lastline.proofs.register_of.Reads as register_of
use Rattle.lastline.proofs.answer.Kinds as answer-kinds
use Rattle.lastline.proofs.answer.Reads as answer

pub register_of_asks_nothing : (κs : Lfts 1) (a : Dens κs register-of-kinds.ps) → register_of.Pre κs a
register_of_asks_nothing κs a = tt

pub register_of_promise : (κs : Lfts 1) (a : Dens κs register-of-kinds.ps) (x : Option Word) (s : AtExit (ended_of 1 register-of-kinds.ps register-of-kinds.r) κs)
    → register_of.Post κs a x s → Asks a.0.now (asked_of x)
register_of_promise κs a x s p = p

pub answer_asks_nothing : (κs : Lfts 2) (a : Dens κs answer-kinds.ps) → answer.Pre κs a
answer_asks_nothing κs a = tt

pub answer_promise : (κs : Lfts 2) (a : Dens κs answer-kinds.ps) (x : Option ℕ) (s : AtExit (ended_of 2 answer-kinds.ps answer-kinds.r) κs)
    → answer.Post κs a x s → Lays a.0.now a.1.0.0 a.1.1.0.now (said_of x) s.1.1.0.now
answer_promise κs a x s p = p
