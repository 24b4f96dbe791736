-- No two outcomes satisfy a contract as it stands in src/lib.rt.
use Rattle.std.specs.Prelude.{Option, ℕ}
use Rattle.changes.specs.Registers.{PrintOutcome, answers_one}
use Rattle.base.specs.Promise.{one_outcome}
use mathlib.Core.Path.{ap, ◌≡◌}
use denote.Triple.Clauses.{AtExit}
use borrow.Fn.Kinds.{Dens, ended_of}
use contract.Lifetimes.{Lfts}
use Prim.Native.Nat.{ℕ}
use mathlib.Core.List.{List}
use Rattle.changes.proofs.registers.Kinds as registers-kinds
use Rattle.changes.proofs.registers.Reads as registers
use Rattle.changes.proofs.start_doubles.Kinds as start-doubles-kinds
use Rattle.changes.proofs.start_doubles.Reads as start-doubles
use Rattle.changes.proofs.start_halves.Kinds as start-halves-kinds
use Rattle.changes.proofs.start_halves.Reads as start-halves
use Rattle.changes.proofs.start_preds.Kinds as start-preds-kinds
use Rattle.changes.proofs.start_preds.Reads as start-preds
use Rattle.changes.proofs.start_words.Kinds as start-words-kinds
use Rattle.changes.proofs.start_words.Reads as start-words

pub registers_one_outcome :
    (κs : Lfts 5) (a : Dens κs registers-kinds.ps) (x y : Option ℕ) (s t : AtExit (ended_of 5 registers-kinds.ps registers-kinds.r) κs)
    → registers.Post κs a x s → registers.Post κs a y t
    → (x ≡ y) × (s.1.1.1.1.0.now ≡ t.1.1.1.1.0.now)
registers_one_outcome κs a x y s t p q =
    let z = one_outcome p q in
    (answers_one x y (ap (λ (o : PrintOutcome). o.answer) z), ap (λ (o : PrintOutcome). o.buffer) z)

pub start_doubles_one_outcome :
    (κs : Lfts 0) (a : Dens κs start-doubles-kinds.ps) (x y : List ℕ) (s t : AtExit (ended_of 0 start-doubles-kinds.ps start-doubles-kinds.r) κs)
    → start-doubles.Post κs a x s → start-doubles.Post κs a y t → x ≡ y
start_doubles_one_outcome κs a x y s t p q = one_outcome p q

pub start_halves_one_outcome :
    (κs : Lfts 0) (a : Dens κs start-halves-kinds.ps) (x y : List ℕ) (s t : AtExit (ended_of 0 start-halves-kinds.ps start-halves-kinds.r) κs)
    → start-halves.Post κs a x s → start-halves.Post κs a y t → x ≡ y
start_halves_one_outcome κs a x y s t p q = one_outcome p q

pub start_preds_one_outcome :
    (κs : Lfts 0) (a : Dens κs start-preds-kinds.ps) (x y : List ℕ) (s t : AtExit (ended_of 0 start-preds-kinds.ps start-preds-kinds.r) κs)
    → start-preds.Post κs a x s → start-preds.Post κs a y t → x ≡ y
start_preds_one_outcome κs a x y s t p q = one_outcome p q

pub start_words_one_outcome :
    (κs : Lfts 0) (a : Dens κs start-words-kinds.ps) (x y : List ℕ) (s t : AtExit (ended_of 0 start-words-kinds.ps start-words-kinds.r) κs)
    → start-words.Post κs a x s → start-words.Post κs a y t → x ≡ y
start_words_one_outcome κs a x y s t p q = one_outcome p q
