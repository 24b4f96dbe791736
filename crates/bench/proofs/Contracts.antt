-- The demands of the contracts of `read`, `write` and `execute` as they stand in src/lib.rt: whatever a call answers and leaves is as
-- demanded. If a contract were weaker, a law here would fail.
use Rattle.std.specs.Prelude.{Result}
use contract.Lifetimes.{Lfts}
use borrow.Fn.Kinds.{Dens, ended_of}
use denote.Triple.Clauses.{AtExit}
use Prim.Native.Nat.{ℕ}
use mathlib.Core.Path.{◌≡◌, subst}
use mathlib.Core.Bool.{true}
use mathlib.Core.List.{List}
use lib.ListN.{take}
use Rattle.record.specs.Registers.{files}
use Rattle.rules.specs.Targets.{allows}
use Rattle.rules.specs.Strict.{passes}
use Rattle.rules.specs.Writing.{written}
use Rattle.rules.specs.Reading.{read as record-read}
use Rattle.read.specs.Paper as reading
use Rattle.record.specs.declared.Record.{Record}
use Rattle.read.specs.declared.Refused.{Refused}
use Rattle.write.specs.Answers as writing
use Rattle.execute.specs.Answers as executing
use Rattle.execute.specs.declared.Executed.{Executed}
use Rattle.refusals.specs.declared.Refusal.{Refusal}
use Rattle.bench.specs.Demands.{ReadAsDemanded, read_as_demanded, WrittenAsDemanded, written_as_demanded, ExecutedAsDemanded, executed_as_demanded, written_then_read}
use Rattle.bench.proofs.read.Reads as read
use Rattle.bench.proofs.read.Kinds as read-kinds
use Rattle.bench.proofs.write.Reads as write
use Rattle.bench.proofs.write.Kinds as write-kinds
use Rattle.bench.proofs.execute.Reads as execute
use Rattle.bench.proofs.execute.Kinds as execute-kinds

-- Each entry point tests its own input: nothing is asked of the caller
pub read_asks_nothing : (κs : Lfts 1) (a : Dens κs read-kinds.ps) → read.Pre κs a
read_asks_nothing κs a = tt

pub write_asks_nothing : (κs : Lfts 1) (a : Dens κs write-kinds.ps) → write.Pre κs a
write_asks_nothing κs a = tt

pub execute_asks_nothing : (κs : Lfts 4) (a : Dens κs execute-kinds.ps) → execute.Pre κs a
execute_asks_nothing κs a = tt

-- the answer and the memory at exit
pub read_demanded : (κs : Lfts 1) (a : Dens κs read-kinds.ps) (x : Result Record Refused) (s : AtExit (ended_of 1 read-kinds.ps read-kinds.r) κs)
    → read.Post κs a x s → ReadAsDemanded a.0 a.1.0 a.1.1.0.now (reading.answer_of x)
read_demanded κs a x s h = read_as_demanded a.0 a.1.0 a.1.1.0.now (reading.answer_of x) h

pub write_demanded : (κs : Lfts 1) (a : Dens κs write-kinds.ps) (x : Result ℕ Refusal) (s : AtExit (ended_of 1 write-kinds.ps write-kinds.r) κs)
    → write.Post κs a x s → WrittenAsDemanded a.0 a.1.0.now (writing.answer_of x) s.1.0.now
write_demanded κs a x s h = written_as_demanded a.0 a.1.0.now (writing.answer_of x) s.1.0.now h

pub execute_demanded : (κs : Lfts 4) (a : Dens κs execute-kinds.ps) (x : Result Executed Refusal) (s : AtExit (ended_of 4 execute-kinds.ps execute-kinds.r) κs)
    → execute.Post κs a x s
    → ExecutedAsDemanded a.0 a.1.0 (files a.1.1.0.now a.1.1.1.0.now a.1.1.1.1.0.now a.1.1.1.1.1.0.now) (executing.answer_of x)
    (files s.1.1.0.now s.1.1.1.0.now s.1.1.1.1.0.now s.1.1.1.1.1.0.now)
execute_demanded κs a x s h = executed_as_demanded a.0 a.1.0 _ (executing.answer_of x) _ h

-- reading the line that was written gives the record again, at a target that allows it and in a mode that passes it: the first n bytes of the buffer, where `write` answered n
pub read_after_write : (κs : Lfts 1) (a : Dens κs write-kinds.ps) (x : Result ℕ Refusal) (s : AtExit (ended_of 1 write-kinds.ps write-kinds.r) κs) (n : ℕ)
    → write.Post κs a x s → writing.answer_of x ≡ written n
    → (ls : Lfts 1) (b : Dens ls read-kinds.ps) (y : Result Record Refused) (t : AtExit (ended_of 1 read-kinds.ps read-kinds.r) ls)
    → allows b.0 a.0 ≡ true → passes b.1.0 a.0 ≡ true → b.1.1.0.now ≡ take n s.1.0.now → read.Post ls b y t → reading.answer_of y ≡ record-read a.0
read_after_write κs a x s n h e ls b y t o p l k =
    written_then_read b.0 b.1.0 a.0 a.1.0.now s.1.0.now (writing.answer_of x) n (reading.answer_of y) (write_demanded κs a x s h) e o p
    (subst (λ (w : List ℕ). ReadAsDemanded b.0 b.1.0 w (reading.answer_of y)) l (read_demanded ls b y t k))
