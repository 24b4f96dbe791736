-- What the contracts as they stand in src/lib.rt say: nothing is asked of the caller, and each speaks of the call's own texts, place, number, tally and
-- buffers. A weaker contract would fail here. Assumes nothing.
use Rattle.std.specs.Prelude.{Option, Result, ℕ}
use Rattle.std.proofs.Common.{◌≡◌}
use contract.Lifetimes.{Lfts}
use borrow.Fn.Kinds.{Dens, ended_of}
use denote.Triple.Clauses.{AtExit}
use Rattle.tally.specs.declared.Read.{Read}
use Rattle.passlog.specs.declared.Progress.{Progress}
use Rattle.passlog.specs.declared.EndError.{EndError}
use Rattle.passlog.specs.Log.{SaysRead, SaysFloor}
use Rattle.passlog.specs.Steps.{line_of, floor_said, Logs, end_outcome, answer_of, ending}
use Rattle.passlog.proofs.read_of.Kinds as read-of-kinds
use Rattle.passlog.proofs.read_of.Reads as Read-of
use Rattle.passlog.proofs.floor_of.Kinds as floor-of-kinds
use Rattle.passlog.proofs.floor_of.Reads as floor-of
use Rattle.passlog.proofs.log_line.Kinds as log-line-kinds
use Rattle.passlog.proofs.log_line.Reads as log-line
use Rattle.passlog.proofs.end.Kinds as end-kinds
use Rattle.passlog.proofs.end.Reads as end

pub read_of_asks_nothing : (κs : Lfts 1) (a : Dens κs read-of-kinds.ps) → Read-of.Pre κs a
read_of_asks_nothing κs a = tt

pub read_of_promise : (κs : Lfts 1) (a : Dens κs read-of-kinds.ps) (x : Option Read) (s : AtExit (ended_of 1 read-of-kinds.ps read-of-kinds.r) κs)
    → Read-of.Post κs a x s → SaysRead a.0.now (line_of x)
read_of_promise κs a x s p = p

pub floor_of_asks_nothing : (κs : Lfts 1) (a : Dens κs floor-of-kinds.ps) → floor-of.Pre κs a
floor_of_asks_nothing κs a = tt

pub floor_of_promise : (κs : Lfts 1) (a : Dens κs floor-of-kinds.ps) (x : Option ℕ) (s : AtExit (ended_of 1 floor-of-kinds.ps floor-of-kinds.r) κs)
    → floor-of.Post κs a x s → SaysFloor a.0.now (floor_said x)
floor_of_promise κs a x s p = p

pub log_line_asks_nothing : (κs : Lfts 2) (a : Dens κs log-line-kinds.ps) → log-line.Pre κs a
log_line_asks_nothing κs a = tt

pub log_line_promise :
    (κs : Lfts 2) (a : Dens κs log-line-kinds.ps) (x : Progress) (s : AtExit (ended_of 2 log-line-kinds.ps log-line-kinds.r) κs) → log-line.Post κs a x s
    → Logs a.0 a.1.0.now a.1.1.0 a.1.1.1.0 a.1.1.1.1.0 a.1.1.1.1.1.0.now x.at x.number x.len x.tally s.1.1.1.1.1.0.now
log_line_promise κs a x s p = p

pub end_asks_nothing : (κs : Lfts 1) (a : Dens κs end-kinds.ps) → end.Pre κs a
end_asks_nothing κs a = tt

pub end_promise : (κs : Lfts 1) (a : Dens κs end-kinds.ps) (x : Result ℕ EndError) (s : AtExit (ended_of 1 end-kinds.ps end-kinds.r) κs)
    → end.Post κs a x s → end_outcome (answer_of x) s.1.0.now ≡ ending a.0 a.1.0.now
end_promise κs a x s p = p
