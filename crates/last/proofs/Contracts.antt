-- What the contract as it stands in src/lib.rt says: nothing is asked of the caller, and the answer is that of the call's own listing and register. A weaker
-- contract would fail here. Assumes nothing.
use Rattle.std.specs.Prelude.{Result, Option, ℕ}
use Prim.Native.Nat.{ℕ, ◌≤◌}
use mathlib.Core.Path.{◌≡◌, subst}
use mathlib.Core.List.{List, ◌++◌}
use lib.ListN.{length}
use contract.Lifetimes.{Lfts}
use borrow.Fn.Kinds.{Dens, ended_of}
use denote.Triple.Clauses.{AtExit}
use Rattle.last.specs.Last.{distance, ByFullReading, answer_of}
use Rattle.lines.specs.Lines.{listing_limit, WholeLines}
use Rattle.last.specs.LastIs.{LastIs}
use Rattle.last.specs.LastIsLaws.{as_relation, one_last, lines_before}
use Rattle.refusals.specs.declared.Refusal.{Refusal}
use Rattle.last.proofs.last_writer.Kinds as last-writer-kinds
use Rattle.last.proofs.last_writer.Reads as last-writer

pub last_writer_asks_nothing : (κs : Lfts 1) (a : Dens κs last-writer-kinds.ps) → last-writer.Pre κs a
last_writer_asks_nothing κs a = tt

pub last_writer_promise : (κs : Lfts 1) (a : Dens κs last-writer-kinds.ps) (x : Result (Option ℕ) Refusal) (s : AtExit (ended_of 1 last-writer-kinds.ps last-writer-kinds.r) κs)
    → last-writer.Post κs a x s → ByFullReading a.0.now a.1.0.0 (answer_of x)
last_writer_promise κs a x s p = p

-- as the relation over the grammar alone has it
pub last_writer_is : (κs : Lfts 1) (a : Dens κs last-writer-kinds.ps) (x : Result (Option ℕ) Refusal) (s : AtExit (ended_of 1 last-writer-kinds.ps last-writer-kinds.r) κs)
    → last-writer.Post κs a x s → LastIs a.0.now a.1.0.0 (answer_of x)
last_writer_is κs a x s p = as_relation p

-- whole lines put before the listing, within the size: another call that is lent them too answers the same distance
pub last_writer_unaltered : (κs λs : Lfts 1) (a : Dens κs last-writer-kinds.ps) (b : Dens λs last-writer-kinds.ps) (x y : Result (Option ℕ) Refusal)
    (s : AtExit (ended_of 1 last-writer-kinds.ps last-writer-kinds.r) κs) (t : AtExit (ended_of 1 last-writer-kinds.ps last-writer-kinds.r) λs) (p : List ℕ) (d : ℕ)
    → last-writer.Post κs a x s → answer_of x ≡ distance d → WholeLines p → length (p ++ a.0.now) ≤ listing_limit
    → b.0.now ≡ p ++ a.0.now → b.1.0.0 ≡ a.1.0.0 → last-writer.Post λs b y t → answer_of y ≡ distance d
last_writer_unaltered κs λs a b x y s t p d h e w l q r k =
    let found = subst (LastIs a.0.now a.1.0.0) e (last_writer_is κs a x s h) in
    let same = subst (λ (u : List ℕ). LastIs u a.1.0.0 (answer_of y)) q (subst (λ (n : ℕ). LastIs b.0.now n (answer_of y)) r (last_writer_is λs b y t k)) in
    one_last same (lines_before found w l)
