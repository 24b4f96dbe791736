-- No two outcomes satisfy a contract as it stands in src/lib.rt.
use mathlib.Core.Path.{◌≡◌}
use mathlib.Core.Bool.{Bool}
use mathlib.Core.List.{List}
use Prim.Native.Nat.{ℕ}
use contract.Lifetimes.{Lfts}
use borrow.Fn.Kind.{ParamKind}
use borrow.Fn.Kinds.{Dens, ended_of}
use denote.Triple.Clauses.{AtExit}
use denote.RattleType.{RattleType}
use denote.Param.Laws.{Laws, IsCopy}
use mir.Syntax.{Dict}
use Rattle.base.specs.Promise.{one_outcome}
use Rattle.record.specs.declared.Numbered as numbered
use Rattle.std.specs.declared.clone.Clone as clone
use Rattle.record.proofs.File.size.Kinds as size-kinds
use Rattle.record.proofs.File.size.Reads as size
use Rattle.record.proofs.in_file.Kinds as in-file-kinds
use Rattle.record.proofs.in_file.Reads as in-file
use Rattle.record.proofs.WordNumbered.number.Kinds as word-number-kinds
use Rattle.record.proofs.WordNumbered.number.Reads as word-number
use Rattle.record.proofs.HalfNumbered.number.Kinds as half-number-kinds
use Rattle.record.proofs.HalfNumbered.number.Reads as half-number
use Rattle.record.proofs.DoubleNumbered.number.Kinds as double-number-kinds
use Rattle.record.proofs.DoubleNumbered.number.Reads as double-number
use Rattle.record.proofs.PredNumbered.number.Kinds as pred-number-kinds
use Rattle.record.proofs.PredNumbered.number.Reads as pred-number

pub size_one_outcome :
    (κs : Lfts 0) (a : Dens κs size-kinds.ps) (x y : ℕ) (s t : AtExit (ended_of 0 size-kinds.ps size-kinds.r) κs)
    → size.Post κs a x s → size.Post κs a y t → x ≡ y
size_one_outcome κs a x y s t p q = one_outcome p q

pub word_number_one_outcome :
    (κs : Lfts 0) (a : Dens κs word-number-kinds.ps) (x y : ℕ)
    (s t : AtExit (ended_of 0 word-number-kinds.ps word-number-kinds.r) κs)
    → word-number.Post κs a x s → word-number.Post κs a y t → x ≡ y
word_number_one_outcome κs a x y s t p q = one_outcome p q

pub half_number_one_outcome :
    (κs : Lfts 0) (a : Dens κs half-number-kinds.ps) (x y : ℕ)
    (s t : AtExit (ended_of 0 half-number-kinds.ps half-number-kinds.r) κs)
    → half-number.Post κs a x s → half-number.Post κs a y t → x ≡ y
half_number_one_outcome κs a x y s t p q = one_outcome p q

pub double_number_one_outcome :
    (κs : Lfts 0) (a : Dens κs double-number-kinds.ps) (x y : ℕ)
    (s t : AtExit (ended_of 0 double-number-kinds.ps double-number-kinds.r) κs)
    → double-number.Post κs a x s → double-number.Post κs a y t → x ≡ y
double_number_one_outcome κs a x y s t p q = one_outcome p q

pub pred_number_one_outcome :
    (κs : Lfts 0) (a : Dens κs pred-number-kinds.ps) (x y : ℕ)
    (s t : AtExit (ended_of 0 pred-number-kinds.ps pred-number-kinds.r) κs)
    → pred-number.Post κs a x s → pred-number.Post κs a y t → x ≡ y
pred_number_one_outcome κs a x y s t p q = one_outcome p q

-- at each kind of register, whatever its trait says
module _
    (R V : RattleType) (r-laws : Laws R) (v-laws : Laws V) (r-copy : IsCopy R) (v-copy : IsCopy V)
    (ghosts : numbered.Ghosts R.Denot V.Denot) (code : Dict)
    (r-clone : clone.Ghosts R.Denot) (r-code : Dict) (v-clone : clone.Ghosts V.Denot) (v-code : Dict)
  where
    abbrev ps : List (ParamKind 2)
    ps = in-file-kinds.ps R V r-laws v-laws r-copy v-copy

    abbrev Exit : Lfts 2 → Type 0
    Exit κs = AtExit (ended_of 2 ps (in-file-kinds.r R V r-laws v-laws r-copy v-copy)) κs

    abbrev Post : (κs : Lfts 2) → Dens κs ps → Bool → Exit κs → Type 0
    Post = in-file.Post R V r-laws v-laws r-copy v-copy ghosts code r-clone r-code v-clone v-code

    pub in_file_one_outcome :
        (κs : Lfts 2) (a : Dens κs ps) (x y : Bool) (s t : Exit κs) → Post κs a x s → Post κs a y t → x ≡ y
    in_file_one_outcome κs a x y s t p q = one_outcome p q
