-- The contracts of the functions that have no proof file allow one outcome each. Assumes nothing.
use mathlib.Core.Path.{◌≡◌}
use mathlib.Core.List.{List}
use Prim.Native.Nat.{ℕ}
use contract.Lifetimes.{Lfts}
use borrow.Fn.Kind.{ParamKind}
use borrow.Fn.Kinds.{Dens, ended_of}
use denote.Triple.Clauses.{AtExit}
use Rattle.base.specs.Promise.{one_outcome}
use denote.RattleType.{RattleType}
use denote.Param.Laws.{Laws, IsCopy}
use mir.Syntax.{Dict}
use Rattle.record.specs.declared.Numbered as numbered
use Rattle.std.specs.declared.clone.Clone as clone
use Rattle.registers.proofs.Files.operand.Kinds as operand-kinds
use Rattle.registers.proofs.Files.operand.Reads as operand
use Rattle.registers.proofs.Files.value.Kinds as value-kinds
use Rattle.registers.proofs.Files.value.Reads as value
use Rattle.registers.proofs.at.Kinds as at-kinds
use Rattle.registers.proofs.at.Reads as at
use Rattle.registers.proofs.bit_of.Kinds as bit-of-kinds
use Rattle.registers.proofs.bit_of.Reads as bit-of
use Rattle.registers.proofs.lane_count.Kinds as lane-count-kinds
use Rattle.registers.proofs.lane_count.Reads as lane-count
use Rattle.registers.proofs.low_half.Kinds as low-half-kinds
use Rattle.registers.proofs.low_half.Reads as low_half
use Rattle.registers.proofs.low_word.Kinds as low-word-kinds
use Rattle.registers.proofs.low_word.Reads as low_word

-- no two outcomes satisfy the contract as it stands in src/lib.rt
pub low_word_one_outcome :
    (κs : Lfts 0) (a : Dens κs low-word-kinds.ps) (x y : ℕ) (s t : AtExit (ended_of 0 low-word-kinds.ps low-word-kinds.r) κs)
    → low_word.Post κs a x s → low_word.Post κs a y t → x ≡ y
low_word_one_outcome κs a x y s t p q = one_outcome p q

pub low_half_one_outcome :
    (κs : Lfts 0) (a : Dens κs low-half-kinds.ps) (x y : ℕ) (s t : AtExit (ended_of 0 low-half-kinds.ps low-half-kinds.r) κs)
    → low_half.Post κs a x s → low_half.Post κs a y t → x ≡ y
low_half_one_outcome κs a x y s t p q = one_outcome p q

pub bit_of_one_outcome :
    (κs : Lfts 0) (a : Dens κs bit-of-kinds.ps) (x y : ℕ) (s t : AtExit (ended_of 0 bit-of-kinds.ps bit-of-kinds.r) κs)
    → bit-of.Post κs a x s → bit-of.Post κs a y t → x ≡ y
bit_of_one_outcome κs a x y s t p q = one_outcome p.0 q.0

pub lane_count_one_outcome :
    (κs : Lfts 0) (a : Dens κs lane-count-kinds.ps) (x y : ℕ) (s t : AtExit (ended_of 0 lane-count-kinds.ps lane-count-kinds.r) κs)
    → lane-count.Post κs a x s → lane-count.Post κs a y t → x ≡ y
lane_count_one_outcome κs a x y s t p q = one_outcome p q

pub value_one_outcome :
    (κs : Lfts 2) (a : Dens κs value-kinds.ps) (x y : ℕ) (s t : AtExit (ended_of 2 value-kinds.ps value-kinds.r) κs)
    → value.Post κs a x s → value.Post κs a y t → x ≡ y
value_one_outcome κs a x y s t p q = one_outcome p q

pub operand_one_outcome :
    (κs : Lfts 2) (a : Dens κs operand-kinds.ps) (x y : ℕ)
    (s t : AtExit (ended_of 2 operand-kinds.ps operand-kinds.r) κs)
    → operand.Post κs a x s → operand.Post κs a y t → x ≡ y
operand_one_outcome κs a x y s t p q = one_outcome p q

-- at each kind of register, whatever its trait says
module _
    (R V : RattleType) (r-laws : Laws R) (v-laws : Laws V) (r-copy : IsCopy R) (v-copy : IsCopy V)
    (ghosts : numbered.Ghosts R.Denot V.Denot) (code : Dict)
    (r-clone : clone.Ghosts R.Denot) (r-code : Dict) (v-clone : clone.Ghosts V.Denot) (v-code : Dict)
  where
    abbrev ps : List (ParamKind 3)
    ps = at-kinds.ps R V r-laws v-laws r-copy v-copy

    abbrev Exit : Lfts 3 → Type 0
    Exit κs = AtExit (ended_of 3 ps (at-kinds.r R V r-laws v-laws r-copy v-copy)) κs

    abbrev Post : (κs : Lfts 3) → Dens κs ps → V.Denot → Exit κs → Type 0
    Post = at.Post R V r-laws v-laws r-copy v-copy ghosts code r-clone r-code v-clone v-code

    pub at_one_outcome :
        (κs : Lfts 3) (a : Dens κs ps) (x y : V.Denot) (s t : Exit κs) → Post κs a x s → Post κs a y t → x ≡ y
    at_one_outcome κs a x y s t p q = one_outcome p q
