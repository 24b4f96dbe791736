-- No two outcomes satisfy a contract as it stands in src/lib.rt.
use Rattle.std.specs.Prelude.{Option}
use contract.Lifetimes.{Lfts}
use borrow.Fn.Kinds.{Dens, ended_of}
use denote.Triple.Clauses.{AtExit}
use Prim.Native.Nat.{ℕ}
use mathlib.Core.Path.{◌≡◌}
use Rattle.base.specs.PackLaws.{spells_one}
use Rattle.base.specs.Promise.{one_outcome}
use Rattle.names.specs.Back.{opcode_is_lem, video_is, set_type_is, type_is, six_is, cmp_is, bool_is, op2_is, selector_is}
use Rattle.names.proofs.video_number.Kinds as video-number-kinds
use Rattle.names.proofs.video_number.Reads as video-number
use Rattle.names.proofs.set_type_number.Kinds as set-type-number-kinds
use Rattle.names.proofs.set_type_number.Reads as set-type-number
use Rattle.names.proofs.type_number.Kinds as type-number-kinds
use Rattle.names.proofs.type_number.Reads as type-number
use Rattle.names.proofs.six_number.Kinds as six-number-kinds
use Rattle.names.proofs.six_number.Reads as six-number
use Rattle.names.proofs.cmp_number.Kinds as cmp-number-kinds
use Rattle.names.proofs.cmp_number.Reads as cmp-number
use Rattle.names.proofs.bool_number.Kinds as bool-number-kinds
use Rattle.names.proofs.bool_number.Reads as bool-number
use Rattle.names.proofs.op2_number.Kinds as op2-number-kinds
use Rattle.names.proofs.op2_number.Reads as op2-number
use Rattle.names.proofs.arith_number.Kinds as arith-number-kinds
use Rattle.names.proofs.arith_number.Reads as arith-number
use Rattle.names.proofs.lanes_number.Kinds as lanes-number-kinds
use Rattle.names.proofs.lanes_number.Reads as lanes-number
use Rattle.names.proofs.lane_arith_number.Kinds as lane-arith-number-kinds
use Rattle.names.proofs.lane_arith_number.Reads as lane-arith-number
use Rattle.names.proofs.selector_number.Kinds as selector-number-kinds
use Rattle.names.proofs.selector_number.Reads as selector-number
use Rattle.names.proofs.opcode_of.Kinds as opcode-of-kinds
use Rattle.names.proofs.opcode_of.Reads as opcode-of
use Rattle.names.proofs.video_of.Kinds as video-of-kinds
use Rattle.names.proofs.video_of.Reads as video-of
use Rattle.names.proofs.set_type_of.Kinds as set-type-of-kinds
use Rattle.names.proofs.set_type_of.Reads as set-type-of
use Rattle.names.proofs.type_of.Kinds as type-of-kinds
use Rattle.names.proofs.type_of.Reads as type-of
use Rattle.names.proofs.six_of.Kinds as six-of-kinds
use Rattle.names.proofs.six_of.Reads as six-of
use Rattle.names.proofs.cmp_of.Kinds as cmp-of-kinds
use Rattle.names.proofs.cmp_of.Reads as cmp-of
use Rattle.names.proofs.bool_of.Kinds as bool-of-kinds
use Rattle.names.proofs.bool_of.Reads as bool-of
use Rattle.names.proofs.op2_of.Kinds as op2-of-kinds
use Rattle.names.proofs.op2_of.Reads as op2-of
use Rattle.names.proofs.selector_of.Kinds as selector-of-kinds
use Rattle.names.proofs.selector_of.Reads as selector-of
use Rattle.names.specs.declared.Opcode.{Opcode}
use Rattle.record.specs.declared.BoolOp.{BoolOp}
use Rattle.record.specs.declared.Cmp6.{Cmp6}
use Rattle.record.specs.declared.CmpOp.{CmpOp}
use Rattle.record.specs.declared.DataType.{DataType}
use Rattle.record.specs.declared.Op2.{Op2}
use Rattle.record.specs.declared.Selector.{Selector}
use Rattle.record.specs.declared.SetType.{SetType}
use Rattle.record.specs.declared.VideoType.{VideoType}

-- ==== the number of a choice's name

pub video_number_one_outcome : (κs : Lfts 0) (a : Dens κs video-number-kinds.ps) (x y : ℕ) (s t : AtExit (ended_of 0 video-number-kinds.ps video-number-kinds.r) κs) → video-number.Post κs a x s → video-number.Post κs a y t → x ≡ y
video_number_one_outcome κs a x y s t p q = spells_one p q

pub set_type_number_one_outcome : (κs : Lfts 0) (a : Dens κs set-type-number-kinds.ps) (x y : ℕ) (s t : AtExit (ended_of 0 set-type-number-kinds.ps set-type-number-kinds.r) κs) → set-type-number.Post κs a x s → set-type-number.Post κs a y t → x ≡ y
set_type_number_one_outcome κs a x y s t p q = spells_one p q

pub type_number_one_outcome : (κs : Lfts 0) (a : Dens κs type-number-kinds.ps) (x y : ℕ) (s t : AtExit (ended_of 0 type-number-kinds.ps type-number-kinds.r) κs) → type-number.Post κs a x s → type-number.Post κs a y t → x ≡ y
type_number_one_outcome κs a x y s t p q = spells_one p q

pub six_number_one_outcome : (κs : Lfts 0) (a : Dens κs six-number-kinds.ps) (x y : ℕ) (s t : AtExit (ended_of 0 six-number-kinds.ps six-number-kinds.r) κs) → six-number.Post κs a x s → six-number.Post κs a y t → x ≡ y
six_number_one_outcome κs a x y s t p q = spells_one p q

pub cmp_number_one_outcome : (κs : Lfts 0) (a : Dens κs cmp-number-kinds.ps) (x y : ℕ) (s t : AtExit (ended_of 0 cmp-number-kinds.ps cmp-number-kinds.r) κs) → cmp-number.Post κs a x s → cmp-number.Post κs a y t → x ≡ y
cmp_number_one_outcome κs a x y s t p q = spells_one p q

pub bool_number_one_outcome : (κs : Lfts 0) (a : Dens κs bool-number-kinds.ps) (x y : ℕ) (s t : AtExit (ended_of 0 bool-number-kinds.ps bool-number-kinds.r) κs) → bool-number.Post κs a x s → bool-number.Post κs a y t → x ≡ y
bool_number_one_outcome κs a x y s t p q = spells_one p q

pub op2_number_one_outcome : (κs : Lfts 0) (a : Dens κs op2-number-kinds.ps) (x y : ℕ) (s t : AtExit (ended_of 0 op2-number-kinds.ps op2-number-kinds.r) κs) → op2-number.Post κs a x s → op2-number.Post κs a y t → x ≡ y
op2_number_one_outcome κs a x y s t p q = spells_one p q

pub arith_number_one_outcome : (κs : Lfts 0) (a : Dens κs arith-number-kinds.ps) (x y : ℕ) (s t : AtExit (ended_of 0 arith-number-kinds.ps arith-number-kinds.r) κs) → arith-number.Post κs a x s → arith-number.Post κs a y t → x ≡ y
arith_number_one_outcome κs a x y s t p q = spells_one p q

pub lanes_number_one_outcome : (κs : Lfts 0) (a : Dens κs lanes-number-kinds.ps) (x y : ℕ) (s t : AtExit (ended_of 0 lanes-number-kinds.ps lanes-number-kinds.r) κs) → lanes-number.Post κs a x s → lanes-number.Post κs a y t → x ≡ y
lanes_number_one_outcome κs a x y s t p q = spells_one p q

pub lane_arith_number_one_outcome : (κs : Lfts 0) (a : Dens κs lane-arith-number-kinds.ps) (x y : ℕ) (s t : AtExit (ended_of 0 lane-arith-number-kinds.ps lane-arith-number-kinds.r) κs) → lane-arith-number.Post κs a x s → lane-arith-number.Post κs a y t → x ≡ y
lane_arith_number_one_outcome κs a x y s t p q = spells_one p q

pub selector_number_one_outcome : (κs : Lfts 0) (a : Dens κs selector-number-kinds.ps) (x y : ℕ) (s t : AtExit (ended_of 0 selector-number-kinds.ps selector-number-kinds.r) κs) → selector-number.Post κs a x s → selector-number.Post κs a y t → x ≡ y
selector_number_one_outcome κs a x y s t p q = spells_one p q

-- ==== what a number's name stands for

pub opcode_of_one_outcome : (κs : Lfts 0) (a : Dens κs opcode-of-kinds.ps) (x y : Option Opcode) (s t : AtExit (ended_of 0 opcode-of-kinds.ps opcode-of-kinds.r) κs) → opcode-of.Post κs a x s → opcode-of.Post κs a y t → x ≡ y
opcode_of_one_outcome κs a x y s t p q = one_outcome (opcode_is_lem p) (opcode_is_lem q)

pub video_of_one_outcome : (κs : Lfts 0) (a : Dens κs video-of-kinds.ps) (x y : Option VideoType) (s t : AtExit (ended_of 0 video-of-kinds.ps video-of-kinds.r) κs) → video-of.Post κs a x s → video-of.Post κs a y t → x ≡ y
video_of_one_outcome κs a x y s t p q = one_outcome (video_is p) (video_is q)

pub set_type_of_one_outcome : (κs : Lfts 0) (a : Dens κs set-type-of-kinds.ps) (x y : Option SetType) (s t : AtExit (ended_of 0 set-type-of-kinds.ps set-type-of-kinds.r) κs) → set-type-of.Post κs a x s → set-type-of.Post κs a y t → x ≡ y
set_type_of_one_outcome κs a x y s t p q = one_outcome (set_type_is p) (set_type_is q)

pub type_of_one_outcome : (κs : Lfts 0) (a : Dens κs type-of-kinds.ps) (x y : Option DataType) (s t : AtExit (ended_of 0 type-of-kinds.ps type-of-kinds.r) κs) → type-of.Post κs a x s → type-of.Post κs a y t → x ≡ y
type_of_one_outcome κs a x y s t p q = one_outcome (type_is p) (type_is q)

pub six_of_one_outcome : (κs : Lfts 0) (a : Dens κs six-of-kinds.ps) (x y : Option Cmp6) (s t : AtExit (ended_of 0 six-of-kinds.ps six-of-kinds.r) κs) → six-of.Post κs a x s → six-of.Post κs a y t → x ≡ y
six_of_one_outcome κs a x y s t p q = one_outcome (six_is p) (six_is q)

pub cmp_of_one_outcome : (κs : Lfts 0) (a : Dens κs cmp-of-kinds.ps) (x y : Option CmpOp) (s t : AtExit (ended_of 0 cmp-of-kinds.ps cmp-of-kinds.r) κs) → cmp-of.Post κs a x s → cmp-of.Post κs a y t → x ≡ y
cmp_of_one_outcome κs a x y s t p q = one_outcome (cmp_is p) (cmp_is q)

pub bool_of_one_outcome : (κs : Lfts 0) (a : Dens κs bool-of-kinds.ps) (x y : Option BoolOp) (s t : AtExit (ended_of 0 bool-of-kinds.ps bool-of-kinds.r) κs) → bool-of.Post κs a x s → bool-of.Post κs a y t → x ≡ y
bool_of_one_outcome κs a x y s t p q = one_outcome (bool_is p) (bool_is q)

pub op2_of_one_outcome : (κs : Lfts 0) (a : Dens κs op2-of-kinds.ps) (x y : Option Op2) (s t : AtExit (ended_of 0 op2-of-kinds.ps op2-of-kinds.r) κs) → op2-of.Post κs a x s → op2-of.Post κs a y t → x ≡ y
op2_of_one_outcome κs a x y s t p q = one_outcome (op2_is p) (op2_is q)

pub selector_of_one_outcome : (κs : Lfts 0) (a : Dens κs selector-of-kinds.ps) (x y : Option Selector) (s t : AtExit (ended_of 0 selector-of-kinds.ps selector-of-kinds.r) κs) → selector-of.Post κs a x s → selector-of.Post κs a y t → x ≡ y
selector_of_one_outcome κs a x y s t p q = one_outcome (selector_is p) (selector_is q)
