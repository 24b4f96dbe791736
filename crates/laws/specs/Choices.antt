-- The values of each choice in the documents as a list: a law of every name is then one computed test over it (`each`). Assumes nothing.
use Rattle.std.specs.Prelude.{ℕ, refl, [], ◌∷◌}
use Rattle.base.specs.Values.{Values, StandsAt}
use Rattle.record.specs.declared.VideoType.{VideoType}
use Rattle.record.specs.declared.SetType.{SetType}
use Rattle.record.specs.declared.DataType.{DataType}
use Rattle.record.specs.declared.DataType.TheVariants.{B16, B32, B64, U16, U32, U64, S16, S32, S64, F32, F64}
use Rattle.record.specs.declared.Cmp6.{Cmp6}
use Rattle.record.specs.declared.Cmp6.TheVariants.{Eq, Ne, Lt, Le, Gt, Ge}
use Rattle.record.specs.declared.CmpU.TheVariants.{Lo, Ls, Hi, Hs}
use Rattle.record.specs.declared.CmpF.TheVariants.{Equ, Neu, Ltu, Leu, Gtu, Geu, Num, Nan}
use Rattle.record.specs.declared.CmpOp.{CmpOp}
use Rattle.record.specs.declared.BoolOp.{BoolOp}
use Rattle.record.specs.declared.BoolOp.TheVariants.{And, Or, Xor}
use Rattle.record.specs.declared.Op2.{Op2}
use Rattle.record.specs.declared.Op2.TheVariants.{Add, Min, Max}
use Rattle.record.specs.declared.Arith.{Arith}
use Rattle.record.specs.declared.Arith.TheVariants.{Vadd, Vsub, Vabsdiff, Vmin, Vmax}
use Rattle.record.specs.declared.LaneArith.{LaneArith}
use Rattle.record.specs.declared.LaneWidth.{LaneWidth}
use Rattle.record.specs.declared.LaneWidth.TheVariants.{Half, Byte}
use Rattle.record.specs.declared.Selector.{Selector}
use Rattle.record.specs.declared.Selector.TheVariants.{B0, B1, B2, B3, H0, H1}

-- T is u32 or s32
abbrev pub video_types : Values VideoType
video_types = record { list = VideoType.U32 ∷ VideoType.S32 ∷ []; listed = place }
  where
    place : (t : VideoType) → (i : ℕ) × StandsAt i (VideoType.U32 ∷ VideoType.S32 ∷ []) t
    place VideoType.U32 = (0, refl)
    place VideoType.S32 = (1, refl)

-- set's dtype
abbrev pub set_types : Values SetType
set_types = record { list = SetType.U32 ∷ SetType.S32 ∷ SetType.F32 ∷ []; listed = place }
  where
    place : (t : SetType) → (i : ℕ) × StandsAt i (SetType.U32 ∷ SetType.S32 ∷ SetType.F32 ∷ []) t
    place SetType.U32 = (0, refl)
    place SetType.S32 = (1, refl)
    place SetType.F32 = (2, refl)

-- stype, selp's type, slct's dtype
abbrev pub types : Values DataType
types = record { list = B16 ∷ B32 ∷ B64 ∷ U16 ∷ U32 ∷ U64 ∷ S16 ∷ S32 ∷ S64 ∷ F32 ∷ F64 ∷ []; listed = place }
  where
    place : (t : DataType) → (i : ℕ) × StandsAt i (B16 ∷ B32 ∷ B64 ∷ U16 ∷ U32 ∷ U64 ∷ S16 ∷ S32 ∷ S64 ∷ F32 ∷ F64 ∷ []) t
    place B16 = (0, refl)
    place B32 = (1, refl)
    place B64 = (2, refl)
    place U16 = (3, refl)
    place U32 = (4, refl)
    place U64 = (5, refl)
    place S16 = (6, refl)
    place S32 = (7, refl)
    place S64 = (8, refl)
    place F32 = (9, refl)
    place F64 = (10, refl)

-- CMP6
abbrev pub sixes : Values Cmp6
sixes = record { list = Eq ∷ Ne ∷ Lt ∷ Le ∷ Gt ∷ Ge ∷ []; listed = place }
  where
    place : (t : Cmp6) → (i : ℕ) × StandsAt i (Eq ∷ Ne ∷ Lt ∷ Le ∷ Gt ∷ Ge ∷ []) t
    place Eq = (0, refl)
    place Ne = (1, refl)
    place Lt = (2, refl)
    place Le = (3, refl)
    place Gt = (4, refl)
    place Ge = (5, refl)

-- CmpOp
abbrev pub cmps : Values CmpOp
cmps = record { list = (CmpOp.Six Eq) ∷ (CmpOp.Six Ne) ∷ (CmpOp.Six Lt) ∷ (CmpOp.Six Le) ∷ (CmpOp.Six Gt) ∷ (CmpOp.Six Ge) ∷ (CmpOp.Unsigned Lo) ∷ (CmpOp.Unsigned Ls) ∷ (CmpOp.Unsigned Hi) ∷ (CmpOp.Unsigned Hs) ∷ (CmpOp.Float Equ) ∷ (CmpOp.Float Neu) ∷ (CmpOp.Float Ltu) ∷ (CmpOp.Float Leu) ∷ (CmpOp.Float Gtu) ∷ (CmpOp.Float Geu) ∷ (CmpOp.Float Num) ∷ (CmpOp.Float Nan) ∷ []; listed = place }
  where
    place : (t : CmpOp) → (i : ℕ) × StandsAt i ((CmpOp.Six Eq) ∷ (CmpOp.Six Ne) ∷ (CmpOp.Six Lt) ∷ (CmpOp.Six Le) ∷ (CmpOp.Six Gt) ∷ (CmpOp.Six Ge) ∷ (CmpOp.Unsigned Lo) ∷ (CmpOp.Unsigned Ls) ∷ (CmpOp.Unsigned Hi) ∷ (CmpOp.Unsigned Hs) ∷ (CmpOp.Float Equ) ∷ (CmpOp.Float Neu) ∷ (CmpOp.Float Ltu) ∷ (CmpOp.Float Leu) ∷ (CmpOp.Float Gtu) ∷ (CmpOp.Float Geu) ∷ (CmpOp.Float Num) ∷ (CmpOp.Float Nan) ∷ []) t
    place (CmpOp.Six Eq) = (0, refl)
    place (CmpOp.Six Ne) = (1, refl)
    place (CmpOp.Six Lt) = (2, refl)
    place (CmpOp.Six Le) = (3, refl)
    place (CmpOp.Six Gt) = (4, refl)
    place (CmpOp.Six Ge) = (5, refl)
    place (CmpOp.Unsigned Lo) = (6, refl)
    place (CmpOp.Unsigned Ls) = (7, refl)
    place (CmpOp.Unsigned Hi) = (8, refl)
    place (CmpOp.Unsigned Hs) = (9, refl)
    place (CmpOp.Float Equ) = (10, refl)
    place (CmpOp.Float Neu) = (11, refl)
    place (CmpOp.Float Ltu) = (12, refl)
    place (CmpOp.Float Leu) = (13, refl)
    place (CmpOp.Float Gtu) = (14, refl)
    place (CmpOp.Float Geu) = (15, refl)
    place (CmpOp.Float Num) = (16, refl)
    place (CmpOp.Float Nan) = (17, refl)

-- BoolOp
abbrev pub bool_ops : Values BoolOp
bool_ops = record { list = And ∷ Or ∷ Xor ∷ []; listed = place }
  where
    place : (t : BoolOp) → (i : ℕ) × StandsAt i (And ∷ Or ∷ Xor ∷ []) t
    place And = (0, refl)
    place Or = (1, refl)
    place Xor = (2, refl)

-- OP2
abbrev pub op2s : Values Op2
op2s = record { list = Add ∷ Min ∷ Max ∷ []; listed = place }
  where
    place : (t : Op2) → (i : ℕ) × StandsAt i (Add ∷ Min ∷ Max ∷ []) t
    place Add = (0, refl)
    place Min = (1, refl)
    place Max = (2, refl)

-- scalar arithmetic
abbrev pub ariths : Values Arith
ariths = record { list = Vadd ∷ Vsub ∷ Vabsdiff ∷ Vmin ∷ Vmax ∷ []; listed = place }
  where
    place : (t : Arith) → (i : ℕ) × StandsAt i (Vadd ∷ Vsub ∷ Vabsdiff ∷ Vmin ∷ Vmax ∷ []) t
    place Vadd = (0, refl)
    place Vsub = (1, refl)
    place Vabsdiff = (2, refl)
    place Vmin = (3, refl)
    place Vmax = (4, refl)

-- the operations of T-01, lane by lane
abbrev pub lane_ariths : Values LaneArith
lane_ariths = record { list = LaneArith.Scalar Vadd ∷ LaneArith.Scalar Vsub ∷ LaneArith.Vavrg ∷ LaneArith.Scalar Vabsdiff ∷ LaneArith.Scalar Vmin ∷ LaneArith.Scalar Vmax ∷ []; listed = place }
  where
    place : (t : LaneArith) → (i : ℕ) × StandsAt i (LaneArith.Scalar Vadd ∷ LaneArith.Scalar Vsub ∷ LaneArith.Vavrg ∷ LaneArith.Scalar Vabsdiff ∷ LaneArith.Scalar Vmin ∷ LaneArith.Scalar Vmax ∷ []) t
    place (LaneArith.Scalar Vadd) = (0, refl)
    place (LaneArith.Scalar Vsub) = (1, refl)
    place LaneArith.Vavrg = (2, refl)
    place (LaneArith.Scalar Vabsdiff) = (3, refl)
    place (LaneArith.Scalar Vmin) = (4, refl)
    place (LaneArith.Scalar Vmax) = (5, refl)

-- the forms with 2 and with 4
abbrev pub widths : Values LaneWidth
widths = record { list = Half ∷ Byte ∷ []; listed = place }
  where
    place : (t : LaneWidth) → (i : ℕ) × StandsAt i (Half ∷ Byte ∷ []) t
    place Half = (0, refl)
    place Byte = (1, refl)

-- the selectors of scalar video
abbrev pub selectors : Values Selector
selectors = record { list = B0 ∷ B1 ∷ B2 ∷ B3 ∷ H0 ∷ H1 ∷ []; listed = place }
  where
    place : (t : Selector) → (i : ℕ) × StandsAt i (B0 ∷ B1 ∷ B2 ∷ B3 ∷ H0 ∷ H1 ∷ []) t
    place B0 = (0, refl)
    place B1 = (1, refl)
    place B2 = (2, refl)
    place B3 = (3, refl)
    place H0 = (4, refl)
    place H1 = (5, refl)
