-- Every list of names that begins a row is made a row by one of the endings that the code tries.
use Rattle.std.specs.Prelude.{ℕ, zero, suc, ◌≤◌, ◌≡◌, refl, Bool, true, false, not, ◌&&◌, ◌||◌, List, [], ◌∷◌, ◌++◌, length, take}
use Rattle.std.proofs.Common.{arith, ◌∙◌, append-nil, take_all}
use Rattle.signs.specs.Text.{bytes}
use Rattle.record.specs.Modifiers.{kind_of, cmp_fits, is_f32, instruction_modifiers_fit}
use Rattle.record.specs.declared.Arith.{Arith}
use Rattle.record.specs.declared.LaneArith.{LaneArith}
use Rattle.record.specs.declared.VideoType.{VideoType}
use Rattle.record.specs.declared.VideoType.TheVariants as video
use Rattle.record.specs.declared.SetType.{SetType}
use Rattle.record.specs.declared.SlctType.{SlctType}
use Rattle.record.specs.declared.SetType.TheVariants as set
use Rattle.record.specs.declared.SlctType.TheVariants as slct
use Rattle.record.specs.declared.DataType.{DataType}
use Rattle.record.specs.declared.DataType.TheVariants.{B16, B32, B64, U16, U32, U64, S16, S32, S64, F32, F64}
use Rattle.record.specs.declared.Cmp6.{Cmp6}
use Rattle.record.specs.declared.Cmp6.TheVariants.{Eq}
use Rattle.record.specs.declared.CmpOp.{CmpOp}
use Rattle.record.specs.declared.CmpOp.TheVariants.{Six, Unsigned, Float}
use Rattle.record.specs.declared.Form.{Form}
use Rattle.record.specs.declared.Form.TheVariants.{Plain, Merge, Combine}
use Rattle.record.specs.declared.Combination.{Combination}
use Rattle.record.specs.declared.Combination.TheVariants.{Alone, With}
use Rattle.record.specs.declared.Comparison.{Comparison}
use Rattle.record.specs.declared.Destination.TheVariants.{One}
use Rattle.record.specs.declared.LaneWidth.{LaneWidth}
use Rattle.record.specs.declared.Instruction.{Instruction}
use Rattle.record.specs.declared.Instruction.TheVariants.{Arithmetic, Vset, VsetLanes, ArithmeticLanes, Set, Setp, Selp, Slct}
use Rattle.rules.specs.Shape.{Name}
use Rattle.rules.specs.Names.{type_name, head_names}
use Rattle.rules.specs.Reading.{LegalNames}
use Rattle.begins.specs.Endings.{EndedBy, here, later}
use Rattle.tree.specs.Blank.{no_word, no_pred, no_operand, blank_choice}
use Rattle.heads.specs.Rows.{head_scalar, head_lanes}

-- the endings, in the order in which they are tried
abbrev pub endings : List (List Name)
endings =
    []
    ∷ (bytes "u32" ∷ [])
    ∷ (bytes "u32" ∷ bytes "u32" ∷ [])
    ∷ (bytes "u32" ∷ bytes "u32" ∷ bytes "u32" ∷ [])
    ∷ (bytes "u32" ∷ bytes "u32" ∷ bytes "eq" ∷ [])
    ∷ (bytes "u32" ∷ bytes "eq" ∷ [])
    ∷ (bytes "eq" ∷ [])
    ∷ (bytes "eq" ∷ bytes "u32" ∷ bytes "u32" ∷ [])
    ∷ (bytes "u32" ∷ bytes "f32" ∷ [])
    ∷ (bytes "f32" ∷ [])
    ∷ (bytes "eq" ∷ bytes "u32" ∷ [])
    ∷ []

legal : {ns : List Name} (i : Instruction) → ns ≡ head_names i → instruction_modifiers_fit i ≡ true → LegalNames ns
legal i e f = record { instruction = i; row = record { names = e; fit = f } }

-- one of them makes s a row
abbrev pub Ends : List Name → Type 0
Ends s = EndedBy LegalNames s endings

module _ {s : List Name} where
  e0 : LegalNames (s ++ []) → Ends s
  e0 x = here x

  e1 : LegalNames (s ++ bytes "u32" ∷ []) → Ends s
  e1 x = later (here x)

  e2 : LegalNames (s ++ bytes "u32" ∷ bytes "u32" ∷ []) → Ends s
  e2 x = later (later (here x))

  e3 : LegalNames (s ++ bytes "u32" ∷ bytes "u32" ∷ bytes "u32" ∷ []) → Ends s
  e3 x = later (later (later (here x)))

  e4 : LegalNames (s ++ bytes "u32" ∷ bytes "u32" ∷ bytes "eq" ∷ []) → Ends s
  e4 x = later (later (later (later (here x))))

  e5 : LegalNames (s ++ bytes "u32" ∷ bytes "eq" ∷ []) → Ends s
  e5 x = later (later (later (later (later (here x)))))

  e6 : LegalNames (s ++ bytes "eq" ∷ []) → Ends s
  e6 x = later (later (later (later (later (later (here x))))))

  e7 : LegalNames (s ++ bytes "eq" ∷ bytes "u32" ∷ bytes "u32" ∷ []) → Ends s
  e7 x = later (later (later (later (later (later (later (here x)))))))

  e8 : LegalNames (s ++ bytes "u32" ∷ bytes "f32" ∷ []) → Ends s
  e8 x = later (later (later (later (later (later (later (later (here x))))))))

  e9 : LegalNames (s ++ bytes "f32" ∷ []) → Ends s
  e9 x = later (later (later (later (later (later (later (later (later (here x)))))))))

  e10 : LegalNames (s ++ bytes "eq" ∷ bytes "u32" ∷ []) → Ends s
  e10 x = later (later (later (later (later (later (later (later (later (later (here x))))))))))

-- all of a row
all : (i : Instruction) (k : ℕ) → instruction_modifiers_fit i ≡ true → length (head_names i) ≤ k → Ends (take k (head_names i))
all i k f h = e0 (legal i (append-nil (take k (head_names i)) ∙ take_all k (head_names i) h) f)

-- ---- scalar arithmetic, vset, vset2, vset4

arithmetic_ends : (op : Arith) (d : VideoType) (sat : Bool) (a b : VideoType) (f : Form) (k : ℕ)
    → Ends (take (suc k) (head_names (Arithmetic op d sat (head_scalar a b f))))
arithmetic_ends op d sat a b f zero = e3 (legal (Arithmetic op video.U32 false (head_scalar video.U32 video.U32 (Plain no_word))) refl refl)
arithmetic_ends op d sat a b f (suc zero) = e2 (legal (Arithmetic op d false (head_scalar video.U32 video.U32 (Plain no_word))) refl refl)
arithmetic_ends op d sat a b f (suc (suc zero)) = e1 (legal (Arithmetic op d false (head_scalar a video.U32 (Plain no_word))) refl refl)
arithmetic_ends op d sat a b f (suc (suc (suc zero))) = e0 (legal (Arithmetic op d false (head_scalar a b (Plain no_word))) refl refl)
arithmetic_ends op d true a b f (suc (suc (suc (suc zero)))) = e0 (legal (Arithmetic op d true (head_scalar a b (Plain no_word))) refl refl)
arithmetic_ends op d true a b (Plain w) (suc (suc (suc (suc (suc k))))) = all (Arithmetic op d true (head_scalar a b (Plain w))) (suc (suc (suc (suc (suc (suc k)))))) refl (omega arith)
arithmetic_ends op d true a b (Merge w s c) (suc (suc (suc (suc (suc k))))) = all (Arithmetic op d true (head_scalar a b (Merge w s c))) (suc (suc (suc (suc (suc (suc k)))))) refl (omega arith)
arithmetic_ends op d true a b (Combine o w c) (suc (suc (suc (suc (suc k))))) = all (Arithmetic op d true (head_scalar a b (Combine o w c))) (suc (suc (suc (suc (suc (suc k)))))) refl (omega arith)
arithmetic_ends op d false a b (Plain w) (suc (suc (suc (suc k)))) = all (Arithmetic op d false (head_scalar a b (Plain w))) (suc (suc (suc (suc (suc k))))) refl (omega arith)
arithmetic_ends op d false a b (Merge w s c) (suc (suc (suc (suc k)))) = all (Arithmetic op d false (head_scalar a b (Merge w s c))) (suc (suc (suc (suc (suc k))))) refl (omega arith)
arithmetic_ends op d false a b (Combine o w c) (suc (suc (suc (suc k)))) = all (Arithmetic op d false (head_scalar a b (Combine o w c))) (suc (suc (suc (suc (suc k))))) refl (omega arith)

vset_ends : (c : Cmp6) (a b : VideoType) (f : Form) (k : ℕ) → Ends (take (suc k) (head_names (Vset c (head_scalar a b f))))
vset_ends c a b f zero = e4 (legal (Vset Eq (head_scalar video.U32 video.U32 (Plain no_word))) refl refl)
vset_ends c a b f (suc zero) = e5 (legal (Vset Eq (head_scalar a video.U32 (Plain no_word))) refl refl)
vset_ends c a b f (suc (suc zero)) = e6 (legal (Vset Eq (head_scalar a b (Plain no_word))) refl refl)
vset_ends c a b f (suc (suc (suc zero))) = e0 (legal (Vset c (head_scalar a b (Plain no_word))) refl refl)
vset_ends c a b (Plain w) (suc (suc (suc (suc k)))) = all (Vset c (head_scalar a b (Plain w))) (suc (suc (suc (suc (suc k))))) refl (omega arith)
vset_ends c a b (Merge w s e) (suc (suc (suc (suc k)))) = all (Vset c (head_scalar a b (Merge w s e))) (suc (suc (suc (suc (suc k))))) refl (omega arith)
vset_ends c a b (Combine o w e) (suc (suc (suc (suc k)))) = all (Vset c (head_scalar a b (Combine o w e))) (suc (suc (suc (suc (suc k))))) refl (omega arith)

lanes_ends : (c : Cmp6) (w : LaneWidth) (a b : VideoType) (add : Bool) (k : ℕ) → Ends (take (suc k) (head_names (VsetLanes c (head_lanes w a b add))))
lanes_ends c w a b add zero = e4 (legal (VsetLanes Eq (head_lanes w video.U32 video.U32 false)) refl refl)
lanes_ends c w a b add (suc zero) = e5 (legal (VsetLanes Eq (head_lanes w a video.U32 false)) refl refl)
lanes_ends c w a b add (suc (suc zero)) = e6 (legal (VsetLanes Eq (head_lanes w a b false)) refl refl)
lanes_ends c w a b add (suc (suc (suc zero))) = e0 (legal (VsetLanes c (head_lanes w a b false)) refl refl)
lanes_ends c w a b true (suc (suc (suc (suc k)))) = all (VsetLanes c (head_lanes w a b true)) (suc (suc (suc (suc (suc k))))) refl (omega arith)
lanes_ends c w a b false (suc (suc (suc (suc k)))) = all (VsetLanes c (head_lanes w a b false)) (suc (suc (suc (suc (suc k))))) refl (omega arith)

lane_arithmetic_ends : (op : LaneArith) (d : VideoType) (sat : Bool) (w : LaneWidth) (a b : VideoType) (add : Bool) (k : ℕ)
    → Ends (take (suc k) (head_names (ArithmeticLanes op d sat (head_lanes w a b add))))
lane_arithmetic_ends op d sat w a b add zero = e3 (legal (ArithmeticLanes op video.U32 false (head_lanes w video.U32 video.U32 false)) refl refl)
lane_arithmetic_ends op d sat w a b add (suc zero) = e2 (legal (ArithmeticLanes op d false (head_lanes w video.U32 video.U32 false)) refl refl)
lane_arithmetic_ends op d sat w a b add (suc (suc zero)) = e1 (legal (ArithmeticLanes op d false (head_lanes w a video.U32 false)) refl refl)
lane_arithmetic_ends op d sat w a b add (suc (suc (suc zero))) = e0 (legal (ArithmeticLanes op d false (head_lanes w a b false)) refl refl)
lane_arithmetic_ends op d true w a b add (suc (suc (suc (suc zero)))) = e0 (legal (ArithmeticLanes op d true (head_lanes w a b false)) refl refl)
lane_arithmetic_ends op d true w a b true (suc (suc (suc (suc (suc k))))) = all (ArithmeticLanes op d true (head_lanes w a b true)) (suc (suc (suc (suc (suc (suc k)))))) refl (omega arith)
lane_arithmetic_ends op d true w a b false (suc (suc (suc (suc (suc k))))) = all (ArithmeticLanes op d true (head_lanes w a b false)) (suc (suc (suc (suc (suc (suc k)))))) refl (omega arith)
lane_arithmetic_ends op d false w a b true (suc (suc (suc (suc k)))) = all (ArithmeticLanes op d false (head_lanes w a b true)) (suc (suc (suc (suc (suc k))))) refl (omega arith)
lane_arithmetic_ends op d false w a b false (suc (suc (suc (suc k)))) = all (ArithmeticLanes op d false (head_lanes w a b false)) (suc (suc (suc (suc (suc k))))) refl (omega arith)

-- ---- set, setp

abbrev tests : CmpOp → Combination → Bool → DataType → Comparison
tests c b ftz t = record { cmp = c; combination = b; ftz = ftz; stype = t; a = no_operand; b = no_operand }

-- a type that fits the comparison, without ftz
abbrev Fitting : CmpOp → Bool → DataType → Type 0
Fitting c ftz t = cmp_fits (kind_of t) c && (not ftz || is_f32 t) ≡ true

typed : (c : CmpOp) (s : List Name) → ((t : DataType) → Fitting c false t → LegalNames (s ++ type_name t ∷ [])) → Ends s
typed (Six c) s h = e1 (h U32 refl)
typed (Unsigned c) s h = e1 (h U32 refl)
typed (Float c) s h = e9 (h F32 refl)

both_typed : (c : CmpOp) (s : List Name) → ((t : DataType) → Fitting c false t → LegalNames (s ++ bytes "u32" ∷ type_name t ∷ [])) → Ends s
both_typed (Six c) s h = e2 (h U32 refl)
both_typed (Unsigned c) s h = e2 (h U32 refl)
both_typed (Float c) s h = e8 (h F32 refl)

-- ftz with f32 alone
not_both : {A : Type 0} (s : Bool) → s && false ≡ true → A
not_both true e = let z : ◌≡◌ {A = ℕ} 0 1 = cc in absurd (omega arith)
not_both false e = let z : ◌≡◌ {A = ℕ} 0 1 = cc in absurd (omega arith)

ftz_fits_lem : (c : CmpOp) (t : DataType) → Fitting c true t → Fitting c true F32
ftz_fits_lem c F32 e = e
ftz_fits_lem c B16 e = not_both (cmp_fits (kind_of B16) c) e
ftz_fits_lem c U16 e = not_both (cmp_fits (kind_of U16) c) e
ftz_fits_lem c S16 e = not_both (cmp_fits (kind_of S16) c) e
ftz_fits_lem c B32 e = not_both (cmp_fits (kind_of B32) c) e
ftz_fits_lem c B64 e = not_both (cmp_fits (kind_of B64) c) e
ftz_fits_lem c U32 e = not_both (cmp_fits (kind_of U32) c) e
ftz_fits_lem c U64 e = not_both (cmp_fits (kind_of U64) c) e
ftz_fits_lem c S32 e = not_both (cmp_fits (kind_of S32) c) e
ftz_fits_lem c S64 e = not_both (cmp_fits (kind_of S64) c) e
ftz_fits_lem c F64 e = not_both (cmp_fits (kind_of F64) c) e

set_ends : (d : SetType) (c : CmpOp) (b : Combination) (ftz : Bool) (t : DataType) → Fitting c ftz t → (k : ℕ) → Ends (take (suc k) (head_names (Set d no_word (tests c b ftz t))))
set_ends d c b ftz t f zero = e7 (legal (Set set.U32 no_word (tests (Six Eq) Alone false U32)) refl refl)
set_ends d c b ftz t f (suc zero) = both_typed c _ (λ u h. legal (Set set.U32 no_word (tests c Alone false u)) refl h)
set_ends d c Alone false t f (suc (suc zero)) = typed c _ (λ u h. legal (Set d no_word (tests c Alone false u)) refl h)
set_ends d c Alone false t f (suc (suc (suc k))) = all (Set d no_word (tests c Alone false t)) (suc (suc (suc (suc k)))) f (omega arith)
set_ends d c Alone true t f (suc (suc zero)) = e8 (legal (Set set.U32 no_word (tests c Alone true F32)) refl (ftz_fits_lem c t f))
set_ends d c Alone true t f (suc (suc (suc zero))) = e9 (legal (Set d no_word (tests c Alone true F32)) refl (ftz_fits_lem c t f))
set_ends d c Alone true t f (suc (suc (suc (suc k)))) = all (Set d no_word (tests c Alone true t)) (suc (suc (suc (suc (suc k))))) f (omega arith)
set_ends d c (With o e) ftz t f (suc (suc zero)) = both_typed c _ (λ u h. legal (Set set.U32 no_word (tests c (With o e) false u)) refl h)
set_ends d c (With o e) false t f (suc (suc (suc zero))) = typed c _ (λ u h. legal (Set d no_word (tests c (With o e) false u)) refl h)
set_ends d c (With o e) false t f (suc (suc (suc (suc k)))) = all (Set d no_word (tests c (With o e) false t)) (suc (suc (suc (suc (suc k))))) f (omega arith)
set_ends d c (With o e) true t f (suc (suc (suc zero))) = e8 (legal (Set set.U32 no_word (tests c (With o e) true F32)) refl (ftz_fits_lem c t f))
set_ends d c (With o e) true t f (suc (suc (suc (suc zero)))) = e9 (legal (Set d no_word (tests c (With o e) true F32)) refl (ftz_fits_lem c t f))
set_ends d c (With o e) true t f (suc (suc (suc (suc (suc k))))) = all (Set d no_word (tests c (With o e) true t)) (suc (suc (suc (suc (suc (suc k)))))) f (omega arith)

setp_ends : (c : CmpOp) (b : Combination) (ftz : Bool) (t : DataType) → Fitting c ftz t → (k : ℕ) → Ends (take (suc k) (head_names (Setp (One no_pred) (tests c b ftz t))))
setp_ends c b ftz t f zero = e10 (legal (Setp (One no_pred) (tests (Six Eq) Alone false U32)) refl refl)
setp_ends c b ftz t f (suc zero) = typed c _ (λ u h. legal (Setp (One no_pred) (tests c Alone false u)) refl h)
setp_ends c Alone false t f (suc (suc k)) = all (Setp (One no_pred) (tests c Alone false t)) (suc (suc (suc k))) f (omega arith)
setp_ends c Alone true t f (suc (suc zero)) = e9 (legal (Setp (One no_pred) (tests c Alone true F32)) refl (ftz_fits_lem c t f))
setp_ends c Alone true t f (suc (suc (suc k))) = all (Setp (One no_pred) (tests c Alone true t)) (suc (suc (suc (suc k)))) f (omega arith)
setp_ends c (With o e) ftz t f (suc (suc zero)) = typed c _ (λ u h. legal (Setp (One no_pred) (tests c (With o e) false u)) refl h)
setp_ends c (With o e) false t f (suc (suc (suc k))) = all (Setp (One no_pred) (tests c (With o e) false t)) (suc (suc (suc (suc k)))) f (omega arith)
setp_ends c (With o e) true t f (suc (suc (suc zero))) = e9 (legal (Setp (One no_pred) (tests c (With o e) true F32)) refl (ftz_fits_lem c t f))
setp_ends c (With o e) true t f (suc (suc (suc (suc k)))) = all (Setp (One no_pred) (tests c (With o e) true t)) (suc (suc (suc (suc (suc k))))) f (omega arith)

-- ---- selp, slct

selp_ends : (t : DataType) (k : ℕ) → Ends (take (suc k) (head_names (Selp (blank_choice t) no_pred)))
selp_ends t zero = e1 (legal (Selp (blank_choice U32) no_pred) refl refl)
selp_ends t (suc k) = all (Selp (blank_choice t) no_pred) (suc (suc k)) refl (omega arith)

slct_ends : (c : SlctType) (t : DataType) (k : ℕ) → Ends (take (suc k) (head_names (Slct c (blank_choice t) no_word)))
slct_ends slct.S32 t zero = e8 (legal (Slct (slct.F32 false) (blank_choice U32) no_word) refl refl)
slct_ends slct.S32 t (suc zero) = e9 (legal (Slct (slct.F32 false) (blank_choice t) no_word) refl refl)
slct_ends slct.S32 t (suc (suc k)) = all (Slct slct.S32 (blank_choice t) no_word) (suc (suc (suc k))) refl (omega arith)
slct_ends (slct.F32 ftz) t zero = e8 (legal (Slct (slct.F32 false) (blank_choice U32) no_word) refl refl)
slct_ends (slct.F32 false) t (suc zero) = e9 (legal (Slct (slct.F32 false) (blank_choice t) no_word) refl refl)
slct_ends (slct.F32 false) t (suc (suc k)) = all (Slct (slct.F32 false) (blank_choice t) no_word) (suc (suc (suc k))) refl (omega arith)
slct_ends (slct.F32 true) t (suc zero) = e8 (legal (Slct (slct.F32 true) (blank_choice U32) no_word) refl refl)
slct_ends (slct.F32 true) t (suc (suc zero)) = e9 (legal (Slct (slct.F32 true) (blank_choice t) no_word) refl refl)
slct_ends (slct.F32 true) t (suc (suc (suc k))) = all (Slct (slct.F32 true) (blank_choice t) no_word) (suc (suc (suc (suc k)))) refl (omega arith)

-- ---- the table

pub row_ends : (i : Instruction) → instruction_modifiers_fit i ≡ true → (k : ℕ) → Ends (take (suc k) (head_names i))
row_ends (Arithmetic op d sat s) f k = arithmetic_ends op d sat s.atype s.btype s.form k
row_ends (Vset c s) f k = vset_ends c s.atype s.btype s.form k
row_ends (VsetLanes c l) f k = lanes_ends c l.width l.atype l.btype l.add k
row_ends (ArithmeticLanes op d sat l) f k = lane_arithmetic_ends op d sat l.width l.atype l.btype l.add k
row_ends (Set d w s) f k = set_ends d s.cmp s.combination s.ftz s.stype f k
row_ends (Setp d s) f k = setp_ends s.cmp s.combination s.ftz s.stype f k
row_ends (Selp s c) f k = selp_ends s.dtype k
row_ends (Slct slct.S32 s c) f k = slct_ends slct.S32 s.dtype k
row_ends (Slct (slct.F32 ftz) s c) f k = slct_ends (slct.F32 ftz) s.dtype k
