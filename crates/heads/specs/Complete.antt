-- The names of every instruction's row are read, as that instruction with its operands blank.
use Rattle.std.specs.Prelude.{ℕ, ◌+◌, ◌≡◌, refl, Bool, true, false, List, [], ◌∷◌, ◌++◌, Ok, Some, Err}
use Rattle.std.proofs.Common.{arith, sym, ap, ◌∙◌}
use Rattle.base.specs.Pack.{code_of}
use Rattle.signs.specs.Text.{bytes}
use Rattle.base.specs.PackLaws.{short_code}
use Rattle.record.specs.Modifiers.{instruction_modifiers_fit}
use Rattle.record.specs.declared.VideoType.{VideoType}
use Rattle.record.specs.declared.SetType.{SetType}
use Rattle.record.specs.declared.SlctType.{SlctType}
use Rattle.record.specs.declared.DataType.{DataType}
use Rattle.record.specs.declared.CmpOp.{CmpOp}
use Rattle.record.specs.declared.Cmp6.{Cmp6}
use Rattle.record.specs.declared.Arith.{Arith}
use Rattle.record.specs.declared.LaneArith.{LaneArith}
use Rattle.record.specs.declared.LaneWidth.{LaneWidth}
use Rattle.record.specs.declared.Form.{Form}
use Rattle.record.specs.declared.Form.TheVariants.{Plain, Merge, Combine}
use Rattle.record.specs.declared.Combination.{Combination}
use Rattle.record.specs.declared.Combination.TheVariants.{Alone, With}
use Rattle.record.specs.declared.Destination.TheVariants.{One}
use Rattle.record.specs.declared.Instruction.{Instruction}
use Rattle.record.specs.declared.Instruction.TheVariants.{Arithmetic, Vset, VsetLanes, ArithmeticLanes, Set, Setp, Selp, Slct}
use Rattle.rules.specs.Shape.{Name}
use Rattle.rules.specs.Names.{video_type_name, set_type_name, type_name, six_name, cmp_name, arith_name, lanes_name, lane_arith_name, braced, form_op2, combination_names, head_names}
use Rattle.tree.specs.Seen.{seen_head}
use Rattle.tree.specs.Blank.{no_word, no_pred, blank_form, blank_combination, blank_choice, blank}
use Rattle.tree.specs.declared.Head.{Head}
use Rattle.names.specs.declared.Opcode.{Opcode}
use Rattle.heads.specs.declared.Test.{Test}
use Rattle.heads.specs.declared.HeadError.{HeadError}
use Rattle.heads.specs.Tables.{slct_type_of}
use Rattle.heads.specs.Rows.{name_at, past, whole_of, head_scalar, head_lanes, head_comparison, sides_by, sides_at, compared_by, head_compared, ending_by, ending_at, typed_by, typed_of, arithmetic_by, arithmetic_typed, arithmetic_row, vset_by, vset_row, vset_lanes_by, vset_lanes_row, lane_arithmetic_by, lane_arithmetic_typed, lane_arithmetic_row, test_at, tested_by, tested_of, set_by, set_at, set_tested, set_row, setp_by, setp_at, setp_tested, setp_row, selp_by, selp_row, slct_by, slct_at, slct_row, read_of, found_of, row_by, row_of}
use Rattle.names.specs.Back.{opcode_name, opcode_complete, video_complete, set_type_complete, type_complete, six_complete, cmp_complete, bool_complete, op2_complete}
use Rattle.heads.specs.NameLaws.{op2_none, op2_sat, Skips, type_skips, set_type_skips, ftz_bool}
use Rattle.heads.specs.Rows.{compared_are}
use Rattle.heads.specs.Rows.{sides_are}

-- ==== scalar arithmetic, vset, and the forms with 2 and 4

sides_complete : (h : Head) (i : ℕ) (a b : VideoType) → name_at h i ≡ code_of (video_type_name a) → name_at h (i + 1) ≡ code_of (video_type_name b) → sides_at h i ≡ sides_are a b
unfolding sides_at sides_by
sides_complete h i a b p q = rw (p, q, video_complete a, video_complete b)

compared_complete : (op : Name) (a b : VideoType) (c : Cmp6) (ns : List Name)
    → head_compared (seen_head (op ∷ video_type_name a ∷ video_type_name b ∷ six_name c ∷ ns)) ≡ compared_are a b c
unfolding head_compared compared_by name_at seen_head
compared_complete op a b c ns = rw (sides_complete (seen_head (op ∷ video_type_name a ∷ video_type_name b ∷ six_name c ∷ ns)) 1 a b refl refl, six_complete c)

vset_complete : (c : Cmp6) (a b : VideoType) (f : Form)
    → vset_row (seen_head (bytes "vset" ∷ video_type_name a ∷ video_type_name b ∷ six_name c ∷ form_op2 f)) ≡ Ok (Vset c (head_scalar a b (blank_form f)))
unfolding vset_row vset_by ending_at ending_by whole_of name_at seen_head
vset_complete c a b (Plain d) = rw (compared_complete (bytes "vset") a b c [], op2_none)
vset_complete c a b (Merge d sel e) = rw (compared_complete (bytes "vset") a b c [], op2_none)
vset_complete c a b (Combine op d e) = rw (compared_complete (bytes "vset") a b c (form_op2 (Combine op d e)), op2_complete op)

lanes_complete : (c : Cmp6) (w : LaneWidth) (a b : VideoType) (add : Bool)
    → vset_lanes_row w (seen_head (lanes_name w ∷ video_type_name a ∷ video_type_name b ∷ six_name c ∷ braced add (bytes "add"))) ≡ Ok (VsetLanes c (head_lanes w a b add))
unfolding vset_lanes_row vset_lanes_by whole_of name_at seen_head code_of
lanes_complete c w a b true = rw (compared_complete (lanes_name w) a b c (bytes "add" ∷ []))
lanes_complete c w a b false = rw (compared_complete (lanes_name w) a b c [])

arithmetic_complete : (op : Arith) (d a b : VideoType) (sat : Bool) (f : Form)
    → arithmetic_row op (seen_head (arith_name op ∷ video_type_name d ∷ video_type_name a ∷ video_type_name b ∷ (braced sat (bytes "sat") ++ form_op2 f)))
    ≡ Ok (Arithmetic op d sat (head_scalar a b (blank_form f)))
unfolding arithmetic_row arithmetic_typed arithmetic_by typed_of typed_by sides_at sides_by ending_at ending_by whole_of name_at seen_head
arithmetic_complete op d a b true (Plain e) = rw (short_code (bytes "sat") refl, video_complete d, video_complete a, video_complete b, op2_none)
arithmetic_complete op d a b true (Merge e sel g) = rw (short_code (bytes "sat") refl, video_complete d, video_complete a, video_complete b, op2_none)
arithmetic_complete op d a b true (Combine o e g) = rw (short_code (bytes "sat") refl, video_complete d, video_complete a, video_complete b, op2_complete o)
arithmetic_complete op d a b false (Plain e) = rw (video_complete d, video_complete a, video_complete b, op2_none)
arithmetic_complete op d a b false (Merge e sel g) = rw (video_complete d, video_complete a, video_complete b, op2_none)
arithmetic_complete op d a b false (Combine o e g) = rw (op2_sat o, video_complete d, video_complete a, video_complete b, op2_complete o)

lane_arithmetic_complete : (op : LaneArith) (w : LaneWidth) (d a b : VideoType) (sat add : Bool)
    → lane_arithmetic_row op w
    (seen_head (lane_arith_name op w ∷ video_type_name d ∷ video_type_name a ∷ video_type_name b ∷ (braced sat (bytes "sat") ++ braced add (bytes "add"))))
    ≡ Ok (ArithmeticLanes op d sat (head_lanes w a b add))
unfolding lane_arithmetic_row lane_arithmetic_typed lane_arithmetic_by typed_of typed_by sides_at sides_by whole_of name_at seen_head code_of
lane_arithmetic_complete op w d a b true true = rw (video_complete d, video_complete a, video_complete b)
lane_arithmetic_complete op w d a b true false = rw (video_complete d, video_complete a, video_complete b)
lane_arithmetic_complete op w d a b false true = rw (video_complete d, video_complete a, video_complete b)
lane_arithmetic_complete op w d a b false false = rw (video_complete d, video_complete a, video_complete b)

-- ==== set, setp

abbrev next_of : Combination → Bool → ℕ
next_of Alone ftz = past ftz 2
next_of (With op c) ftz = past ftz 3

abbrev test_of : CmpOp → Combination → Bool → Test
test_of c b ftz = record { cmp = c; combination = blank_combination b; ftz = ftz; next = next_of b ftz }

-- CmpOp {BoolOp} {ftz}, and a name that is neither
tested_complete : (op : Name) (c : CmpOp) (b : Combination) (ftz : Bool) (w : Name) (ns : List Name) → Skips w
    → tested_of (seen_head (op ∷ cmp_name c ∷ (combination_names b ++ braced ftz (bytes "ftz") ++ w ∷ ns))) ≡ Some (test_of c b ftz)
unfolding tested_of tested_by test_at name_at seen_head
tested_complete op c Alone true w ns h = rw (short_code (bytes "ftz") refl, cmp_complete c, ftz_bool)
tested_complete op c Alone false w ns h = rw (cmp_complete c, h.bool, h.ftz)
tested_complete op c (With o e) true w ns h = rw (short_code (bytes "ftz") refl, cmp_complete c, bool_complete o)
tested_complete op c (With o e) false w ns h = rw (cmp_complete c, bool_complete o, h.ftz)

set_at_complete : (d : SetType) (c : CmpOp) (b : Combination) (ftz : Bool) (s : DataType)
    → set_at (seen_head (bytes "set" ∷ cmp_name c ∷ (combination_names b ++ braced ftz (bytes "ftz") ++ set_type_name d ∷ type_name s ∷ []))) (test_of c b ftz)
    ≡ Ok (Set d no_word (head_comparison (test_of c b ftz) s))
unfolding set_at set_by whole_of name_at seen_head
set_at_complete d c Alone true s = rw (set_type_complete d, type_complete s)
set_at_complete d c Alone false s = rw (set_type_complete d, type_complete s)
set_at_complete d c (With o e) true s = rw (set_type_complete d, type_complete s)
set_at_complete d c (With o e) false s = rw (set_type_complete d, type_complete s)

set_complete : (d : SetType) (c : CmpOp) (b : Combination) (ftz : Bool) (s : DataType)
    → set_row (seen_head (bytes "set" ∷ cmp_name c ∷ (combination_names b ++ braced ftz (bytes "ftz") ++ set_type_name d ∷ type_name s ∷ [])))
    ≡ Ok (Set d no_word (head_comparison (test_of c b ftz) s))
unfolding set_row set_tested
set_complete d c b ftz s = rw (tested_complete (bytes "set") c b ftz (set_type_name d) (type_name s ∷ []) (set_type_skips d)) (set_at_complete d c b ftz s)

setp_at_complete : (c : CmpOp) (b : Combination) (ftz : Bool) (s : DataType)
    → setp_at (seen_head (bytes "setp" ∷ cmp_name c ∷ (combination_names b ++ braced ftz (bytes "ftz") ++ type_name s ∷ []))) (test_of c b ftz)
    ≡ Ok (Setp (One no_pred) (head_comparison (test_of c b ftz) s))
unfolding setp_at setp_by whole_of name_at seen_head
setp_at_complete c Alone true s = rw (type_complete s)
setp_at_complete c Alone false s = rw (type_complete s)
setp_at_complete c (With o e) true s = rw (type_complete s)
setp_at_complete c (With o e) false s = rw (type_complete s)

setp_complete : (c : CmpOp) (b : Combination) (ftz : Bool) (s : DataType)
    → setp_row (seen_head (bytes "setp" ∷ cmp_name c ∷ (combination_names b ++ braced ftz (bytes "ftz") ++ type_name s ∷ [])))
    ≡ Ok (Setp (One no_pred) (head_comparison (test_of c b ftz) s))
unfolding setp_row setp_tested
setp_complete c b ftz s = rw (tested_complete (bytes "setp") c b ftz (type_name s) [] (type_skips s)) (setp_at_complete c b ftz s)

-- ==== selp, slct

selp_complete : (t : DataType) → selp_row (seen_head (bytes "selp" ∷ type_name t ∷ [])) ≡ Ok (Selp (blank_choice t) no_pred)
unfolding selp_row selp_by whole_of name_at seen_head
selp_complete t = rw (type_complete t)

slct_s32 : (t : DataType) → slct_row (seen_head (bytes "slct" ∷ type_name t ∷ bytes "s32" ∷ [])) ≡ Ok (Slct SlctType.S32 (blank_choice t) no_word)
unfolding slct_row slct_at slct_by slct_type_of whole_of name_at seen_head
slct_s32 t = rw ((type_skips t).ftz, short_code (bytes "s32") refl, type_complete t)

slct_f32 : (ftz : Bool) (t : DataType)
    → slct_row (seen_head (bytes "slct" ∷ (braced ftz (bytes "ftz") ++ type_name t ∷ bytes "f32" ∷ []))) ≡ Ok (Slct (SlctType.F32 ftz) (blank_choice t) no_word)
unfolding slct_row slct_at slct_by slct_type_of whole_of name_at seen_head
slct_f32 true t = rw (short_code (bytes "ftz") refl, short_code (bytes "f32") refl, type_complete t)
slct_f32 false t = rw ((type_skips t).ftz, short_code (bytes "f32") refl, type_complete t)

-- ==== the table

read_complete : (op : Opcode) (ns : List Name) (i : Instruction) → read_of op (seen_head (opcode_name op ∷ ns)) ≡ Ok i → row_of (seen_head (opcode_name op ∷ ns)) ≡ Ok i
unfolding row_of row_by found_of name_at seen_head
read_complete op ns i e = rw (opcode_complete op, e)

pub row_complete : (i : Instruction) → row_of (seen_head (head_names i)) ≡ Ok (blank i)
unfolding read_of
row_complete (Arithmetic op d sat s) = read_complete (Opcode.Scalar op) _ _ (arithmetic_complete op d s.atype s.btype sat s.form)
row_complete (Vset c s) = read_complete Opcode.Vset _ _ (vset_complete c s.atype s.btype s.form)
row_complete (VsetLanes c l) = read_complete (Opcode.Lanes l.width) _ _ (lanes_complete c l.width l.atype l.btype l.add)
row_complete (ArithmeticLanes op d sat l) =
    read_complete (Opcode.LaneArithmetic op l.width) _ _ (lane_arithmetic_complete op l.width d l.atype l.btype sat l.add)
row_complete (Set d w s) = read_complete Opcode.Set _ _ (set_complete d s.cmp s.combination s.ftz s.stype)
row_complete (Setp d s) = read_complete Opcode.Setp _ _ (setp_complete s.cmp s.combination s.ftz s.stype)
row_complete (Selp s c) = read_complete Opcode.Selp _ _ (selp_complete s.dtype)
row_complete (Slct SlctType.S32 s c) = read_complete Opcode.Slct _ _ (slct_s32 s.dtype)
row_complete (Slct (SlctType.F32 ftz) s c) = read_complete Opcode.Slct _ _ (slct_f32 ftz s.dtype)

-- ==== what follows for refusal 4

-- instructions of one row differ in their operands alone
pub same_row : (i j : Instruction) → head_names i ≡ head_names j → blank i ≡ blank j
same_row i j e =
    let z : Ok (blank i) ≡ Ok (blank j) = sym (row_complete i) ∙ ap (λ (ns : List Name). row_of (seen_head ns)) e ∙ row_complete j in
    cc

-- a head with a wrong name is no row
pub wrong_no_row : (ns : List Name) (k : ℕ) → row_of (seen_head ns) ≡ Err (HeadError.Wrong k) → (i : Instruction) → ns ≡ head_names i → ⊥
wrong_no_row ns k e i h =
    let z : Err (HeadError.Wrong k) ≡ Ok (blank i) = sym e ∙ ap (λ (l : List Name). row_of (seen_head l)) h ∙ row_complete i in
    let o : ◌≡◌ {A = ℕ} 0 1 = cc in
    omega arith

-- whether the modifiers fit is known from the row
pub fit_blank : (i : Instruction) → instruction_modifiers_fit (blank i) ≡ instruction_modifiers_fit i
fit_blank (Arithmetic op d sat s) = refl
fit_blank (Vset c s) = refl
fit_blank (VsetLanes c l) = refl
fit_blank (ArithmeticLanes op d sat l) = refl
fit_blank (Set d w s) = refl
fit_blank (Setp d s) = refl
fit_blank (Selp s c) = refl
fit_blank (Slct t s c) = refl

-- the operands of a head that was left blank do not count
form_op2_lem : (f : Form) → form_op2 (blank_form f) ≡ form_op2 f
form_op2_lem (Plain d) = refl
form_op2_lem (Merge d sel c) = refl
form_op2_lem (Combine op d c) = refl

combination_names_lem : (c : Combination) → combination_names (blank_combination c) ≡ combination_names c
combination_names_lem Alone = refl
combination_names_lem (With op c) = refl

pub blank_names : (i : Instruction) → head_names (blank i) ≡ head_names i
blank_names (Arithmetic op dtype sat s) = rw (form_op2_lem s.form)
blank_names (Vset cmp s) = rw (form_op2_lem s.form)
blank_names (VsetLanes cmp l) = refl
blank_names (ArithmeticLanes op dtype sat l) = refl
blank_names (Set dtype d s) = rw (combination_names_lem s.combination)
blank_names (Setp d s) = rw (combination_names_lem s.combination)
blank_names (Selp s c) = refl
blank_names (Slct SlctType.S32 s c) = refl
blank_names (Slct (SlctType.F32 ftz) s c) = refl
