-- What is read is a row of the table: its names are the head's, and nothing is left over.
use Rattle.std.specs.Prelude.{ℕ, zero, suc, ◌+◌, ◌<◌, Bool, not, ◌&&◌, get_or, take, replicate, Err, None, Ok, Option, Result, Some}
use Rattle.std.proofs.Common.{arith, sym, ap, ◌∙◌, drop_of_length-le}
use Rattle.std.proofs.Math.Numerals.{add-one}
use Rattle.std.proofs.Math.Path.{◌≡◌, refl, subst}
use Rattle.std.proofs.Math.Bool.{true, false, cond}
use mathlib.Core.List.{List, [], ◌∷◌, ◌++◌, map, append-nil}
use borrow.Author.Tests.{eqb-true, ltb-true}
use Rattle.std.proofs.Math.Dec.{eqb, ltb}
use Rattle.std.proofs.Math.ListN.{length, drop}
use Rattle.base.specs.Pack.{code_of, is_short_name, CodeOf}
use Rattle.base.specs.Pairs.{ok_pair, ok_three}
use Rattle.signs.specs.Text.{bytes}
use Rattle.base.specs.Values.{StandsAt}
use Rattle.record.specs.declared.VideoType.{VideoType}
use Rattle.record.specs.declared.SlctType.{SlctType}
use Rattle.record.specs.declared.DataType.{DataType}
use Rattle.record.specs.declared.CmpOp.{CmpOp}
use Rattle.record.specs.declared.Cmp6.{Cmp6}
use Rattle.record.specs.declared.Arith.{Arith}
use Rattle.record.specs.declared.LaneArith.{LaneArith}
use Rattle.record.specs.declared.LaneWidth.{LaneWidth}
use Rattle.record.specs.declared.Combination.{Combination}
use Rattle.record.specs.declared.Combination.TheVariants.{Alone, With}
use Rattle.record.specs.declared.Destination.TheVariants.{One}
use Rattle.record.specs.declared.Instruction.{Instruction}
use Rattle.record.specs.declared.Instruction.TheVariants.{Arithmetic, Vset, VsetLanes, ArithmeticLanes, Set, Setp, Selp, Slct}
use Rattle.rules.specs.Shape.{Name}
use Rattle.rules.specs.Names.{video_type_name, set_type_name, type_name, six_name, cmp_name, bool_name, op2_name, braced, form_op2, combination_names, head_names}
use Rattle.rules.specs.Grammar.{GoodName, GoodNames}
use Rattle.rules.specs.Grammar.GoodNames.{none, more}
use Rattle.rules.specs.Reading.{opcodes}
use Rattle.signs.specs.Lists.{Listed}
use Rattle.signs.specs.Lists.Listed.{here, later}
use Rattle.tree.specs.Seen.{names_kept, seen_head}
use Rattle.tree.specs.Blank.{no_word, no_pred, no_condition, blank_form, blank_combination, blank_choice, blank}
use Rattle.base.specs.PackLaws.{short_name, short_code, code_positive, code_known}
use Rattle.names.specs.declared.Opcode.{Opcode}
use Rattle.heads.specs.declared.Typed.{Typed}
use Rattle.heads.specs.declared.Test.{Test}
use Rattle.heads.specs.declared.HeadError.{HeadError}
use Rattle.names.specs.Back.{opcode_of, video_of, set_type_of, type_of, six_of, cmp_of, bool_op_of, op2_of}
use Rattle.heads.specs.Tables.{slct_type_of, sat_code, ftz_code, add_code, s32_code, f32_code}
use Rattle.heads.specs.Rows.{name_at, past, whole_of, head_scalar, head_lanes, head_comparison, sides_by, sides_at, compared_by, head_compared, ending_by, ending_at, sat_end, typed_by, typed_of, arithmetic_by, arithmetic_typed, arithmetic_row, vset_by, vset_row, vset_lanes_by, vset_lanes_row, lane_arithmetic_by, lane_arithmetic_typed, lane_arithmetic_row, test_at, tested_by, tested_of, set_by, set_at, set_tested, set_row, setp_by, setp_at, setp_tested, setp_row, selp_by, selp_row, slct_by, slct_at, slct_row, read_of, found_of, row_by, row_of}
use Rattle.names.specs.Back.{opcode_name, known_opcodes, opcode_complete, opcode_sound, video_sound, set_type_sound, type_sound, six_sound, cmp_sound, bool_sound, op2_sound}
use Rattle.heads.specs.Rows.{compared_are}
use Rattle.heads.specs.Rows.{sides_are}
use Rattle.record.specs.declared.BoolOp.{BoolOp}
use Rattle.record.specs.declared.Op2.{Op2}
use Rattle.record.specs.declared.SetType.{SetType}

-- ==== the names that a head keeps

zeros_at : (k m i : ℕ) → ◌≡◌ {A = ℕ} (get_or (take k (replicate m 0)) i 0) 0
zeros_at zero m i = refl
zeros_at (suc k) zero i = refl
zeros_at (suc k) (suc m) zero = refl
zeros_at (suc k) (suc m) (suc i) = zeros_at k m i

pub kept_at : (k m i : ℕ) (l : List ℕ) → i < k → get_or (take k (l ++ replicate m 0)) i 0 ≡ get_or l i 0
kept_at zero m i l h = absurd (omega arith)
kept_at (suc k) m i [] h = zeros_at (suc k) m i
kept_at (suc k) m zero (x ∷ l) h = refl
kept_at (suc k) m (suc i) (x ∷ l) h = kept_at k m i l (omega arith)

-- 0 is the number of no short name
no_name : {A : Type 0} (w : Name) → CodeOf 0 w → A
no_name w c =
    let s = short_name w c.short in
    absurd (omega (arith, c.code, code_positive w s.0 s.1))

at_known : {ns : List Name} → GoodNames ns → (i : ℕ) (w : Name) → CodeOf (get_or (map code_of ns) i 0) w → drop i ns ≡ w ∷ drop (suc i) ns
at_known none i w c = no_name w c
at_known (more {n = n} {ns = ns} g gs) zero w c =
    let s = short_name w c.short in
    ap (λ (v : Name). v ∷ ns) (code_known n w g s.0 s.1 c.code)
at_known (more g gs) (suc i) w c = at_known gs i w c

never : {A : Type 0} (k : ℕ) (i : Instruction) → Err k ≡ Ok i → A
never k i e = let z : ◌≡◌ {A = ℕ} 0 1 = cc in absurd (omega arith)

count : (ns : List Name) → (seen_head ns).n ≡ length ns
unfolding seen_head
count ns = refl

-- after this opcode the head goes on as the instruction's row does, to its end; the operands are blank
pub record RowIs (ns : List Name) (op : Opcode) (i : Instruction) : Type 0 where
  pub names : opcode_name op ∷ drop 1 ns ≡ head_names i
  pub blank : blank i ≡ i

-- the names before OP2 of scalar arithmetic, and before `add` of lane arithmetic
pub record TypedIs (ns : List Name) (t : Typed) : Type 0 where
  pub names : drop 1 ns ≡ video_type_name t.dtype ∷ video_type_name t.atype ∷ video_type_name t.btype ∷ (braced t.sat (bytes "sat") ++ drop t.next ns)

-- the names before the types of set and setp
pub record TestIs (ns : List Name) (t : Test) : Type 0 where
  pub names : drop 1 ns ≡ cmp_name t.cmp ∷ (combination_names t.combination ++ braced t.ftz (bytes "ftz") ++ drop t.next ns)
  pub blank : blank_combination t.combination ≡ t.combination

-- s32, or f32 after what was read of ftz
data SlctIs (x : ℕ) : Bool → SlctType → Type 0 where
  s32 : CodeOf x (bytes "s32") → SlctIs x false SlctType.S32
  f32 : {ftz : Bool} → CodeOf x (bytes "f32") → SlctIs x ftz (SlctType.F32 ftz)

slct_type_sound : (ftz : Bool) (x : ℕ) (c : SlctType) → slct_type_of ftz x ≡ Some c → SlctIs x ftz c
unfolding slct_type_of
slct_type_sound ftz x c e = go ftz (eqb x f32_code) refl (eqb x s32_code) refl e
  where
    go : (ftz s : Bool) → eqb x f32_code ≡ s → (t : Bool) → eqb x s32_code ≡ t
        → cond s (Some (SlctType.F32 ftz)) (cond (not ftz && t) (Some SlctType.S32) None) ≡ Some c → SlctIs x ftz c
    go ftz true p t q e = let z : SlctType.F32 ftz ≡ c = cc in subst (SlctIs x ftz) z (f32 (record { code = eqb-true x f32_code p ∙ sym (short_code (bytes "f32") refl); short = refl }))
    go false false p true q e = let z : SlctType.S32 ≡ c = cc in subst (SlctIs x false) z (s32 (record { code = eqb-true x s32_code q ∙ sym (short_code (bytes "s32") refl); short = refl }))
    go true false p t q e = let z : ◌≡◌ {A = ℕ} 0 1 = cc in absurd (omega arith)
    go false false p false q e = let z : ◌≡◌ {A = ℕ} 0 1 = cc in absurd (omega arith)

module _ (ns : List Name) (good : GoodNames ns) where
  -- a number of a table stands for the name at its place
  name_at_lem : (i : ℕ) (w : Name) → CodeOf (name_at (seen_head ns) i) w → drop i ns ≡ w ∷ drop (i + 1) ns
  unfolding name_at seen_head
  name_at_lem i w c = rw add-one (go (ltb i names_kept) refl c)
    where
      go : (t : Bool) → ltb i names_kept ≡ t → CodeOf (cond t (get_or (seen_head ns).at i 0) 0) w → drop i ns ≡ w ∷ drop (suc i) ns
      go true e c = at_known good i w (subst (λ (x : ℕ). CodeOf x w) (kept_at names_kept names_kept i (map code_of ns) (ltb-true i names_kept e)) c)
      go false e c = no_name w c

  word_at : (i x : ℕ) (w : Name) → code_of w ≡ x → is_short_name w ≡ true → eqb (name_at (seen_head ns) i) x ≡ true → drop i ns ≡ w ∷ drop (i + 1) ns
  word_at i x w e s h = name_at_lem i w (record { code = eqb-true (name_at (seen_head ns) i) x h ∙ sym e; short = s })

  whole_sound : (end : ℕ) (j i : Instruction) → whole_of (seen_head ns).n end j ≡ Ok i → (length ns ≡ end) × (j ≡ i)
  unfolding whole_of
  whole_sound end j i e = go (eqb (seen_head ns).n end) refl e
    where
      go : (t : Bool) → eqb (seen_head ns).n end ≡ t → cond t (Ok j) (Err end) ≡ Ok i → (length ns ≡ end) × (j ≡ i)
      go true p e = (sym (count ns) ∙ eqb-true (seen_head ns).n end p, cc)
      go false p e = never end i e

  ended : (i : ℕ) → length ns ≡ i → drop i ns ≡ []
  ended i e = drop_of_length-le ns {i = i} (omega arith)

  -- a name that may be left out
  optional_at : (i x : ℕ) (w : Name) → code_of w ≡ x → is_short_name w ≡ true → (t : Bool) → eqb (name_at (seen_head ns) i) x ≡ t
      → drop i ns ≡ braced t w ++ drop (past t i) ns
  optional_at i x w e s true h = word_at i x w e s h
  optional_at i x w e s false h = refl

  -- {add}, at the end of the row
  add_sound : (i : ℕ) (add : Bool) → eqb (name_at (seen_head ns) i) add_code ≡ add → length ns ≡ past add i → drop i ns ≡ braced add (bytes "add")
  add_sound i add e h = rw (optional_at i add_code (bytes "add") (short_code (bytes "add") refl) refl add e, ended (past add i) h) (append-nil _)

  -- ==== scalar arithmetic, vset, and the forms with 2 and 4

  sides_sound : (i : ℕ) (a b : VideoType) → sides_at (seen_head ns) i ≡ sides_are a b → drop i ns ≡ video_type_name a ∷ video_type_name b ∷ drop (i + 1 + 1) ns
  unfolding sides_at sides_by
  sides_sound i a b e = go (video_of (name_at (seen_head ns) i)) refl (video_of (name_at (seen_head ns) (i + 1))) refl e
    where
      go : (x : Option VideoType) → video_of (name_at (seen_head ns) i) ≡ x → (y : Option VideoType) → video_of (name_at (seen_head ns) (i + 1)) ≡ y
          → sides_by i x y ≡ sides_are a b → drop i ns ≡ video_type_name a ∷ video_type_name b ∷ drop (i + 1 + 1) ns
      go None p y q e = let z : ◌≡◌ {A = ℕ} 0 1 = cc in absurd (omega arith)
      go (Some c) p None q e = let z : ◌≡◌ {A = ℕ} 0 1 = cc in absurd (omega arith)
      go (Some c) p (Some d) q e =
          let o = ok_pair e in
          let u : c ≡ a = o.0 in
          let v : d ≡ b = o.1 in
          rw (← u, ← v, name_at_lem i (video_type_name c) (video_sound (name_at (seen_head ns) i) c p), name_at_lem (i + 1) (video_type_name d) (video_sound (name_at (seen_head ns) (i + 1)) d q))

  compared_sound : (a b : VideoType) (c : Cmp6) → head_compared (seen_head ns) ≡ compared_are a b c → drop 1 ns ≡ video_type_name a ∷ video_type_name b ∷ six_name c ∷ drop 4 ns
  unfolding head_compared compared_by
  compared_sound a b c e = go (sides_at (seen_head ns) 1) refl (six_of (name_at (seen_head ns) 3)) refl e
    where
      go : (x : Result (VideoType × VideoType) ℕ) → sides_at (seen_head ns) 1 ≡ x → (y : Option Cmp6) → six_of (name_at (seen_head ns) 3) ≡ y
          → compared_by x y ≡ compared_are a b c → drop 1 ns ≡ video_type_name a ∷ video_type_name b ∷ six_name c ∷ drop 4 ns
      go (Err k) p y q e = let z : ◌≡◌ {A = ℕ} 0 1 = cc in absurd (omega arith)
      go (Ok (f, g)) p None q e = let z : ◌≡◌ {A = ℕ} 0 1 = cc in absurd (omega arith)
      go (sides_are f g) p (Some d) q e =
          let o = ok_three e in
          let u : f ≡ a = o.0 in
          let v : g ≡ b = o.1 in
          let w : d ≡ c = o.2 in
          rw (← u, ← v, ← w, sides_sound 1 f g p, name_at_lem 3 (six_name d) (six_sound (name_at (seen_head ns) 3) d q))

  -- {OP2}, at the end of the row
  ending_sound : (i : ℕ) → length ns ≡ (ending_at (seen_head ns) i).end
      → (drop i ns ≡ form_op2 (ending_at (seen_head ns) i).form) × (blank_form (ending_at (seen_head ns) i).form ≡ (ending_at (seen_head ns) i).form)
  unfolding ending_at ending_by
  ending_sound i e = go (op2_of (name_at (seen_head ns) i)) refl e
    where
      go : (x : Option Op2) → op2_of (name_at (seen_head ns) i) ≡ x → length ns ≡ (ending_by i x).end
          → (drop i ns ≡ form_op2 (ending_by i x).form) × (blank_form (ending_by i x).form ≡ (ending_by i x).form)
      go (Some op) p e = (rw (name_at_lem i (op2_name op) (op2_sound (name_at (seen_head ns) i) op p), ended (i + 1) e), refl)
      go None p e = (ended i e, refl)

  vset_sound : (i : Instruction) → vset_row (seen_head ns) ≡ Ok i → RowIs ns Opcode.Vset i
  unfolding vset_row vset_by
  vset_sound i e = go (head_compared (seen_head ns)) refl e
    where
      go : (x : Result (VideoType × VideoType × Cmp6) ℕ) → head_compared (seen_head ns) ≡ x → vset_by (seen_head ns).n x (ending_at (seen_head ns) 4) ≡ Ok i → RowIs ns Opcode.Vset i
      go (Err k) p e = never k i e
      go (compared_are a b c) p e =
          let w = whole_sound (ending_at (seen_head ns) 4).end (Vset c (head_scalar a b (ending_at (seen_head ns) 4).form)) i e in
          let f = ending_sound 4 w.0 in
          subst (RowIs ns Opcode.Vset) w.1 (record { names = rw (compared_sound a b c p, f.0); blank = rw f.1 })

  lanes_sound : (l : LaneWidth) (i : Instruction) → vset_lanes_row l (seen_head ns) ≡ Ok i → RowIs ns (Opcode.Lanes l) i
  unfolding vset_lanes_row vset_lanes_by
  lanes_sound l i e = go (head_compared (seen_head ns)) refl (eqb (name_at (seen_head ns) 4) add_code) refl e
    where
      go : (x : Result (VideoType × VideoType × Cmp6) ℕ) → head_compared (seen_head ns) ≡ x → (add : Bool) → eqb (name_at (seen_head ns) 4) add_code ≡ add
          → vset_lanes_by (seen_head ns).n l x add ≡ Ok i → RowIs ns (Opcode.Lanes l) i
      go (Err k) p add q e = never k i e
      go (compared_are a b c) p add q e =
          let w = whole_sound (past add 4) (VsetLanes c (head_lanes l a b add)) i e in
          subst (RowIs ns (Opcode.Lanes l)) w.1 (record { names = rw (compared_sound a b c p, add_sound 4 add q w.0); blank = refl })

  typed_sound : (t : Typed) → typed_of (seen_head ns) ≡ Ok t → TypedIs ns t
  unfolding typed_of typed_by
  typed_sound t e = go (video_of (name_at (seen_head ns) 1)) refl (sides_at (seen_head ns) 2) refl (eqb (name_at (seen_head ns) 4) sat_code) refl e
    where
      go : (x : Option VideoType) → video_of (name_at (seen_head ns) 1) ≡ x → (y : Result (VideoType × VideoType) ℕ) → sides_at (seen_head ns) 2 ≡ y
          → (sat : Bool) → eqb (name_at (seen_head ns) 4) sat_code ≡ sat → typed_by x y sat ≡ Ok t → TypedIs ns t
      go None p y q sat o e = let z : ◌≡◌ {A = ℕ} 0 1 = cc in absurd (omega arith)
      go (Some d) p (Err k) q sat o e = let z : ◌≡◌ {A = ℕ} 0 1 = cc in absurd (omega arith)
      go (Some d) p (sides_are a b) q sat o e =
          let z : record { dtype = d; atype = a; btype = b; sat = sat; next = sat_end sat } ≡ t = cc in
          subst (TypedIs ns) z (record {
            names = rw (name_at_lem 1 (video_type_name d) (video_sound (name_at (seen_head ns) 1) d p), sides_sound 2 a b q)
                (ap (λ (l : List Name). video_type_name d ∷ video_type_name a ∷ video_type_name b ∷ l) (optional_at 4 sat_code (bytes "sat") (short_code (bytes "sat") refl) refl sat o));
          })

  arithmetic_sound : (op : Arith) (i : Instruction) → arithmetic_row op (seen_head ns) ≡ Ok i → RowIs ns (Opcode.Scalar op) i
  unfolding arithmetic_row arithmetic_typed arithmetic_by
  arithmetic_sound op i e = go (typed_of (seen_head ns)) refl e
    where
      go : (x : Result Typed ℕ) → typed_of (seen_head ns) ≡ x → arithmetic_typed op (seen_head ns) x ≡ Ok i → RowIs ns (Opcode.Scalar op) i
      go (Err k) p e = never k i e
      go (Ok t) p e =
          let j = ending_at (seen_head ns) t.next in
          let w = whole_sound j.end (Arithmetic op t.dtype t.sat (head_scalar t.atype t.btype j.form)) i e in
          let f = ending_sound t.next w.0 in
          subst (RowIs ns (Opcode.Scalar op)) w.1 (record { names = rw ((typed_sound t p).names, f.0); blank = rw f.1 })

  lane_arithmetic_sound : (op : LaneArith) (l : LaneWidth) (i : Instruction) → lane_arithmetic_row op l (seen_head ns) ≡ Ok i → RowIs ns (Opcode.LaneArithmetic op l) i
  unfolding lane_arithmetic_row lane_arithmetic_typed lane_arithmetic_by
  lane_arithmetic_sound op l i e = go (typed_of (seen_head ns)) refl e
    where
      go : (x : Result Typed ℕ) → typed_of (seen_head ns) ≡ x → lane_arithmetic_typed op l (seen_head ns) x ≡ Ok i → RowIs ns (Opcode.LaneArithmetic op l) i
      go (Err k) p e = never k i e
      go (Ok t) p e =
          let add = eqb (name_at (seen_head ns) t.next) add_code in
          let w = whole_sound (past add t.next) (ArithmeticLanes op t.dtype t.sat (head_lanes l t.atype t.btype add)) i e in
          subst (RowIs ns (Opcode.LaneArithmetic op l)) w.1 (record { names = rw ((typed_sound t p).names, add_sound t.next add refl w.0); blank = refl })

  -- ==== set, setp

  test_sound : (c : CmpOp) (b : Combination) (i : ℕ)
      → drop i ns ≡ braced (test_at (seen_head ns) c b i).ftz (bytes "ftz") ++ drop (test_at (seen_head ns) c b i).next ns
  unfolding test_at
  test_sound c b i = optional_at i ftz_code (bytes "ftz") (short_code (bytes "ftz") refl) refl (eqb (name_at (seen_head ns) i) ftz_code) refl

  tested_sound : (t : Test) → tested_of (seen_head ns) ≡ Some t → TestIs ns t
  unfolding tested_of tested_by test_at
  tested_sound t e = go (cmp_of (name_at (seen_head ns) 1)) refl (bool_op_of (name_at (seen_head ns) 2)) refl e
    where
      go : (x : Option CmpOp) → cmp_of (name_at (seen_head ns) 1) ≡ x → (y : Option BoolOp) → bool_op_of (name_at (seen_head ns) 2) ≡ y
          → tested_by (seen_head ns) x y ≡ Some t → TestIs ns t
      go None p y q e = let z : ◌≡◌ {A = ℕ} 0 1 = cc in absurd (omega arith)
      go (Some c) p (Some op) q e =
          let z : test_at (seen_head ns) c (With op no_condition) 3 ≡ t = cc in
          subst (TestIs ns) z (record {
            names = rw (name_at_lem 1 (cmp_name c) (cmp_sound (name_at (seen_head ns) 1) c p), name_at_lem 2 (bool_name op) (bool_sound (name_at (seen_head ns) 2) op q))
                (ap (λ (l : List Name). cmp_name c ∷ bool_name op ∷ l) (test_sound c (With op no_condition) 3));
            blank = refl;
          })
      go (Some c) p None q e =
          let z : test_at (seen_head ns) c Alone 2 ≡ t = cc in
          subst (TestIs ns) z (record {
            names = rw (name_at_lem 1 (cmp_name c) (cmp_sound (name_at (seen_head ns) 1) c p)) (ap (λ (l : List Name). cmp_name c ∷ l) (test_sound c Alone 2));
            blank = refl;
          })

  set_sound : (i : Instruction) → set_row (seen_head ns) ≡ Ok i → RowIs ns Opcode.Set i
  unfolding set_row set_tested set_at set_by
  set_sound i e = go (tested_of (seen_head ns)) refl e
    where
      go : (x : Option Test) → tested_of (seen_head ns) ≡ x → set_tested (seen_head ns) x ≡ Ok i → RowIs ns Opcode.Set i
      go None p e = never 1 i e
      go (Some t) p e = types (set_type_of (name_at (seen_head ns) t.next)) refl (type_of (name_at (seen_head ns) (t.next + 1))) refl e
        where
          types : (x : Option SetType) → set_type_of (name_at (seen_head ns) t.next) ≡ x → (y : Option DataType) → type_of (name_at (seen_head ns) (t.next + 1)) ≡ y
              → set_by (seen_head ns).n t x y ≡ Ok i → RowIs ns Opcode.Set i
          types None q y r e = never t.next i e
          types (Some d) q None r e = never (t.next + 1) i e
          types (Some d) q (Some s) r e =
              let w = whole_sound (t.next + 2) (Set d no_word (head_comparison t s)) i e in
              let h = tested_sound t p in
              subst (RowIs ns Opcode.Set) w.1 (record {
                names = rw (
                  h.names,
                  name_at_lem t.next (set_type_name d) (set_type_sound (name_at (seen_head ns) t.next) d q),
                  name_at_lem (t.next + 1) (type_name s) (type_sound (name_at (seen_head ns) (t.next + 1)) s r),
                  ended (t.next + 1 + 1) (omega (arith, w.0)),
                );
                blank = rw h.blank;
              })

  setp_sound : (i : Instruction) → setp_row (seen_head ns) ≡ Ok i → RowIs ns Opcode.Setp i
  unfolding setp_row setp_tested setp_at setp_by
  setp_sound i e = go (tested_of (seen_head ns)) refl e
    where
      go : (x : Option Test) → tested_of (seen_head ns) ≡ x → setp_tested (seen_head ns) x ≡ Ok i → RowIs ns Opcode.Setp i
      go None p e = never 1 i e
      go (Some t) p e = types (type_of (name_at (seen_head ns) t.next)) refl e
        where
          types : (x : Option DataType) → type_of (name_at (seen_head ns) t.next) ≡ x → setp_by (seen_head ns).n t x ≡ Ok i → RowIs ns Opcode.Setp i
          types None q e = never t.next i e
          types (Some s) q e =
              let w = whole_sound (t.next + 1) (Setp (One no_pred) (head_comparison t s)) i e in
              let h = tested_sound t p in
              subst (RowIs ns Opcode.Setp) w.1 (record {
                names = rw (h.names, name_at_lem t.next (type_name s) (type_sound (name_at (seen_head ns) t.next) s q), ended (t.next + 1) w.0);
                blank = rw h.blank;
              })

  -- ==== selp, slct

  selp_sound : (i : Instruction) → selp_row (seen_head ns) ≡ Ok i → RowIs ns Opcode.Selp i
  unfolding selp_row selp_by
  selp_sound i e = go (type_of (name_at (seen_head ns) 1)) refl e
    where
      go : (x : Option DataType) → type_of (name_at (seen_head ns) 1) ≡ x → selp_by (seen_head ns).n x ≡ Ok i → RowIs ns Opcode.Selp i
      go None p e = never 1 i e
      go (Some t) p e =
          let w = whole_sound 2 (Selp (blank_choice t) no_pred) i e in
          subst (RowIs ns Opcode.Selp) w.1 (record {
            names = rw (name_at_lem 1 (type_name t) (type_sound (name_at (seen_head ns) 1) t p), ended 2 w.0);
            blank = refl;
          })

  slct_row_lem : (ftz : Bool) (k : ℕ) (t : DataType) (c : SlctType) → drop 1 ns ≡ braced ftz (bytes "ftz") ++ drop k ns → drop k ns ≡ type_name t ∷ drop (k + 1) ns
      → SlctIs (name_at (seen_head ns) (k + 1)) ftz c → length ns ≡ k + 2 → RowIs ns Opcode.Slct (Slct c (blank_choice t) no_word)
  slct_row_lem ftz k t c p q (s32 h) n = record {
    names = rw (p, q, name_at_lem (k + 1) (bytes "s32") h, ended (k + 1 + 1) (omega arith));
    blank = refl;
  }
  slct_row_lem ftz k t c p q (f32 h) n = record {
    names = rw (p, q, name_at_lem (k + 1) (bytes "f32") h, ended (k + 1 + 1) (omega arith));
    blank = refl;
  }

  slct_at_sound : (ftz : Bool) (k : ℕ) (i : Instruction) → drop 1 ns ≡ braced ftz (bytes "ftz") ++ drop k ns → slct_at (seen_head ns) ftz k ≡ Ok i → RowIs ns Opcode.Slct i
  unfolding slct_at slct_by
  slct_at_sound ftz k i p e = go (type_of (name_at (seen_head ns) k)) refl (slct_type_of ftz (name_at (seen_head ns) (k + 1))) refl e
    where
      go : (x : Option DataType) → type_of (name_at (seen_head ns) k) ≡ x → (y : Option SlctType) → slct_type_of ftz (name_at (seen_head ns) (k + 1)) ≡ y
          → slct_by (seen_head ns).n k x y ≡ Ok i → RowIs ns Opcode.Slct i
      go None q y r e = never k i e
      go (Some t) q None r e = never (k + 1) i e
      go (Some t) q (Some c) r e =
          let w = whole_sound (k + 2) (Slct c (blank_choice t) no_word) i e in
          subst (RowIs ns Opcode.Slct) w.1
          (slct_row_lem ftz k t c p (name_at_lem k (type_name t) (type_sound (name_at (seen_head ns) k) t q)) (slct_type_sound ftz (name_at (seen_head ns) (k + 1)) c r) w.0)

  slct_sound : (i : Instruction) → slct_row (seen_head ns) ≡ Ok i → RowIs ns Opcode.Slct i
  unfolding slct_row
  slct_sound i e = go (eqb (name_at (seen_head ns) 1) ftz_code) refl e
    where
      go : (ftz : Bool) → eqb (name_at (seen_head ns) 1) ftz_code ≡ ftz → slct_at (seen_head ns) ftz (cond ftz 2 1) ≡ Ok i → RowIs ns Opcode.Slct i
      go true p e = slct_at_sound true 2 i (word_at 1 ftz_code (bytes "ftz") (short_code (bytes "ftz") refl) refl p) e
      go false p e = slct_at_sound false 1 i refl e

  -- ==== the table

  read_sound : (op : Opcode) (i : Instruction) → read_of op (seen_head ns) ≡ Ok i → RowIs ns op i
  unfolding read_of
  read_sound (Opcode.Scalar op) i e = arithmetic_sound op i e
  read_sound Opcode.Vset i e = vset_sound i e
  read_sound (Opcode.Lanes w) i e = lanes_sound w i e
  read_sound (Opcode.LaneArithmetic op w) i e = lane_arithmetic_sound op w i e
  read_sound Opcode.Set i e = set_sound i e
  read_sound Opcode.Setp i e = setp_sound i e
  read_sound Opcode.Selp i e = selp_sound i e
  read_sound Opcode.Slct i e = slct_sound i e

pub row_sound : (ns : List Name) (i : Instruction) → GoodNames ns → row_of (seen_head ns) ≡ Ok i → (ns ≡ head_names i) × (blank i ≡ i)
unfolding row_of row_by found_of
row_sound ns i good e = go (opcode_of (name_at (seen_head ns) 0)) refl e
  where
    go : (x : Option Opcode) → opcode_of (name_at (seen_head ns) 0) ≡ x → row_by x (seen_head ns) ≡ Ok i → (ns ≡ head_names i) × (blank i ≡ i)
    go None p e = let z : ◌≡◌ {A = ℕ} 0 1 = cc in absurd (omega arith)
    go (Some op) p e = read (read_of op (seen_head ns)) refl e
      where
        read : (r : Result Instruction ℕ) → read_of op (seen_head ns) ≡ r → found_of r ≡ Ok i → (ns ≡ head_names i) × (blank i ≡ i)
        read (Err k) q e = let z : ◌≡◌ {A = ℕ} 0 1 = cc in absurd (omega arith)
        read (Ok j) q e =
            let z : j ≡ i = cc in
            let h = read_sound ns good op i (q ∙ ap Ok z) in
            (name_at_lem ns good 0 (opcode_name op) (opcode_sound (name_at (seen_head ns) 0) op p) ∙ h.names, h.blank)

-- ==== opcodes

-- what holds of every name of a list holds of a listed one
module _ (P : Name → Type 0) where
  abbrev Every : List Name → Type 0
  Every [] = Unit {0}
  Every (m ∷ ns) = P m × Every ns

  of_listed : {n : Name} {ns : List Name} → Every ns → Listed n ns → P n
  of_listed h (here e) = subst P (sym e) h.0
  of_listed h (later l) = of_listed h.1 l

abbrev Opens : Name → Type 0
Opens n = (op : Opcode) × (n ≡ opcode_name op)

every_opens : (l : List Opcode) → Every Opens (map opcode_name l)
every_opens [] = tt
every_opens (op ∷ l) = ((op, refl), every_opens l)

-- the opcodes of the document are those that the code knows, in the same order
same_opcodes : map opcode_name known_opcodes.list ≡ opcodes
same_opcodes = refl

listed_opens : (n : Name) → Listed n opcodes → Opens n
listed_opens n l = of_listed Opens (subst (Every Opens) same_opcodes (every_opens known_opcodes.list)) l

listed_at : (l : List Opcode) (i : ℕ) (op : Opcode) → StandsAt i l op → Listed (opcode_name op) (map opcode_name l)
listed_at [] i op h = absurd h
listed_at (o ∷ l) zero op h = here (ap opcode_name (sym h))
listed_at (o ∷ l) (suc i) op h = later (listed_at l i op h)

opcode_listed : (op : Opcode) → Listed (opcode_name op) opcodes
opcode_listed op = subst (Listed (opcode_name op)) same_opcodes (listed_at known_opcodes.list (known_opcodes.listed op).0 op (known_opcodes.listed op).1)

-- the first name of every instruction is an opcode
abbrev opcode_named : Instruction → Opcode
opcode_named (Arithmetic op dtype sat s) = Opcode.Scalar op
opcode_named (Vset cmp s) = Opcode.Vset
opcode_named (VsetLanes cmp l) = Opcode.Lanes l.width
opcode_named (ArithmeticLanes op dtype sat l) = Opcode.LaneArithmetic op l.width
opcode_named (Set dtype d s) = Opcode.Set
opcode_named (Setp d s) = Opcode.Setp
opcode_named (Selp s c) = Opcode.Selp
opcode_named (Slct ctype s c) = Opcode.Slct

abbrev first_of : List Name → Name
first_of [] = []
first_of (n ∷ ns) = n

first_named : (i : Instruction) → opcode_name (opcode_named i) ≡ first_of (head_names i)
first_named (Arithmetic op dtype sat s) = refl
first_named (Vset cmp s) = refl
first_named (VsetLanes cmp l) = refl
first_named (ArithmeticLanes op dtype sat l) = refl
first_named (Set dtype d s) = refl
first_named (Setp d s) = refl
first_named (Selp s c) = refl
first_named (Slct SlctType.S32 s c) = refl
first_named (Slct (SlctType.F32 ftz) s c) = refl

pub row_listed : (i : Instruction) (n : Name) (ns : List Name) → n ∷ ns ≡ head_names i → Listed n opcodes
row_listed i n ns e = subst (λ (m : Name). Listed m opcodes) (first_named i ∙ sym (ap first_of e)) (opcode_listed (opcode_named i))

-- a row that was looked at is not answered by `NoOpcode`
found_opens : (r : Result Instruction ℕ) → found_of r ≡ (Err HeadError.NoOpcode) → ⊥
unfolding found_of
found_opens (Ok i) e = let z : ◌≡◌ {A = ℕ} 0 1 = cc in omega arith
found_opens (Err k) e = let z : ◌≡◌ {A = ℕ} 0 1 = cc in omega arith

first_name : (n : Name) (ns : List Name) → name_at (seen_head (n ∷ ns)) 0 ≡ code_of n
unfolding name_at seen_head
first_name n ns = refl

opcode_found : (n : Name) (ns : List Name) (op : Opcode) → n ≡ opcode_name op → row_of (seen_head (n ∷ ns)) ≡ found_of (read_of op (seen_head (n ∷ ns)))
unfolding row_of row_by
opcode_found n ns op e =
    let z : opcode_of (code_of n) ≡ Some op = ap (λ (m : Name). opcode_of (code_of m)) e ∙ opcode_complete op in
    rw (first_name n ns, z)

pub no_opcode_known : (n : Name) (ns : List Name) → GoodName n → row_of (seen_head (n ∷ ns)) ≡ (Err HeadError.NoOpcode) → Listed n opcodes → ⊥
no_opcode_known n ns good e l =
    let o = listed_opens n l in
    found_opens (read_of o.0 (seen_head (n ∷ ns))) (sym (opcode_found n ns o.0 o.1) ∙ e)

pub wrong_known : (n : Name) (ns : List Name) (k : ℕ) → GoodName n → row_of (seen_head (n ∷ ns)) ≡ Err (HeadError.Wrong k) → Listed n opcodes
unfolding row_of row_by
wrong_known n ns k good e = go (opcode_of (name_at (seen_head (n ∷ ns)) 0)) refl e
  where
    go : (x : Option Opcode) → opcode_of (name_at (seen_head (n ∷ ns)) 0) ≡ x → row_by x (seen_head (n ∷ ns)) ≡ Err (HeadError.Wrong k) → Listed n opcodes
    go None p e = let z : ◌≡◌ {A = ℕ} 0 1 = cc in absurd (omega arith)
    go (Some op) p e =
        let c = opcode_sound (name_at (seen_head (n ∷ ns)) 0) op p in
        let s = short_name (opcode_name op) c.short in
        let z : n ≡ opcode_name op = code_known n (opcode_name op) good s.0 s.1 (sym (first_name n ns) ∙ c.code) in
        subst (λ (m : Name). Listed m opcodes) (sym z) (opcode_listed op)
