-- Every list of operands that begins a legal list under a head is made one by one of the endings that the code tries.
use Rattle.std.specs.Prelude.{ℕ, zero, suc, ◌≤◌, ◌≡◌, refl, Bool, true, false, ◌&&◌, List, [], ◌∷◌, ◌++◌, length, take}
use Rattle.std.proofs.Common.{arith, sym, ap, ap₂, ◌∙◌, subst, append-nil, take_all}
use Rattle.record.specs.Modifiers.{comparison_fits, instruction_modifiers_fit}
use Rattle.record.specs.Operands.{lanes_fit, full_mask, default_a, default_b, mask_fits, digits_fit, by_width, choice_fits, instruction_operands_fit}
use Rattle.record.specs.declared.DataType.{DataType}
use Rattle.record.specs.declared.DataType.TheVariants.{B16, B32, B64, U16, U32, U64, S16, S32, S64, F32, F64}
use Rattle.record.specs.declared.Arith.{Arith}
use Rattle.record.specs.declared.LaneArith.{LaneArith}
use Rattle.record.specs.declared.VideoType.{VideoType}
use Rattle.record.specs.declared.SetType.{SetType}
use Rattle.record.specs.declared.SlctType.{SlctType}
use Rattle.record.specs.declared.Destination.{Destination}
use Rattle.record.specs.declared.Cmp6.{Cmp6}
use Rattle.record.specs.declared.Operand.{Operand}
use Rattle.record.specs.declared.Selected.{Selected}
use Rattle.record.specs.declared.Selected.TheVariants.{Whole}
use Rattle.record.specs.declared.Form.{Form}
use Rattle.record.specs.declared.Form.TheVariants.{Plain, Merge, Combine}
use Rattle.record.specs.declared.Scalar.{Scalar}
use Rattle.record.specs.declared.Lanes.{Lanes}
use Rattle.record.specs.declared.LaneWidth.{LaneWidth}
use Rattle.record.specs.declared.LaneWidth.TheVariants.{Half, Byte}
use Rattle.record.specs.declared.Combination.{Combination}
use Rattle.record.specs.declared.Combination.TheVariants.{Alone, With}
use Rattle.record.specs.declared.Comparison.{Comparison}
use Rattle.record.specs.declared.Choice.{Choice}
use Rattle.record.specs.declared.Instruction.{Instruction}
use Rattle.record.specs.declared.Instruction.TheVariants.{Arithmetic, Vset, VsetLanes, ArithmeticLanes, Set, Setp, Selp, Slct}
use Rattle.record.specs.Registers.{Place, word, pred, r, p, operand_place}
use Rattle.rules.specs.Shape.{Name, OperandTree, bare}
use Rattle.rules.specs.Names.{arith_name, video_type_name, six_name, cmp_name, set_type_name, type_name, braced, head_names, form_op2, combination_names}
use Rattle.signs.specs.Text.{bytes}
use Rattle.record.specs.declared.Word.{Word}
use Rattle.record.specs.declared.Pred.{Pred}
use Rattle.record.specs.declared.SlctType.TheVariants as slct
use Rattle.record.specs.declared.Digits.{Digits}
use Rattle.rules.specs.Spelling.{digits_tree, selected_tree, form_tree, form_last, lanes_trees, combination_last, destination_tree, operand_trees, written_lanes, written_trees}
use Rattle.rules.specs.Reading.{as_standard, as_written, Spelled, OperandsSpell, LegalOperands}
use Rattle.rules.specs.Reading.Spelled.{none, more}
use Rattle.begins.specs.Endings.{EndedBy, here, later}
use Rattle.rules.specs.BytePlaces.{Begins}
use Rattle.tree.specs.Blank.{no_word, no_pred, no_condition, blank_lanes, blank_choice}
use Rattle.fillplace.specs.Tries.{typed, row_operand}

-- ==== the endings, in the order in which they are tried

abbrev pub w : OperandTree
w = bare (word 0)

abbrev pub v : OperandTree
v = bare (pred 0)

-- a register that the row of an instruction has as a and b
abbrev pub x_of : Instruction → OperandTree
x_of i = bare (operand_place (row_operand i))

abbrev pub endings : OperandTree → List (List OperandTree)
endings x =
    []
    ∷ (x ∷ [])
    ∷ (x ∷ x ∷ [])
    ∷ (v ∷ [])
    ∷ (x ∷ v ∷ [])
    ∷ (x ∷ x ∷ v ∷ [])
    ∷ (w ∷ [])
    ∷ (x ∷ w ∷ [])
    ∷ (x ∷ x ∷ w ∷ [])
    ∷ []

abbrev pub Ends : OperandTree → List Name → List OperandTree → Type 0
Ends x head s = EndedBy (LegalOperands head) s (endings x)

module _ {x : OperandTree} {head : List Name} {s : List OperandTree} where
  e0 : LegalOperands head (s ++ []) → Ends x head s
  e0 l = here l

  ex : LegalOperands head (s ++ x ∷ []) → Ends x head s
  ex l = later (here l)

  exx : LegalOperands head (s ++ x ∷ x ∷ []) → Ends x head s
  exx l = later (later (here l))

  ev : LegalOperands head (s ++ v ∷ []) → Ends x head s
  ev l = later (later (later (here l)))

  exv : LegalOperands head (s ++ x ∷ v ∷ []) → Ends x head s
  exv l = later (later (later (later (here l))))

  exxv : LegalOperands head (s ++ x ∷ x ∷ v ∷ []) → Ends x head s
  exxv l = later (later (later (later (later (here l)))))

  ew : LegalOperands head (s ++ w ∷ []) → Ends x head s
  ew l = later (later (later (later (later (later (here l))))))

  exw : LegalOperands head (s ++ x ∷ w ∷ []) → Ends x head s
  exw l = later (later (later (later (later (later (later (here l)))))))

  exxw : LegalOperands head (s ++ x ∷ x ∷ w ∷ []) → Ends x head s
  exxw l = later (later (later (later (later (later (later (later (here l))))))))

-- a whole list
all : {x : OperandTree} (head : List Name) (os : List OperandTree) (k : ℕ) → LegalOperands head os → length os ≤ k → Ends x head (take k os)
all head os k l h = e0 (subst (LegalOperands head) (sym (append-nil (take k os) ∙ take_all k os h)) l)

both : (s t : Bool) → s ≡ true → t ≡ true → s && t ≡ true
both s t d e = rw (d, e)

left : (s t : Bool) → s && t ≡ true → s ≡ true
left true t e = refl
left false t e = e

right : (s t : Bool) → s && t ≡ true → t ≡ true
right true t e = e
right false t e = let z : ◌≡◌ {A = ℕ} 0 1 = cc in absurd (omega arith)

-- ==== scalar arithmetic, vset

module _ (head : List Name) (a b : Selected) where
  -- what is legal with any d, a, b and c of the form
  scalar_ends : (f : Form) → ((g : Form) (x y : Selected) → form_op2 g ≡ form_op2 f → LegalOperands head (form_tree g ∷ selected_tree x ∷ selected_tree y ∷ form_last g)) → (k : ℕ)
      → Ends w head (take (suc k) (form_tree f ∷ selected_tree a ∷ selected_tree b ∷ form_last f))
  scalar_ends (Plain d) l zero = exx (l (Plain d) (Whole no_word) (Whole no_word) refl)
  scalar_ends (Plain d) l (suc zero) = ex (l (Plain d) a (Whole no_word) refl)
  scalar_ends (Plain d) l (suc (suc k)) = all head _ (suc (suc (suc k))) (l (Plain d) a b refl) (omega arith)
  scalar_ends (Merge d s c) l zero = exxw (l (Merge d s no_word) (Whole no_word) (Whole no_word) refl)
  scalar_ends (Merge d s c) l (suc zero) = exx (l (Merge d s no_word) a (Whole no_word) refl)
  scalar_ends (Merge d s c) l (suc (suc zero)) = ex (l (Merge d s no_word) a b refl)
  scalar_ends (Merge d s c) l (suc (suc (suc k))) = all head _ (suc (suc (suc (suc k)))) (l (Merge d s c) a b refl) (omega arith)
  scalar_ends (Combine o d c) l zero = exxw (l (Combine o d no_word) (Whole no_word) (Whole no_word) refl)
  scalar_ends (Combine o d c) l (suc zero) = exx (l (Combine o d no_word) a (Whole no_word) refl)
  scalar_ends (Combine o d c) l (suc (suc zero)) = ex (l (Combine o d no_word) a b refl)
  scalar_ends (Combine o d c) l (suc (suc (suc k))) = all head _ (suc (suc (suc (suc k)))) (l (Combine o d c) a b refl) (omega arith)

-- ==== by width

typed_fits : (t : DataType) → by_width t (typed t) ≡ true
typed_fits B16 = refl
typed_fits B32 = refl
typed_fits B64 = refl
typed_fits U16 = refl
typed_fits U32 = refl
typed_fits U64 = refl
typed_fits S16 = refl
typed_fits S32 = refl
typed_fits S64 = refl
typed_fits F32 = refl
typed_fits F64 = refl

-- ==== set, setp: after d

module _ (head : List Name) (d : OperandTree) (t : DataType) (a b : Operand) (f : by_width t a ≡ true) (g : by_width t b ≡ true) where
  source_ends : (c : Combination)
      → ((x y : Operand) (e : Combination) → combination_names e ≡ combination_names c → by_width t x && by_width t y ≡ true → LegalOperands head (d ∷ bare (operand_place x) ∷ bare (operand_place y) ∷ combination_last e))
      → (k : ℕ) → Ends (bare (operand_place (typed t))) head (take (suc k) (d ∷ bare (operand_place a) ∷ bare (operand_place b) ∷ combination_last c))
  source_ends Alone l zero = exx (l (typed t) (typed t) Alone refl (both _ _ (typed_fits t) (typed_fits t)))
  source_ends Alone l (suc zero) = ex (l a (typed t) Alone refl (both _ _ f (typed_fits t)))
  source_ends Alone l (suc (suc k)) = all head _ (suc (suc (suc k))) (l a b Alone refl (both _ _ f g)) (omega arith)
  source_ends (With o c) l zero = exxv (l (typed t) (typed t) (With o no_condition) refl (both _ _ (typed_fits t) (typed_fits t)))
  source_ends (With o c) l (suc zero) = exv (l a (typed t) (With o no_condition) refl (both _ _ f (typed_fits t)))
  source_ends (With o c) l (suc (suc zero)) = ev (l a b (With o no_condition) refl (both _ _ f g))
  source_ends (With o c) l (suc (suc (suc k))) = all head _ (suc (suc (suc (suc k)))) (l a b (With o c) refl (both _ _ f g)) (omega arith)

-- ==== selp, slct

all_three : (x y z : Bool) → x ≡ true → y ≡ true → z ≡ true → x && y && z ≡ true
all_three x y z a b c = rw (a, b, c)

abbrev choice : Place → Operand → Operand → Operand → List OperandTree
choice c d a b = bare (operand_place d) ∷ bare (operand_place a) ∷ bare (operand_place b) ∷ bare c ∷ []

module _ (head : List Name) (t : DataType) (d a b : Operand) (e : by_width t d ≡ true) (f : by_width t a ≡ true) (g : by_width t b ≡ true) where
  abbrev Legal : Place → Type 0
  Legal c = (x y z : Operand) → by_width t x && by_width t y && by_width t z ≡ true → LegalOperands head (choice c x y z)

  selp_ends : (c : Place) → Legal c → Legal (pred 0) → (k : ℕ) → Ends (bare (operand_place (typed t))) head (take (suc k) (choice c d a b))
  selp_ends c m l zero = exxv (l d (typed t) (typed t) (all_three _ _ _ e (typed_fits t) (typed_fits t)))
  selp_ends c m l (suc zero) = exv (l d a (typed t) (all_three _ _ _ e f (typed_fits t)))
  selp_ends c m l (suc (suc zero)) = ev (l d a b (all_three _ _ _ e f g))
  selp_ends c m l (suc (suc (suc k))) = all head _ (suc (suc (suc (suc k)))) (m d a b (all_three _ _ _ e f g)) (omega arith)

  slct_ends : (c : Place) → Legal c → Legal (word 0) → (k : ℕ) → Ends (bare (operand_place (typed t))) head (take (suc k) (choice c d a b))
  slct_ends c m l zero = exxw (l d (typed t) (typed t) (all_three _ _ _ e (typed_fits t) (typed_fits t)))
  slct_ends c m l (suc zero) = exw (l d a (typed t) (all_three _ _ _ e f (typed_fits t)))
  slct_ends c m l (suc (suc zero)) = ew (l d a b (all_three _ _ _ e f g))
  slct_ends c m l (suc (suc (suc k))) = all head _ (suc (suc (suc (suc k)))) (m d a b (all_three _ _ _ e f g)) (omega arith)

-- ==== vset2, vset4

default_a_lem : (w : LaneWidth) → (bare (word 0) ≡ digits_tree w (default_a w) no_word (default_a w)) × (digits_fit w (default_a w) ≡ true)
default_a_lem Half = (refl, refl)
default_a_lem Byte = (refl, refl)

default_b_lem : (w : LaneWidth) → (bare (word 0) ≡ digits_tree w (default_b w) no_word (default_b w)) × (digits_fit w (default_b w) ≡ true)
default_b_lem Half = (refl, refl)
default_b_lem Byte = (refl, refl)

-- the same with other sources
abbrev sourced : Lanes → Word → Digits → Word → Digits → Word → Lanes
sourced l a s b t c = record { width = l.width; atype = l.atype; btype = l.btype; add = l.add; d = l.d; mask = l.mask; a = a; asel = s; b = b; bsel = t; c = c }

-- what is legal with any sources that fit
abbrev WithSources : List Name → Lanes → Type 0
WithSources head l =
    (a : Word) (s : Digits) (b : Word) (t : Digits) (c : Word) → lanes_fit (sourced l a s b t c) ≡ true
    → (os : List OperandTree) → Spelled os (lanes_trees (sourced l a s b t c)) (written_lanes (sourced l a s b t c)) → LegalOperands head os

module _ (head : List Name) (l : Lanes) (legal : WithSources head l) (m : mask_fits l.width l.mask ≡ true) where
  lanes_ends : {os : List OperandTree} → digits_fit l.width l.asel ≡ true → digits_fit l.width l.bsel ≡ true
      → Spelled os (lanes_trees l) (written_lanes l) → (k : ℕ) → Ends w head (take (suc k) os)
  lanes_ends f g (more h1 (more h2 (more h3 (more h4 none)))) zero =
      let x = default_a_lem l.width in
      let y = default_b_lem l.width in
      exxw
      (legal no_word (default_a l.width) no_word (default_b l.width) no_word (all_three _ _ _ m x.1 y.1) _
      (more h1 (more (as_standard x.0) (more (as_standard y.0) (more (as_standard refl) none)))))
  lanes_ends f g (more h1 (more h2 (more h3 (more h4 none)))) (suc zero) =
      let y = default_b_lem l.width in
      exx
      (legal l.a l.asel no_word (default_b l.width) no_word (all_three _ _ _ m f y.1) _
      (more h1 (more h2 (more (as_standard y.0) (more (as_standard refl) none)))))
  lanes_ends f g (more h1 (more h2 (more h3 (more h4 none)))) (suc (suc zero)) =
      ex (legal l.a l.asel l.b l.bsel no_word (all_three _ _ _ m f g) _ (more h1 (more h2 (more h3 (more (as_standard refl) none)))))
  lanes_ends f g (more h1 (more h2 (more h3 (more h4 none)))) (suc (suc (suc k))) =
      all head _ (suc (suc (suc (suc k)))) (legal l.a l.asel l.b l.bsel l.c (all_three _ _ _ m f g) _ (more h1 (more h2 (more h3 (more h4 none))))) (omega arith)

-- ==== all

-- as in the standard line
spelled_std : (os ws : List OperandTree) → length os ≡ length ws → Spelled os os ws
spelled_std [] [] e = none
spelled_std [] (x ∷ ws) e = absurd (omega arith)
spelled_std (o ∷ os) [] e = absurd (omega arith)
spelled_std (o ∷ os) (x ∷ ws) e = more (as_standard refl) (spelled_std os ws (omega arith))

spelled_self : (os : List OperandTree) → Spelled os os os
spelled_self [] = none
spelled_self (o ∷ os) = more (as_standard refl) (spelled_self os)

-- where nothing is written out, the operands are the standard ones
spelled_same : {os ss ws : List OperandTree} → Spelled os ss ws → ss ≡ ws → os ≡ ss
spelled_same none e = refl
spelled_same (more (as_standard p) k) e = ap₂ ◌∷◌ p (spelled_same k (cc))
spelled_same (more (as_written p) k) e = ap₂ ◌∷◌ (cc) (spelled_same k (cc))

module _ {head : List Name} where
  -- the same row with other operands
  scalar_legal_a : (op : Arith) (d : VideoType) (sat : Bool) (s : Scalar) → head ≡ head_names (Arithmetic op d sat s)
      → (g : Form) (x y : Selected) → form_op2 g ≡ form_op2 s.form → LegalOperands head (form_tree g ∷ selected_tree x ∷ selected_tree y ∷ form_last g)
  scalar_legal_a op d sat s n g x y e = record {
    instruction = Arithmetic op d sat (record { atype = s.atype; btype = s.btype; form = g; a = x; b = y });
    row = record { names = n ∙ ap (λ (l : List Name). arith_name op ∷ video_type_name d ∷ video_type_name s.atype ∷ video_type_name s.btype ∷ (braced sat (bytes "sat") ++ l)) (sym e); fit = refl };
    spells = record { operands = spelled_self _; named = refl };
    fit = refl;
  }

  scalar_legal_v : (c : Cmp6) (s : Scalar) → head ≡ head_names (Vset c s)
      → (g : Form) (x y : Selected) → form_op2 g ≡ form_op2 s.form → LegalOperands head (form_tree g ∷ selected_tree x ∷ selected_tree y ∷ form_last g)
  scalar_legal_v c s n g x y e = record {
    instruction = Vset c (record { atype = s.atype; btype = s.btype; form = g; a = x; b = y });
    row = record { names = n ∙ ap (λ (l : List Name). bytes "vset" ∷ video_type_name s.atype ∷ video_type_name s.btype ∷ six_name c ∷ l) (sym e); fit = refl };
    spells = record { operands = spelled_self _; named = refl };
    fit = refl;
  }

  set_legal : (t : SetType) (d : Word) (s : Comparison) → head ≡ head_names (Set t d s) → comparison_fits s ≡ true
      → (x y : Operand) (e : Combination) → combination_names e ≡ combination_names s.combination → by_width s.stype x && by_width s.stype y ≡ true
      → LegalOperands head (bare (r d) ∷ bare (operand_place x) ∷ bare (operand_place y) ∷ combination_last e)
  set_legal t d s n m x y e c h = record {
    instruction = Set t d (record { cmp = s.cmp; combination = e; ftz = s.ftz; stype = s.stype; a = x; b = y });
    row = record { names = n ∙ ap (λ (l : List Name). bytes "set" ∷ cmp_name s.cmp ∷ (l ++ braced s.ftz (bytes "ftz") ++ set_type_name t ∷ type_name s.stype ∷ [])) (sym c); fit = m };
    spells = record { operands = spelled_self _; named = refl };
    fit = h;
  }

  setp_legal : (d : Destination) (s : Comparison) → head ≡ head_names (Setp d s) → comparison_fits s ≡ true
      → (x y : Operand) (e : Combination) → combination_names e ≡ combination_names s.combination → by_width s.stype x && by_width s.stype y ≡ true
      → LegalOperands head (destination_tree d ∷ bare (operand_place x) ∷ bare (operand_place y) ∷ combination_last e)
  setp_legal d s n m x y e c h = record {
    instruction = Setp d (record { cmp = s.cmp; combination = e; ftz = s.ftz; stype = s.stype; a = x; b = y });
    row = record { names = n ∙ ap (λ (l : List Name). bytes "setp" ∷ cmp_name s.cmp ∷ (l ++ braced s.ftz (bytes "ftz") ++ type_name s.stype ∷ [])) (sym c); fit = m };
    spells = record { operands = spelled_self _; named = refl };
    fit = h;
  }

  selp_legal : (t : DataType) → head ≡ bytes "selp" ∷ type_name t ∷ [] → (c : Pred) (x y z : Operand) → by_width t x && by_width t y && by_width t z ≡ true → LegalOperands head (choice (p c) x y z)
  selp_legal t n c x y z h = record {
    instruction = Selp (record { dtype = t; d = x; a = y; b = z }) c;
    row = record { names = n; fit = refl };
    spells = record { operands = spelled_self _; named = refl };
    fit = h;
  }

  slct_legal : (k : SlctType) (t : DataType) → head ≡ head_names (Slct k (blank_choice t) no_word) → (c : Word) (x y z : Operand) → by_width t x && by_width t y && by_width t z ≡ true → LegalOperands head (choice (r c) x y z)
  slct_legal slct.S32 t n c x y z h = record {
    instruction = Slct slct.S32 (record { dtype = t; d = x; a = y; b = z }) c;
    row = record { names = n; fit = refl };
    spells = record { operands = spelled_self _; named = refl };
    fit = h;
  }
  slct_legal (slct.F32 ftz) t n c x y z h = record {
    instruction = Slct (slct.F32 ftz) (record { dtype = t; d = x; a = y; b = z }) c;
    row = record { names = n; fit = refl };
    spells = record { operands = spelled_self _; named = refl };
    fit = h;
  }

  vset_lanes_legal : (c : Cmp6) (l : Lanes) → head ≡ head_names (VsetLanes c l) → WithSources head l
  vset_lanes_legal cmp l n a s b t c f os x = record {
    instruction = VsetLanes cmp (sourced l a s b t c);
    row = record { names = n; fit = refl };
    spells = record { operands = x; named = f };
    fit = f;
  }

  arithmetic_lanes_legal : (op : LaneArith) (d : VideoType) (sat : Bool) (l : Lanes) → head ≡ head_names (ArithmeticLanes op d sat l) → WithSources head l
  arithmetic_lanes_legal op d sat l n a s b t c f os x = record {
    instruction = ArithmeticLanes op d sat (sourced l a s b t c);
    row = record { names = n; fit = refl };
    spells = record { operands = x; named = f };
    fit = f;
  }

  lanes_row : (l : Lanes) → WithSources head l → lanes_fit l ≡ true → {os : List OperandTree} → Spelled os (lanes_trees l) (written_lanes l) → (k : ℕ) → Ends w head (take (suc k) os)
  lanes_row l legal f x k =
      let n = l.width in
      let u : mask_fits n l.mask && digits_fit n l.asel ≡ true = left _ (digits_fit n l.bsel) f in
      lanes_ends head l legal (left _ (digits_fit n l.asel) u) (right (mask_fits n l.mask) _ u) (right (mask_fits n l.mask && digits_fit n l.asel) _ f) x k

  -- the standard operands of a row that has no others
  standard : {os : List OperandTree} (i : Instruction) → OperandsSpell os i → operand_trees i ≡ written_trees i → (k : ℕ) → Ends (x_of i) head (take (suc k) (operand_trees i)) → Ends (x_of i) head (take (suc k) os)
  standard i x e k z = subst (λ (l : List OperandTree). Ends (x_of i) head (take (suc k) l)) (sym (spelled_same x.operands e)) z

  slct_row_lem : (j : SlctType) (s : Choice) (c : Word) → head ≡ head_names (Slct j (blank_choice s.dtype) no_word) → choice_fits s ≡ true → (k : ℕ) → Ends (bare (operand_place (typed s.dtype))) head (take (suc k) (choice (r c) s.d s.a s.b))
  slct_row_lem j s c n f k =
      let t = s.dtype in
      let u : by_width t s.d && by_width t s.a ≡ true = left _ (by_width t s.b) f in
      slct_ends head t s.d s.a s.b (left _ (by_width t s.a) u) (right (by_width t s.d) _ u) (right (by_width t s.d && by_width t s.a) _ f) (r c) (slct_legal j t n c) (slct_legal j t n no_word) k

  by_row : (i : Instruction) (os : List OperandTree) → head ≡ head_names i → OperandsSpell os i → instruction_modifiers_fit i ≡ true → instruction_operands_fit i ≡ true → (k : ℕ) → Ends (x_of i) head (take (suc k) os)
  by_row (Arithmetic op d sat s) os n x m f k = standard (Arithmetic op d sat s) x refl k (scalar_ends head s.a s.b s.form (scalar_legal_a op d sat s n) k)
  by_row (Vset c s) os n x m f k = standard (Vset c s) x refl k (scalar_ends head s.a s.b s.form (scalar_legal_v c s n) k)
  by_row (VsetLanes c l) os n x m f k = lanes_row l (vset_lanes_legal c l n) f x.operands k
  by_row (ArithmeticLanes op d sat l) os n x m f k = lanes_row l (arithmetic_lanes_legal op d sat l n) f x.operands k
  by_row (Set t d s) os n x m f k =
      standard (Set t d s) x refl k
      (source_ends head (bare (r d)) s.stype s.a s.b (left _ (by_width s.stype s.b) f) (right (by_width s.stype s.a) _ f) s.combination (set_legal t d s n m) k)
  by_row (Setp d s) os n x m f k =
      standard (Setp d s) x refl k
      (source_ends head (destination_tree d) s.stype s.a s.b (left _ (by_width s.stype s.b) f) (right (by_width s.stype s.a) _ f) s.combination (setp_legal d s n m) k)
  by_row (Selp s c) os n x m f k =
      let t = s.dtype in
      let u : by_width t s.d && by_width t s.a ≡ true = left _ (by_width t s.b) f in
      standard (Selp s c) x refl k
      (selp_ends head t s.d s.a s.b (left _ (by_width t s.a) u) (right (by_width t s.d) _ u) (right (by_width t s.d && by_width t s.a) _ f) (p c) (selp_legal t n c) (selp_legal t n no_pred) k)
  by_row (Slct slct.S32 s c) os n x m f k = standard (Slct slct.S32 s c) x refl k (slct_row_lem slct.S32 s c n f k)
  by_row (Slct (slct.F32 ftz) s c) os n x m f k = standard (Slct (slct.F32 ftz) s c) x refl k (slct_row_lem (slct.F32 ftz) s c n f k)

pub operands_end : (head : List Name) (os : List OperandTree) → (l : LegalOperands head os) → (k : ℕ) → Ends (x_of l.instruction) head (take (suc k) os)
operands_end head os l k = by_row l.instruction os l.row.names l.spells l.row.fit l.fit k

-- ==== under every row there is a legal list

listed : {head : List Name} (os : List OperandTree) → LegalOperands head os → Begins (LegalOperands head) []
listed os l = record { rest = os; whole = l }

scalar_list : (head : List Name) (f : Form) → ((g : Form) (x y : Selected) → form_op2 g ≡ form_op2 f → LegalOperands head (form_tree g ∷ selected_tree x ∷ selected_tree y ∷ form_last g)) → Begins (LegalOperands head) []
scalar_list head f l = listed _ (l f (Whole no_word) (Whole no_word) refl)

source_list : (head : List Name) (d : OperandTree) (t : DataType) (c : Combination)
    → ((x y : Operand) → by_width t x && by_width t y ≡ true → LegalOperands head (d ∷ bare (operand_place x) ∷ bare (operand_place y) ∷ combination_last c)) → Begins (LegalOperands head) []
source_list head d t c l = listed _ (l (typed t) (typed t) (both _ _ (typed_fits t) (typed_fits t)))

choice_list : (head : List Name) (t : DataType) (c : Place) → ((x y z : Operand) → by_width t x && by_width t y && by_width t z ≡ true → LegalOperands head (choice c x y z)) → Begins (LegalOperands head) []
choice_list head t c l = listed _ (l (typed t) (typed t) (typed t) (all_three _ _ _ (typed_fits t) (typed_fits t) (typed_fits t)))

full_fits : (w : LaneWidth) → mask_fits w (full_mask w) && digits_fit w (default_a w) && digits_fit w (default_b w) ≡ true
full_fits Half = refl
full_fits Byte = refl

lanes_list : (head : List Name) (l : Lanes) → WithSources head (blank_lanes l) → Begins (LegalOperands head) []
lanes_list head l legal =
    let w = l.width in
    listed _ (legal no_word (default_a w) no_word (default_b w) no_word (full_fits w) _ (spelled_std _ _ refl))

pub some_list : (i : Instruction) → instruction_modifiers_fit i ≡ true → Begins (LegalOperands (head_names i)) []
some_list (Arithmetic op d sat s) m = scalar_list _ s.form (scalar_legal_a op d sat s refl)
some_list (Vset c s) m = scalar_list _ s.form (scalar_legal_v c s refl)
some_list (VsetLanes c l) m = lanes_list _ l (vset_lanes_legal c (blank_lanes l) refl)
some_list (ArithmeticLanes op d sat l) m = lanes_list _ l (arithmetic_lanes_legal op d sat (blank_lanes l) refl)
some_list (Set t d s) m = source_list _ (bare (r d)) s.stype s.combination (λ x y h. set_legal t d s refl m x y s.combination refl h)
some_list (Setp d s) m = source_list _ (destination_tree d) s.stype s.combination (λ x y h. setp_legal d s refl m x y s.combination refl h)
some_list (Selp s c) m = choice_list _ s.dtype (p c) (selp_legal s.dtype refl c)
some_list (Slct slct.S32 s c) m = choice_list _ s.dtype (r c) (slct_legal slct.S32 s.dtype refl c)
some_list (Slct (slct.F32 ftz) s c) m = choice_list _ s.dtype (r c) (slct_legal (slct.F32 ftz) s.dtype refl c)
