-- Operands that spell an instruction are taken into it. Assumes nothing.
use Rattle.std.specs.Prelude.{◌≡◌, refl, Bool, true, false, cond, List, [], ◌∷◌, Ok, Option, Some}
use Rattle.std.proofs.Common.{sym, ap, ap₂, ◌∙◌, eqb-true}
use Rattle.std.specs.Bool.{beq}
use Rattle.record.specs.Operands.{mask_fits, digits_fit, full_mask, default_a, default_b, lanes_fit}
use Rattle.record.specs.declared.Combination.{Combination}
use Rattle.record.specs.declared.Combination.TheVariants.{Alone, With}
use Rattle.record.specs.declared.Comparison.{Comparison}
use Rattle.record.specs.declared.Condition.{Condition}
use Rattle.record.specs.declared.Arith.{Arith}
use Rattle.record.specs.declared.Choice.{Choice}
use Rattle.record.specs.declared.Cmp6.{Cmp6}
use Rattle.record.specs.declared.Destination.{Destination}
use Rattle.record.specs.declared.Destination.TheVariants.{One, Pair, First, Second}
use Rattle.record.specs.declared.Digits.{Digits}
use Rattle.record.specs.declared.Form.{Form}
use Rattle.record.specs.declared.Form.TheVariants.{Plain, Merge, Combine}
use Rattle.record.specs.declared.Instruction.{Instruction}
use Rattle.record.specs.declared.Instruction.TheVariants.{Arithmetic, Vset, VsetLanes, ArithmeticLanes, Set, Setp, Selp, Slct}
use Rattle.record.specs.declared.LaneArith.{LaneArith}
use Rattle.record.specs.declared.LaneWidth.{LaneWidth}
use Rattle.record.specs.declared.Lanes.{Lanes}
use Rattle.record.specs.declared.Mask.{Mask}
use Rattle.record.specs.declared.Operand.{Operand}
use Rattle.record.specs.declared.Scalar.{Scalar}
use Rattle.record.specs.declared.Selected.{Selected}
use Rattle.record.specs.declared.Selected.TheVariants.{Whole, Part}
use Rattle.record.specs.declared.SetType.{SetType}
use Rattle.record.specs.declared.SlctType.{SlctType}
use Rattle.record.specs.declared.VideoType.{VideoType}
use Rattle.record.specs.declared.Word.{Word}
use Rattle.record.specs.declared.Pred.{Pred}
use Rattle.record.specs.Registers.{operand_place, r, p}
use Rattle.rules.specs.Shape.{OperandTree, bare, part}
use Rattle.rules.specs.Names.{mask_name, digits_name}
use Rattle.rules.specs.Spelling.{same_mask, same_digits, selected_tree, form_tree, form_last, mask_tree, digits_tree, condition_tree, combination_last, destination_tree, lanes_trees, operand_trees}
use Rattle.rules.specs.Spelling.{written_lanes}
use Rattle.rules.specs.Reading.{OneOf, as_standard, as_written, Spelled, none, more, OperandsSpell}
use Rattle.tree.specs.Seen.{seen_operand, seen_operands}
use Rattle.tree.specs.Blank.{blank, blank_scalar, blank_lanes, blank_comparison, blank_choice}
use Rattle.kinds.specs.Registers.{bare_operand, condition_of, destination_of}
use Rattle.fills.specs.Fills.{tree_at, selected_from, scalar_from, masked_from, laned_from, lanes_from, comparison_from, choice_from, filled_of}
use Rattle.names.specs.Back.{selector_complete}
use Rattle.masks.specs.MaskLaws.{both, mask_complete, digits_complete}

-- ==== one operand

operand_complete : (o : Operand) → bare_operand (seen_operand (bare (operand_place o))) ≡ Some o
operand_complete (Operand.Word w) = refl
operand_complete (Operand.Half h) = refl
operand_complete (Operand.Double d) = refl

condition_complete : (c : Condition) → condition_of (seen_operand (condition_tree c)) ≡ Some c
condition_complete c = go c.inverted
  where
    go : (t : Bool) → let k : Condition = record { inverted = t; pred = c.pred } in condition_of (seen_operand (condition_tree k)) ≡ Some k
    go true = refl
    go false = refl

destination_complete : (d : Destination) → destination_of (seen_operand (destination_tree d)) ≡ Some d
destination_complete (One p) = refl
destination_complete (Pair p q) = refl
destination_complete (First p) = refl
destination_complete (Second q) = refl

selected_complete : (s : Selected) → selected_from (seen_operand (selected_tree s)) ≡ Some s
selected_complete (Whole w) = refl
selected_complete (Part w sel) = rw (selector_complete sel)

-- ==== masks and lane selectors: bare or written out

beq_true : (a b : Bool) → beq a b ≡ true → a ≡ b
beq_true true true e = refl
beq_true true false e = sym e
beq_true false true e = e
beq_true false false e = refl

same_mask_lem : (m n : Mask) → same_mask m n ≡ true → n ≡ m
same_mask_lem m n e =
    let u = both _ _ e in
    let v = both _ _ u.0 in
    let w = both _ _ v.0 in
    rw (← beq_true m.lane0 n.lane0 w.0, ← beq_true m.lane1 n.lane1 w.1, ← beq_true m.lane2 n.lane2 v.1, ← beq_true m.lane3 n.lane3 u.1)

same_digits_lem : (s t : Digits) → same_digits s t ≡ true → t ≡ s
same_digits_lem s t e =
    let u = both _ _ e in
    let v = both _ _ u.0 in
    let w = both _ _ v.0 in
    rw (← eqb-true s.lane0 t.lane0 w.0, ← eqb-true s.lane1 t.lane1 w.1, ← eqb-true s.lane2 t.lane2 v.1, ← eqb-true s.lane3 t.lane3 u.1)

abbrev beside : {A : Type 0} → Word → A → Option (Word × A)
beside w x = Some (w, x)

module _ (w : LaneWidth) (d : Word) (m : Mask) (fit : mask_fits w m ≡ true) where
  mask_written : masked_from w (seen_operand (part (r d) (mask_name w m))) ≡ beside d m
  mask_written = rw (mask_complete w m fit)

  mask_standing : (t : Bool) → same_mask m (full_mask w) ≡ t
      → masked_from w (seen_operand (cond t (bare (r d)) (part (r d) (mask_name w m)))) ≡ beside d m
  mask_standing true e = ap (λ (n : Mask). beside d n) (same_mask_lem m (full_mask w) e)
  mask_standing false e = mask_written

  masked_complete : (o : OperandTree) → OneOf o (mask_tree w d m) (part (r d) (mask_name w m)) → masked_from w (seen_operand o) ≡ beside d m
  masked_complete o (as_standard e) = ap (λ (x : OperandTree). masked_from w (seen_operand x)) e ∙ mask_standing (same_mask m (full_mask w)) refl
  masked_complete o (as_written e) = ap (λ (x : OperandTree). masked_from w (seen_operand x)) e ∙ mask_written

module _ (w : LaneWidth) (default : Digits) (a : Word) (s : Digits) (fit : digits_fit w s ≡ true) where
  digits_written : laned_from w default (seen_operand (part (r a) (digits_name w s))) ≡ beside a s
  digits_written = rw (digits_complete w s fit)

  digits_standing : (t : Bool) → same_digits s default ≡ t
      → laned_from w default (seen_operand (cond t (bare (r a)) (part (r a) (digits_name w s)))) ≡ beside a s
  digits_standing true e = ap (λ (n : Digits). beside a n) (same_digits_lem s default e)
  digits_standing false e = digits_written

  laned_complete : (o : OperandTree) → OneOf o (digits_tree w default a s) (part (r a) (digits_name w s)) → laned_from w default (seen_operand o) ≡ beside a s
  laned_complete o (as_standard e) = ap (λ (x : OperandTree). laned_from w default (seen_operand x)) e ∙ digits_standing (same_digits s default) refl
  laned_complete o (as_written e) = ap (λ (x : OperandTree). laned_from w default (seen_operand x)) e ∙ digits_written

bare_only : (o c : OperandTree) → OneOf o c c → o ≡ c
bare_only o c (as_standard e) = e
bare_only o c (as_written e) = e

-- ==== what opcodes share

abbrev formed : Scalar → Form → Scalar
formed s f = record { atype = s.atype; btype = s.btype; form = f; a = s.a; b = s.b }

scalar_by_form : (s : Scalar) (f : Form)
    → scalar_from (blank_scalar (formed s f)) (seen_operands (form_tree f ∷ selected_tree s.a ∷ selected_tree s.b ∷ form_last f)) ≡ Ok (formed s f)
unfolding scalar_from tree_at seen_operands
scalar_by_form s (Plain d) = rw (selected_complete s.a, selected_complete s.b)
scalar_by_form s (Merge d sel c) = rw (selector_complete sel, selected_complete s.a, selected_complete s.b)
scalar_by_form s (Combine op d c) = rw (selected_complete s.a, selected_complete s.b)

scalar_complete : (s : Scalar) → scalar_from (blank_scalar s) (seen_operands (form_tree s.form ∷ selected_tree s.a ∷ selected_tree s.b ∷ form_last s.form)) ≡ Ok s
scalar_complete s = scalar_by_form s s.form

abbrev combined : Comparison → Combination → Comparison
combined s k = record { cmp = s.cmp; combination = k; ftz = s.ftz; stype = s.stype; a = s.a; b = s.b }

comparison_by_lem : (d : OperandTree) (s : Comparison) (k : Combination)
    → comparison_from (blank_comparison (combined s k)) (seen_operands (d ∷ bare (operand_place s.a) ∷ bare (operand_place s.b) ∷ combination_last k)) ≡ Ok (combined s k)
unfolding comparison_from tree_at seen_operands
comparison_by_lem d s Alone = rw (operand_complete s.a, operand_complete s.b)
comparison_by_lem d s (With op c) = rw (operand_complete s.a, operand_complete s.b, condition_complete c)

comparison_complete : (d : OperandTree) (s : Comparison)
    → comparison_from (blank_comparison s) (seen_operands (d ∷ bare (operand_place s.a) ∷ bare (operand_place s.b) ∷ combination_last s.combination)) ≡ Ok s
comparison_complete d s = comparison_by_lem d s s.combination

choice_complete : (s : Choice) (c : OperandTree)
    → choice_from (blank_choice s.dtype) (seen_operands (bare (operand_place s.d) ∷ bare (operand_place s.a) ∷ bare (operand_place s.b) ∷ c ∷ [])) ≡ Ok s
unfolding choice_from tree_at seen_operands
choice_complete s c = rw (operand_complete s.d, operand_complete s.a, operand_complete s.b)

lanes_complete : (l : Lanes) {os : List OperandTree} → Spelled os (lanes_trees l) (written_lanes l) → lanes_fit l ≡ true
    → lanes_from (blank_lanes l) (seen_operands os) ≡ Ok l
unfolding lanes_from tree_at seen_operands
lanes_complete l (more {o = x} d (more {o = y} a (more {o = z} b (more {o = u} c none)))) e =
    let v = both _ _ e in
    let f = both _ _ v.0 in
    rw (
      masked_complete l.width l.d l.mask f.0 x d,
      laned_complete l.width (default_a l.width) l.a l.asel f.1 y a,
      laned_complete l.width (default_b l.width) l.b l.bsel v.1 z b,
      bare_only u (bare (r l.c)) c,
    )

-- ==== the instruction

-- where nothing can be written out, the operands are those of the standard line
spelled_same : {os ss ws : List OperandTree} → Spelled os ss ws → ss ≡ ws → os ≡ ss
spelled_same none e = refl
spelled_same (more (as_standard p) k) e = ap₂ ◌∷◌ p (spelled_same k (cc))
spelled_same (more (as_written p) k) e = ap₂ ◌∷◌ (cc) (spelled_same k (cc))

first_tree : (o : OperandTree) (os : List OperandTree) → tree_at (seen_operands (o ∷ os)) 0 ≡ seen_operand o
unfolding tree_at seen_operands
first_tree o os = refl

last_tree : (x y z o : OperandTree) → tree_at (seen_operands (x ∷ y ∷ z ∷ o ∷ [])) 3 ≡ seen_operand o
unfolding tree_at seen_operands
last_tree x y z o = refl

four : (x y z o : OperandTree) → (seen_operands (x ∷ y ∷ z ∷ o ∷ [])).n ≡ 4
unfolding seen_operands
four x y z o = refl

-- filled from the operands of the standard line
set_complete : (dtype : SetType) (d : Word) (s : Comparison) → filled_of (blank (Set dtype d s)) (seen_operands (operand_trees (Set dtype d s))) ≡ Ok (Set dtype d s)
unfolding filled_of
set_complete dtype d s =
    rw (first_tree (bare (r d)) (bare (operand_place s.a) ∷ bare (operand_place s.b) ∷ combination_last s.combination), comparison_complete (bare (r d)) s)

setp_complete : (d : Destination) (s : Comparison) → filled_of (blank (Setp d s)) (seen_operands (operand_trees (Setp d s))) ≡ Ok (Setp d s)
unfolding filled_of
setp_complete d s =
    rw (
      first_tree (destination_tree d) (bare (operand_place s.a) ∷ bare (operand_place s.b) ∷ combination_last s.combination),
      comparison_complete (destination_tree d) s,
      destination_complete d,
    )

selp_complete : (s : Choice) (c : Pred) → filled_of (blank (Selp s c)) (seen_operands (operand_trees (Selp s c))) ≡ Ok (Selp s c)
unfolding filled_of
selp_complete s c =
    let x = bare (operand_place s.d) in
    let y = bare (operand_place s.a) in
    let z = bare (operand_place s.b) in
    rw (choice_complete s (bare (p c)), last_tree x y z (bare (p c)), four x y z (bare (p c)))

slct_complete : (ctype : SlctType) (s : Choice) (c : Word) → filled_of (blank (Slct ctype s c)) (seen_operands (operand_trees (Slct ctype s c))) ≡ Ok (Slct ctype s c)
unfolding filled_of
slct_complete ctype s c =
    let x = bare (operand_place s.d) in
    let y = bare (operand_place s.a) in
    let z = bare (operand_place s.b) in
    rw (choice_complete s (bare (r c)), last_tree x y z (bare (r c)), four x y z (bare (r c)))

arithmetic_complete : (op : Arith) (dtype : VideoType) (sat : Bool) (s : Scalar)
    → filled_of (blank (Arithmetic op dtype sat s)) (seen_operands (operand_trees (Arithmetic op dtype sat s))) ≡ Ok (Arithmetic op dtype sat s)
unfolding filled_of
arithmetic_complete op dtype sat s = rw (scalar_complete s)

vset_complete : (cmp : Cmp6) (s : Scalar) → filled_of (blank (Vset cmp s)) (seen_operands (operand_trees (Vset cmp s))) ≡ Ok (Vset cmp s)
unfolding filled_of
vset_complete cmp s = rw (scalar_complete s)

vset_lanes_complete : (cmp : Cmp6) (l : Lanes) (os : List OperandTree) → OperandsSpell os (VsetLanes cmp l) → filled_of (blank (VsetLanes cmp l)) (seen_operands os) ≡ Ok (VsetLanes cmp l)
unfolding filled_of
vset_lanes_complete cmp l os h = rw (lanes_complete l h.operands h.named)

arithmetic_lanes_complete : (op : LaneArith) (dtype : VideoType) (sat : Bool) (l : Lanes) (os : List OperandTree) → OperandsSpell os (ArithmeticLanes op dtype sat l)
    → filled_of (blank (ArithmeticLanes op dtype sat l)) (seen_operands os) ≡ Ok (ArithmeticLanes op dtype sat l)
unfolding filled_of
arithmetic_lanes_complete op dtype sat l os h = rw (lanes_complete l h.operands h.named)

pub fill_complete : (i : Instruction) (os : List OperandTree) → OperandsSpell os i → filled_of (blank i) (seen_operands os) ≡ Ok i
fill_complete (VsetLanes cmp l) os h = vset_lanes_complete cmp l os h
fill_complete (ArithmeticLanes op dtype sat l) os h = arithmetic_lanes_complete op dtype sat l os h
fill_complete (Arithmetic op dtype sat s) os h = rw (spelled_same h.operands refl) (arithmetic_complete op dtype sat s)
fill_complete (Vset cmp s) os h = rw (spelled_same h.operands refl) (vset_complete cmp s)
fill_complete (Set dtype d s) os h = rw (spelled_same h.operands refl) (set_complete dtype d s)
fill_complete (Setp d s) os h = rw (spelled_same h.operands refl) (setp_complete d s)
fill_complete (Selp s c) os h = rw (spelled_same h.operands refl) (selp_complete s c)
fill_complete (Slct ctype s c) os h = rw (spelled_same h.operands refl) (slct_complete ctype s c)
