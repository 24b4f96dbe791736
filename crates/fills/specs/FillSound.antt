-- What is taken into an instruction spells it. Each definition below says of an answer what the operands then are. Assumes nothing.
use Rattle.std.specs.Prelude.{ℕ, zero, suc, ◌<◌, ◌≡◌, refl, Bool, true, false, cond, List, [], ◌∷◌, ◌++◌, map, eqb, length, take, get_or, replicate, Err, None, Ok, Option, Result, Some}
use Rattle.std.proofs.Common.{arith, sym, ap, ap₂, subst, ◌∙◌, eq-eqb, eqb-true}
use Rattle.std.specs.Option.{option_zip}
use Rattle.std.proofs.lemmas.Bool.{lt-leb}
use Rattle.signs.specs.Lists.{tab}
use Rattle.base.specs.Pack.{code_of}
use Rattle.base.specs.PackLaws.{short_name, code_known}
use Rattle.record.specs.Operands.{mask_fits, digits_fit, default_a, default_b, lanes_fit}
use Rattle.record.specs.declared.Combination.{Combination}
use Rattle.record.specs.declared.Combination.TheVariants.{Alone, With}
use Rattle.record.specs.declared.Comparison.{Comparison}
use Rattle.record.specs.declared.Choice.{Choice}
use Rattle.record.specs.declared.Arith.{Arith}
use Rattle.record.specs.declared.VideoType.{VideoType}
use Rattle.record.specs.declared.Cmp6.{Cmp6}
use Rattle.record.specs.declared.DataType.{DataType}
use Rattle.record.specs.declared.Destination.{Destination}
use Rattle.record.specs.declared.Destination.TheVariants.{One}
use Rattle.record.specs.declared.Digits.{Digits}
use Rattle.record.specs.declared.Form.{Form}
use Rattle.record.specs.declared.Form.TheVariants as form
use Rattle.record.specs.declared.Instruction.{Instruction}
use Rattle.record.specs.declared.Instruction.TheVariants.{Arithmetic, Vset, VsetLanes, ArithmeticLanes, Set, Setp, Selp, Slct}
use Rattle.record.specs.declared.LaneArith.{LaneArith}
use Rattle.record.specs.declared.LaneWidth.{LaneWidth}
use Rattle.record.specs.declared.LaneWidth.TheVariants.{Half, Byte}
use Rattle.record.specs.declared.Lanes.{Lanes}
use Rattle.record.specs.declared.Scalar.{Scalar}
use Rattle.record.specs.declared.Selected.TheVariants as selected
use Rattle.record.specs.declared.SetType.{SetType}
use Rattle.record.specs.declared.SlctType.{SlctType}
use Rattle.record.specs.declared.Pred.{Pred}
use Rattle.record.specs.declared.Word.{Word}
use Rattle.record.specs.declared.File.TheVariants.{Words, Halves, Doubles, Preds}
use Rattle.record.specs.Registers.{reg, operand_place, r, p}
use Rattle.rules.specs.Shape.{at, nothing, OperandTree, inverted, pair, bare, part}
use Rattle.rules.specs.Names.{selector_name, mask_name, digits_name}
use Rattle.rules.specs.Grammar as grammar
use Rattle.rules.specs.Grammar.{GoodOperand, GoodOperands}
use Rattle.rules.specs.Spelling.{same_digits, selected_tree, form_tree, form_last, mask_tree, digits_tree, condition_tree, combination_last, destination_tree, lanes_trees}
use Rattle.rules.specs.Spelling.{written_lanes}
use Rattle.rules.specs.Reading.{OneOf, as_standard, as_written, Spelled, none, more, OperandsSpell}
use Rattle.tree.specs.Seen.{seen_operand, seen_operands, slot, spare, operands_kept}
use Rattle.tree.specs.Blank.{no_word, no_pred, no_operand, blank, blank_form, blank_scalar, blank_lanes, blank_combination, blank_comparison, blank_choice}
use Rattle.tree.specs.declared.Operands.{Operands}
use Rattle.tree.specs.declared.Slot.{Slot}
use Rattle.tree.specs.declared.Tree.{Tree}
use Rattle.kinds.specs.Registers.{bare_word, bare_pred, bare_operand, condition_of, destination_of}
use Rattle.names.specs.Back.{selector_of}
use Rattle.masks.specs.Masks.{mask_of, digits_named}
use Rattle.fills.specs.Fills.{untaken, tree_at, last_by, part_by, selected_from, start_from, merge_form, combine_form, form_from, scalar_end, scalar_by, scalar_from, masked_from, laned_from, lanes_with, lanes_by, lanes_from, combination_from, comparison_by, comparison_from, choice_by, choice_from, arithmetic_from, vset_from, vset_lanes_from, arithmetic_lanes_from, set_from, setp_from, selp_from, slct_from, filled_of}
use Rattle.names.specs.Back.{selector_sound}
use Rattle.masks.specs.MaskLaws.{MaskIs, mask_sound, mask_known, DigitsIs, digits_sound, digits_known}
use Rattle.fills.specs.declared.Start.{Start}
use Rattle.fills.specs.declared.Start.TheVariants as start
use Rattle.record.specs.declared.Condition.{Condition}
use Rattle.record.specs.declared.Mask.{Mask}
use Rattle.record.specs.declared.Operand.{Operand}
use Rattle.record.specs.declared.Selected.{Selected}
use Rattle.record.specs.declared.Selector.{Selector}

-- ==== one operand

-- what the operand is, if this was found in it
abbrev FoundIs : {A : Type 0} → (A → OperandTree) → OperandTree → Option A → Type 0
FoundIs tree o (Some x) = o ≡ tree x
FoundIs tree o None = Unit {0}

abbrev word_tree : Word → OperandTree
word_tree w = bare (r w)

abbrev WordIs : OperandTree → Option Word → Type 0
WordIs = FoundIs word_tree

word_is : (o : OperandTree) → WordIs o (bare_word (seen_operand o))
word_is (inverted q) = tt
word_is (pair q s) = tt
word_is (bare (reg Words n)) = refl
word_is (bare (reg Halves n)) = tt
word_is (bare (reg Doubles n)) = tt
word_is (bare (reg Preds n)) = tt
word_is (part q n) = tt

abbrev pred_tree : Pred → OperandTree
pred_tree q = bare (p q)

abbrev PredIs : OperandTree → Option Pred → Type 0
PredIs = FoundIs pred_tree

pred_is_lem : (o : OperandTree) → PredIs o (bare_pred (seen_operand o))
pred_is_lem (inverted q) = tt
pred_is_lem (pair q s) = tt
pred_is_lem (bare (reg Words n)) = tt
pred_is_lem (bare (reg Halves n)) = tt
pred_is_lem (bare (reg Doubles n)) = tt
pred_is_lem (bare (reg Preds n)) = refl
pred_is_lem (part q n) = tt

abbrev OperandIs : OperandTree → Option Operand → Type 0
OperandIs = FoundIs (λ (x : Operand). bare (operand_place x))

operand_is : (o : OperandTree) → OperandIs o (bare_operand (seen_operand o))
operand_is (inverted q) = tt
operand_is (pair q s) = tt
operand_is (bare (reg Words n)) = refl
operand_is (bare (reg Halves n)) = refl
operand_is (bare (reg Doubles n)) = refl
operand_is (bare (reg Preds n)) = tt
operand_is (part q n) = tt

abbrev ConditionIs : OperandTree → Option Condition → Type 0
ConditionIs = FoundIs condition_tree

condition_is : (o : OperandTree) → ConditionIs o (condition_of (seen_operand o))
condition_is (inverted (reg Words n)) = tt
condition_is (inverted (reg Halves n)) = tt
condition_is (inverted (reg Doubles n)) = tt
condition_is (inverted (reg Preds n)) = refl
condition_is (pair q s) = tt
condition_is (bare (reg Words n)) = tt
condition_is (bare (reg Halves n)) = tt
condition_is (bare (reg Doubles n)) = tt
condition_is (bare (reg Preds n)) = refl
condition_is (part q n) = tt

abbrev DestinationIs : OperandTree → Option Destination → Type 0
DestinationIs = FoundIs destination_tree

destination_is : (o : OperandTree) → DestinationIs o (destination_of (seen_operand o))
destination_is (inverted q) = tt
destination_is (pair (at (reg Words n)) (at s)) = tt
destination_is (pair (at (reg Words n)) nothing) = tt
destination_is (pair (at (reg Halves n)) (at s)) = tt
destination_is (pair (at (reg Halves n)) nothing) = tt
destination_is (pair (at (reg Doubles n)) (at s)) = tt
destination_is (pair (at (reg Doubles n)) nothing) = tt
destination_is (pair (at (reg Preds n)) (at (reg Words m))) = tt
destination_is (pair (at (reg Preds n)) (at (reg Halves m))) = tt
destination_is (pair (at (reg Preds n)) (at (reg Doubles m))) = tt
destination_is (pair (at (reg Preds n)) (at (reg Preds m))) = refl
destination_is (pair (at (reg Preds n)) nothing) = refl
destination_is (pair nothing (at (reg Words m))) = tt
destination_is (pair nothing (at (reg Halves m))) = tt
destination_is (pair nothing (at (reg Doubles m))) = tt
destination_is (pair nothing (at (reg Preds m))) = refl
destination_is (pair nothing nothing) = tt
destination_is (bare (reg Words n)) = tt
destination_is (bare (reg Halves n)) = tt
destination_is (bare (reg Doubles n)) = tt
destination_is (bare (reg Preds n)) = refl
destination_is (part q n) = tt

abbrev SelectedIs : OperandTree → Option Selected → Type 0
SelectedIs = FoundIs selected_tree

selected_is : (o : OperandTree) → GoodOperand o → SelectedIs o (selected_from (seen_operand o))
selected_is (inverted q) g = tt
selected_is (pair q s) g = tt
selected_is (bare (reg Words n)) g = refl
selected_is (bare (reg Halves n)) g = tt
selected_is (bare (reg Doubles n)) g = tt
selected_is (bare (reg Preds n)) g = tt
selected_is (part (reg Words n) w) g = go (selector_of (code_of w)) refl
  where
    go : (f : Option Selector) → selector_of (code_of w) ≡ f → SelectedIs (part (reg Words n) w) (part_by (Some (record { 0 = n })) f)
    go (Some s) e =
        let c = selector_sound (code_of w) s e in
        let k = short_name (selector_name s) c.short in
        ap (part (reg Words n)) (code_known w (selector_name s) g.1 k.0 k.1 c.code)
    go None e = tt
selected_is (part (reg Halves n) w) g = tt
selected_is (part (reg Doubles n) w) g = tt
selected_is (part (reg Preds n) w) g = tt

-- d of the forms with 2 and 4: bare or with its mask written
abbrev MaskedIs : LaneWidth → OperandTree → Option (Word × Mask) → Type 0
MaskedIs w o (Some d) = OneOf o (mask_tree w d.0 d.1) (part (r d.0) (mask_name w d.1)) × (mask_fits w d.1 ≡ true)
MaskedIs w o None = Unit {0}

masked_is : (w : LaneWidth) (o : OperandTree) → GoodOperand o → MaskedIs w o (masked_from w (seen_operand o))
masked_is w (inverted q) g = tt
masked_is w (pair q s) g = tt
masked_is Half (bare (reg Words n)) g = (as_standard refl, refl)
masked_is Byte (bare (reg Words n)) g = (as_standard refl, refl)
masked_is w (bare (reg Halves n)) g = tt
masked_is w (bare (reg Doubles n)) g = tt
masked_is w (bare (reg Preds n)) g = tt
masked_is w (part (reg Words n) k) g = go (mask_of w (code_of k)) (mask_sound w (code_of k))
  where
    go : (f : Option Mask) → MaskIs w (code_of k) f → MaskedIs w (part (reg Words n) k) (option_zip (Some (record { 0 = n })) f)
    go (Some m) e = (as_written (ap (part (reg Words n)) (mask_known w m k g.1 e.0)), e.1)
    go None e = tt
masked_is w (part (reg Halves n) k) g = tt
masked_is w (part (reg Doubles n) k) g = tt
masked_is w (part (reg Preds n) k) g = tt

-- a and b of the forms with 2 and 4: bare or with the selector written
abbrev LanedIs : LaneWidth → Digits → OperandTree → Option (Word × Digits) → Type 0
LanedIs w default o (Some a) =
    OneOf o (digits_tree w default a.0 a.1) (part (r a.0) (digits_name w a.1)) × (digits_fit w a.1 ≡ true)
LanedIs w default o None = Unit {0}

same_itself : (s : Digits) → same_digits s s ≡ true
same_itself s =
    rw (eq-eqb s.lane0 s.lane0 refl, eq-eqb s.lane1 s.lane1 refl, eq-eqb s.lane2 s.lane2 refl, eq-eqb s.lane3 s.lane3 refl)

laned_is : (w : LaneWidth) (default : Digits) → digits_fit w default ≡ true → (o : OperandTree) → GoodOperand o → LanedIs w default o (laned_from w default (seen_operand o))
laned_is w s f (inverted q) g = tt
laned_is w s f (pair q t) g = tt
laned_is w s f (bare (reg Words n)) g = (as_standard (rw (same_itself s)), f)
laned_is w s f (bare (reg Halves n)) g = tt
laned_is w s f (bare (reg Doubles n)) g = tt
laned_is w s f (bare (reg Preds n)) g = tt
laned_is w s f (part (reg Words n) k) g = go (digits_named w (code_of k)) (digits_sound w (code_of k))
  where
    go : (d : Option Digits) → DigitsIs w (code_of k) d → LanedIs w s (part (reg Words n) k) (option_zip (Some (record { 0 = n })) d)
    go (Some t) e = (as_written (ap (part (reg Words n)) (digits_known w t k g.1 e.0)), e.1)
    go None e = tt
laned_is w s f (part (reg Halves n) k) g = tt
laned_is w s f (part (reg Doubles n) k) g = tt
laned_is w s f (part (reg Preds n) k) g = tt

a_fits : (w : LaneWidth) → digits_fit w (default_a w) ≡ true
a_fits Half = refl
a_fits Byte = refl

b_fits : (w : LaneWidth) → digits_fit w (default_b w) ≡ true
b_fits Half = refl
b_fits Byte = refl

-- ==== the list of operands by its places

-- past the end stands `_|_`
abbrev absent : OperandTree
absent = pair nothing nothing

abbrev nth : List OperandTree → ℕ → OperandTree
nth os k = get_or os k absent

good_nth : {os : List OperandTree} → GoodOperands os → (k : ℕ) → GoodOperand (nth os k)
good_nth grammar.GoodOperands.none k = (tt, tt)
good_nth (grammar.GoodOperands.more g l) zero = g
good_nth (grammar.GoodOperands.more g l) (suc k) = good_nth l k

spare_nth : (m n k : ℕ) → k < m → k < n → get_or (take m (replicate n spare)) k untaken ≡ spare
spare_nth zero n k h g = absurd (omega arith)
spare_nth (suc m) zero k h g = absurd (omega arith)
spare_nth (suc m) (suc n) zero h g = refl
spare_nth (suc m) (suc n) (suc k) h g = spare_nth m n k (omega arith) (omega arith)

slot_nth : (os : List OperandTree) (m n k : ℕ) → k < m → k < n → get_or (take m (map slot os ++ replicate n spare)) k untaken ≡ slot (nth os k)
slot_nth [] m n k h g = spare_nth m n k h g
slot_nth (o ∷ os) zero n k h g = absurd (omega arith)
slot_nth (o ∷ os) (suc m) n zero h g = refl
slot_nth (o ∷ os) (suc m) n (suc k) h g = slot_nth os m n k (omega arith) (omega arith)

tree_nth : (os : List OperandTree) (k : ℕ) → k < operands_kept → tree_at (seen_operands os) k ≡ seen_operand (nth os k)
unfolding tree_at seen_operands
tree_nth os k h = rw (lt-leb operands_kept k h) (ap (λ (s : Slot). s.tree) (slot_nth os operands_kept operands_kept k h h))

-- what holds of every good operand holds at each place
at_place : (P : OperandTree → Tree → Type 0) → ((o : OperandTree) → GoodOperand o → P o (seen_operand o))
    → {os : List OperandTree} → GoodOperands os → (k : ℕ) → k < operands_kept → P (nth os k) (tree_at (seen_operands os) k)
at_place P f {os} g k h = subst (P (nth os k)) (sym (tree_nth os k h)) (f (nth os k) (good_nth g k))

listed : (os : List OperandTree) → os ≡ tab (length os) (nth os)
listed [] = refl
listed (o ∷ os) = ap (◌∷◌ o) (listed os)

listed_by_lem : (os : List OperandTree) (n : ℕ) → length os ≡ n → os ≡ tab n (nth os)
listed_by_lem os n e = listed os ∙ ap (λ (k : ℕ). tab k (nth os)) e

-- ==== what opcodes share

abbrev LastIs : {A : Type 0} → (A → OperandTree) → List OperandTree → Result A ℕ → Type 0
LastIs tree os (Ok c) = os ≡ nth os 0 ∷ nth os 1 ∷ nth os 2 ∷ tree c ∷ []
LastIs tree os (Err k) = Unit {0}

last_is : {A : Type 0} (tree : A → OperandTree) (os : List OperandTree) (c : Option A) → FoundIs tree (nth os 3) c → LastIs tree os (last_by (length os) c)
last_is tree os None e = tt
last_is tree os (Some c) e = go (eqb (length os) 4) refl
  where
    go : (t : Bool) → eqb (length os) 4 ≡ t → LastIs tree os (cond t (Ok c) (Err 4))
    go true f = listed_by_lem os 4 (eqb-true (length os) 4 f) ∙ ap (λ (x : OperandTree). nth os 0 ∷ nth os 1 ∷ nth os 2 ∷ x ∷ []) e
    go false f = tt

abbrev StartIs : Form → OperandTree → Option Start → Type 0
StartIs f o (Some (start.Plain d)) = (form.Plain no_word ≡ blank_form f) × (o ≡ bare (r d))
StartIs f o (Some (start.Merge d s)) = (form.Plain no_word ≡ blank_form f) × (o ≡ part (r d) (selector_name s))
StartIs f o (Some (start.Combine op d)) = (form.Combine op no_word no_word ≡ blank_form f) × (o ≡ bare (r d))
StartIs f o None = Unit {0}

start_is : (f : Form) (o : OperandTree) (d : Option Selected) → SelectedIs o d → StartIs f o (start_from f d)
start_is f o None e = tt
start_is (form.Plain d) o (Some (selected.Whole w)) e = (refl, e)
start_is (form.Plain d) o (Some (selected.Part w s)) e = (refl, e)
start_is (form.Merge d sel c) o (Some (selected.Whole w)) e = (refl, e)
start_is (form.Merge d sel c) o (Some (selected.Part w s)) e = (refl, e)
start_is (form.Combine op d c) o (Some (selected.Whole w)) e = (refl, e)
start_is (form.Combine op d c) o (Some (selected.Part w s)) e = tt

abbrev FormIs : List OperandTree → Form → Result Form ℕ → Type 0
FormIs os f (Ok g) = (blank_form g ≡ blank_form f) × (os ≡ form_tree g ∷ nth os 1 ∷ nth os 2 ∷ form_last g)
FormIs os f (Err k) = Unit {0}

form_is : (os : List OperandTree) (f : Form) (s : Start) (c : Option Word) → StartIs f (nth os 0) (Some s) → WordIs (nth os 3) c → FormIs os f (form_from s (length os) c)
form_is os f (start.Plain d) c e h = go (eqb (length os) 3) refl
  where
    go : (t : Bool) → eqb (length os) 3 ≡ t → FormIs os f (cond t (Ok (form.Plain d)) (Err 3))
    go true g = (e.0, listed_by_lem os 3 (eqb-true (length os) 3 g) ∙ ap (λ (x : OperandTree). x ∷ nth os 1 ∷ nth os 2 ∷ []) e.1)
    go false g = tt
form_is os f (start.Merge d s) c e h = go (last_by (length os) c) (last_is word_tree os c h)
  where
    go : (l : Result Word ℕ) → LastIs word_tree os l → FormIs os f (merge_form d s l)
    go (Ok w) k = (e.0, k ∙ ap (λ (x : OperandTree). x ∷ nth os 1 ∷ nth os 2 ∷ bare (r w) ∷ []) e.1)
    go (Err n) k = tt
form_is os f (start.Combine op d) c e h = go (last_by (length os) c) (last_is word_tree os c h)
  where
    go : (l : Result Word ℕ) → LastIs word_tree os l → FormIs os f (combine_form op d l)
    go (Ok w) k = (e.0, k ∙ ap (λ (x : OperandTree). x ∷ nth os 1 ∷ nth os 2 ∷ bare (r w) ∷ []) e.1)
    go (Err n) k = tt

abbrev ScalarIs : List OperandTree → Scalar → Result Scalar ℕ → Type 0
ScalarIs os s (Ok t) =
    (blank_scalar t ≡ blank_scalar s) × (os ≡ form_tree t.form ∷ selected_tree t.a ∷ selected_tree t.b ∷ form_last t.form)
ScalarIs os s (Err k) = Unit {0}

scalar_by_lem : (os : List OperandTree) (s : Scalar) (d : Option Start) (a b : Option Selected) (c : Option Word)
    → StartIs s.form (nth os 0) d → SelectedIs (nth os 1) a → SelectedIs (nth os 2) b → WordIs (nth os 3) c → ScalarIs os s (scalar_by s (length os) d a b c)
scalar_by_lem os s None a b c e g h k = tt
scalar_by_lem os s (Some d) None b c e g h k = tt
scalar_by_lem os s (Some d) (Some a) None c e g h k = tt
scalar_by_lem os s (Some d) (Some a) (Some b) c e g h k = go (form_from d (length os) c) (form_is os s.form d c e k)
  where
    go : (f : Result Form ℕ) → FormIs os s.form f → ScalarIs os s (scalar_end s f a b)
    go (Ok f) l = (
      ap (λ (x : Form). record { atype = s.atype; btype = s.btype; form = x; a = selected.Whole no_word; b = selected.Whole no_word }) l.0,
      l.1 ∙ ap₂ (λ (x y : OperandTree). form_tree f ∷ x ∷ y ∷ form_last f) g h,
    )
    go (Err n) l = tt

record LanesSpelled (os : List OperandTree) (l m : Lanes) : Type 0 where
  spelled : Spelled os (lanes_trees m) (written_lanes m)
  named : lanes_fit m ≡ true
  head : blank_lanes m ≡ blank_lanes l

abbrev LanesIs : List OperandTree → Lanes → Result Lanes ℕ → Type 0
LanesIs os l (Ok m) = LanesSpelled os l m
LanesIs os l (Err k) = Unit {0}

lanes_by_lem : (os : List OperandTree) (l : Lanes) (d : Option (Word × Mask)) (a b : Option (Word × Digits)) (c : Result Word ℕ)
    → MaskedIs l.width (nth os 0) d → LanedIs l.width (default_a l.width) (nth os 1) a → LanedIs l.width (default_b l.width) (nth os 2) b → LastIs word_tree os c
    → LanesIs os l (lanes_by l d a b c)
lanes_by_lem os l None a b c e g h k = tt
lanes_by_lem os l (Some d) None b c e g h k = tt
lanes_by_lem os l (Some d) (Some a) None c e g h k = tt
lanes_by_lem os l (Some d) (Some a) (Some b) (Err n) e g h k = tt
lanes_by_lem os l (Some d) (Some a) (Some b) (Ok c) e g h k =
    let m : Lanes = lanes_with l d a b c in
    let s : Spelled (nth os 0 ∷ nth os 1 ∷ nth os 2 ∷ bare (r c) ∷ []) (lanes_trees m) (written_lanes m) =
    more e.0 (more g.0 (more h.0 (more (as_standard refl) none))) in
    record { spelled = subst (λ (x : List OperandTree). Spelled x (lanes_trees m) (written_lanes m)) (sym k) s; named = rw (e.1, g.1, h.1); head = refl }

abbrev CombinationIs : List OperandTree → Combination → Result Combination ℕ → Type 0
CombinationIs os k (Ok j) = (blank_combination j ≡ blank_combination k) × (os ≡ nth os 0 ∷ nth os 1 ∷ nth os 2 ∷ combination_last j)
CombinationIs os k (Err n) = Unit {0}

combination_is : (os : List OperandTree) (k : Combination) (c : Option Condition) → ConditionIs (nth os 3) c → CombinationIs os k (combination_from k (length os) c)
combination_is os Alone c e = go (eqb (length os) 3) refl
  where
    go : (t : Bool) → eqb (length os) 3 ≡ t → CombinationIs os Alone (cond t (Ok Alone) (Err 3))
    go true g = (refl, listed_by_lem os 3 (eqb-true (length os) 3 g))
    go false g = tt
combination_is os (With op d) None e = tt
combination_is os (With op d) (Some c) e = go (eqb (length os) 4) refl
  where
    go : (t : Bool) → eqb (length os) 4 ≡ t → CombinationIs os (With op d) (cond t (Ok (With op c)) (Err 4))
    go true g = (refl, listed_by_lem os 4 (eqb-true (length os) 4 g) ∙ ap (λ (x : OperandTree). nth os 0 ∷ nth os 1 ∷ nth os 2 ∷ x ∷ []) e)
    go false g = tt

abbrev ComparisonIs : List OperandTree → Comparison → Result Comparison ℕ → Type 0
ComparisonIs os s (Ok t) =
    (blank_comparison t ≡ blank_comparison s) × (os ≡ nth os 0 ∷ bare (operand_place t.a) ∷ bare (operand_place t.b) ∷ combination_last t.combination)
ComparisonIs os s (Err k) = Unit {0}

comparison_by_lem : (os : List OperandTree) (s : Comparison) (a b : Option Operand) (k : Result Combination ℕ)
    → OperandIs (nth os 1) a → OperandIs (nth os 2) b → CombinationIs os s.combination k → ComparisonIs os s (comparison_by s a b k)
comparison_by_lem os s None b k e g h = tt
comparison_by_lem os s (Some a) None k e g h = tt
comparison_by_lem os s (Some a) (Some b) (Err n) e g h = tt
comparison_by_lem os s (Some a) (Some b) (Ok k) e g h = (
  ap (λ (x : Combination). record { cmp = s.cmp; combination = x; ftz = s.ftz; stype = s.stype; a = no_operand; b = no_operand }) h.0,
  h.1 ∙ ap₂ (λ (x y : OperandTree). nth os 0 ∷ x ∷ y ∷ combination_last k) e g,
)

abbrev ChoiceIs : List OperandTree → DataType → Result Choice ℕ → Type 0
ChoiceIs os t (Ok s) =
    (s.dtype ≡ t) × (nth os 0 ≡ bare (operand_place s.d)) × (nth os 1 ≡ bare (operand_place s.a)) × (nth os 2 ≡ bare (operand_place s.b))
ChoiceIs os t (Err k) = Unit {0}

choice_by_lem : (os : List OperandTree) (t : DataType) (d a b : Option Operand)
    → OperandIs (nth os 0) d → OperandIs (nth os 1) a → OperandIs (nth os 2) b → ChoiceIs os t (choice_by t d a b)
choice_by_lem os t None a b e g h = tt
choice_by_lem os t (Some d) None b e g h = tt
choice_by_lem os t (Some d) (Some a) None e g h = tt
choice_by_lem os t (Some d) (Some a) (Some b) e g h = (refl, e, g, h)

-- ==== the instruction

abbrev FilledIs : List OperandTree → Instruction → Result Instruction ℕ → Type 0
FilledIs os i (Ok j) = OperandsSpell os j × (blank j ≡ blank i)
FilledIs os i (Err k) = Unit {0}

itself : (ts : List OperandTree) → Spelled ts ts ts
itself [] = none
itself (o ∷ ts) = more (as_standard refl) (itself ts)

standing : {os ts : List OperandTree} → os ≡ ts → Spelled os ts ts
standing {os} {ts} e = rw e (itself ts)

arithmetic_by_lem : (os : List OperandTree) (op : Arith) (t : VideoType) (sat : Bool) (s : Scalar) (f : Result Scalar ℕ)
    → ScalarIs os s f → FilledIs os (Arithmetic op t sat s) (arithmetic_from op t sat f)
arithmetic_by_lem os op t sat s (Ok x) e = (record { operands = standing e.1; named = refl }, ap (Arithmetic op t sat) e.0)
arithmetic_by_lem os op t sat s (Err k) e = tt

vset_by_lem : (os : List OperandTree) (cmp : Cmp6) (s : Scalar) (f : Result Scalar ℕ) → ScalarIs os s f → FilledIs os (Vset cmp s) (vset_from cmp f)
vset_by_lem os cmp s (Ok x) e = (record { operands = standing e.1; named = refl }, ap (Vset cmp) e.0)
vset_by_lem os cmp s (Err k) e = tt

vset_lanes_by_lem : (os : List OperandTree) (cmp : Cmp6) (l : Lanes) (f : Result Lanes ℕ) → LanesIs os l f → FilledIs os (VsetLanes cmp l) (vset_lanes_from cmp f)
vset_lanes_by_lem os cmp l (Ok x) e = (record { operands = e.spelled; named = e.named }, ap (VsetLanes cmp) e.head)
vset_lanes_by_lem os cmp l (Err k) e = tt

arithmetic_lanes_by : (os : List OperandTree) (op : LaneArith) (t : VideoType) (sat : Bool) (l : Lanes) (f : Result Lanes ℕ)
    → LanesIs os l f → FilledIs os (ArithmeticLanes op t sat l) (arithmetic_lanes_from op t sat f)
arithmetic_lanes_by os op t sat l (Ok x) e = (record { operands = e.spelled; named = e.named }, ap (ArithmeticLanes op t sat) e.head)
arithmetic_lanes_by os op t sat l (Err k) e = tt

set_by_lem : (os : List OperandTree) (t : SetType) (x : Word) (s : Comparison) (d : Option Word) (f : Result Comparison ℕ)
    → WordIs (nth os 0) d → ComparisonIs os s f → FilledIs os (Set t x s) (set_from t d f)
set_by_lem os t x s None f e g = tt
set_by_lem os t x s (Some d) (Err k) e g = tt
set_by_lem os t x s (Some d) (Ok c) e g = (
  record { operands = standing (g.1 ∙ ap (λ (y : OperandTree). y ∷ bare (operand_place c.a) ∷ bare (operand_place c.b) ∷ combination_last c.combination) e); named = refl },
  ap (Set t no_word) g.0,
)

setp_by_lem : (os : List OperandTree) (x : Destination) (s : Comparison) (d : Option Destination) (f : Result Comparison ℕ)
    → DestinationIs (nth os 0) d → ComparisonIs os s f → FilledIs os (Setp x s) (setp_from d f)
setp_by_lem os x s None f e g = tt
setp_by_lem os x s (Some d) (Err k) e g = tt
setp_by_lem os x s (Some d) (Ok c) e g = (
  record { operands = standing (g.1 ∙ ap (λ (y : OperandTree). y ∷ bare (operand_place c.a) ∷ bare (operand_place c.b) ∷ combination_last c.combination) e); named = refl },
  ap (Setp (One no_pred)) g.0,
)

four : {x y z u x' y' z' u' : OperandTree} → x ≡ x' → y ≡ y' → z ≡ z' → u ≡ u' → x ∷ y ∷ z ∷ u ∷ [] ≡ x' ∷ y' ∷ z' ∷ u' ∷ []
four a b c d = rw (a, b, c, d)

selp_by_lem : (os : List OperandTree) (s : Choice) (x : Pred) (f : Result Choice ℕ) (c : Result Pred ℕ)
    → ChoiceIs os s.dtype f → LastIs pred_tree os c → FilledIs os (Selp s x) (selp_from f c)
selp_by_lem os s x (Err k) c e g = tt
selp_by_lem os s x (Ok u) (Err k) e g = tt
selp_by_lem os s x (Ok u) (Ok c) e g =
    (record { operands = standing (g ∙ four e.1 e.2 e.3 refl); named = refl }, ap (λ (y : DataType). Selp (blank_choice y) no_pred) e.0)

slct_by_lem : (os : List OperandTree) (t : SlctType) (s : Choice) (x : Word) (f : Result Choice ℕ) (c : Result Word ℕ)
    → ChoiceIs os s.dtype f → LastIs word_tree os c → FilledIs os (Slct t s x) (slct_from t f c)
slct_by_lem os t s x (Err k) c e g = tt
slct_by_lem os t s x (Ok u) (Err k) e g = tt
slct_by_lem os t s x (Ok u) (Ok c) e g =
    (record { operands = standing (g ∙ four e.1 e.2 e.3 refl); named = refl }, ap (λ (y : DataType). Slct t (blank_choice y) no_word) e.0)

module _ (os : List OperandTree) (good : GoodOperands os) where
  abbrev seen : Operands
  seen = seen_operands os

  word_at : (k : ℕ) → k < operands_kept → WordIs (nth os k) (bare_word (tree_at seen k))
  word_at k h = at_place (λ (o : OperandTree) (t : Tree). WordIs o (bare_word t)) (λ o g. word_is o) good k h

  operand_at : (k : ℕ) → k < operands_kept → OperandIs (nth os k) (bare_operand (tree_at seen k))
  operand_at k h = at_place (λ (o : OperandTree) (t : Tree). OperandIs o (bare_operand t)) (λ o g. operand_is o) good k h

  selected_at : (k : ℕ) → k < operands_kept → SelectedIs (nth os k) (selected_from (tree_at seen k))
  selected_at k h = at_place (λ (o : OperandTree) (t : Tree). SelectedIs o (selected_from t)) selected_is good k h

  last_at : LastIs word_tree os (last_by seen.n (bare_word (tree_at seen 3)))
  unfolding seen_operands
  last_at = last_is word_tree os (bare_word (tree_at seen 3)) (word_at 3 (omega arith))

  scalar_at : (s : Scalar) → ScalarIs os s (scalar_from s seen)
  unfolding scalar_from seen_operands
  scalar_at s =
      let d = selected_from (tree_at seen 0) in
      let a = selected_from (tree_at seen 1) in
      let b = selected_from (tree_at seen 2) in
      scalar_by_lem os s (start_from s.form d) a b (bare_word (tree_at seen 3))
      (start_is s.form (nth os 0) d (selected_at 0 (omega arith)))
      (selected_at 1 (omega arith))
      (selected_at 2 (omega arith))
      (word_at 3 (omega arith))

  condition_at : ConditionIs (nth os 3) (condition_of (tree_at seen 3))
  condition_at = at_place (λ (o : OperandTree) (t : Tree). ConditionIs o (condition_of t)) (λ o g. condition_is o) good 3 (omega arith)

  comparison_at : (s : Comparison) → ComparisonIs os s (comparison_from s seen)
  unfolding comparison_from seen_operands
  comparison_at s =
      let c = condition_of (tree_at seen 3) in
      comparison_by_lem os s (bare_operand (tree_at seen 1)) (bare_operand (tree_at seen 2)) (combination_from s.combination (length os) c)
      (operand_at 1 (omega arith))
      (operand_at 2 (omega arith))
      (combination_is os s.combination c condition_at)

  choice_at : (s : Choice) → ChoiceIs os s.dtype (choice_from s seen)
  unfolding choice_from
  choice_at s =
      choice_by_lem os s.dtype (bare_operand (tree_at seen 0)) (bare_operand (tree_at seen 1)) (bare_operand (tree_at seen 2))
      (operand_at 0 (omega arith))
      (operand_at 1 (omega arith))
      (operand_at 2 (omega arith))

  masked_at : (w : LaneWidth) → MaskedIs w (nth os 0) (masked_from w (tree_at seen 0))
  masked_at w = at_place (λ (o : OperandTree) (t : Tree). MaskedIs w o (masked_from w t)) (masked_is w) good 0 (omega arith)

  laned_at : (w : LaneWidth) (default : Digits) → digits_fit w default ≡ true → (k : ℕ) → k < operands_kept
      → LanedIs w default (nth os k) (laned_from w default (tree_at seen k))
  laned_at w default f k h = at_place (λ (o : OperandTree) (t : Tree). LanedIs w default o (laned_from w default t)) (laned_is w default f) good k h

  lanes_at : (l : Lanes) → LanesIs os l (lanes_from l seen)
  unfolding lanes_from
  lanes_at l =
      let w = l.width in
      lanes_by_lem os l (masked_from w (tree_at seen 0)) (laned_from w (default_a w) (tree_at seen 1)) (laned_from w (default_b w) (tree_at seen 2)) (last_by seen.n (bare_word (tree_at seen 3)))
      (masked_at w)
      (laned_at w (default_a w) (a_fits w) 1 (omega arith))
      (laned_at w (default_b w) (b_fits w) 2 (omega arith))
      last_at

  destination_at : DestinationIs (nth os 0) (destination_of (tree_at seen 0))
  destination_at = at_place (λ (o : OperandTree) (t : Tree). DestinationIs o (destination_of t)) (λ o g. destination_is o) good 0 (omega arith)

  pred_at : PredIs (nth os 3) (bare_pred (tree_at seen 3))
  pred_at = at_place (λ (o : OperandTree) (t : Tree). PredIs o (bare_pred t)) (λ o g. pred_is_lem o) good 3 (omega arith)

  pred_last_at : LastIs pred_tree os (last_by seen.n (bare_pred (tree_at seen 3)))
  unfolding seen_operands
  pred_last_at = last_is pred_tree os (bare_pred (tree_at seen 3)) pred_at

  filled_is : (i : Instruction) → FilledIs os i (filled_of i seen)
  unfolding filled_of seen_operands
  filled_is (Arithmetic op t sat s) = arithmetic_by_lem os op t sat s (scalar_from s seen) (scalar_at s)
  filled_is (Vset cmp s) = vset_by_lem os cmp s (scalar_from s seen) (scalar_at s)
  filled_is (VsetLanes cmp l) = vset_lanes_by_lem os cmp l (lanes_from l seen) (lanes_at l)
  filled_is (ArithmeticLanes op t sat l) = arithmetic_lanes_by os op t sat l (lanes_from l seen) (lanes_at l)
  filled_is (Set t x s) = set_by_lem os t x s (bare_word (tree_at seen 0)) (comparison_from s seen) (word_at 0 (omega arith)) (comparison_at s)
  filled_is (Setp x s) = setp_by_lem os x s (destination_of (tree_at seen 0)) (comparison_from s seen) destination_at (comparison_at s)
  filled_is (Selp s x) = selp_by_lem os s x (choice_from s seen) (last_by seen.n (bare_pred (tree_at seen 3))) (choice_at s) pred_last_at
  filled_is (Slct t s x) = slct_by_lem os t s x (choice_from s seen) (last_by seen.n (bare_word (tree_at seen 3))) (choice_at s) last_at

pub fill_sound : (i j : Instruction) (os : List OperandTree) → blank i ≡ i → GoodOperands os → filled_of i (seen_operands os) ≡ Ok j → OperandsSpell os j × (blank j ≡ i)
fill_sound i j os h g e =
    let f = subst (FilledIs os i) e (filled_is os g i) in
    (f.0, f.1 ∙ h)
