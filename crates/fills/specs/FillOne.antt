-- What a reader needs besides: operands spell at most one instruction with a given head, and none where they are not taken. Assumes nothing.
use Rattle.std.specs.Prelude.{ℕ, ◌≡◌, refl, List, Err, Ok, Result}
use Rattle.std.proofs.Common.{arith, sym, ap, ◌∙◌}
use Rattle.record.specs.declared.Combination.{Combination}
use Rattle.record.specs.declared.Combination.TheVariants.{Alone, With}
use Rattle.record.specs.declared.Comparison.{Comparison}
use Rattle.record.specs.declared.Form.{Form}
use Rattle.record.specs.declared.Form.TheVariants.{Plain, Merge, Combine}
use Rattle.record.specs.declared.Instruction.{Instruction}
use Rattle.record.specs.declared.Instruction.TheVariants.{Arithmetic, Vset, VsetLanes, ArithmeticLanes, Set, Setp, Selp, Slct}
use Rattle.record.specs.declared.Scalar.{Scalar}
use Rattle.record.specs.declared.Selected.TheVariants.{Whole}
use Rattle.record.specs.declared.Destination.TheVariants.{One}
use Rattle.rules.specs.Shape.{OperandTree}
use Rattle.rules.specs.Reading.{OperandsSpell}
use Rattle.tree.specs.Seen.{seen_operands}
use Rattle.tree.specs.Blank.{no_word, no_pred, no_operand, blank, blank_form, blank_scalar, blank_combination, blank_comparison}
use Rattle.fills.specs.Fills.{filled_of}
use Rattle.fills.specs.FillComplete.{fill_complete}

full_one : (i j : Instruction) → ◌≡◌ {A = Result Instruction ℕ} (Ok i) (Ok j) → i ≡ j
full_one i j e = cc

never : (i : Instruction) (k : ℕ) → Err k ≡ Ok i → ⊥
never i k e = let z : ◌≡◌ {A = ℕ} 0 1 = cc in omega arith

pub spell_one : (i j : Instruction) (os : List OperandTree) → blank i ≡ blank j → OperandsSpell os i → OperandsSpell os j → i ≡ j
spell_one i j os e g h =
    full_one i j (sym (fill_complete i os g) ∙ ap (λ (x : Instruction). filled_of x (seen_operands os)) e ∙ fill_complete j os h)

pub wrong_none : (i j : Instruction) (os : List OperandTree) (k : ℕ) → filled_of i (seen_operands os) ≡ Err k → blank j ≡ i → OperandsSpell os j → ⊥
wrong_none i j os k w e h = never j k (sym w ∙ ap (λ (x : Instruction). filled_of x (seen_operands os)) (sym e) ∙ fill_complete j os h)

-- ==== a blank instruction is its own blank

form_twice : (f : Form) → blank_form (blank_form f) ≡ blank_form f
form_twice (Plain d) = refl
form_twice (Merge d sel c) = refl
form_twice (Combine op d c) = refl

scalar_twice : (s : Scalar) → blank_scalar (blank_scalar s) ≡ blank_scalar s
scalar_twice s = ap (λ (f : Form). record { atype = s.atype; btype = s.btype; form = f; a = Whole no_word; b = Whole no_word }) (form_twice s.form)

combination_twice : (k : Combination) → blank_combination (blank_combination k) ≡ blank_combination k
combination_twice Alone = refl
combination_twice (With op c) = refl

comparison_twice : (s : Comparison) → blank_comparison (blank_comparison s) ≡ blank_comparison s
comparison_twice s =
    ap (λ (k : Combination). record { cmp = s.cmp; combination = k; ftz = s.ftz; stype = s.stype; a = no_operand; b = no_operand })
    (combination_twice s.combination)

pub blank_twice : (i : Instruction) → blank (blank i) ≡ blank i
blank_twice (Arithmetic op dtype sat s) = ap (Arithmetic op dtype sat) (scalar_twice s)
blank_twice (Vset cmp s) = ap (Vset cmp) (scalar_twice s)
blank_twice (VsetLanes cmp l) = refl
blank_twice (ArithmeticLanes op dtype sat l) = refl
blank_twice (Set dtype d s) = ap (Set dtype no_word) (comparison_twice s)
blank_twice (Setp d s) = ap (Setp (One no_pred)) (comparison_twice s)
blank_twice (Selp s c) = refl
blank_twice (Slct ctype s c) = refl
