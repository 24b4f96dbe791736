-- What the code tries tells whether some legal list under the head begins with the first operands: so where it stops is the place of refusal 5.
use Prim.Native.Nat.{ℕ, zero, suc, ◌+◌, ◌-◌, ◌≤◌, ◌<◌}
use Rattle.std.proofs.Common.{arith, ap₂, ◌∙◌, subst, take_at, le-ltb, ltb-true, ltb-false}
use Rattle.std.specs.Prelude.{◌≡◌, ◌||◌, List, [], ◌∷◌, ◌++◌, map, eqb, leb, length, take, Err, Ok, Result}
use Rattle.std.proofs.Math.Path.{refl, sym, ap}
use Rattle.std.proofs.Math.Bool.{Bool, true, false, cond}
use Rattle.std.proofs.Math.Dec.{ltb}
use Rattle.std.proofs.Math.ListN.{get_or, replicate, length-append, length-map}
use Rattle.std.proofs.Math.Seq.{length-take-le}
use Rattle.std.proofs.lemmas.Bool.{lt-leb}
use Rattle.record.specs.Modifiers.{instruction_modifiers_fit}
use Rattle.record.specs.declared.Form.{Form}
use Rattle.record.specs.declared.Form.TheVariants.{Plain, Merge, Combine}
use Rattle.record.specs.declared.Combination.{Combination}
use Rattle.record.specs.declared.Combination.TheVariants.{Alone, With}
use Rattle.record.specs.declared.Instruction.{Instruction}
use Rattle.record.specs.declared.Instruction.TheVariants.{Arithmetic, Vset, VsetLanes, ArithmeticLanes, Set, Setp, Selp, Slct}
use Rattle.record.specs.declared.DataType.{DataType}
use Rattle.record.specs.declared.DataType.TheVariants.{B16, B32, B64, U16, U32, U64, S16, S32, S64, F32, F64}
use Rattle.record.specs.Registers.{operand_place}
use Rattle.rules.specs.Shape.{Name, OperandTree, bare}
use Rattle.rules.specs.Names.{head_names}
use Rattle.rules.specs.Spelling.{form_last, combination_last, operand_trees}
use Rattle.rules.specs.Grammar.{GoodOperand, GoodOperands}
use Rattle.rules.specs.Grammar.GoodOperands.{none as no_operand, more as other-operand}
use Rattle.rules.specs.Reading.{Spelled, LegalOperands}
use Rattle.rules.specs.Reading.Spelled.{none as no-spelled, more as more-spelled}
use Rattle.rules.specs.BytePlaces.{Begins, FirstWrong}
use Rattle.begins.specs.Searches.{turns_at, searched, Tells, turn_first_wrong, search_first_wrong}
use Rattle.begins.specs.Endings.{Each, no_more, and_more, some, some_right, some_all, low, high, three}
use Rattle.tree.specs.Seen.{seen_operand, seen_operands, slot, spare, operands_kept}
use Rattle.tree.specs.Blank.{blank}
use Rattle.tree.specs.declared.Tree.{Tree}
use Rattle.tree.specs.declared.Operands.{Operands}
use Rattle.tree.specs.declared.Slot.{Slot}
use Rattle.heads.specs.Complete.{same_row, fit_blank, blank_names}
use Rattle.fills.specs.Fills.{untaken, tree_at, filled_of}
use Rattle.fills.specs.FillComplete.{fill_complete}
use Rattle.fills.specs.FillSound.{fill_sound}
use Rattle.fillplace.specs.Tries.{typed, is_full, is_filled, none, slot_of, entry, completed, tried, begins_filled, guess_of, operand_place_of}
use Rattle.fillplace.specs.EndingLaws.{w, v, x_of, endings, Ends, operands_end, some_list}

not_so : {A : Type 0} → false ≡ true → A
not_so e = let z : ◌≡◌ {A = ℕ} 0 1 = cc in absurd (omega arith)

-- ==== the first k operands with others behind them

kept_tree : (k m j : ℕ) (os : List OperandTree) → j < k → k ≤ m → (get_or (take k (map slot os ++ replicate m spare)) j untaken).tree ≡ get_or (map seen_operand os) j none
kept_tree zero m j os h i = absurd (omega arith)
kept_tree (suc k) zero j os h i = absurd (omega arith)
kept_tree (suc k) (suc m) zero [] h i = refl
kept_tree (suc k) (suc m) (suc j) [] h i = kept_tree k m j [] (omega arith) (omega arith)
kept_tree (suc k) (suc m) zero (o ∷ os) h i = refl
kept_tree (suc k) (suc m) (suc j) (o ∷ os) h i = kept_tree k (suc m) j os (omega arith) (omega arith)

five : (l : List OperandTree)
    → slot_of (get_or (map seen_operand l) 0 none) ∷ slot_of (get_or (map seen_operand l) 1 none) ∷ slot_of (get_or (map seen_operand l) 2 none) ∷ slot_of (get_or (map seen_operand l) 3 none) ∷ slot_of (get_or (map seen_operand l) 4 none) ∷ []
    ≡ take 5 (map slot l ++ replicate 5 spare)
five [] = refl
five (a ∷ []) = refl
five (a ∷ b ∷ []) = refl
five (a ∷ b ∷ c ∷ []) = refl
five (a ∷ b ∷ c ∷ d ∷ []) = refl
five (a ∷ b ∷ c ∷ d ∷ e ∷ l) = refl

of_entries : (o : Operands) (l : List OperandTree) (k n : ℕ) (x y z : Tree) → k + n ≡ length l → ((j : ℕ) → j < 5 → entry o k x y z j ≡ get_or (map seen_operand l) j none) → completed o k n x y z ≡ seen_operands l
unfolding completed seen_operands
of_entries o l k n x y z e f =
    ap₂ (λ (m : ℕ) (s : List Slot). record { n = m; at = s }) e
    (rw (f 0 (omega arith), f 1 (omega arith), f 2 (omega arith), f 3 (omega arith), f 4 (omega arith)) (five l))

module _ (i : Instruction) where
  abbrev fill_test : List OperandTree → Bool
  fill_test os = is_filled i (seen_operands os)

  module _ (os : List OperandTree) (k : ℕ) (inside : k ≤ length os) (e : List OperandTree) (short : length e ≤ 3) where
    -- the ending as the code has it
    abbrev seen : ℕ → Tree
    seen j = get_or (map seen_operand e) j none

    entry_is : (j : ℕ) → j < 5 → entry (seen_operands os) k (seen 0) (seen 1) (seen 2) j ≡ get_or (map seen_operand (take k os ++ e)) j none
    unfolding entry tree_at seen_operands
    entry_is j h = go (ltb j k) refl
      where
        go : (t : Bool) → ltb j k ≡ t
            → cond t (cond (leb operands_kept j) spare.tree (get_or (take 5 (map slot os ++ replicate 5 spare)) j untaken).tree) (cond (eqb (j - k) 0) (seen 0) (cond (eqb (j - k) 1) (seen 1) (cond (eqb (j - k) 2) (seen 2) none)))
            ≡ get_or (map seen_operand (take k os ++ e)) j none
        go true t = rw (lt-leb operands_kept j h) (kept_tree 5 5 j os h (omega arith) ∙ sym (low seen_operand none os e k j inside (ltb-true j k t)))
        go false t = three none (map seen_operand e) (omega (arith, length-map e seen_operand)) (j - k) ∙ sym (high seen_operand none os e k j inside (ltb-false j k t))

    tried_is : tried i (seen_operands os) k (length e) (seen 0) (seen 1) (seen 2) ≡ fill_test (take k os ++ e)
    unfolding tried
    tried_is =
        ap (is_filled i) (of_entries (seen_operands os) (take k os ++ e) k (length e) (seen 0) (seen 1) (seen 2) (omega (arith, length-append (take k os) e, length-take-le k os inside)) entry_is)

or_false : (t : Bool) → t ≡ t || false
or_false true = refl
or_false false = refl

begins_is : (i : Instruction) (os : List OperandTree) (k : ℕ) → k ≤ length os → k ≤ 4 → begins_filled i (seen_operands os) k ≡ some (fill_test i) (take k os) (endings (x_of i))
unfolding begins_filled
begins_is i os k h l =
    let x = x_of i in
    rw (le-ltb 4 k l)
    (ap₂ ◌||◌ (tried_is i os k h ([]) (omega arith))
    (ap₂ ◌||◌ (tried_is i os k h (x ∷ []) (omega arith))
    (ap₂ ◌||◌ (tried_is i os k h (x ∷ x ∷ []) (omega arith))
    (ap₂ ◌||◌ (tried_is i os k h (v ∷ []) (omega arith))
    (ap₂ ◌||◌ (tried_is i os k h (x ∷ v ∷ []) (omega arith))
    (ap₂ ◌||◌ (tried_is i os k h (x ∷ x ∷ v ∷ []) (omega arith))
    (ap₂ ◌||◌ (tried_is i os k h (w ∷ []) (omega arith))
    (ap₂ ◌||◌ (tried_is i os k h (x ∷ w ∷ []) (omega arith))
    (tried_is i os k h (x ∷ x ∷ w ∷ []) (omega arith) ∙ or_false _)))))))))

good_append : {s t : List OperandTree} → GoodOperands s → GoodOperands t → GoodOperands (s ++ t)
good_append no_operand h = h
good_append (other-operand g gs) h = other-operand g (good_append gs h)

good_take : {os : List OperandTree} → GoodOperands os → (k : ℕ) → GoodOperands (take k os)
good_take g zero = no_operand
good_take no_operand (suc k) = no_operand
good_take (other-operand g gs) (suc k) = other-operand g (good_take gs k)

row_good : (t : DataType) → GoodOperand (bare (operand_place (typed t)))
row_good B16 = omega arith
row_good B32 = omega arith
row_good B64 = omega arith
row_good U16 = omega arith
row_good U32 = omega arith
row_good U64 = omega arith
row_good S16 = omega arith
row_good S32 = omega arith
row_good S64 = omega arith
row_good F32 = omega arith
row_good F64 = omega arith

x_good : (i : Instruction) → GoodOperand (x_of i)
x_good (Arithmetic op d sat s) = omega arith
x_good (Vset c s) = omega arith
x_good (VsetLanes c l) = omega arith
x_good (ArithmeticLanes op d sat l) = omega arith
x_good (Set t d s) = row_good s.stype
x_good (Setp d s) = row_good s.stype
x_good (Selp s c) = row_good s.dtype
x_good (Slct t s c) = row_good s.dtype

endings_good : (x : OperandTree) → GoodOperand x → Each GoodOperands (endings x)
endings_good x a =
    let b : GoodOperand w = omega arith in
    let c : GoodOperand v = omega arith in
    (and_more no_operand
    (and_more (other-operand a no_operand)
    (and_more (other-operand a (other-operand a no_operand))
    (and_more (other-operand c no_operand)
    (and_more (other-operand a (other-operand c no_operand))
    (and_more (other-operand a (other-operand a (other-operand c no_operand)))
    (and_more (other-operand b no_operand)
    (and_more (other-operand a (other-operand b no_operand))
    (and_more (other-operand a (other-operand a (other-operand b no_operand)))
    no_more)))))))))

spelled_length : {os ss ws : List OperandTree} → Spelled os ss ws → length os ≡ length ss
spelled_length no-spelled = refl
spelled_length (more-spelled o k) = ap suc (spelled_length k)

form_last_lem : (f : Form) → length (form_last f) ≤ 1
form_last_lem (Plain d) = omega arith
form_last_lem (Merge d s c) = omega arith
form_last_lem (Combine o d c) = omega arith

combination_last_lem : (b : Combination) → length (combination_last b) ≤ 1
combination_last_lem Alone = omega arith
combination_last_lem (With o c) = omega arith

four_trees : (i : Instruction) → length (operand_trees i) ≤ 4
four_trees (Arithmetic op d sat s) = omega (arith, form_last_lem s.form)
four_trees (Vset c s) = omega (arith, form_last_lem s.form)
four_trees (VsetLanes c l) = omega arith
four_trees (ArithmeticLanes op d sat l) = omega arith
four_trees (Set t d s) = omega (arith, combination_last_lem s.combination)
four_trees (Setp d s) = omega (arith, combination_last_lem s.combination)
four_trees (Selp s c) = omega arith
four_trees (Slct t s c) = omega arith

at_most_four : (i : Instruction) {os ws : List OperandTree} → Spelled os (operand_trees i) ws → length os ≤ 4
at_most_four i x = subst (λ (n : ℕ). n ≤ 4) (sym (spelled_length x)) (four_trees i)

at_most : (i : Instruction) (o : Operands) (k : ℕ) → begins_filled i o k ≡ true → k ≤ 4
unfolding begins_filled
at_most i o k e = go (ltb 4 k) refl _ e
  where
    go : (t : Bool) → ltb 4 k ≡ t → (x : Bool) → cond t false x ≡ true → k ≤ 4
    go true p x s = not_so s
    go false p x s = ltb-false 4 k p

-- a row keeps its register where its operands are taken out; so rows of one head have one (`same_row`)
x_blank : (i : Instruction) → x_of (blank i) ≡ x_of i
x_blank (Arithmetic op d sat s) = refl
x_blank (Vset c s) = refl
x_blank (VsetLanes c l) = refl
x_blank (ArithmeticLanes op d sat l) = refl
x_blank (Set t d s) = refl
x_blank (Setp d s) = refl
x_blank (Selp s c) = refl
x_blank (Slct t s c) = refl

-- ==== a row that is filled has a legal list of operands

module _ (head : List Name) (i : Instruction) (names : head ≡ head_names i) (empty : blank i ≡ i) (fit : instruction_modifiers_fit i ≡ true) where
  filled_right : (os : List OperandTree) → GoodOperands os → fill_test i os ≡ true → LegalOperands head os
  unfolding is_filled
  filled_right os g e = go (filled_of i (seen_operands os)) refl e
    where
      go : (f : Result Instruction ℕ) → filled_of i (seen_operands os) ≡ f → is_full f ≡ true → LegalOperands head os
      go (Ok j) x y =
          let z = fill_sound i j os empty g x in
          record {
            instruction = j;
            row = record { names = names ∙ ap head_names (sym z.1) ∙ blank_names j; fit = sym (fit_blank j) ∙ ap instruction_modifiers_fit z.1 ∙ fit };
            spells = z.0;
            fit = y;
          }
      go (Err k) x y = not_so y

  filled_all : (os : List OperandTree) → LegalOperands head os → fill_test i os ≡ true
  unfolding is_filled
  filled_all os l =
      let e : i ≡ blank l.instruction = sym empty ∙ same_row i l.instruction (sym names ∙ l.row.names) in
      ap (λ (x : Instruction). is_full (filled_of x (seen_operands os))) e ∙ ap is_full (fill_complete l.instruction os l.spells) ∙ l.fit

  -- ---- no list has over four operands
  begun : (os : List OperandTree) (k : ℕ) → suc k ≤ length os → Begins (LegalOperands head) (take (suc k) os) → (suc k ≤ 4) × Ends (x_of i) head (take (suc k) os)
  begun os k h b =
      let s : List OperandTree = take (suc k) os in
      let n : length s ≡ suc k = length-take-le (suc k) os h in
      let m : length s + length b.rest ≤ 4 = subst (λ (x : ℕ). x ≤ 4) (length-append s b.rest) (at_most_four b.whole.instruction b.whole.spells.operands) in
      let e : x_of i ≡ x_of b.whole.instruction = ap x_of (sym empty ∙ same_row i b.whole.instruction (sym names ∙ b.whole.row.names)) ∙ x_blank b.whole.instruction in
      (omega arith, subst (λ (x : OperandTree). Ends x head s) (sym e) (subst (λ (l : List OperandTree). Ends (x_of b.whole.instruction) head l) (take_at s b.rest (suc k) n) (operands_end head (s ++ b.rest) b.whole k)))

  operands_tell : (os : List OperandTree) → GoodOperands os → Tells (LegalOperands head) os (begins_filled i (seen_operands os))
  operands_tell os g = record {
    right = λ k h e. some_right (fill_test i) (take (suc k) os) (λ x y. filled_right (take (suc k) os ++ x) (good_append (good_take g (suc k)) y)) (endings_good (x_of i) (x_good i))
        (sym (begins_is i os (suc k) h (at_most i (seen_operands os) (suc k) e)) ∙ e);
    all = λ k h b. let x = begun os k h b in begins_is i os (suc k) h x.0 ∙ some_all (fill_test i) (take (suc k) os) filled_all x.1;
    some = subst (λ (ns : List Name). Begins (LegalOperands ns) []) (sym names) (some_list i fit);
  }

  -- the code's place is the first operand that no legal list under the head has after the ones before it, or the end of the list
  pub operand_place_right : (os : List OperandTree) → GoodOperands os → FirstWrong (LegalOperands head) os (operand_place_of i (seen_operands os))
  unfolding operand_place_of seen_operands
  operand_place_right os g = go (turns_at test (length os) k) refl
    where
      test : ℕ → Bool
      test = begins_filled i (seen_operands os)

      k : ℕ
      k = guess_of (filled_of i (seen_operands os))

      tells : Tells (LegalOperands head) os test
      tells = operands_tell os g

      go : (t : Bool) → turns_at test (length os) k ≡ t → FirstWrong (LegalOperands head) os (cond t k (searched test 0 (length os)))
      go true e = turn_first_wrong (LegalOperands head) os test tells k e
      go false e = search_first_wrong (LegalOperands head) os test tells
