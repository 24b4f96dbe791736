-- The code's place of each refusal is the one that `Placed` gives it, and no other. Assumes nothing.
use Rattle.std.specs.Prelude.{ℕ, ◌+◌, ◌≤◌, ◌≡◌, Bool, true, false, length, drop, Result, Ok}
use Rattle.std.proofs.Common.{arith, ap₂, ◌∙◌, eqb-true}
use Rattle.std.proofs.Math.Path.{refl, sym, ap, subst}
use mathlib.Core.List.{List, ◌∷◌, ◌++◌, map}
use Rattle.std.proofs.lemmas.Bool.{not-false}
use Rattle.signs.specs.Bytes.{is_blank}
use Rattle.signs.specs.Text.{bytes}
use Rattle.record.specs.declared.File.TheVariants.{Words, Halves, Doubles, Preds}
use Rattle.record.specs.Registers.{reg, pred, p}
use Rattle.record.specs.Refusals.{numbers_in_range, pair_apart, instruction_apart}
use Rattle.record.specs.declared.Guard.{Guard}
use Rattle.record.specs.declared.Guard.TheVariants.{Always, When}
use Rattle.record.specs.declared.Destination.TheVariants.{One, Pair, First, Second}
use Rattle.record.specs.declared.Instruction.{Instruction}
use Rattle.record.specs.declared.Instruction.TheVariants.{Arithmetic, Vset, VsetLanes, ArithmeticLanes, Set, Setp, Selp, Slct}
use Rattle.record.specs.declared.Record.{Record}
use Rattle.rules.specs.Shape.{Name, register_text, at, OperandTree, pair}
use Rattle.rules.specs.Spelling.{operand_trees, written_trees}
use Rattle.rules.specs.Grammar.{LineTree, Good, line_text, GuardTree, unguarded, guarded, Divided, names_of, operands_of, GoodNames, GoodOthers, GoodOperands, Shaped}
use Rattle.rules.specs.Grammar.GoodNames.{more as name_more}
use Rattle.rules.specs.Grammar.GoodOthers.{none as no_other, more as other-more}
use Rattle.rules.specs.Grammar.GoodOperands.{none as no_operand, more as operand-more}
use Rattle.rules.specs.BytePlaces.{FirstWrong, ShapedLine, guard_start, head_start, name_start, operands_start, operand_start, registers_of, FirstOutside}
use Rattle.rules.specs.Reading.{GuardSpells, as_standard, as_written, Spelled, Spells, line_limit, Row, LegalNames, LegalOperands, Placed, at_byte, at_opcode, at_modifier, at_guard, at_operand, at_register, at_second}
use Rattle.rules.specs.Reading.Spelled.{more}
use Rattle.laws.specs.PlaceLaws.{off, outside_spelled}
use Rattle.begins.specs.FirstWrongLaws.{first_wrong_one}
use Rattle.tree.specs.Seen.{seen, seen_guard, seen_head, seen_operands}
use Rattle.tree.specs.Blank.{blank}
use Rattle.scan.specs.Runs.{run_length, capped_sum}
use Rattle.scan.specs.RunLaws.{sum_is}
use Rattle.shape.specs.Line.{parts_of, shape_of}
use Rattle.shape.specs.Complete.{shape_complete}
use Rattle.heads.specs.Rows.{row_of}
use Rattle.heads.specs.Complete.{row_complete, fit_blank, blank_names}
use Rattle.heads.specs.declared.HeadError.{HeadError}
use Rattle.fills.specs.FillOne.{blank_twice}
use Rattle.viable.specs.States.{shape_place_of}
use Rattle.viable.specs.PlaceLaws.{shape_place_right}
use Rattle.starts.specs.Starts.{head_at, name_from, operands_at, operand_from, bar_at}
use Rattle.starts.specs.StartLaws.{before_is, head_at_is, name_start_is, name_start_within, operands_at_is, operand_start_is, operand_start_within, second_start_is, second_within}
use Rattle.starts.specs.Over.{over_at, first_over_is, over_within}
use Rattle.rowplace.specs.Tries.{row_place_of}
use Rattle.rowplace.specs.RowPlaceLaws.{row_place_right}
use Rattle.fillplace.specs.FillPlaceLaws.{operand_place_right}
use Rattle.places.specs.Mirror.{guard_good, modifier_place_of, operand_index_by, operand_index_of, legal_place_of, guard_place_of, parts_place_of, place_of}

-- ==== the guard

-- the guard is a predicate exactly when the tree spells one
pub guard_good_lem : (t : GuardTree) (g : Guard) → GuardSpells t g → guard_good (seen_guard t) ≡ true
guard_good_lem unguarded g s = refl
guard_good_lem (guarded n q b) Always s = absurd s
guard_good_lem (guarded n q b) (When c) s = rw s.1 refl

guard_none : (t : GuardTree) → guard_good (seen_guard t) ≡ false → (g : Guard) → GuardSpells t g → ⊥
guard_none t e g s = off (sym (guard_good_lem t g s) ∙ e)

guard_some : (t : GuardTree) → guard_good (seen_guard t) ≡ true → (g : Guard) × GuardSpells t g
guard_some unguarded e = (Always, tt)
guard_some (guarded n (reg Words k) b) e = off (sym e)
guard_some (guarded n (reg Halves k) b) e = off (sym e)
guard_some (guarded n (reg Doubles k) b) e = off (sym e)
guard_some (guarded n (reg Preds k) b) e = (When (record { inverted = n; pred = record { 0 = k } }), (refl, refl))

pub good_operands : (ds : List Divided) → GoodOthers ds → GoodOperands (map (λ (d : Divided). d.operand) ds)
good_operands ds no_other = no_operand
good_operands ds (other-more {ds = es} g gs) = operand-more g.operand (good_operands es gs)

-- ==== the pair

-- only d of setp may be a pair
pair_first : (o : OperandTree) (os : List OperandTree) (i : Instruction) → Spelled (o ∷ os) (operand_trees i) (written_trees i) → instruction_apart i ≡ false → (n : ℕ) × (o ≡ pair (at (pred n)) (at (pred n)))
pair_first o os (Setp (Pair a b) s) (more (as_standard h) k) e = (a.0, h ∙ ap (λ (n : ℕ). pair (at (p a)) (at (pred n))) (sym (eqb-true a.0 b.0 (not-false _ e))))
pair_first o os (Setp (Pair a b) s) (more (as_written h) k) e = (a.0, h ∙ ap (λ (n : ℕ). pair (at (p a)) (at (pred n))) (sym (eqb-true a.0 b.0 (not-false _ e))))
pair_first o os (Setp (One a) s) k e = off e
pair_first o os (Setp (First a) s) k e = off e
pair_first o os (Setp (Second b) s) k e = off e
pair_first o os (Arithmetic op dtype sat s) k e = off e
pair_first o os (Vset cmp s) k e = off e
pair_first o os (VsetLanes cmp l) k e = off e
pair_first o os (ArithmeticLanes op dtype sat l) k e = off e
pair_first o os (Set dtype d s) k e = off e
pair_first o os (Selp s c) k e = off e
pair_first o os (Slct ctype s c) k e = off e

-- ==== a line that has the shape

module _ (l : List ℕ) (short : length l ≤ line_limit) (t : LineTree) (shaped : Shaped l t) where
  abbrev good : Good t
  good = shaped.good

  within : length (line_text t) ≤ line_limit
  within = subst (λ (k : List ℕ). length k ≤ line_limit) (sym shaped.text) short

  names_good : GoodNames (names_of t)
  names_good = name_more good.opcode good.modifiers

  operands_good : GoodOperands (operands_of t)
  operands_good = operand-more good.first (good_operands t.others good.others)

  is_seen : (parts_of (shape_of l)) ≡ seen t
  is_seen = ap (λ (k : List ℕ). (parts_of (shape_of k))) (sym shaped.text) ∙ (shape_complete t good within).1

  -- ---- each piece starts where the code says

  opcode_is_lem : head_at l ≡ head_start t
  opcode_is_lem = ap head_at (sym shaped.text) ∙ head_at_is t good within

  modifier_is : (k : ℕ) → capped_sum (head_at l) (name_from 0 k (drop (head_at l) l)) ≡ head_start t + name_start (names_of t) k
  modifier_is k =
      ap (λ (s : List ℕ). capped_sum (head_at s) (name_from 0 k (drop (head_at s) s))) (sym shaped.text)
      ∙ ap₂ capped_sum (head_at_is t good within) (name_start_is t k good within)
      ∙ sum_is (head_start t) (name_start (names_of t) k) (omega (arith, within, name_start_within t k))

  operand_is : (k : ℕ) → capped_sum (operands_at l) (operand_from 0 k (drop (operands_at l) l)) ≡ operands_start t + operand_start t.first t.others k
  operand_is k =
      ap (λ (s : List ℕ). capped_sum (operands_at s) (operand_from 0 k (drop (operands_at s) s))) (sym shaped.text)
      ∙ ap₂ capped_sum (operands_at_is t good within) (operand_start_is t k good within)
      ∙ sum_is (operands_start t) (operand_start t.first t.others k) (omega (arith, within, operand_start_within t k))

  guard_is : run_length is_blank l ≡ guard_start t
  guard_is = ap (run_length is_blank) (sym shaped.text) ∙ before_is t good

  register_is : (q : ℕ) → FirstOutside (registers_of t) q → over_at 0 l ≡ q
  register_is q o = ap (over_at 0) (sym shaped.text) ∙ first_over_is t good q o

  second_is : (n : ℕ) → t.first ≡ pair (at (pred n)) (at (pred n)) → bar_at l ≡ operands_start t + length (register_text (pred n) ++ bytes "|")
  second_is n e = ap bar_at (sym shaped.text) ∙ second_start_is t (at (pred n)) (at (pred n)) good within e

  -- ---- the index of the first wrong name, of the first wrong operand

  name_right : FirstWrong LegalNames (names_of t) (row_place_of (seen_head (names_of t)))
  name_right = row_place_right (names_of t) names_good

  operand_right : (i : Instruction) → Row (names_of t) i → FirstWrong (LegalOperands (names_of t)) (operands_of t) (operand_index_of (seen_head (names_of t)) (seen_operands (operands_of t)))
  unfolding operand_index_of
  operand_right i r =
      let e : row_of (seen_head (names_of t)) ≡ Ok (blank i) = ap (λ (ns : List Name). row_of (seen_head ns)) r.names ∙ row_complete i in
      subst (λ (f : Result Instruction HeadError). FirstWrong (LegalOperands (names_of t)) (operands_of t) (operand_index_by f (seen_operands (operands_of t)))) (sym e)
      (operand_place_right (names_of t) (blank i) (r.names ∙ sym (blank_names i)) (blank_twice i) (fit_blank i ∙ r.fit) (operands_of t) operands_good)

  -- ---- what the code says of 4 and 5, by the tree

  modifier_place : place_of 4 l ≡ head_start t + name_start (names_of t) (row_place_of (seen_head (names_of t)))
  unfolding place_of parts_place_of modifier_place_of
  modifier_place = rw is_seen (modifier_is (row_place_of (seen_head (names_of t))))

  operand_place_lem : guard_good (seen_guard t.guard) ≡ true
      → place_of 5 l ≡ operands_start t + operand_start t.first t.others (operand_index_of (seen_head (names_of t)) (seen_operands (operands_of t)))
  unfolding place_of parts_place_of guard_place_of legal_place_of
  operand_place_lem e = rw (is_seen, e) (operand_is (operand_index_of (seen_head (names_of t)) (seen_operands (operands_of t))))

  guard_place : guard_good (seen_guard t.guard) ≡ false → place_of 5 l ≡ guard_start t
  unfolding place_of parts_place_of guard_place_of
  guard_place e = rw (is_seen, e) guard_is

  -- ==== the code's place is the rules'

  pub placed_3 : Placed l 3 (place_of 3 l)
  unfolding place_of
  placed_3 = subst (Placed l 3) (sym opcode_is_lem) (at_opcode t shaped)

  pub placed_4 : Placed l 4 (place_of 4 l)
  placed_4 = subst (Placed l 4) (sym modifier_place) (at_modifier t shaped _ name_right)

  pub placed_5 : (i : Instruction) → Row (names_of t) i → Placed l 5 (place_of 5 l)
  placed_5 i r = go (guard_good (seen_guard t.guard)) refl
    where
      go : (b : Bool) → guard_good (seen_guard t.guard) ≡ b → Placed l 5 (place_of 5 l)
      go true e = let g = guard_some t.guard e in subst (Placed l 5) (sym (operand_place_lem e)) (at_operand t shaped g.0 g.1 _ (operand_right i r))
      go false e = subst (Placed l 5) (sym (guard_place e)) (at_guard t shaped (guard_none t.guard e))

  pub placed_6 : (m : Record) → Spells t m → numbers_in_range m ≡ false → Placed l 6 (place_of 6 l)
  unfolding place_of
  placed_6 m s e = let o = outside_spelled t m s e in subst (Placed l 6) (sym (register_is o.0 o.1)) (at_register t shaped o.1)

  pub placed_7 : (m : Record) → Spells t m → pair_apart m ≡ false → Placed l 7 (place_of 7 l)
  unfolding place_of
  placed_7 m s e = let q = pair_first t.first _ m.instruction s.operands.operands e in subst (Placed l 7) (sym (second_is q.0 q.1)) (at_second t shaped q.0 q.1)

pub placed_2 : (l : List ℕ) → Placed l 2 (place_of 2 l)
unfolding place_of
placed_2 l = at_byte (shape_place_right l)

-- ==== and no other

module _ (l : List ℕ) (short : length l ≤ line_limit) where
  guard_only : (t : LineTree) → Shaped l t → ((g : Guard) → GuardSpells t.guard g → ⊥) → (b : Bool) → guard_good (seen_guard t.guard) ≡ b → guard_start t ≡ place_of 5 l
  guard_only t s k true e = let g = guard_some t.guard e in absurd (k g.0 g.1)
  guard_only t s k false e = sym (guard_place l short t s e)

  operand_only : (t : LineTree) → Shaped l t → (g : Guard) → GuardSpells t.guard g → (k : ℕ) → FirstWrong (LegalOperands (names_of t)) (operands_of t) k
      → (b : Bool) → guard_good (seen_guard t.guard) ≡ b → operands_start t + operand_start t.first t.others k ≡ place_of 5 l
  operand_only t s g h k f true e =
      let o = f.begins.whole in
      ap (λ (j : ℕ). operands_start t + operand_start t.first t.others j) (first_wrong_one (LegalOperands (names_of t)) (operands_of t) _ _ f (operand_right l short t s o.instruction o.row))
      ∙ sym (operand_place_lem l short t s e)
  operand_only t s g h k f false e = absurd (guard_none t.guard e g h)

  pub placed_only : (n q : ℕ) → Placed l n q → q ≡ place_of n l
  unfolding place_of
  placed_only n q (at_byte f) = first_wrong_one ShapedLine l q (shape_place_of l) f (shape_place_right l)
  placed_only n q (at_opcode t s) = sym (opcode_is_lem l short t s)
  placed_only n q (at_modifier t s k f) =
      ap (λ (j : ℕ). head_start t + name_start (names_of t) j) (first_wrong_one LegalNames (names_of t) _ _ f (name_right l short t s)) ∙ sym (modifier_place l short t s)
  placed_only n q (at_guard t s k) = guard_only t s k (guard_good (seen_guard t.guard)) refl
  placed_only n q (at_operand t s g h k f) = operand_only t s g h k f (guard_good (seen_guard t.guard)) refl
  placed_only n q (at_register t s o) = sym (register_is l short t s q o)
  placed_only n q (at_second t s r e) = sym (second_is l short t s r e)

-- ==== a place is within the line

module _ (l : List ℕ) (short : length l ≤ line_limit) where
  within_line : {n : ℕ} (t : LineTree) → Shaped l t → n ≤ length (line_text t) → n ≤ length l
  within_line {n} t s h = subst (λ (k : List ℕ). n ≤ length k) s.text h

  pub placed_within : (n q : ℕ) → Placed l n q → q ≤ length l
  placed_within n q (at_byte f) = f.within
  placed_within n q (at_opcode t s) = within_line t s (omega (arith, name_start_within t 0))
  placed_within n q (at_modifier t s k f) = within_line t s (name_start_within t k)
  placed_within n q (at_guard t s k) = within_line t s (omega (arith, name_start_within t 0))
  placed_within n q (at_operand t s g h k f) = within_line t s (operand_start_within t k)
  placed_within n q (at_register t s o) = subst (λ (k : ℕ). k ≤ length l) (register_is l short t s q o) (over_within l)
  placed_within n q (at_second t s r e) = within_line t s (second_within t (pred r) e)
