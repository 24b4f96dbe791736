-- The registers that a record names: its line shows its destinations and sources and no other, and a legal record's are in their files.
-- Refusals 6 and 7 of a line's tree and of the record that it spells are then the same. Assumes nothing.
use Rattle.std.specs.Prelude.{ℕ, ◌≤◌, ◌≡◌, refl, Bool, true, false, not, ◌&&◌, cond, List, [], ◌∷◌, ◌++◌, map, eqb, length}
use Rattle.std.proofs.Common.{arith, sym, ap, subst, ◌∙◌, append-nil, ltb-true, ltb-false, eqb-true, eq-eqb}
use Rattle.std.proofs.Math.Bool.{and-eq-true_iff}
use borrow.Table.Elements.{map_app}
use Rattle.signs.specs.Text.{bytes}
use Rattle.std.proofs.lemmas.Bool.{not-false}
use Rattle.base.specs.Values.{every, every_append}
use Rattle.record.specs.Registers.{Place, reg, pred, r, p, operand_place, Inside, is_inside, number_of, file_size}
use Rattle.record.specs.Modifiers.{modifiers_fit}
use Rattle.record.specs.Operands.{operands_fit, full_mask, default_a, default_b}
use Rattle.record.specs.Refusals.{is_legal, Legal, numbers_in_range, instruction_in_range, lanes_in_range, choice_in_range, selected_in_range, form_in_range, destination_in_range, combination_in_range, operand_in_range, guard_in_range, pair_apart, instruction_apart, destination_apart}
use Rattle.record.specs.declared.File.TheVariants.{Words, Halves, Doubles, Preds}
use Rattle.record.specs.declared.Guard.{Guard}
use Rattle.record.specs.declared.Guard.TheVariants.{Always, When}
use Rattle.record.specs.declared.Selected.{Selected}
use Rattle.record.specs.declared.Selected.TheVariants.{Whole, Part}
use Rattle.record.specs.declared.Form.{Form}
use Rattle.record.specs.declared.Form.TheVariants.{Plain, Merge, Combine}
use Rattle.record.specs.declared.Scalar.{Scalar}
use Rattle.record.specs.declared.Lanes.{Lanes}
use Rattle.record.specs.declared.Operand.{Operand}
use Rattle.record.specs.declared.Choice.{Choice}
use Rattle.record.specs.declared.Combination.{Combination}
use Rattle.record.specs.declared.Combination.TheVariants.{Alone, With}
use Rattle.record.specs.declared.Destination.{Destination}
use Rattle.record.specs.declared.Destination.TheVariants.{One, Pair, First, Second}
use Rattle.record.specs.declared.Instruction.{Instruction}
use Rattle.record.specs.declared.Instruction.TheVariants.{Arithmetic, Vset, VsetLanes, ArithmeticLanes, Set, Setp, Selp, Slct}
use Rattle.record.specs.declared.Record.{Record}
use Rattle.rules.specs.Shape.{Name, Spot, at, nothing, spot_text, OperandTree, inverted, pair, bare, part}
use Rattle.rules.specs.Names.{mask_name, digits_name}
use Rattle.rules.specs.Spelling.{same_mask, same_digits, selected_tree, form_tree, form_last, combination_last, destination_tree, scalar_trees, lanes_trees, operand_trees, written_lanes, written_trees}
use Rattle.rules.specs.Grammar.{LineTree, GuardTree, unguarded, guarded, Divided, operands_of}
use Rattle.rules.specs.Reading.{GuardSpells, OneOf, as_standard, as_written, Spelled, Spells}
use Rattle.rules.specs.BytePlaces.{Register, after, spot_registers, operand_registers, to_next_operand, operands_registers, guard_start, operands_start, guard_registers, registers_of, FirstOutside, here as outside-here, later as outside-later}
use Rattle.signs.specs.Lists.{Listed}
use Rattle.signs.specs.Lists.Listed.{here, later}
use Rattle.rules.specs.Reading.Spelled.{none, more}
use Rattle.rules.specs.Executing.{selected_word, form_d, form_sources, combination_sources, comparison_sources, destination_places, destinations, sources, guard_sources, named}

-- a truth that is false
pub off : {A : Type 0} → true ≡ false → A
off e = let z : ◌≡◌ {A = ℕ} 0 1 = cc in absurd (omega arith)

-- ==== the registers of a line without their bytes

abbrev spot_places : Spot → List Place
spot_places (at q) = q ∷ []
spot_places nothing = []

abbrev operand_places : OperandTree → List Place
operand_places (inverted q) = q ∷ []
operand_places (pair u v) = spot_places u ++ spot_places v
operand_places (bare q) = q ∷ []
operand_places (part q n) = q ∷ []

abbrev pub operands_places : List OperandTree → List Place
operands_places [] = []
operands_places (o ∷ os) = operand_places o ++ operands_places os

abbrev guard_places : GuardTree → List Place
guard_places unguarded = []
guard_places (guarded negated q blanks) = q ∷ []

abbrev pub places_of : LineTree → List Place
places_of t = guard_places t.guard ++ operands_places (operands_of t)

abbrev place : Register → Place
place x = x.1

after_places : (n : ℕ) (rs : List Register) → map place (after n rs) ≡ map place rs
after_places n [] = refl
after_places n (x ∷ rs) = ap (λ (l : List Place). x.1 ∷ l) (after_places n rs)

spot_places_lem : (u : Spot) → map place (spot_registers u) ≡ spot_places u
spot_places_lem (at q) = refl
spot_places_lem nothing = refl

operand_places_lem : (o : OperandTree) → map place (operand_registers o) ≡ operand_places o
operand_places_lem (inverted q) = refl
operand_places_lem (pair u v) =
    let n : ℕ = length (spot_text u ++ bytes "|") in
    map_app place (spot_registers u) (after n (spot_registers v)) ∙ rw (after_places n (spot_registers v), spot_places_lem u, spot_places_lem v)
operand_places_lem (bare q) = refl
operand_places_lem (part q n) = refl

operands_places_lem : (o : OperandTree) (ds : List Divided) → map place (operands_registers o ds) ≡ operands_places (o ∷ map (λ (d : Divided). d.operand) ds)
operands_places_lem o [] = operand_places_lem o ∙ sym (append-nil (operand_places o))
operands_places_lem o (d ∷ ds) =
    map_app place (operand_registers o) (after (to_next_operand o d) (operands_registers d.operand ds))
    ∙ rw (after_places (to_next_operand o d) (operands_registers d.operand ds), operand_places_lem o, operands_places_lem d.operand ds)

guard_places_lem : (g : GuardTree) → map place (guard_registers g) ≡ guard_places g
guard_places_lem unguarded = refl
guard_places_lem (guarded true q b) = refl
guard_places_lem (guarded false q b) = refl

registers_places : (t : LineTree) → map place (registers_of t) ≡ places_of t
registers_places t =
    map_app place (after (guard_start t) (guard_registers t.guard)) (after (operands_start t) (operands_registers t.first t.others))
    ∙ rw (after_places (guard_start t) (guard_registers t.guard), after_places (operands_start t) (operands_registers t.first t.others), guard_places_lem t.guard, operands_places_lem t.first t.others)

place_listed : (rs : List Register) (n : ℕ) (q : Place) → Listed (n, q) rs → Listed q (map place rs)
place_listed [] n q x' = elim x' [ ]
place_listed (x ∷ rs) n q (here e) = here (ap place e)
place_listed (x ∷ rs) n q (later h) = later (place_listed rs n q h)

-- ==== the operands of the standard line show the destinations, then the sources

selected_registers : (s : Selected) → operand_places (selected_tree s) ≡ r (selected_word s) ∷ []
selected_registers (Whole w) = refl
selected_registers (Part w sel) = refl

form_registers : (f : Form) → operand_places (form_tree f) ≡ r (form_d f) ∷ []
form_registers (Plain d) = refl
form_registers (Merge d sel c) = refl
form_registers (Combine op d c) = refl

form_last_lem : (f : Form) → operands_places (form_last f) ≡ form_sources f
form_last_lem (Plain d) = refl
form_last_lem (Merge d sel c) = refl
form_last_lem (Combine op d c) = refl

-- bare or with a name, one register
one_register : (t : Bool) (q : Place) (n : Name) → operand_places (cond t (bare q) (part q n)) ≡ q ∷ []
one_register true q n = refl
one_register false q n = refl

condition_register : (t : Bool) (q : Place) → operand_places (cond t (inverted q) (bare q)) ≡ q ∷ []
condition_register true q = refl
condition_register false q = refl

combination_registers : (c : Combination) → operands_places (combination_last c) ≡ combination_sources c
combination_registers Alone = refl
combination_registers (With op c) = rw (condition_register c.inverted (p c.pred))

destination_registers : (d : Destination) → operand_places (destination_tree d) ≡ destination_places d
destination_registers (One a) = refl
destination_registers (Pair a b) = refl
destination_registers (First a) = refl
destination_registers (Second b) = refl

scalar_registers : (s : Scalar) → operands_places (scalar_trees s) ≡ r (form_d s.form) ∷ r (selected_word s.a) ∷ r (selected_word s.b) ∷ form_sources s.form
scalar_registers s = rw (form_registers s.form, selected_registers s.a, selected_registers s.b, form_last_lem s.form)

lanes_registers : (l : Lanes) → operands_places (lanes_trees l) ≡ r l.d ∷ r l.a ∷ r l.b ∷ r l.c ∷ []
lanes_registers l = simp one_register

pub shown : (i : Instruction) → operands_places (operand_trees i) ≡ destinations i ++ sources i
shown (Arithmetic op dtype sat s) = scalar_registers s
shown (Vset cmp s) = scalar_registers s
shown (VsetLanes cmp l) = lanes_registers l
shown (ArithmeticLanes op dtype sat l) = lanes_registers l
shown (Set dtype d s) = rw (combination_registers s.combination)
shown (Setp d s) = rw (destination_registers d, combination_registers s.combination)
shown (Selp s c) = refl
shown (Slct ctype s c) = refl

-- ==== legal numbers

-- the same tests, in the order of the line and in that of the definition
of_1 : (a : Bool) → a && true ≡ a
of_1 true = refl
of_1 false = refl

of_2 : (a b : Bool) → a && (b && true) ≡ a && b && true
of_2 true b = refl
of_2 false b = refl

of_3 : (a b c : Bool) → a && (b && (c && true)) ≡ a && b && c
of_3 true true c = of_1 c
of_3 true false c = refl
of_3 false b c = refl

of_4 : (a b c d : Bool) → a && (b && (c && (d && true))) ≡ a && b && c && d
of_4 true b c d = of_3 b c d
of_4 false b c d = refl

-- c before a and b
c_early : (d a b c : Bool) → d && (a && (b && (c && true))) ≡ (d && c) && a && b
c_early false a b c = refl
c_early true a b true = rw (of_1 b)
c_early true true true false = refl
c_early true true false false = refl
c_early true false b false = refl

selected_inside : (s : Selected) → is_inside (r (selected_word s)) ≡ selected_in_range s
selected_inside (Whole w) = refl
selected_inside (Part w sel) = refl

scalar_inside : (f : Form) (a b : Selected)
    → every is_inside (r (form_d f) ∷ r (selected_word a) ∷ r (selected_word b) ∷ form_sources f) ≡ form_in_range f && selected_in_range a && selected_in_range b
scalar_inside (Plain d) a b = rw (selected_inside a, selected_inside b) (of_3 (is_inside (r d)) (selected_in_range a) (selected_in_range b))
scalar_inside (Merge d sel c) a b =
    rw (selected_inside a, selected_inside b) (c_early (is_inside (r d)) (selected_in_range a) (selected_in_range b) (is_inside (r c)))
scalar_inside (Combine op d c) a b =
    rw (selected_inside a, selected_inside b) (c_early (is_inside (r d)) (selected_in_range a) (selected_in_range b) (is_inside (r c)))

comparison_inside : (c : Combination) (a b : Operand)
    → every is_inside (operand_place a ∷ operand_place b ∷ combination_sources c) ≡ operand_in_range a && operand_in_range b && combination_in_range c
comparison_inside Alone a b = of_2 (operand_in_range a) (operand_in_range b)
comparison_inside (With op c) a b = of_3 (operand_in_range a) (operand_in_range b) (is_inside (p c.pred))

destination_inside : (d : Destination) → every is_inside (destination_places d) ≡ destination_in_range d
destination_inside (One a) = of_1 (is_inside (p a))
destination_inside (Pair a b) = rw (of_1 (is_inside (p b)))
destination_inside (First a) = of_1 (is_inside (p a))
destination_inside (Second b) = of_1 (is_inside (p b))

guard_inside : (g : Guard) → every is_inside (guard_sources g) ≡ guard_in_range g
guard_inside Always = refl
guard_inside (When c) = of_1 (is_inside (p c.pred))

lanes_inside : (l : Lanes) → every is_inside (r l.d ∷ r l.a ∷ r l.b ∷ r l.c ∷ []) ≡ lanes_in_range l
lanes_inside l = of_4 (is_inside (r l.d)) (is_inside (r l.a)) (is_inside (r l.b)) (is_inside (r l.c))

choice_inside : (s : Choice) (c : Place)
    → every is_inside (operand_place s.d ∷ operand_place s.a ∷ operand_place s.b ∷ c ∷ []) ≡ choice_in_range s && is_inside c
choice_inside s c = of_4 (operand_in_range s.d) (operand_in_range s.a) (operand_in_range s.b) (is_inside c)

instruction_inside : (i : Instruction) → every is_inside (destinations i ++ sources i) ≡ instruction_in_range i
instruction_inside (Arithmetic op dtype sat s) = scalar_inside s.form s.a s.b
instruction_inside (Vset cmp s) = scalar_inside s.form s.a s.b
instruction_inside (VsetLanes cmp l) = lanes_inside l
instruction_inside (ArithmeticLanes op dtype sat l) = lanes_inside l
instruction_inside (Set dtype d s) = rw (comparison_inside s.combination s.a s.b)
instruction_inside (Setp d s) = every_append is_inside (destination_places d) (comparison_sources s) ∙ rw (destination_inside d, comparison_inside s.combination s.a s.b)
instruction_inside (Selp s c) = choice_inside s (p c)
instruction_inside (Slct ctype s c) = choice_inside s (r c)

-- `numbers_in_range` looks at each of them
pub all_inside : (x : Record) → every is_inside (named x) ≡ numbers_in_range x
all_inside x =
    every_append is_inside (guard_sources x.guard) (destinations x.instruction ++ sources x.instruction)
    ∙ rw (guard_inside x.guard, instruction_inside x.instruction)

-- a test that holds of a list, and one that does not
pub of_every : {A : Type 0} (q : A → Bool) (l : List A) → every q l ≡ true → (x : A) → Listed x l → q x ≡ true
of_every {A = A} q [] e x x4 = elim x4 [ ]
of_every q (y ∷ l) e x (here h) = let k = simp and-eq-true_iff at e in rw h k.0
of_every q (y ∷ l) e x (later h) = let k = simp and-eq-true_iff at e in of_every q l k.1 x h

of_none : {A : Type 0} (q : A → Bool) (l : List A) → every q l ≡ false → (x : A) × Listed x l × (q x ≡ false)
of_none {A} q [] e = let z : ◌≡◌ {A = ℕ} 0 1 = cc in absurd (omega arith)
of_none {A} q (y ∷ l) e = go (q y) refl (of_none q l)
  where
    go : (t : Bool) → q y ≡ t → (every q l ≡ false → (x : A) × Listed x l × (q x ≡ false)) → (x : A) × Listed x (y ∷ l) × (q x ≡ false)
    go true h rest = let m = rest (rw h at e) in (m.0, later m.1, m.2)
    go false h rest = (y, here refl, h)

-- legality, rule by rule
pub legal_parts : (x : Record) → Legal x → (modifiers_fit x ≡ true) × (operands_fit x ≡ true) × (numbers_in_range x ≡ true) × (pair_apart x ≡ true)
unfolding is_legal
legal_parts x h = go (modifiers_fit x) (operands_fit x) (numbers_in_range x) (pair_apart x) h
  where
    go : (a b c d : Bool) → a && b && c && d ≡ true → (a ≡ true) × (b ≡ true) × (c ≡ true) × (d ≡ true)
    go a b c d h = let k = simp and-eq-true_iff at h in (k.0.0.0, k.0.0.1, k.0.1, k.1)

-- a legal record names only places in their files
pub legal_inside : (x : Record) → Legal x → (q : Place) → Listed q (named x) → Inside q
legal_inside x h q e = ltb-true (number_of q) (file_size q) (of_every is_inside (named x) (all_inside x ∙ (legal_parts x h).2) q e)

-- ==== a tree and the record that it spells

-- a pair of twice the same predicate
abbrev pub is_equal_pair : OperandTree → Bool
is_equal_pair (pair (at (reg Preds n)) (at (reg Preds m))) = eqb n m
is_equal_pair (pair (at (reg Preds n)) (at (reg Words m))) = false
is_equal_pair (pair (at (reg Preds n)) (at (reg Halves m))) = false
is_equal_pair (pair (at (reg Preds n)) (at (reg Doubles m))) = false
is_equal_pair (pair (at (reg Preds n)) nothing) = false
is_equal_pair (pair (at (reg Words n)) v) = false
is_equal_pair (pair (at (reg Halves n)) v) = false
is_equal_pair (pair (at (reg Doubles n)) v) = false
is_equal_pair (pair nothing v) = false
is_equal_pair (inverted q) = false
is_equal_pair (bare q) = false
is_equal_pair (part q n) = false

abbrev is_no_pair : OperandTree → Bool
is_no_pair o = not (is_equal_pair o)

-- written or left out, an operand has the same registers, and is a pair or is none
pub data Alike : List OperandTree → List OperandTree → Type 0 where
  alike_none : Alike [] []
  alike_more : {s w : OperandTree} {ss ws : List OperandTree} → operand_places s ≡ operand_places w → is_no_pair s ≡ is_no_pair w → Alike ss ws → Alike (s ∷ ss) (w ∷ ws)

alike_self : (ss : List OperandTree) → Alike ss ss
alike_self [] = alike_none
alike_self (s ∷ ss) = alike_more refl refl (alike_self ss)

no_pair : (t : Bool) (q : Place) (n : Name) → is_no_pair (cond t (bare q) (part q n)) ≡ true
no_pair true q n = refl
no_pair false q n = refl

optional_alike : (t : Bool) (q : Place) (n : Name) {ss ws : List OperandTree} → Alike ss ws → Alike (cond t (bare q) (part q n) ∷ ss) (part q n ∷ ws)
optional_alike true q n a = alike_more refl refl a
optional_alike false q n a = alike_more refl refl a

lanes_alike : (l : Lanes) → Alike (lanes_trees l) (written_lanes l)
lanes_alike l =
    optional_alike (same_mask l.mask (full_mask l.width)) (r l.d) (mask_name l.width l.mask)
    (optional_alike (same_digits l.asel (default_a l.width)) (r l.a) (digits_name l.width l.asel)
    (optional_alike (same_digits l.bsel (default_b l.width)) (r l.b) (digits_name l.width l.bsel) (alike_self (bare (r l.c) ∷ []))))

alike : (i : Instruction) → Alike (operand_trees i) (written_trees i)
alike (VsetLanes cmp l) = lanes_alike l
alike (ArithmeticLanes op dtype sat l) = lanes_alike l
alike (Arithmetic op dtype sat s) = alike_self (operand_trees (Arithmetic op dtype sat s))
alike (Vset cmp s) = alike_self (operand_trees (Vset cmp s))
alike (Set dtype d s) = alike_self (operand_trees (Set dtype d s))
alike (Setp d s) = alike_self (operand_trees (Setp d s))
alike (Selp s c) = alike_self (operand_trees (Selp s c))
alike (Slct ctype s c) = alike_self (operand_trees (Slct ctype s c))

one_of : {A : Type 0} (f : OperandTree → A) {o s w : OperandTree} → OneOf o s w → f s ≡ f w → f o ≡ f s
one_of f (as_standard e) h = ap f e
one_of f (as_written e) h = ap f e ∙ sym h

spelled_registers : {os ss ws : List OperandTree} → Spelled os ss ws → Alike ss ws → operands_places os ≡ operands_places ss
spelled_registers none alike_none = refl
spelled_registers (more o e) (alike_more h k a) = rw (one_of operand_places o h, spelled_registers e a)

spelled_pairs : {os ss ws : List OperandTree} → Spelled os ss ws → Alike ss ws → every is_no_pair os ≡ every is_no_pair ss
spelled_pairs none alike_none = refl
spelled_pairs (more o e) (alike_more h k a) = rw (one_of is_no_pair o k, spelled_pairs e a)

guard_registers_lem : (t : GuardTree) (g : Guard) → GuardSpells t g → guard_places t ≡ guard_sources g
guard_registers_lem unguarded Always s = refl
guard_registers_lem unguarded (When c) s = absurd s
guard_registers_lem (guarded n q b) Always s = absurd s
guard_registers_lem (guarded n q b) (When c) s = rw s.1

-- the registers of a line are those that the record names which it spells
pub places_named : (t : LineTree) (x : Record) → Spells t x → places_of t ≡ named x
places_named t x s =
    rw (guard_registers_lem t.guard x.guard s.guard, spelled_registers s.operands.operands (alike x.instruction), shown x.instruction)

-- refusal 6, of the line and of the record
pub inside_spelled : (t : LineTree) (x : Record) → Spells t x → numbers_in_range x ≡ true → (n : ℕ) (q : Place) → Listed (n, q) (registers_of t) → Inside q
inside_spelled t x s e n q h =
    ltb-true (number_of q) (file_size q)
    (of_every is_inside (named x) (all_inside x ∙ e) q (subst (Listed q) (registers_places t ∙ places_named t x s) (place_listed (registers_of t) n q h)))

first_outside : (rs : List Register) → every is_inside (map place rs) ≡ false → (n : ℕ) × FirstOutside rs n
first_outside [] e = off e
first_outside (x ∷ rs) e = go (is_inside x.1) refl (first_outside rs)
  where
    go : (b : Bool) → is_inside x.1 ≡ b → (every is_inside (map place rs) ≡ false → (n : ℕ) × FirstOutside rs n) → (n : ℕ) × FirstOutside (x ∷ rs) n
    go true h rest = let m = rest (rw h at e) in (m.0, outside-later (ltb-true (number_of x.1) (file_size x.1) h) m.1)
    go false h rest = (x.0, outside-here (ltb-false (number_of x.1) (file_size x.1) h))

pub outside_spelled : (t : LineTree) (x : Record) → Spells t x → numbers_in_range x ≡ false → (n : ℕ) × FirstOutside (registers_of t) n
outside_spelled t x s e = first_outside (registers_of t) (ap (every is_inside) (registers_places t ∙ places_named t x s) ∙ all_inside x ∙ e)

-- the first that is outside is one
pub outside_listed : {rs : List Register} {n : ℕ} → FirstOutside rs n → (q : Place) × Listed (n, q) rs × (file_size q ≤ number_of q)
outside_listed (outside-here {q = q} h) = (q, here refl, h)
outside_listed (outside-later i o) = let m = outside_listed o in (m.0, later m.1, m.2)

-- refusal 7, of the line and of the record

form_no_pair : (f : Form) → is_no_pair (form_tree f) ≡ true
form_no_pair (Plain d) = refl
form_no_pair (Merge d sel c) = refl
form_no_pair (Combine op d c) = refl

selected_no_pair : (s : Selected) → is_no_pair (selected_tree s) ≡ true
selected_no_pair (Whole w) = refl
selected_no_pair (Part w sel) = refl

form_last_no_pair : (f : Form) → every is_no_pair (form_last f) ≡ true
form_last_no_pair (Plain d) = refl
form_last_no_pair (Merge d sel c) = refl
form_last_no_pair (Combine op d c) = refl

condition_no_pair : (t : Bool) (q : Place) → is_no_pair (cond t (inverted q) (bare q)) ≡ true
condition_no_pair true q = refl
condition_no_pair false q = refl

combination_no_pair : (c : Combination) → every is_no_pair (combination_last c) ≡ true
combination_no_pair Alone = refl
combination_no_pair (With op c) = rw (condition_no_pair c.inverted (p c.pred))

scalar_no_pair : (s : Scalar) → every is_no_pair (scalar_trees s) ≡ true
scalar_no_pair s = rw (form_no_pair s.form, selected_no_pair s.a, selected_no_pair s.b, form_last_no_pair s.form)

lanes_no_pair : (l : Lanes) → every is_no_pair (lanes_trees l) ≡ true
lanes_no_pair l = simp no_pair

destination_pair : (d : Destination) → is_no_pair (destination_tree d) ≡ destination_apart d
destination_pair (One a) = refl
destination_pair (Pair a b) = refl
destination_pair (First a) = refl
destination_pair (Second b) = refl

pairs_apart : (i : Instruction) → every is_no_pair (operand_trees i) ≡ instruction_apart i
pairs_apart (Arithmetic op dtype sat s) = scalar_no_pair s
pairs_apart (Vset cmp s) = scalar_no_pair s
pairs_apart (VsetLanes cmp l) = lanes_no_pair l
pairs_apart (ArithmeticLanes op dtype sat l) = lanes_no_pair l
pairs_apart (Set dtype d s) = combination_no_pair s.combination
pairs_apart (Setp d s) = rw (destination_pair d, combination_no_pair s.combination) (of_1 (destination_apart d))
pairs_apart (Selp s c) = refl
pairs_apart (Slct ctype s c) = refl

pairs_spelled : (t : LineTree) (x : Record) → Spells t x → every is_no_pair (operands_of t) ≡ pair_apart x
pairs_spelled t x s = spelled_pairs s.operands.operands (alike x.instruction) ∙ pairs_apart x.instruction

pub apart_spelled : (t : LineTree) (x : Record) → Spells t x → pair_apart x ≡ true → (n : ℕ) → Listed (pair (at (pred n)) (at (pred n))) (operands_of t) → ⊥
apart_spelled t x s e n h =
    let k : is_no_pair (pair (at (pred n)) (at (pred n))) ≡ true = of_every is_no_pair (operands_of t) (pairs_spelled t x s ∙ e) _ h in
    let z : not (eqb n n) ≡ false = rw (eq-eqb n n refl) in
    let y : true ≡ false = sym k ∙ z in
    let u : ◌≡◌ {A = ℕ} 0 1 = cc in
    omega arith

-- only a pair of twice the same predicate is one
equal_pair : (o : OperandTree) → is_no_pair o ≡ false → (n : ℕ) × (o ≡ pair (at (pred n)) (at (pred n)))
equal_pair (pair (at (reg Preds n)) (at (reg Preds m))) e = (n, ap (λ (k : ℕ). pair (at (pred n)) (at (pred k))) (sym (eqb-true n m (not-false _ e))))
equal_pair (pair (at (reg Preds n)) (at (reg Words m))) e = off e
equal_pair (pair (at (reg Preds n)) (at (reg Halves m))) e = off e
equal_pair (pair (at (reg Preds n)) (at (reg Doubles m))) e = off e
equal_pair (pair (at (reg Preds n)) nothing) e = off e
equal_pair (pair (at (reg Words n)) v) e = off e
equal_pair (pair (at (reg Halves n)) v) e = off e
equal_pair (pair (at (reg Doubles n)) v) e = off e
equal_pair (pair nothing v) e = off e
equal_pair (inverted q) e = off e
equal_pair (bare q) e = off e
equal_pair (part q n) e = off e

pub equal_spelled : (t : LineTree) (x : Record) → Spells t x → pair_apart x ≡ false → (n : ℕ) × Listed (pair (at (pred n)) (at (pred n))) (operands_of t)
equal_spelled t x s e =
    let m = of_none is_no_pair (operands_of t) (pairs_spelled t x s ∙ e) in
    let q = equal_pair m.0 m.2 in
    (q.0, subst (λ (o : OperandTree). Listed o (operands_of t)) q.1 m.1)
