-- A line has no line feed: no line with the shape has byte 10. Assumes nothing.
use Rattle.std.specs.Prelude.{ℕ, ◌/◌, ◌≡◌, refl, Bool, true, false, not, cond, List, [], ◌∷◌, ◌++◌, eqb, ltb}
use Rattle.std.proofs.Common.{arith, sym, subst, ◌∙◌, eqb-true, ne_eqb}
use Rattle.signs.specs.Bytes.{line_feed, is_blank, All}
use Rattle.signs.specs.Bytes.All.{none, more}
use Rattle.record.specs.declared.File.TheVariants.{Words, Halves, Doubles, Preds}
use Rattle.record.specs.Registers.{Place, reg}
use Rattle.rules.specs.Shape.{Name, digit, number_text, register_text, dotted, Spot, at, nothing, spot_text, OperandTree, inverted, pair, bare, part, operand_text}
use Rattle.rules.specs.Grammar.{GuardTree, unguarded, guarded, guard_tree_text, Divided, divided_text, LineTree, line_text, GoodName, GoodNames, GoodOperand, GoodGuard, GoodOthers, Good, Shaped}
use Rattle.signs.specs.Lists.{Listed}
use Rattle.signs.specs.Lists.Listed.{here, later}
use Rattle.rules.specs.Grammar.GoodNames.{none as no_name, more as name_more}
use Rattle.rules.specs.Grammar.GoodOthers.{none as no_other, more as other-more}

abbrev is_no_feed : ℕ → Bool
is_no_feed b = not (eqb b line_feed)

abbrev NoFeed : List ℕ → Type 0
NoFeed l = All is_no_feed l

all_append : {q : ℕ → Bool} {u v : List ℕ} → All q u → All q v → All q (u ++ v)
all_append none h = h
all_append (more e k) h = more e (all_append k h)

-- a class of bytes without the line feed
of_class : (q : ℕ → Bool) → q line_feed ≡ false → (b : ℕ) → q b ≡ true → is_no_feed b ≡ true
of_class q z b e = go (eqb b line_feed) refl
  where
    go : (t : Bool) → eqb b line_feed ≡ t → not t ≡ true
    go true h =
        let y : false ≡ true = sym z ∙ subst (λ (k : ℕ). q k ≡ true) (eqb-true b line_feed h) e in
        let u : ◌≡◌ {A = ℕ} 0 1 = cc in
        absurd (omega arith)
    go false h = refl

all_class : {q : ℕ → Bool} → q line_feed ≡ false → {l : List ℕ} → All q l → NoFeed l
all_class z none = none
all_class {q} z (more {b} e k) = more (of_class q z b e) (all_class z k)

blanks : {l : List ℕ} → All is_blank l → NoFeed l
blanks h = all_class refl h

name : {n : Name} → GoodName n → NoFeed n
name h = all_class refl h.all

digit_byte : (n : ℕ) → is_no_feed (digit n) ≡ true
digit_byte n = rw (ne_eqb (digit n) line_feed (λ h. omega arith))

number : (n : ℕ) → NoFeed (number_text n)
number n = go (ltb n 10) (ltb n 100)
  where
    go : (s t : Bool) → NoFeed (cond s (digit n ∷ []) (cond t (digit (n / 10) ∷ digit n ∷ []) (digit (n / 100) ∷ digit (n / 10) ∷ digit n ∷ [])))
    go true t = more (digit_byte n) none
    go false true = more (digit_byte (n / 10)) (more (digit_byte n) none)
    go false false = more (digit_byte (n / 100)) (more (digit_byte (n / 10)) (more (digit_byte n) none))

register : (q : Place) → NoFeed (register_text q)
register (reg Words n) = more refl (more refl (number n))
register (reg Halves n) = more refl (more refl (more refl (number n)))
register (reg Doubles n) = more refl (more refl (more refl (number n)))
register (reg Preds n) = more refl (more refl (number n))

spot : (s : Spot) → NoFeed (spot_text s)
spot (at q) = register q
spot nothing = more refl none

sign : (b : ℕ) → is_no_feed b ≡ true → NoFeed (b ∷ [])
sign b e = more e none

operand : (o : OperandTree) → GoodOperand o → NoFeed (operand_text o)
operand (inverted q) g = all_append (sign 33 refl) (register q)
operand (pair u v) g = all_append (all_append (spot u) (sign 124 refl)) (spot v)
operand (bare q) g = register q
operand (part q n) g = all_append (all_append (register q) (sign 46 refl)) (name g.1)

dots : {ns : List Name} → GoodNames ns → NoFeed (dotted ns)
dots no_name = none
dots (name_more g gs) = all_append (all_append (sign 46 refl) (name g)) (dots gs)

guard : (g : GuardTree) → GoodGuard g → NoFeed (guard_tree_text g)
guard unguarded h = none
guard (guarded true q b) h = all_append (more refl (more refl (register q))) (blanks h.1.all)
guard (guarded false q b) h = all_append (more refl (register q)) (blanks h.1.all)

others : {ds : List Divided} → GoodOthers ds → NoFeed (divided_text ds)
others no_other = none
others (other-more {d} g gs) =
    let comma = all_append (all_append (blanks g.before) (sign 44 refl)) (blanks g.after) in
    all_append (all_append comma (operand d.operand g.operand)) (others gs)

good_text : (t : LineTree) → Good t → NoFeed (line_text t)
good_text t g =
    let head = all_append (all_append (blanks g.before) (guard t.guard g.guard)) (all_append (name g.opcode) (dots g.modifiers)) in
    let list = all_append (all_append (all_append head (blanks g.gap.all)) (operand t.first g.first)) (others g.others) in
    all_append (all_append (all_append list (blanks g.ending)) (sign 59 refl)) (blanks g.behind)

none_here : {l : List ℕ} → NoFeed l → Listed line_feed l → ⊥
none_here none x3 = elim x3 [ ]
none_here (more {b} e k) (here h) =
    let z : false ≡ true = subst (λ (k : ℕ). is_no_feed k ≡ true) (sym h) e in
    let y : ◌≡◌ {A = ℕ} 0 1 = cc in
    omega arith
none_here (more e k) (later h) = none_here k h

-- no line with the shape has a line feed
pub no_line_feed : (l : List ℕ) (t : LineTree) → Shaped l t → Listed line_feed l → ⊥
no_line_feed l t s e = none_here (subst NoFeed s.text (good_text t s.good)) e
