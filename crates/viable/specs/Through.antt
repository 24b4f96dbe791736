-- The text of every good tree goes through the states to the end; so from the wrong state there is no line.
use Rattle.std.specs.Prelude.{ℕ, ◌/◌, ◌≤◌, ◌<◌, ◌≡◌, refl, List, [], ◌∷◌, ◌++◌, Bool, true, false, ◌||◌, cond, eqb, ltb, length}
use Rattle.std.proofs.Common.{arith, sym, ap, ◌∙◌, subst, append_assoc, append-nil, eqb-true, ne_eqb, ltb-true, ltb-false}
use Rattle.signs.specs.Bytes.{is_blank, is_digit, is_name_byte, All, Some}
use Rattle.signs.specs.Bytes.All.{none, more}
use Rattle.signs.specs.Text.{bytes}
use Rattle.record.specs.declared.File.TheVariants.{Words, Halves, Doubles, Preds}
use Rattle.record.specs.Registers.{Place, reg}
use Rattle.rules.specs.Shape.{Name as Word, dotted, digit, number_text, register_text, Spot, at, nothing, spot_text, OperandTree, inverted, pair, bare, part, operand_text}
use Rattle.rules.specs.Grammar.{GuardTree, unguarded, guarded, guard_tree_text, Divided, divided_text, LineTree, line_text, Good, GoodPlace, GoodName, GoodNames, GoodSpot, GoodOperand, GoodGuard, GoodOthers, number_limit}
use Rattle.rules.specs.BytePlaces.{ShapedLine}
use Rattle.scan.specs.RunLaws.{not_so}
use Rattle.scan.specs.NumberLaws.{digit_is}
use Rattle.viable.specs.States.{named, ends, follow, digits, register, step, reach, is_wrong}
use Rattle.viable.specs.declared.Role.{Role}
use Rattle.viable.specs.declared.Role.TheVariants as role
use Rattle.viable.specs.declared.Read.{Read}
use Rattle.viable.specs.declared.Read.TheVariants as read
use Rattle.viable.specs.declared.State.{State}
use Rattle.viable.specs.declared.State.TheVariants.{Wrong, Start, Guard, Blanks, Dot, Name, Operand, Nothing, Bar, Part, Selector, End, Register}

-- from the state the bytes lead to the end
abbrev Ends : State → List ℕ → Type 0
Ends q w = reach q w ≡ End

-- nothing leads from the wrong state
reach_wrong : (w : List ℕ) → reach Wrong w ≡ Wrong
unfolding step
reach_wrong [] = refl
reach_wrong (b ∷ w) = reach_wrong w

never : {A : Type 0} (q : State) (w : List ℕ) → q ≡ Wrong → Ends q w → A
never q w e f = not_so (ap is_wrong (sym f ∙ ap (λ (x : State). reach x w) e ∙ reach_wrong w))

on : (q x : State) (b : ℕ) (w : List ℕ) → step q b ≡ x → Ends x w → Ends q (b ∷ w)
on q x b w e f = ap (λ (s : State). reach s w) e ∙ f

is_wrong_lem : (q : State) → is_wrong q ≡ true → q ≡ Wrong
is_wrong_lem Wrong e = refl
is_wrong_lem Start e = not_so e
is_wrong_lem Guard e = not_so e
is_wrong_lem Blanks e = not_so e
is_wrong_lem Dot e = not_so e
is_wrong_lem Name e = not_so e
is_wrong_lem Operand e = not_so e
is_wrong_lem Nothing e = not_so e
is_wrong_lem Bar e = not_so e
is_wrong_lem Part e = not_so e
is_wrong_lem Selector e = not_so e
is_wrong_lem End e = not_so e
is_wrong_lem (Register k d) e = not_so e

-- ---- bytes

-- a byte of a class is none that the class has not
other : (P : ℕ → Bool) (b n : ℕ) → P b ≡ true → P n ≡ false → eqb b n ≡ false
other P b n h e = go (eqb b n) refl
  where
    go : (t : Bool) → eqb b n ≡ t → t ≡ false
    go true q = not_so (sym e ∙ ap P (sym (eqb-true b n q)) ∙ h)
    go false q = refl

blank_is : (P : ℕ → Type 0) → P 32 → P 9 → (b : ℕ) → is_blank b ≡ true → P b
blank_is P x y b e = go (eqb b 32) (eqb b 9) refl refl e
  where
    go : (s t : Bool) → eqb b 32 ≡ s → eqb b 9 ≡ t → s || t ≡ true → P b
    go true t p q f = subst P (sym (eqb-true b 32 p)) x
    go false true p q f = subst P (sym (eqb-true b 9 q)) y
    go false false p q f = not_so f

-- ---- runs of one class

module _ (P : ℕ → Bool) (q : State) (h : (b : ℕ) → P b ≡ true → step q b ≡ q) where
  loop : {w : List ℕ} (r : List ℕ) → All P w → Ends q r → Ends q (w ++ r)
  loop r none e = e
  loop r (more {b = b} {w = w} p a) e = on q q b (w ++ r) (h b p) (loop r a e)

  -- the first of them leads into the loop
  enter : (x : State) → ((b : ℕ) → P b ≡ true → step x b ≡ q) → {w : List ℕ} (r : List ℕ) → Some P w → Ends q r → Ends x (w ++ r)
  enter x i {w} r s e = go s.all s.some
    where
      go : {v : List ℕ} → All P v → 0 < length v → Ends x (v ++ r)
      go none l = absurd (omega arith)
      go (more {b = b} {w = v} p a) l = on x q b (v ++ r) (i b p) (loop r a e)

blanks : (q : State) → step q 32 ≡ q → step q 9 ≡ q → {w : List ℕ} (r : List ℕ) → All is_blank w → Ends q r → Ends q (w ++ r)
blanks q x y = loop is_blank q (blank_is (λ (b : ℕ). step q b ≡ q) x y)

names : {w : List ℕ} (r : List ℕ) (x : State) → ((b : ℕ) → is_name_byte b ≡ true → step x b ≡ Name) → GoodName w → Ends Name r → Ends x (w ++ r)
unfolding step named
names r x i = enter is_name_byte Name (λ b e. rw e) x i r

-- ---- a state that goes on as another does where that goes on at all

data Same (x y : State) : Type 0 where
  stopped : x ≡ Wrong → Same x y
  same : y ≡ x → Same x y

wider : (q x : State) → (q ≡ End → ⊥) → ((b : ℕ) → Same (step q b) (step x b)) → (w : List ℕ) → Ends q w → Ends x w
wider q x n h [] e = absurd (n e)
wider q x n h (b ∷ w) e = go (h b)
  where
    go : Same (step q b) (step x b) → Ends x (b ∷ w)
    go (stopped z) = never (step q b) w z e
    go (same z) = rw z e

register_not_end : (k : Role) (d : Read) → Register k d ≡ End → ⊥
register_not_end k d e = let z : ◌≡◌ {A = ℕ} 0 1 = cc in absurd (omega arith)

-- by the test that the wider one makes first
first_test : (t : Bool) (x y z : State) → (t ≡ true → x ≡ Wrong) → Same x z → Same x (cond t y z)
first_test true x y z h s = stopped (h refl)
first_test false x y z h s = s

digit_ends : (k : Role) (b : ℕ) → is_digit b ≡ true → follow k b ≡ Wrong
unfolding follow ends
digit_ends role.Guard b e = rw (other is_digit b 32 e refl, other is_digit b 9 e refl)
digit_ends role.First b e = rw (other is_digit b 124 e refl, other is_digit b 46 e refl, other is_digit b 32 e refl, other is_digit b 9 e refl, other is_digit b 44 e refl, other is_digit b 59 e refl)
digit_ends role.Last b e = rw (other is_digit b 32 e refl, other is_digit b 9 e refl, other is_digit b 44 e refl, other is_digit b 59 e refl)

name_ends : (b : ℕ) → is_name_byte b ≡ true → ends b ≡ Wrong
unfolding ends
name_ends b e = rw (other is_name_byte b 32 e refl, other is_name_byte b 9 e refl, other is_name_byte b 44 e refl, other is_name_byte b 59 e refl)

one_wider : (k : Role) (r : List ℕ) → Ends (Register k read.Whole) r → Ends (Register k read.One) r
unfolding step register
one_wider k = wider (Register k read.Whole) (Register k read.One) (register_not_end k read.Whole) (λ b. first_test (is_digit b) (follow k b) (Register k read.Two) (follow k b) (digit_ends k b) (same refl))

two_wider : (k : Role) (r : List ℕ) → Ends (Register k read.Whole) r → Ends (Register k read.Two) r
unfolding step register
two_wider k = wider (Register k read.Whole) (Register k read.Two) (register_not_end k read.Whole) (λ b. first_test (is_digit b) (follow k b) (Register k read.Whole) (follow k b) (digit_ends k b) (same refl))

-- `d` and `s` are no digits
wide_wider : (k : Role) (r : List ℕ) → Ends (Register k read.File) r → Ends (Register k read.Wide) r
unfolding step register digits
wide_wider k =
    wider (Register k read.File) (Register k read.Wide) (register_not_end k read.File)
    (λ b. first_test (eqb b 100) (digits k b) (Register k read.File) (cond (eqb b 115) (Register k read.File) (digits k b)) (λ e. ap (digits k) (eqb-true b 100 e))
    (first_test (eqb b 115) (digits k b) (Register k read.File) (digits k b) (λ e. ap (digits k) (eqb-true b 115 e)) (same refl)))

first_wider : (r : List ℕ) → Ends (Register role.Last read.Whole) r → Ends (Register role.First read.Whole) r
unfolding step register follow ends
first_wider =
    wider (Register role.Last read.Whole) (Register role.First read.Whole) (register_not_end role.Last read.Whole)
    (λ b. first_test (eqb b 124) (ends b) Bar (cond (eqb b 46) Part (ends b)) (λ e. ap ends (eqb-true b 124 e)) (first_test (eqb b 46) (ends b) Part (ends b) (λ e. ap ends (eqb-true b 46 e)) (same refl)))

selector_wider : (r : List ℕ) → Ends (Register role.Last read.Whole) r → Ends Selector r
unfolding step register follow named
selector_wider = wider (Register role.Last read.Whole) Selector (register_not_end role.Last read.Whole) (λ b. first_test (is_name_byte b) (ends b) Selector (ends b) (name_ends b) (same refl))

-- ---- the pieces

module _ (k : Role) where
  -- a first digit; one digit more
  zero : (n : ℕ) → n ≡ 0 → step (Register k read.File) (digit n) ≡ Register k read.Whole
  unfolding step register digits
  zero n e = rw e

  leads : (n : ℕ) → 0 < n → n < 10 → step (Register k read.File) (digit n) ≡ Register k read.One
  unfolding step register digits
  leads n h i = rw (ne_eqb (digit n) 48 (λ e. omega arith), digit_is n)

  second : (n : ℕ) → step (Register k read.One) (digit n) ≡ Register k read.Two
  unfolding step register
  second n = rw (digit_is n)

  third : (n : ℕ) → step (Register k read.Two) (digit n) ≡ Register k read.Whole
  unfolding step register
  third n = rw (digit_is n)

  module _ (r : List ℕ) (e : Ends (Register k read.Whole) r) where
    number_through : (n : ℕ) → n < number_limit → Ends (Register k read.File) (number_text n ++ r)
    number_through n h = go (ltb n 1) (ltb n 10) (ltb n 100) refl refl refl
      where
        go : (s t u : Bool) → ltb n 1 ≡ s → ltb n 10 ≡ t → ltb n 100 ≡ u
            → Ends (Register k read.File) (cond t (digit n ∷ []) (cond u (digit (n / 10) ∷ digit n ∷ []) (digit (n / 100) ∷ digit (n / 10) ∷ digit n ∷ [])) ++ r)
        go true true u a b c = on (Register k read.File) (Register k read.Whole) (digit n) r (zero n (omega (arith, ltb-true n 1 a))) e
        go false true u a b c = on (Register k read.File) (Register k read.One) (digit n) r (leads n (omega (arith, ltb-false n 1 a)) (ltb-true n 10 b)) (one_wider k r e)
        go s false true a b c =
            let x : 10 ≤ n = ltb-false n 10 b in
            let y : n < 100 = ltb-true n 100 c in
            on (Register k read.File) (Register k read.One) (digit (n / 10)) (digit n ∷ r) (leads (n / 10) (omega arith) (omega arith))
            (on (Register k read.One) (Register k read.Two) (digit n) r (second n) (two_wider k r e))
        go s false false a b c =
            let x : 100 ≤ n = ltb-false n 100 c in
            on (Register k read.File) (Register k read.One) (digit (n / 100)) (digit (n / 10) ∷ digit n ∷ r) (leads (n / 100) (omega arith) (omega arith))
            (on (Register k read.One) (Register k read.Two) (digit (n / 10)) (digit n ∷ r) (second (n / 10)) (on (Register k read.Two) (Register k read.Whole) (digit n) r (third n) e))

register_through : (q : State) (k : Role) → step q 37 ≡ Register k read.Sign → (p : Place) → GoodPlace p → (r : List ℕ) → Ends (Register k read.Whole) r → Ends q (register_text p ++ r)
unfolding step register
register_through q k s (reg Words n) g r e = on q (Register k read.Sign) 37 (114 ∷ (number_text n ++ r)) s (wide_wider k (number_text n ++ r) (number_through k r e n g))
register_through q k s (reg Halves n) g r e = on q (Register k read.Sign) 37 (114 ∷ 115 ∷ (number_text n ++ r)) s (number_through k r e n g)
register_through q k s (reg Doubles n) g r e = on q (Register k read.Sign) 37 (114 ∷ 100 ∷ (number_text n ++ r)) s (number_through k r e n g)
register_through q k s (reg Preds n) g r e = on q (Register k read.Sign) 37 (112 ∷ (number_text n ++ r)) s (number_through k r e n g)

spot_through : (p : Spot) → GoodSpot p → (r : List ℕ) → Ends (Register role.Last read.Whole) r → Ends Bar (spot_text p ++ r)
unfolding step register
spot_through (at p) g r e = register_through Bar role.Last refl p g r e
spot_through nothing g r e = e

operand_through : (o : OperandTree) → GoodOperand o → (r : List ℕ) → Ends (Register role.Last read.Whole) r → Ends Operand (operand_text o ++ r)
unfolding step register follow named
operand_through (inverted p) g r e = register_through (Register role.Last read.Nothing) role.Last refl p g r e
operand_through (pair (at p) q) g r e =
    rw (append_assoc (register_text p ++ bytes "|") (spot_text q) r, append_assoc (register_text p) (bytes "|") (spot_text q ++ r))
    (register_through Operand role.First refl p g.0 (124 ∷ (spot_text q ++ r)) (spot_through q g.1 r e))
operand_through (pair nothing q) g r e = spot_through q g.1 r e
operand_through (bare p) g r e = register_through Operand role.First refl p g r (first_wider r e)
operand_through (part p n) g r e =
    rw (append_assoc (register_text p ++ bytes ".") n r, append_assoc (register_text p) (bytes ".") (n ++ r))
    (register_through Operand role.First refl p g.0 (46 ∷ (n ++ r)) (enter is_name_byte Selector (λ b f. rw f) Part (λ b f. rw f) r g.1 (selector_wider r e)))

others_through : {ds : List Divided} → GoodOthers ds → (r : List ℕ) → Ends (Register role.Last read.Whole) r → Ends (Register role.Last read.Whole) (divided_text ds ++ r)
unfolding step register follow ends
others_through GoodOthers.none r e = e
others_through (GoodOthers.more {d = d} {ds = ds} g gs) r e =
    simp append_assoc
    (blanks (Register role.Last read.Whole) refl refl (44 ∷ (d.after ++ (operand_text d.operand ++ (divided_text ds ++ r)))) g.before
    (blanks Operand refl refl (operand_text d.operand ++ (divided_text ds ++ r)) g.after
    (operand_through d.operand g.operand (divided_text ds ++ r) (others_through gs r e))))

dotted_through : {ns : List Word} → GoodNames ns → (r : List ℕ) → Ends Name r → Ends Name (dotted ns ++ r)
unfolding step named
dotted_through GoodNames.none r e = e
dotted_through (GoodNames.more {n = n} {ns = ns} g gs) r e = rw (append_assoc n (dotted ns) r) (names (dotted ns ++ r) Dot (λ b f. rw f) g (dotted_through gs r e))

-- ---- the line

some_blanks : (q x : State) → step q 32 ≡ x → step q 9 ≡ x → step x 32 ≡ x → step x 9 ≡ x → {w : List ℕ} (r : List ℕ) → Some is_blank w → Ends x r → Ends q (w ++ r)
some_blanks q x a b c d = enter is_blank x (blank_is (λ (y : ℕ). step x y ≡ x) c d) q (blank_is (λ (y : ℕ). step q y ≡ x) a b)

-- a head may begin at the start and after a guard
name_at_start : (b : ℕ) → is_name_byte b ≡ true → step Start b ≡ Name
unfolding step named
name_at_start b e = rw (other is_name_byte b 32 e refl, other is_name_byte b 9 e refl, other is_name_byte b 64 e refl, e)

name_after_guard : (b : ℕ) → is_name_byte b ≡ true → step Blanks b ≡ Name
unfolding step named
name_after_guard b e = rw (other is_name_byte b 32 e refl, other is_name_byte b 9 e refl, e)

guard_through : (g : GuardTree) → GoodGuard g → (n : Word) (r : List ℕ) → GoodName n → Ends Name r → Ends Start (guard_tree_text g ++ (n ++ r))
unfolding step register follow
guard_through unguarded g n r h e = names r Start name_at_start h e
guard_through (guarded true p s) g n r h e =
    rw (append_assoc (register_text p) s (n ++ r))
    (register_through (Register role.Guard read.Nothing) role.Guard refl p g.0 (s ++ (n ++ r)) (some_blanks (Register role.Guard read.Whole) Blanks refl refl refl refl (n ++ r) g.1 (names r Blanks name_after_guard h e)))
guard_through (guarded false p s) g n r h e =
    rw (append_assoc (register_text p) s (n ++ r))
    (register_through Guard role.Guard refl p g.0 (s ++ (n ++ r)) (some_blanks (Register role.Guard read.Whole) Blanks refl refl refl refl (n ++ r) g.1 (names r Blanks name_after_guard h e)))

end_through : (t : LineTree) → Good t → Ends (Register role.Last read.Whole) (t.ending ++ (59 ∷ t.behind))
unfolding step register follow ends
end_through t g = blanks (Register role.Last read.Whole) refl refl (59 ∷ t.behind) g.ending (rw append-nil at (blanks End refl refl [] g.behind refl))

line_through : (t : LineTree) → Good t → Ends Start (line_text t)
unfolding step named
line_through t g =
    let end : List ℕ = t.ending ++ (59 ∷ t.behind) in
    let operands : List ℕ = operand_text t.first ++ (divided_text t.others ++ end) in
    let head : List ℕ = dotted t.modifiers ++ (t.gap ++ operands) in
    simp append_assoc
    (blanks Start refl refl (guard_tree_text t.guard ++ (t.opcode ++ head)) g.before
    (guard_through t.guard g.guard t.opcode head g.opcode
    (dotted_through g.modifiers (t.gap ++ operands)
    (some_blanks Name Operand refl refl refl refl operands g.gap
    (operand_through t.first g.first (divided_text t.others ++ end)
    (others_through g.others end
    (end_through t g)))))))

pub through : (w : List ℕ) → ShapedLine w → is_wrong (reach Start w) ≡ false
through w l = ap (λ (s : List ℕ). is_wrong (reach Start s)) (sym l.shaped.text) ∙ ap is_wrong (line_through l.tree l.shaped.good)

pub stuck : (q : State) (b : ℕ) → is_wrong q ≡ true → is_wrong (step q b) ≡ true
unfolding step
stuck q b e = ap (λ (x : State). is_wrong (step x b)) (is_wrong_lem q e)
