-- What may follow in each state, in the grammar's words; with a byte before it, it may follow in the state before. So every state but the wrong one is begun by lines.
use Rattle.std.specs.Prelude.{ℕ, ◌+◌, ◌*◌, ◌-◌, ◌<◌, ◌≡◌, refl, List, [], ◌∷◌, ◌++◌, Bool, true, false, cond, eqb}
use Rattle.std.proofs.Common.{arith, sym, ap, ◌∙◌, subst, append_assoc, eqb-true}
use Rattle.std.proofs.lemmas.Bool.{eqb-false}
use Rattle.signs.specs.Bytes.{is_blank, is_digit, is_name_byte, All, Some}
use Rattle.signs.specs.Bytes.All.{none, more}
use Rattle.signs.specs.Text.{bytes}
use Rattle.record.specs.declared.File.{File}
use Rattle.record.specs.declared.File.TheVariants.{Words, Halves, Doubles, Preds}
use Rattle.record.specs.Registers.{Place, reg}
use Rattle.rules.specs.Shape.{dotted, number_text, file_text, register_text, at, nothing, spot_text, inverted, pair, bare, part, operand_text, guard_text}
use Rattle.rules.specs.Grammar as grammar
use Rattle.rules.specs.Grammar.{unguarded, guarded, guard_tree_text, Divided, divided_text, GoodPlace, GoodName, GoodNames, GoodSpot, GoodOperand, GoodGuard, GoodOthers}
use Rattle.rules.specs.BytePlaces.{ShapedLine}
use Rattle.begins.specs.Machines.{all_back}
use Rattle.scan.specs.RunLaws.{not_so}
use Rattle.scan.specs.NumberLaws.{digit_range, one_text, two_text_lem, three_text}
use Rattle.viable.specs.States.{named, ends, follow, digits, register, step, reach, is_wrong}
use Rattle.viable.specs.declared.Role.{Role}
use Rattle.viable.specs.declared.Role.TheVariants as role
use Rattle.viable.specs.declared.Read.{Read}
use Rattle.viable.specs.declared.Read.TheVariants as read
use Rattle.viable.specs.declared.State.{State}
use Rattle.viable.specs.declared.State.TheVariants.{Wrong, Start, Guard, Blanks, Dot, Name, Operand, Nothing, Bar, Part, Selector, End, Register}

-- ==== sets of texts

abbrev Texts : Type 1
Texts = List ℕ → Type 0

-- a text of the first and then one of the second
pub record Then (P Q : Texts) (w : List ℕ) : Type 0 where
  front : List ℕ
  back : List ℕ
  whole : w ≡ front ++ back
  first : P front
  next : Q back

-- the text of something good
pub record Of {T : Type 0} (text : T → List ℕ) (Good : T → Type 0) (w : List ℕ) : Type 0 where
  tree : T
  good : Good tree
  is : text tree ≡ w

-- more in front; nothing in front; two fronts as one
put : {P P' Q : Texts} (s : List ℕ) {w : List ℕ} → ((a : List ℕ) → P a → P' (s ++ a)) → Then P Q w → Then P' Q (s ++ w)
put s f t = record {
  front = s ++ t.front;
  back = t.back;
  whole = ap (λ (l : List ℕ). s ++ l) t.whole ∙ sym (append_assoc s t.front t.back);
  first = f t.front t.first;
  next = t.next;
}

skip : {P Q : Texts} {w : List ℕ} → P [] → Q w → Then P Q w
skip {w = w} p q = record { front = []; back = w; whole = refl; first = p; next = q }

join : {P Q R : Texts} {w : List ℕ} → Then P (Then Q R) w → Then (Then P Q) R w
join t =
    let u = t.next in
    record {
      front = t.front ++ u.front;
      back = u.back;
      whole = t.whole ∙ ap (λ (l : List ℕ). t.front ++ l) u.whole ∙ sym (append_assoc t.front u.front u.back);
      first = record { front = t.front; back = u.front; whole = refl; first = t.first; next = u.first };
      next = u.next;
    }

-- something good as a part of something else
inside : {T U : Type 0} {text : T → List ℕ} {Good : T → Type 0} {text' : U → List ℕ} {Good' : U → Type 0} (f : T → U) (s : List ℕ)
    → ((t : T) → Good t → Good' (f t)) → ((t : T) → s ++ text t ≡ text' (f t)) → (a : List ℕ) → Of text Good a → Of text' Good' (s ++ a)
inside f s g h a o = record { tree = f o.tree; good = g o.tree o.good; is = sym (h o.tree) ∙ ap (λ (l : List ℕ). s ++ l) o.is }

-- ==== what may follow

-- the pieces
abbrev NumberT : Texts
NumberT = Of number_text (λ (n : ℕ). n < grammar.number_limit)

abbrev RegisterT : Texts
RegisterT = Of register_text GoodPlace

abbrev SpotT : Texts
SpotT = Of spot_text GoodSpot

abbrev OperandT : Texts
OperandT = Of operand_text GoodOperand

abbrev DottedT : Texts
DottedT = Of dotted GoodNames

abbrev GuardT : Texts
GuardT = Of guard_tree_text GoodGuard

-- after an operand
pub record Rest (w : List ℕ) : Type 0 where
  others : List Divided
  ending : List ℕ
  behind : List ℕ
  whole : w ≡ divided_text others ++ (ending ++ (59 ∷ behind))
  goods : GoodOthers others
  blank : All is_blank ending
  blanks : All is_blank behind

-- from an operand on, from a head on
abbrev OperandOn : Texts
OperandOn = Then OperandT Rest

abbrev HeadOn : Texts
HeadOn = Then GoodName (Then DottedT (Then (Some is_blank) OperandOn))

-- after a register: after each good one, where it is the first of an operand
abbrev After : Role → Texts
After role.Guard w = Then (Some is_blank) HeadOn w
After role.First w = (p : Place) → GoodPlace p → OperandOn (register_text p ++ w)
After role.Last w = Rest w

-- within a register, given what may follow it
abbrev Within : Texts → Read → Texts
Within K read.Nothing w = Then RegisterT K w
Within K read.Sign w = Then RegisterT K (37 ∷ w)
Within K read.Wide w = Then RegisterT K (37 ∷ 114 ∷ w)
Within K read.File w = Then NumberT K w
Within K read.One w = (a : ℕ) → 0 < a → a < 10 → Then NumberT K ((a + 48) ∷ w)
Within K read.Two w = (a c : ℕ) → 0 < a → a < 10 → c < 10 → Then NumberT K ((a + 48) ∷ (c + 48) ∷ w)
Within K read.Whole w = K w

abbrev pub Tail : State → Texts
Tail Wrong w = ⊥
Tail Start w = Then (All is_blank) (Then GuardT HeadOn) w
Tail Guard w = Then GuardT HeadOn (64 ∷ w)
Tail Blanks w = Then (All is_blank) HeadOn w
Tail Dot w = HeadOn w
Tail Name w = Then (All is_name_byte) (Then DottedT (Then (Some is_blank) OperandOn)) w
Tail Operand w = Then (All is_blank) OperandOn w
Tail Nothing w = OperandOn (95 ∷ w)
Tail Bar w = Then SpotT Rest w
Tail Part w = Then GoodName Rest w
Tail Selector w = Then (All is_name_byte) Rest w
Tail End w = All is_blank w
Tail (Register k d) w = Within (After k) d w

-- ==== a byte back

-- what may follow in a state may, with the byte b before it, follow in another, of which P is what may follow
pub record Back (P : Texts) (q : State) (b : ℕ) (w : List ℕ) : Type 0 where
  pub back : Tail q w → P (b ∷ w)

-- by a test, by a byte
test : (t : Bool) {P : Texts} {x y : State} {b : ℕ} {w : List ℕ} → (t ≡ true → Back P x b w) → (t ≡ false → Back P y b w) → Back P (cond t x y) b w
test true f g = f refl
test false f g = g refl

byte : (n : ℕ) {P : Texts} {x y : State} {b : ℕ} {w : List ℕ} → Back P x n w → Back P y b w → Back P (cond (eqb b n) x y) b w
byte n {P} {x} {y} {b} {w} f g = test (eqb b n) (λ e. subst (λ (a : ℕ). Back P x a w) (sym (eqb-true b n e)) f) (λ e. g)

wrong : {P : Texts} {b : ℕ} {w : List ℕ} → Back P Wrong b w
wrong = record { back = λ r. absurd r }

rest_blank : (b : ℕ) {w : List ℕ} → is_blank b ≡ true → Rest w → Rest (b ∷ w)
rest_blank b {w} e r = go r.others r.goods r.whole
  where
    go : (ds : List Divided) → GoodOthers ds → w ≡ divided_text ds ++ (r.ending ++ (59 ∷ r.behind)) → Rest (b ∷ w)
    go [] g q = record { others = []; ending = b ∷ r.ending; behind = r.behind; whole = ap (λ (l : List ℕ). b ∷ l) q; goods = g; blank = more e r.blank; blanks = r.blanks }
    go (d ∷ ds) (GoodOthers.more g gs) q = record {
      others = record { before = b ∷ d.before; after = d.after; operand = d.operand } ∷ ds;
      ending = r.ending;
      behind = r.behind;
      whole = ap (λ (l : List ℕ). b ∷ l) q;
      goods = GoodOthers.more (record { before = more e g.before; after = g.after; operand = g.operand }) gs;
      blank = r.blank;
      blanks = r.blanks;
    }

rest_comma : {w : List ℕ} → Tail Operand w → Rest (44 ∷ w)
rest_comma t =
    let o = t.next in
    let r = o.next in
    record {
      others = record { before = []; after = t.front; operand = o.first.tree } ∷ r.others;
      ending = r.ending;
      behind = r.behind;
      whole = rw (t.whole, o.whole, r.whole, ← o.first.is) (simp append_assoc);
      goods = GoodOthers.more (record { before = none; after = t.first; operand = o.first.good }) r.goods;
      blank = r.blank;
      blanks = r.blanks;
    }

rest_end : {w : List ℕ} → All is_blank w → Rest (59 ∷ w)
rest_end {w} a = record { others = []; ending = []; behind = w; whole = refl; goods = GoodOthers.none; blank = none; blanks = a }

ends_back : (b : ℕ) (w : List ℕ) → Back Rest (ends b) b w
unfolding ends
ends_back b w = test (is_blank b) (λ e. record { back = rest_blank b e }) (λ e. byte 44 (record { back = rest_comma }) (byte 59 (record { back = rest_end }) wrong))

-- ---- numbers

-- a digit's byte
record Digit (b : ℕ) : Type 0 where
  value : ℕ
  small : value < 10
  is : value + 48 ≡ b

digit_at_lem : (b : ℕ) → is_digit b ≡ true → Digit b
digit_at_lem b e = let r = digit_range b e in record { value = b - 48; small = omega arith; is = omega arith }

module _ (K : Texts) (w : List ℕ) where
  one_digit : (a : ℕ) → a < 10 → K w → Then NumberT K ((a + 48) ∷ w)
  one_digit a h r = record { front = (a + 48) ∷ []; back = w; whole = refl; first = record { tree = a; good = omega arith; is = one_text a h }; next = r }

  two_digits : (a c : ℕ) → 0 < a → a < 10 → c < 10 → K w → Then NumberT K ((a + 48) ∷ (c + 48) ∷ w)
  two_digits a c z h i r = record { front = (a + 48) ∷ (c + 48) ∷ []; back = w; whole = refl; first = record { tree = 10 * a + c; good = omega arith; is = two_text_lem a c z h i }; next = r }

  three_digits : (a c d : ℕ) → 0 < a → a < 10 → c < 10 → d < 10 → K w → Then NumberT K ((a + 48) ∷ (c + 48) ∷ (d + 48) ∷ w)
  three_digits a c d z h i j r = record {
    front = (a + 48) ∷ (c + 48) ∷ (d + 48) ∷ [];
    back = w;
    whole = refl;
    first = record { tree = 100 * a + 10 * c + d; good = omega arith; is = three_text a c d z h i j };
    next = r;
  }

digits_back : (k : Role) (b : ℕ) (w : List ℕ) → Back (Then NumberT (After k)) (digits k b) b w
unfolding digits
digits_back k b w =
    test (eqb b 48) (λ e. record { back = λ r. subst (λ (x : ℕ). Then NumberT (After k) (x ∷ w)) (sym (eqb-true b 48 e)) (one_digit (After k) w 0 (omega arith) r) })
    (λ n. test (is_digit b)
    (λ e. record { back = λ r. let d = digit_at_lem b e in let z : 0 < d.value = omega (arith, eqb-false b 48 n) in subst (λ (x : ℕ). Then NumberT (After k) (x ∷ w)) d.is (r d.value z d.small) })
    (λ e. wrong))

-- ---- what follows a register

followed : (p : Place) → GoodPlace p → (w : List ℕ) → Rest w → OperandOn (register_text p ++ w)
followed p g w r = record { front = register_text p; back = w; whole = refl; first = record { tree = bare p; good = g; is = refl }; next = r }

paired : (p : Place) → GoodPlace p → (w : List ℕ) → Tail Bar w → OperandOn (register_text p ++ (124 ∷ w))
paired p g w r = subst OperandOn (append_assoc (register_text p) (bytes "|") w) (put (register_text p ++ bytes "|") (inside (pair (at p)) (register_text p ++ bytes "|") (λ q h. (g, h)) (λ q. refl)) r)

selected : (p : Place) → GoodPlace p → (w : List ℕ) → Tail Part w → OperandOn (register_text p ++ (46 ∷ w))
selected p g w r = subst OperandOn (append_assoc (register_text p) (bytes ".") w) (put (register_text p ++ bytes ".") (λ a h. record { tree = part p a; good = (g, h); is = refl }) r)

blank_more : (b : ℕ) → is_blank b ≡ true → (a : List ℕ) → All is_blank a → Some is_blank (b ∷ a)
blank_more b e a h = record { all = more e h; some = omega arith }

follow_back : (k : Role) (b : ℕ) (w : List ℕ) → Back (After k) (follow k b) b w
unfolding follow
follow_back role.Guard b w = test (is_blank b) (λ e. record { back = put (b ∷ []) (blank_more b e) }) (λ e. wrong)
follow_back role.First b w =
    byte 124 (record { back = λ r p g. paired p g w r })
    (byte 46 (record { back = λ r p g. selected p g w r })
    (record { back = λ r p g. followed p g (b ∷ w) ((ends_back b w).back r) }))
follow_back role.Last b w = ends_back b w

-- ---- registers

in_file_lem : (f : File) {K : Texts} {w : List ℕ} → Then NumberT K w → Then RegisterT K (file_text f ++ w)
in_file_lem f = put (file_text f) (inside (reg f) (file_text f) (λ n g. g) (λ n. refl))

register_back : (k : Role) (d : Read) (b : ℕ) (w : List ℕ) → Back (Within (After k) d) (register k d b) b w
unfolding register
register_back k read.Nothing b w = byte 37 (record { back = λ r. r }) wrong
register_back k read.Sign b w = byte 112 (record { back = in_file_lem Preds }) (byte 114 (record { back = λ r. r }) wrong)
register_back k read.Wide b w =
    byte 100 (record { back = in_file_lem Doubles }) (byte 115 (record { back = in_file_lem Halves }) (record { back = λ r. in_file_lem Words ((digits_back k b w).back r) }))
register_back k read.File b w = digits_back k b w
register_back k read.One b w =
    test (is_digit b) (λ e. record { back = λ r a z h. let d = digit_at_lem b e in subst (λ (x : ℕ). Then NumberT (After k) ((a + 48) ∷ x ∷ w)) d.is (r a d.value z h d.small) })
    (λ e. record { back = λ r a z h. one_digit (After k) (b ∷ w) a h ((follow_back k b w).back r) })
register_back k read.Two b w =
    test (is_digit b) (λ e. record { back = λ r a c z h i. let d = digit_at_lem b e in subst (λ (x : ℕ). Then NumberT (After k) ((a + 48) ∷ (c + 48) ∷ x ∷ w)) d.is (three_digits (After k) w a c d.value z h i d.small r) })
    (λ e. record { back = λ r a c z h i. two_digits (After k) (b ∷ w) a c z h i ((follow_back k b w).back r) })
register_back k read.Whole b w = follow_back k b w

-- ---- operands, guards, heads

-- an operand that begins with a register
first_register : {w : List ℕ} → Then RegisterT (After role.First) w → OperandOn w
first_register t = subst OperandOn (ap (λ (l : List ℕ). l ++ t.back) t.first.is ∙ sym t.whole) (t.next t.first.tree t.first.good)

as_inverted : {w : List ℕ} → Then RegisterT Rest w → OperandOn (33 ∷ w)
as_inverted = put (bytes "!") (inside inverted (bytes "!") (λ p g. g) (λ p. refl))

as_pair : {w : List ℕ} → Then SpotT Rest w → OperandOn (95 ∷ 124 ∷ w)
as_pair = put (bytes "_|") (inside (pair nothing) (bytes "_|") (λ p g. (tt, g)) (λ p. refl))

as_spot : {w : List ℕ} → Then RegisterT Rest w → Then SpotT Rest w
as_spot = put [] (inside at [] (λ p g. g) (λ p. refl))

no_spot : {w : List ℕ} → Rest w → Then SpotT Rest (95 ∷ w)
no_spot {w} r = record { front = bytes "_"; back = w; whole = refl; first = record { tree = nothing; good = tt; is = refl }; next = r }

as_guard : (n : Bool) (s : List ℕ) → ((p : Place) → guard_text n p ≡ s ++ register_text p) → {w : List ℕ} → Then RegisterT (After role.Guard) w → Then GuardT HeadOn (s ++ w)
as_guard n s h r =
    put s (λ a t. record {
      tree = guarded n t.first.tree t.back;
      good = (t.first.good, t.next);
      is = rw (h t.first.tree, t.first.is, t.whole) (append_assoc s t.front t.back);
    }) (join r)

-- a head, after no guard; one more name of a head
no_guard : {w : List ℕ} → HeadOn w → Then GuardT HeadOn w
no_guard = skip (record { tree = unguarded; good = tt; is = refl })

name_more : {Q : Texts} (b : ℕ) (w : List ℕ) → is_name_byte b ≡ true → Then (All is_name_byte) Q w → Then GoodName Q (b ∷ w)
name_more b w e = put (b ∷ []) (λ a h. record { all = more e h; some = omega arith })

dot_more : {w : List ℕ} → HeadOn w → Tail Name (46 ∷ w)
dot_more r =
    skip none (put (bytes ".") (λ a t. record { tree = t.front ∷ t.next.tree; good = GoodNames.more t.first t.next.good; is = rw (t.next.is, t.whole) }) (join r))

named_back : {P : Texts} {x y : State} (b : ℕ) (w : List ℕ) → (is_name_byte b ≡ true → Back P x b w) → Back P y b w → Back P (named b x y) b w
unfolding named
named_back b w f g = test (is_name_byte b) f (λ e. g)

-- ---- every state

pub step_back : (q : State) (b : ℕ) (w : List ℕ) → Back (Tail q) (step q b) b w
unfolding step
step_back Wrong b w = wrong
step_back Start b w =
    test (is_blank b) (λ e. record { back = put (b ∷ []) (λ a h. more e h) })
    (λ e. byte 64 (record { back = skip none }) (named_back b w (λ n. record { back = λ r. skip none (no_guard (name_more b w n r)) }) wrong))
step_back Guard b w =
    byte 33 (record { back = as_guard true (bytes "@!") (λ p. refl) }) (record { back = λ r. as_guard false (bytes "@") (λ p. refl) ((register_back role.Guard read.Nothing b w).back r) })
step_back Blanks b w = test (is_blank b) (λ e. record { back = put (b ∷ []) (λ a h. more e h) }) (λ e. named_back b w (λ n. record { back = λ r. skip none (name_more b w n r) }) wrong)
step_back Dot b w = named_back b w (λ n. record { back = name_more b w n }) wrong
step_back Name b w =
    named_back b w (λ n. record { back = put (b ∷ []) (λ a h. more n h) })
    (byte 46 (record { back = dot_more })
    (test (is_blank b) (λ e. record { back = λ r. skip none (skip (record { tree = []; good = GoodNames.none; is = refl }) (put (b ∷ []) (blank_more b e) r)) }) (λ e. wrong)))
step_back Operand b w =
    test (is_blank b) (λ e. record { back = put (b ∷ []) (λ a h. more e h) })
    (λ e. byte 33 (record { back = λ r. skip none (as_inverted r) })
    (byte 95 (record { back = skip none })
    (record { back = λ r. skip none (first_register ((register_back role.First read.Nothing b w).back r)) })))
step_back Nothing b w = byte 124 (record { back = as_pair }) wrong
step_back Bar b w = byte 95 (record { back = no_spot }) (record { back = λ r. as_spot ((register_back role.Last read.Nothing b w).back r) })
step_back Part b w = named_back b w (λ n. record { back = name_more b w n }) wrong
step_back Selector b w = named_back b w (λ n. record { back = put (b ∷ []) (λ a h. more n h) }) (record { back = λ r. skip none ((ends_back b w).back r) })
step_back End b w = test (is_blank b) (λ e. record { back = λ r. more e r }) (λ e. wrong)
step_back (Register k d) b w = register_back k d b w

-- what follows at the start is a line
pub start_line : (w : List ℕ) → Tail Start w → ShapedLine w
start_line w t =
    let g = t.next in
    let n = g.next in
    let d = n.next in
    let s = d.next in
    let o = s.next in
    let r = o.next in
    record {
      tree = record {
        before = t.front;
        guard = g.first.tree;
        opcode = n.front;
        modifiers = d.first.tree;
        gap = s.front;
        first = o.first.tree;
        others = r.others;
        ending = r.ending;
        behind = r.behind;
      };
      shaped = record {
        good = record {
          before = t.first;
          guard = g.first.good;
          opcode = n.first;
          modifiers = d.first.good;
          gap = s.first;
          first = o.first.good;
          others = r.goods;
          ending = r.blank;
          behind = r.blanks;
        };
        text = rw (t.whole, g.whole, n.whole, d.whole, s.whole, o.whole, r.whole, ← g.first.is, ← d.first.is, ← o.first.is) (simp append_assoc);
      };
    }

-- ==== something may follow in every state but the wrong one

-- a text that ends a line from the state
abbrev within : Read → List ℕ
within read.Nothing = bytes "%p0"
within read.Sign = bytes "p0"
within read.Wide = bytes "0"
within read.File = bytes "0"
within read.One = bytes "00"
within read.Two = bytes "0"
within read.Whole = []

abbrev after : Role → List ℕ
after role.Guard = bytes " v %p0;"
after role.First = bytes ";"
after role.Last = bytes ";"

abbrev ending : State → List ℕ
ending Wrong = []
ending Start = bytes "v %p0;"
ending Guard = bytes "%p0 v %p0;"
ending Blanks = bytes "v %p0;"
ending Dot = bytes "v %p0;"
ending Name = bytes " %p0;"
ending Operand = bytes "%p0;"
ending Nothing = bytes "|_;"
ending Bar = bytes "_;"
ending Part = bytes "v;"
ending Selector = bytes ";"
ending End = []
ending (Register k d) = within d ++ after k

register_ends : (k : Role) → reach (Register k read.Whole) (after k) ≡ End
unfolding step register follow ends named digits
register_ends role.Guard = refl
register_ends role.First = refl
register_ends role.Last = refl

within_ends : (k : Role) (d : Read) → reach (Register k d) (within d ++ after k) ≡ End
unfolding step register digits
within_ends k read.Nothing = register_ends k
within_ends k read.Sign = register_ends k
within_ends k read.Wide = register_ends k
within_ends k read.File = register_ends k
within_ends k read.One = register_ends k
within_ends k read.Two = register_ends k
within_ends k read.Whole = register_ends k

state_ends : (q : State) → is_wrong q ≡ false → reach q (ending q) ≡ End
unfolding step register follow ends digits named
state_ends Wrong e = not_so (sym e)
state_ends Start e = refl
state_ends Guard e = refl
state_ends Blanks e = refl
state_ends Dot e = refl
state_ends Name e = refl
state_ends Operand e = refl
state_ends Nothing e = refl
state_ends Bar e = refl
state_ends Part e = refl
state_ends Selector e = refl
state_ends End e = refl
state_ends (Register k d) e = within_ends k d

pub state_tail : (q : State) → is_wrong q ≡ false → (w : List ℕ) × Tail q w
state_tail q e = (ending q ++ [], all_back step Tail (λ x b w. (step_back x b w).back) q (ending q) [] (subst (λ (x : State). Tail x []) (sym (state_ends q e)) none))
