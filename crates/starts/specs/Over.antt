-- The first register whose number is over its file: what the code finds is the tree's.
use Rattle.std.specs.Prelude.{ℕ, suc, ◌+◌, ◌≤◌, ◌<◌, ◌≡◌, refl, List, [], ◌∷◌, ◌++◌, Bool, true, false, not, ◌&&◌, cond, eqb, length, get_or, drop, Err, Ok, Result}
use Rattle.std.proofs.Common.{arith, sym, ap, ap₂, ◌∙◌, subst, append_assoc, append-nil, length-append, drop_of_length-le, drop-cons, add-one, lt-ltb, le-ltb}
use Rattle.signs.specs.Bytes.{is_blank, is_digit, is_name_byte, All, Some}
use Rattle.signs.specs.Bytes.All.{none, more}
use Rattle.record.specs.declared.File.{File}
use Rattle.record.specs.declared.File.TheVariants.{Words, Halves, Doubles, Preds}
use Rattle.record.specs.Registers.{count_of, Inside, is_inside, number_of, file_size}
use Rattle.record.specs.Registers as rules
use Rattle.signs.specs.Text.{bytes}
use Rattle.rules.specs.Shape.{head_text, register_text, at, nothing, OperandTree, inverted, pair, bare, part, operand_text}
use Rattle.rules.specs.Grammar.{GoodPlace, GoodOperand, GuardTree, unguarded, guarded, guard_tree_text, GoodGuard, Divided, divided_text, GoodOthers, LineTree, line_text, Good, names_of}
use Rattle.rules.specs.BytePlaces.{guard_start, operand_registers, guard_registers, operands_registers, registers_of, Register, after, FirstOutside, here, later}
use Rattle.tree.specs.Seen.{place_in, seen_place}
use Rattle.tree.specs.declared.Place.{Place}
use Rattle.tree.specs.declared.Place.TheVariants.{Word, Half, Double, Pred}
use Rattle.starts.specs.Without.{without, joined, class_without, number_without, dotted_without}
use Rattle.scan.specs.Registers.{register_got, register_of}
use Rattle.scan.specs.RegisterLaws.{register_complete}
use Rattle.scan.specs.RunLaws.{not_so, Stops}
use Rattle.shape.specs.OperandLaws.{blank_either}
use Rattle.shape.specs.GuardLaws.{blank_first}

abbrev pub in_file : Place → Bool
in_file (Word w) = is_inside (rules.reg Words w.0)
in_file (Half h) = is_inside (rules.reg Halves h.0)
in_file (Double d) = is_inside (rules.reg Doubles d.0)
in_file (Pred p) = is_inside (rules.reg Preds p.0)

abbrev pub is_over : Result (Place × ℕ) ℕ → Bool
is_over (Ok (p, n)) = not (in_file p)
is_over (Err q) = false

unfoldable pub over_at : ℕ → List ℕ → ℕ
over_at p [] = p
over_at p (b ∷ w) = cond (eqb b 37 && is_over (register_of (b ∷ w))) p (over_at (suc p) w)

-- what is found from p on is the place of the first of these that is over
abbrev Finds : List ℕ → List Register → Type 0
Finds w rs = (p q : ℕ) → FirstOutside (after p rs) q → over_at p w ≡ q

abbrev plain : ℕ → Bool
plain = without 37

skip : {a : List ℕ} (p : ℕ) (w : List ℕ) → All plain a → over_at p (a ++ w) ≡ over_at (p + length a) w
unfolding over_at
skip p w none = ap (λ (n : ℕ). over_at n w) (omega arith)
skip p w (more {b = b} {w = a} h x) = go (eqb b 37) refl h ∙ skip (suc p) w x ∙ ap (λ (n : ℕ). over_at n w) (omega arith)
  where
    go : (t : Bool) → eqb b 37 ≡ t → not t ≡ true → cond (t && is_over (register_of (b ∷ (a ++ w)))) p (over_at (suc p) (a ++ w)) ≡ over_at (suc p) (a ++ w)
    go true q f = not_so f
    go false q f = refl

after_after : (p n : ℕ) (rs : List Register) → after p (after n rs) ≡ after (p + n) rs
after_after p n [] = refl
after_after p n (x ∷ rs) = ap₂ (λ (k : ℕ) (l : List Register). (k, x.1) ∷ l) (omega arith) (after_after p n rs)

after_zero : (rs : List Register) → after 0 rs ≡ rs
after_zero [] = refl
after_zero (x ∷ rs) = ap₂ (λ (k : ℕ) (l : List Register). (k, x.1) ∷ l) (omega arith) (after_zero rs)

plain_then : {a : List ℕ} (w : List ℕ) (rs : List Register) → All plain a → Finds w rs → Finds (a ++ w) (after (length a) rs)
plain_then {a} w rs h f p q o = skip p w h ∙ f (p + length a) q (subst (λ (l : List Register). FirstOutside l q) (after_after p (length a) rs) o)

placed_in_file : (f : File) (n : ℕ) → in_file (place_in f n) ≡ is_inside (rules.reg f n)
placed_in_file Words n = refl
placed_in_file Halves n = refl
placed_in_file Doubles n = refl
placed_in_file Preds n = refl

in_file_lem : (x : rules.Place) → Inside x → in_file (seen_place x) ≡ true
in_file_lem (rules.reg f n) h = placed_in_file f n ∙ lt-ltb n (count_of f) h

not_in_file : (x : rules.Place) → file_size x ≤ number_of x → in_file (seen_place x) ≡ false
not_in_file (rules.reg f n) h = placed_in_file f n ∙ le-ltb n (count_of f) h

one : (x : rules.Place) (n p : ℕ) {tail : List ℕ} (w : List ℕ) → register_of (37 ∷ (tail ++ w)) ≡ register_got (seen_place x) n → All plain tail
    → over_at p (37 ∷ (tail ++ w)) ≡ cond (not (in_file (seen_place x))) p (over_at (p + suc (length tail)) w)
unfolding over_at
one x n p {tail} w e h =
    ap (λ (r : Result (Place × ℕ) ℕ). cond (is_over r) p (over_at (suc p) (tail ++ w))) e
    ∙ ap (cond (not (in_file (seen_place x))) p) (skip (suc p) w h ∙ ap (λ (k : ℕ). over_at k w) (omega arith))

at_register : (x : rules.Place) (p : ℕ) (w : List ℕ) → GoodPlace x → Stops is_digit w → over_at p (register_text x ++ w) ≡ cond (not (in_file (seen_place x))) p (over_at (p + length (register_text x)) w)
at_register (rules.reg Words n) p w g z = one (rules.reg Words n) _ p w (register_complete (rules.reg Words n) w g z) (more refl (number_without 37 refl n))
at_register (rules.reg Halves n) p w g z = one (rules.reg Halves n) _ p w (register_complete (rules.reg Halves n) w g z) (more refl (more refl (number_without 37 refl n)))
at_register (rules.reg Doubles n) p w g z = one (rules.reg Doubles n) _ p w (register_complete (rules.reg Doubles n) w g z) (more refl (more refl (number_without 37 refl n)))
at_register (rules.reg Preds n) p w g z = one (rules.reg Preds n) _ p w (register_complete (rules.reg Preds n) w g z) (more refl (number_without 37 refl n))

some_first : {rs : List Register} {q : ℕ} → FirstOutside rs q → 0 < length rs
some_first (here h) = omega arith
some_first (later i o) = omega arith

no_first : {A : Type 0} {q : ℕ} → FirstOutside [] q → A
no_first o = absurd (omega (arith, some_first o))

register_then : (x : rules.Place) (w : List ℕ) (rs : List Register) → GoodPlace x → Stops is_digit w → Finds w rs → Finds (register_text x ++ w) ((0, x) ∷ after (length (register_text x)) rs)
register_then x w rs g z f p q (here h) = at_register x p w g z ∙ ap (λ (t : Bool). cond (not t) p (over_at (p + length (register_text x)) w)) (not_in_file x h) ∙ omega arith
register_then x w rs g z f p q (later i o) =
    at_register x p w g z ∙ ap (λ (t : Bool). cond (not t) p (over_at (p + length (register_text x)) w)) (in_file_lem x i)
    ∙ f (p + length (register_text x)) q (subst (λ (l : List Register). FirstOutside l q) (after_after p (length (register_text x)) rs) o)

-- ==== operands

-- a text and its registers, said otherwise
same : {v w : List ℕ} {rs ss : List Register} → v ≡ w → rs ≡ ss → Finds v rs → Finds w ss
same {v} {w} {rs} {ss} d e f p q o = ap (over_at p) (sym d) ∙ f p q (subst (λ (l : List Register). FirstOutside (after p l) q) (sym e) o)

operand_finds : (o : OperandTree) → GoodOperand o → (w : List ℕ) (rs : List Register) → Stops is_digit w → Finds w rs → Finds (operand_text o ++ w) (operand_registers o ++ after (length (operand_text o)) rs)
operand_finds (inverted x) g w rs z f =
    same refl (ap (λ (l : List Register). (1, x) ∷ l) (after_after 1 (length (register_text x)) rs ∙ ap (λ (k : ℕ). after k rs) (omega arith))) (plain_then (register_text x ++ w) ((0, x) ∷ after (length (register_text x)) rs) (more refl none) (register_then x w rs g z f))
operand_finds (bare x) g w rs z f = register_then x w rs g z f
operand_finds (part x n) g w rs z f =
    let m : length (register_text x ++ bytes "." ++ n) ≡ length (register_text x) + suc (length n) = simp length-append (omega arith) in
    same (simp append_assoc) (ap (λ (l : List Register). (0, x) ∷ l) (after_after (length (register_text x)) (suc (length n)) rs ∙ ap (λ (k : ℕ). after k rs) (sym m)))
    (register_then x (46 ∷ (n ++ w)) (after (suc (length n)) rs) g.0 refl (plain_then w rs (more refl (class_without 37 is_name_byte refl g.1.all)) f))
operand_finds (pair (at x) (at y)) g w rs z f =
    let a = length (register_text x) in
    let b = length (register_text y) in
    let m : length (register_text x ++ bytes "|" ++ register_text y) ≡ a + suc b = simp length-append (omega arith) in
    let k : length (register_text x ++ bytes "|") ≡ a + 1 = length-append (register_text x) (bytes "|") in
    same (simp append_assoc)
    (ap₂ (λ (i : ℕ) (l : List Register). (0, x) ∷ (i, y) ∷ l) (omega arith) (ap (after a) (after_after 1 b rs) ∙ after_after a (1 + b) rs ∙ ap (λ (i : ℕ). after i rs) (omega arith)))
    (register_then x (124 ∷ (register_text y ++ w)) (after 1 ((0, y) ∷ after b rs)) g.0 refl (plain_then (register_text y ++ w) ((0, y) ∷ after b rs) (more refl none) (register_then y w rs g.1 z f)))
operand_finds (pair (at x) nothing) g w rs z f =
    let a = length (register_text x) in
    let m : length (register_text x ++ bytes "|" ++ bytes "_") ≡ a + 2 = simp length-append (omega arith) in
    same (simp append_assoc) (ap (λ (l : List Register). (0, x) ∷ l) (after_after a 2 rs ∙ ap (λ (i : ℕ). after i rs) (sym m))) (register_then x (124 ∷ 95 ∷ w) (after 2 rs) g.0 refl (plain_then w rs (more refl (more refl none)) f))
operand_finds (pair nothing (at y)) g w rs z f =
    same refl (ap (λ (l : List Register). (2, y) ∷ l) (after_after 2 (length (register_text y)) rs ∙ ap (λ (k : ℕ). after k rs) (omega arith))) (plain_then (register_text y ++ w) ((0, y) ∷ after (length (register_text y)) rs) (more refl (more refl none)) (register_then y w rs g.1 z f))
operand_finds (pair nothing nothing) g w rs z f = plain_then w rs (more refl (more refl (more refl none))) f

-- ==== lists of operands, guards, lines

blanks_plain : {w : List ℕ} → All is_blank w → All plain w
blanks_plain = class_without 37 is_blank refl

-- what follows an operand is no digit
stops : (c : ℕ) (l : List ℕ) → is_digit c ≡ false → {b : List ℕ} → All is_blank b → Stops is_digit (b ++ (c ∷ l))
stops c l e none = e
stops c l e (more {b = x} h a) = blank_either (λ (b : ℕ). is_digit b ≡ false) refl refl x h

list_finds : (o : OperandTree) (ds : List Divided) (b r : List ℕ) → GoodOperand o → GoodOthers ds → All is_blank b → Finds (operand_text o ++ (divided_text ds ++ (b ++ (59 ∷ r)))) (operands_registers o ds)
list_finds o [] b r g gs x = same refl (append-nil (operand_registers o)) (operand_finds o g (b ++ (59 ∷ r)) [] (stops 59 r refl x) (λ p q n. no_first n))
list_finds o (d ∷ ds) b r g (GoodOthers.more h hs) x =
    let t : List ℕ = operand_text d.operand ++ (divided_text ds ++ (b ++ (59 ∷ r))) in
    let v : List ℕ = d.before ++ (44 ∷ d.after) in
    let n : length (operand_text o ++ d.before ++ bytes "," ++ d.after) ≡ length (operand_text o) + length v = simp length-append (omega arith) in
    same (simp append_assoc)
    (ap (λ (l : List Register). operand_registers o ++ l) (after_after (length (operand_text o)) (length v) (operands_registers d.operand ds) ∙ ap (λ (k : ℕ). after k (operands_registers d.operand ds)) (sym n)))
    (operand_finds o g (v ++ t) (after (length v) (operands_registers d.operand ds)) (subst (Stops is_digit) (sym (append_assoc d.before (44 ∷ d.after) t)) (stops 44 (d.after ++ t) refl h.before))
    (plain_then t (operands_registers d.operand ds) (joined (blanks_plain h.before) (more refl (blanks_plain h.after))) (list_finds d.operand ds b r h.operand hs x)))

-- what stands between the guard and the operands
between : LineTree → List ℕ
between t = head_text (names_of t) ++ t.gap

between_plain : (t : LineTree) → Good t → All plain (between t)
unfolding between
between_plain t g = joined (joined (class_without 37 is_name_byte refl g.opcode.all) (dotted_without 37 refl refl g.modifiers)) (blanks_plain g.gap.all)

operands_of : LineTree → List ℕ
operands_of t = operand_text t.first ++ (divided_text t.others ++ (t.ending ++ (59 ∷ t.behind)))

guarded_finds : (t : LineTree) (s : List ℕ) (x : rules.Place) (b : List ℕ) → All plain s → GoodPlace x → Some is_blank b → Good t
    → Finds (t.before ++ (s ++ (register_text x ++ (b ++ (between t ++ operands_of t))))) ((length t.before + length s, x) ∷ after (length t.before + (length s + length (register_text x) + length b) + length (between t)) (operands_registers t.first t.others))
unfolding operands_of
guarded_finds t s x b h i j g =
    let a = t.before ++ s in
    let rs = operands_registers t.first t.others in
    let c : length a ≡ length t.before + length s = length-append t.before s in
    let v = b ++ between t in
    let d : length v ≡ length b + length (between t) = length-append b (between t) in
    let l = length (register_text x) in
    let w = operands_of t in
    let z : Stops is_digit (v ++ w) = subst (Stops is_digit) (sym (append_assoc b (between t) w)) (blank_first (λ (y : ℕ). is_digit y ≡ false) refl refl j (between t ++ w)) in
    same (simp append_assoc)
    (ap₂ (λ (k : ℕ) (m : List Register). (k, x) ∷ m) (omega arith) (ap (after (length a)) (after_after l (length v) rs) ∙ after_after (length a) (l + length v) rs ∙ ap (λ (k : ℕ). after k rs) (omega arith)))
    (plain_then (register_text x ++ (v ++ w)) ((0, x) ∷ after l (after (length v) rs)) (joined (blanks_plain g.before) h)
    (register_then x (v ++ w) (after (length v) rs) i z (plain_then w rs (joined (blanks_plain j.all) (between_plain t g)) (list_finds t.first t.others t.ending t.behind g.first g.others g.ending))))

by_guard : (t : LineTree) (y : GuardTree) → t.guard ≡ y → Good t → GoodGuard y → Finds (t.before ++ (guard_tree_text y ++ (between t ++ operands_of t)))
    (after (length t.before) (guard_registers y) ++ after (length t.before + length (guard_tree_text y) + length (between t)) (operands_registers t.first t.others))
unfolding operands_of
by_guard t unguarded e g h =
    let a = t.before ++ between t in
    let rs = operands_registers t.first t.others in
    same (append_assoc t.before (between t) (operands_of t)) (ap (λ (k : ℕ). after k rs) (length-append t.before (between t) ∙ omega arith))
    (plain_then (operands_of t) rs (joined (blanks_plain g.before) (between_plain t g)) (list_finds t.first t.others t.ending t.behind g.first g.others g.ending))
by_guard t (guarded true x b) e g h =
    let rs = operands_registers t.first t.others in
    let n : length (register_text x ++ b) ≡ length (register_text x) + length b = length-append (register_text x) b in
    same (simp append_assoc) (ap (λ (k : ℕ). (length t.before + 2, x) ∷ after k rs) (omega arith)) (guarded_finds t (bytes "@!") x b (more refl (more refl none)) h.0 h.1 g)
by_guard t (guarded false x b) e g h =
    let rs = operands_registers t.first t.others in
    let n : length (register_text x ++ b) ≡ length (register_text x) + length b = length-append (register_text x) b in
    same (simp append_assoc) (ap (λ (k : ℕ). (length t.before + 1, x) ∷ after k rs) (omega arith)) (guarded_finds t (bytes "@") x b (more refl none) h.0 h.1 g)

-- the first register over its file is where the code stops
pub first_over_is : (t : LineTree) → Good t → (q : ℕ) → FirstOutside (registers_of t) q → over_at 0 (line_text t) ≡ q
unfolding between operands_of
first_over_is t g q o =
    let rs = operands_registers t.first t.others in
    let n : length (between t) ≡ length (head_text (names_of t)) + length t.gap = length-append (head_text (names_of t)) t.gap in
    same (simp append_assoc) (ap (λ (k : ℕ). after (guard_start t) (guard_registers t.guard) ++ after k rs) (omega arith)) (by_guard t t.guard refl g g.guard) 0 q (subst (λ (l : List Register). FirstOutside l q) (sym (after_zero (registers_of t))) o)

-- ---- one turn of the loop

found_at_lem : (p : ℕ) (b : ℕ) (w v : List ℕ) (t : Bool) → v ≡ b ∷ w → eqb b 37 && is_over (register_of v) ≡ t → over_at p v ≡ cond t p (over_at (suc p) w)
unfolding over_at
found_at_lem p b w v t e f =
    ap (over_at p) e ∙ ap (λ (u : List ℕ). cond (eqb b 37 && is_over (register_of u)) p (over_at (suc p) w)) (sym e) ∙ ap (λ (s : Bool). cond s p (over_at (suc p) w)) f

pub over_stops : (l : List ℕ) (i : ℕ) → i < length l → eqb (get_or l i 0) 37 && is_over (register_of (drop i l)) ≡ true → over_at i (drop i l) ≡ i
over_stops l i h e = found_at_lem i (get_or l i 0) (drop (suc i) l) (drop i l) true (drop-cons l i 0 h) e

pub over_goes : (l : List ℕ) (i : ℕ) → i < length l → eqb (get_or l i 0) 37 && is_over (register_of (drop i l)) ≡ false → over_at i (drop i l) ≡ over_at (i + 1) (drop (i + 1) l)
over_goes l i h e = rw add-one (found_at_lem i (get_or l i 0) (drop (suc i) l) (drop i l) false (drop-cons l i 0 h) e)

pub over_ends : (l : List ℕ) (i : ℕ) → length l ≤ i → over_at i (drop i l) ≡ i
unfolding over_at
over_ends l i h = ap (over_at i) (drop_of_length-le l h)

-- the place is within the line
over_from : (p : ℕ) (w : List ℕ) → over_at p w ≤ p + length w
unfolding over_at
over_from p [] = omega arith
over_from p (b ∷ w) = go (eqb b 37 && is_over (register_of (b ∷ w))) (over_from (suc p) w)
  where
    go : (t : Bool) → over_at (suc p) w ≤ suc p + length w → cond t p (over_at (suc p) w) ≤ p + suc (length w)
    go true h = omega arith
    go false h = omega arith

pub over_within : (l : List ℕ) → over_at 0 l ≤ length l
over_within l = omega (arith, over_from 0 l)
