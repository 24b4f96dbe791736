-- What the scanner of operands finds is a list of operands.
use Rattle.std.specs.Prelude.{ℕ, suc, zero, ◌+◌, ◌≤◌, ◌≡◌, refl, List, [], ◌∷◌, ◌++◌, Bool, true, false, eqb, length, get_or, drop, Err, Result}
use Rattle.std.proofs.Common.{sym, ap, ◌∙◌, subst, arith, eqb-true, length-append}
use Rattle.std.proofs.lemmas.List.{length-map}
use Rattle.std.proofs.Math.Seq.{drop-append_seam}
use Rattle.signs.specs.Bytes.{is_blank, All}
use Rattle.rules.specs.Shape.{OperandTree, operand_text}
use Rattle.rules.specs.Grammar.{Divided, divided_text, GoodOperand, GoodOthers}
use Rattle.rules.specs.Grammar.GoodOthers.{none, more}
use Rattle.tree.specs.Seen.{seen_operand, seen_operands}
use Rattle.tree.specs.declared.Tree.{Tree}
use Rattle.tree.specs.declared.Operands.{Operands}
use Rattle.scan.specs.Runs.{capped_sum, most}
use Rattle.scan.specs.RunLaws.{not_so, Stops, split, run_all_lem, at_is}
use Rattle.shape.specs.Turns.{turns, most_turns}
use Rattle.shape.specs.TurnLaws.{last_turn}
use Rattle.shape.specs.Operand.{operand_got, operand_bad, operand_scanned}
use Rattle.shape.specs.OperandSound.{operand_sound}
use Rattle.shape.specs.Operands.{Listed, no_operands, pushed_tree, divider_by, divider_of, divided_by, operand_by, operand_turn, operand_turns, operands_scanned}
use Rattle.shape.specs.ListLaws.{on, going, took, last_operand, next_operand, operands_in, divided_joined, divided_length, few_operands}
use Rattle.shape.specs.KeptLaws.{kept_operands, kept_operands_lem}

-- operands stand at the front of w, with what ends them, which end a list of p bytes and of the operands o
record ListAt (w : List ℕ) (p : ℕ) (o : Operands) (st : Listed) : Type 0 where
  first : OperandTree
  others : List Divided
  ending : List ℕ
  after : List ℕ
  whole : w ≡ operand_text first ++ (divided_text others ++ (ending ++ (59 ∷ after)))
  good : GoodOperand first
  goods : GoodOthers others
  blank : All is_blank ending
  place : st.place ≡ p + (length (operand_text first) + length (divided_text others)) + (length ending + 1)
  operands : st.operands ≡ kept_operands o (first ∷ operands_in others)

-- so it is after k turns
Sound : ℕ → Type 0
Sound k = (w : List ℕ) (p s : ℕ) (o : Operands) → p + length w ≤ most → (operand_turns k w (on p s o)).good ≡ true → ListAt w p o (operand_turns k w (on p s o))

-- ---- turns that find nothing right

no_operand : (w : List ℕ) (p s : ℕ) (o : Operands) (k q : ℕ) → operand_scanned w ≡ operand_bad q → (operand_turns (suc k) w (on p s o)).good ≡ false
unfolding operand_turn operand_by
no_operand w p s o k q e = ap (λ (x : Listed). x.good) (last_turn going took operand_turn k w (on p s o) (record { more = false; good = false; place = capped_sum p q; step = 0; operands = o }) refl (rw e) refl)

no_divider : (r : List ℕ) (b c : List ℕ) → r ≡ b ++ c → All is_blank b → Stops is_blank c → eqb (get_or c 0 0) 44 ≡ false → eqb (get_or c 0 0) 59 ≡ false → divider_of r ≡ Err (length b)
unfolding divider_of divider_by
no_divider r b c d a z e f = rw (d, run_all_lem is_blank c a z, drop-append_seam b c, e, f)

turn_bad : (w : List ℕ) (p s : ℕ) (o : Operands) (t : Tree) (n q : ℕ) (r : List ℕ) → operand_scanned w ≡ operand_got t n → drop n w ≡ r → divider_of r ≡ Err q
    → operand_turn w (on p s o) ≡ record { more = false; good = false; place = capped_sum (capped_sum p n) q; step = 0; operands = pushed_tree o t }
unfolding operand_turn operand_by divided_by
turn_bad w p s o t n q r e d f = rw (e, d, f)

nothing_divides : (w : List ℕ) (p s : ℕ) (o : Operands) (k : ℕ) (t : Tree) (n q : ℕ) (r : List ℕ) → operand_scanned w ≡ operand_got t n → drop n w ≡ r → divider_of r ≡ Err q
    → (operand_turns (suc k) w (on p s o)).good ≡ false
nothing_divides w p s o k t n q r e d f =
    ap (λ (x : Listed). x.good) (last_turn going took operand_turn k w (on p s o) (record { more = false; good = false; place = capped_sum (capped_sum p n) q; step = 0; operands = pushed_tree o t }) refl (turn_bad w p s o t n q r e d f) refl)

-- ---- turns that find an operand

last_sound : (k : ℕ) (t : OperandTree) (b r : List ℕ) → GoodOperand t → All is_blank b → (p s : ℕ) (o : Operands) → p + length (operand_text t ++ (b ++ (59 ∷ r))) ≤ most
    → ListAt (operand_text t ++ (b ++ (59 ∷ r))) p o (operand_turns (suc k) (operand_text t ++ (b ++ (59 ∷ r))) (on p s o))
last_sound k t b r g a p s o m =
    let l : length (operand_text t ++ (b ++ (59 ∷ r))) ≡ length (operand_text t) + (length b + suc (length r)) = simp length-append in
    let e = last_operand t b r p s o k g a (omega arith) in
    record {
      first = t;
      others = [];
      ending = b;
      after = r;
      whole = refl;
      good = g;
      goods = none;
      blank = a;
      place = ap (λ (x : Listed). x.place) e ∙ omega arith;
      operands = ap (λ (x : Listed). x.operands) e;
    }

-- an operand and a comma before operands
joins : (k : ℕ) (t : OperandTree) (b a r : List ℕ) → GoodOperand t → All is_blank b → All is_blank a → Stops is_blank r → (p s : ℕ) (o : Operands) → p + length (operand_text t) + (length b + 1 + length a) ≤ most
    → ListAt r (p + length (operand_text t) + (length b + 1 + length a)) (pushed_tree o (seen_operand t))
    (operand_turns k r (on (p + length (operand_text t) + (length b + 1 + length a)) (length (operand_text t) + (length b + 1 + length a)) (pushed_tree o (seen_operand t))))
    → ListAt (operand_text t ++ (b ++ (44 ∷ (a ++ r)))) p o (operand_turns (suc k) (operand_text t ++ (b ++ (44 ∷ (a ++ r)))) (on p s o))
joins k t b a r g x y z p s o m i =
    let e = next_operand t b a r p s o k g x y z m in
    let u : List ℕ = operand_text i.first in
    let tail : List ℕ = i.ending ++ (59 ∷ i.after) in
    record {
      first = t;
      others = record { before = b; after = a; operand = i.first } ∷ i.others;
      ending = i.ending;
      after = i.after;
      whole = ap (λ (l : List ℕ). operand_text t ++ (b ++ (44 ∷ (a ++ l)))) i.whole ∙ sym (ap (λ (l : List ℕ). operand_text t ++ l) (divided_joined b a u (divided_text i.others) tail));
      good = g;
      goods = more (record { before = x; after = y; operand = i.good }) i.goods;
      blank = i.blank;
      place = ap (λ (v : Listed). v.place) e ∙ i.place ∙ omega (arith, divided_length b a u (divided_text i.others));
      operands = ap (λ (v : Listed). v.operands) e ∙ i.operands;
    }

comma_sound : (k : ℕ) → Sound k → (t : OperandTree) (b a r : List ℕ) → GoodOperand t → All is_blank b → All is_blank a → Stops is_blank r → (p s : ℕ) (o : Operands)
    → p + length (operand_text t ++ (b ++ (44 ∷ (a ++ r)))) ≤ most → (operand_turns (suc k) (operand_text t ++ (b ++ (44 ∷ (a ++ r)))) (on p s o)).good ≡ true
    → ListAt (operand_text t ++ (b ++ (44 ∷ (a ++ r)))) p o (operand_turns (suc k) (operand_text t ++ (b ++ (44 ∷ (a ++ r)))) (on p s o))
unfolding Sound
comma_sound k ih t b a r g x y z p s o m e =
    let l : length (operand_text t ++ (b ++ (44 ∷ (a ++ r)))) ≡ length (operand_text t) + (length b + suc (length a + length r)) = simp length-append in
    let f : p + length (operand_text t) + (length b + 1 + length a) ≤ most = omega arith in
    joins k t b a r g x y z p s o f
    (ih r (p + length (operand_text t) + (length b + 1 + length a)) (length (operand_text t) + (length b + 1 + length a)) (pushed_tree o (seen_operand t)) (omega arith)
    (sym (ap (λ (v : Listed). v.good) (next_operand t b a r p s o k g x y z f)) ∙ e))

-- ---- by what stands there

abbrev Claim : ℕ → ℕ → ℕ → Operands → List ℕ → Type 0
Claim k p s o w = p + length w ≤ most → (operand_turns (suc k) w (on p s o)).good ≡ true → ListAt w p o (operand_turns (suc k) w (on p s o))

by_sign : (k : ℕ) → Sound k → (t : OperandTree) (n : ℕ) (b c : List ℕ) → GoodOperand t → operand_scanned (operand_text t ++ (b ++ c)) ≡ operand_got (seen_operand t) n → n ≡ length (operand_text t)
    → All is_blank b → Stops is_blank c → (p s : ℕ) (o : Operands) (u : Bool) → eqb (get_or c 0 0) 44 ≡ u → (v : Bool) → eqb (get_or c 0 0) 59 ≡ v → Claim k p s o (operand_text t ++ (b ++ c))
by_sign k ih t n b c g q l x z p s o true e v f m h =
    let d : c ≡ 44 ∷ drop 1 c = at_is c 0 44 (omega arith) (eqb-true (get_or c 0 0) 44 e) in
    let a = split is_blank refl (drop 1 c) in
    let y : c ≡ 44 ∷ (a.front ++ a.back) = d ∙ ap (λ (i : List ℕ). 44 ∷ i) a.whole in
    subst (λ (i : List ℕ). Claim k p s o (operand_text t ++ (b ++ i))) (sym y) (λ i j. comma_sound k ih t b a.front a.back g x a.all a.stops p s o i j) m h
by_sign k ih t n b c g q l x z p s o false e true f m h =
    let d : c ≡ 59 ∷ drop 1 c = at_is c 0 59 (omega arith) (eqb-true (get_or c 0 0) 59 f) in
    subst (λ (i : List ℕ). Claim k p s o (operand_text t ++ (b ++ i))) (sym d) (λ i j. last_sound k t b (drop 1 c) g x p s o i) m h
by_sign k ih t n b c g q l x z p s o false e false f m h =
    let w : List ℕ = operand_text t ++ (b ++ c) in
    let d : drop n w ≡ b ++ c = ap (λ (i : ℕ). drop i w) l ∙ drop-append_seam (operand_text t) (b ++ c) in
    not_so (sym (nothing_divides w p s o k (seen_operand t) n (length b) (b ++ c) q d (no_divider (b ++ c) b c refl x z e f)) ∙ h)

by_operand : (k : ℕ) → Sound k → (w : List ℕ) (p s : ℕ) (o : Operands) (r : Result (Tree × ℕ) ℕ) → operand_scanned w ≡ r → Claim k p s o w
by_operand k ih w p s o (Err q) e m h = not_so (sym (no_operand w p s o k q e) ∙ h)
by_operand k ih w p s o (operand_got t n) e m h =
    let a = operand_sound w t n (omega arith) e in
    let x = split is_blank refl a.after in
    let y : w ≡ operand_text a.tree ++ (x.front ++ x.back) = a.whole ∙ ap (λ (i : List ℕ). operand_text a.tree ++ i) x.whole in
    let q : operand_scanned (operand_text a.tree ++ (x.front ++ x.back)) ≡ operand_got (seen_operand a.tree) n = sym (ap operand_scanned y) ∙ e ∙ sym (ap (λ (v : Tree). operand_got v n) a.sees) in
    subst (Claim k p s o) (sym y)
    (by_sign k ih a.tree n x.front x.back a.good q a.taken x.all x.stops p s o (eqb (get_or x.back 0 0) 44) refl (eqb (get_or x.back 0 0) 59) refl) m h

sound_turns : (k : ℕ) → Sound k
unfolding Sound turns
sound_turns zero w p s o m e = not_so e
sound_turns (suc k) w p s o m e = by_operand k (sound_turns k) w p s o (operand_scanned w) refl m e

pub record OperandsAt (w : List ℕ) (st : Listed) : Type 0 where
  pub first : OperandTree
  pub others : List Divided
  pub ending : List ℕ
  pub after : List ℕ
  pub whole : w ≡ operand_text first ++ (divided_text others ++ (ending ++ (59 ∷ after)))
  pub good : GoodOperand first
  pub goods : GoodOthers others
  pub blank : All is_blank ending
  pub place : st.place ≡ length (operand_text first) + length (divided_text others) + (length ending + 1)
  pub operands : st.operands ≡ seen_operands (first ∷ operands_in others)

kept : (w : List ℕ) (st : Listed) → length w ≤ 160 → ListAt w 0 no_operands st → OperandsAt w st
kept w st m i =
    let t : List ℕ = operand_text i.first in
    let l : length w ≡ length t + (length (divided_text i.others) + (length i.ending + suc (length i.after))) = ap length i.whole ∙ simp length-append in
    let f = few_operands i.others in
    let c : length (operands_in i.others) ≡ length i.others = length-map i.others (λ (d : Divided). d.operand) in
    record {
      first = i.first;
      others = i.others;
      ending = i.ending;
      after = i.after;
      whole = i.whole;
      good = i.good;
      goods = i.goods;
      blank = i.blank;
      place = i.place ∙ omega arith;
      operands = i.operands ∙ kept_operands_lem (i.first ∷ operands_in i.others) (omega arith);
    }

pub operands_sound : (w : List ℕ) → length w ≤ 160 → (operands_scanned w).good ≡ true → OperandsAt w (operands_scanned w)
unfolding operands_scanned Sound
operands_sound w m e = kept w (operand_turns most_turns w (on 0 0 no_operands)) m (sound_turns most_turns w 0 0 no_operands (omega arith) e)
