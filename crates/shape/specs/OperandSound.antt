-- What the scanner of an operand finds is an operand's text.
use Rattle.std.specs.Prelude.{ℕ, ◌+◌, ◌≤◌, ◌<◌, ◌≡◌, refl, List, [], ◌∷◌, ◌++◌, Bool, true, false, cond, eqb, length, get_or, drop, Err, Result}
use Rattle.std.proofs.Common.{sym, ap, ◌∙◌, arith, ne_eqb, eqb-true, length-append}
use Rattle.std.proofs.Math.Seq.{take-append_seam, drop-append-add}
use Rattle.base.specs.Pairs.{ok_pair}
use Rattle.signs.specs.Bytes.{is_name_byte, All}
use Rattle.signs.specs.Bytes.All.{none, more}
use Rattle.base.specs.Pack.{code_of}
use Rattle.record.specs.Registers as files
use Rattle.rules.specs.Shape.{register_text, spot_text, OperandTree, inverted, pair, bare, part, operand_text}
use Rattle.rules.specs.Shape as grammar
use Rattle.rules.specs.Grammar.{GoodPlace, GoodSpot, GoodOperand}
use Rattle.tree.specs.Seen.{seen_place, seen_spot, seen_operand}
use Rattle.tree.specs.declared.Place.{Place}
use Rattle.tree.specs.declared.Spot.TheVariants.{At, Nothing}
use Rattle.tree.specs.declared.Tree.{Tree}
use Rattle.tree.specs.declared.Tree.TheVariants.{Inverted, Pair, Bare, Part}
use Rattle.scan.specs.Runs.{capped_sum, most}
use Rattle.scan.specs.RunLaws.{Stops, split, run_all_lem, seam, at_is, sum_is}
use Rattle.scan.specs.Registers.{register_got, register_of}
use Rattle.scan.specs.RegisterLaws.{RegisterAt, register_sound}
use Rattle.shape.specs.Operand.{operand_got, operand_bad, operand_scanned, inverted_by, first_of, after_by, second_of, second_by, part_of}
use Rattle.shape.specs.OperandLaws.{operand_joined, joined_length}

pub record OperandAt (s : List ℕ) (o : Tree) (n : ℕ) : Type 0 where
  pub tree : OperandTree
  pub after : List ℕ
  pub whole : s ≡ operand_text tree ++ after
  pub good : GoodOperand tree
  pub sees : seen_operand tree ≡ o
  pub taken : n ≡ length (operand_text tree)

never : {A : Type 0} (p : ℕ) (o : Tree) (n : ℕ) → operand_bad p ≡ operand_got o n → A
never p o n e = let z : ◌≡◌ {A = ℕ} 0 1 = cc in absurd (omega arith)

-- an operand whose text begins s is what was found
is : (s : List ℕ) (t : OperandTree) (r : List ℕ) (k n : ℕ) (o : Tree) → operand_got (seen_operand t) k ≡ operand_got o n → s ≡ operand_text t ++ r → GoodOperand t → k ≡ length (operand_text t) → OperandAt s o n
is s t r k n o e w h l = let (a, b) = ok_pair e in record { tree = t; after = r; whole = w; good = h; sees = a; taken = sym b ∙ l }

inverted_sound : (s : List ℕ) → s ≡ 33 ∷ drop 1 s → (x : Result (Place × ℕ) ℕ) → register_of (drop 1 s) ≡ x → (o : Tree) (n : ℕ) → inverted_by x ≡ operand_got o n → OperandAt s o n
unfolding inverted_by
inverted_sound s w (Err p) q o n e = never (p + 1) o n e
inverted_sound s w (register_got p m) q o n e =
    let a = register_sound (drop 1 s) p m q in
    is s (inverted a.place) a.after (m + 1) n o (ap (λ (y : Place). operand_got (Inverted y) (m + 1)) a.sees ∙ e) (w ∙ ap (λ (l : List ℕ). 33 ∷ l) a.whole) a.good (omega (arith, a.taken))

-- the second place, after a first whose text and bar are known
second_sound : (s : List ℕ) (p : grammar.Spot) (k : ℕ) → GoodSpot p → s ≡ spot_text p ++ (124 ∷ drop k s) → k ≡ length (spot_text p) + 1 → (o : Tree) (n : ℕ) → second_of (seen_spot p) k s ≡ operand_got o n → OperandAt s o n
unfolding second_of second_by
second_sound s p k h w l o n e = go (eqb (get_or (drop k s) 0 0) 95) refl (register_of (drop k s)) refl e
  where
    text : (t : List ℕ) (r : List ℕ) → drop k s ≡ t ++ r → s ≡ (spot_text p ++ (124 ∷ []) ++ t) ++ r
    text t r q = w ∙ ap (λ (l : List ℕ). spot_text p ++ (124 ∷ l)) q ∙ sym (operand_joined (spot_text p) 124 t r)

    go : (t : Bool) → eqb (get_or (drop k s) 0 0) 95 ≡ t → (x : Result (Place × ℕ) ℕ) → register_of (drop k s) ≡ x → cond t (operand_got (Pair (seen_spot p) Nothing) (k + 1)) (second_by (seen_spot p) k x) ≡ operand_got o n → OperandAt s o n
    go true q x y e =
        is s (pair p grammar.nothing) (drop 1 (drop k s)) (k + 1) n o e (text (95 ∷ []) (drop 1 (drop k s)) (at_is (drop k s) 0 95 (omega arith) (eqb-true (get_or (drop k s) 0 0) 95 q))) (h, tt)
        (omega (arith, joined_length (spot_text p) 124 (95 ∷ [])))
    go false q (Err b) y e = never (k + b) o n e
    go false q (register_got r m) y e =
        let a = register_sound (drop k s) r m y in
        is s (pair p (grammar.at a.place)) a.after (k + m) n o (ap (λ (z : Place). operand_got (Pair (seen_spot p) (At z)) (k + m)) a.sees ∙ e) (text (register_text a.place) a.after a.whole) (h, a.good)
        (omega (arith, a.taken, joined_length (spot_text p) 124 (register_text a.place)))

part_found : (s : List ℕ) (r : Place) (k : ℕ) (w b : List ℕ) → drop k s ≡ w ++ b → All is_name_byte w → Stops is_name_byte b → part_of r k s ≡ cond (eqb (length w) 0) (operand_bad k) (operand_got (Part r (code_of w)) (capped_sum k (length w)))
unfolding part_of
part_found s r k w b d a z = rw (d, run_all_lem is_name_byte b a z, take-append_seam w b)

part_by_lem : (s : List ℕ) (r : files.Place) (k : ℕ) → length s ≤ most → GoodPlace r → k ≡ length (register_text r) + 1 → s ≡ register_text r ++ (46 ∷ drop k s) → (w b : List ℕ) → drop k s ≡ w ++ b → All is_name_byte w
    → Stops is_name_byte b → (o : Tree) (n : ℕ) → part_of (seen_place r) k s ≡ operand_got o n → OperandAt s o n
part_by_lem s r k m h l q w b d none z o n e = never k o n (sym (part_found s (seen_place r) k [] b d none z) ∙ e)
part_by_lem s r k m h l q w b d (more {b = x} {w = v} p a) z o n e =
    let name : List ℕ = x ∷ v in
    let text : s ≡ (register_text r ++ (46 ∷ []) ++ name) ++ b = q ∙ ap (λ (t : List ℕ). register_text r ++ (46 ∷ t)) d ∙ sym (operand_joined (register_text r) 46 name b) in
    let c : length (register_text r ++ (46 ∷ []) ++ name) ≡ length (register_text r) + 1 + length name = joined_length (register_text r) 46 name in
    let f : length s ≡ length (register_text r ++ (46 ∷ []) ++ name) + length b = ap length text ∙ length-append (register_text r ++ (46 ∷ []) ++ name) b in
    let u : capped_sum k (length name) ≡ k + length name = sum_is k (length name) (omega arith) in
    let g : operand_got (Part (seen_place r) (code_of name)) (capped_sum k (length name)) ≡ operand_got o n = sym (part_found s (seen_place r) k name b d (more p a) z ∙ rw (ne_eqb (length name) 0 (λ t. omega arith))) ∙ e in
    is s (part r name) b (capped_sum k (length name)) n o g text (h, record { all = more p a; some = omega arith }) (omega arith)

-- what stands after a register that was found
after_is : (s : List ℕ) (p : Place) (k b : ℕ) → (a : RegisterAt s p k) → 0 < b → get_or s k 0 ≡ b → s ≡ register_text a.place ++ (b ∷ drop (k + 1) s)
after_is s p k b a h e =
    let t : List ℕ = register_text a.place in
    let g : get_or a.after 0 0 ≡ b = sym (seam t a.after) ∙ sym (ap (λ (l : List ℕ). get_or l (length t) 0) a.whole) ∙ sym (ap (λ (i : ℕ). get_or s i 0) a.taken) ∙ e in
    let d : drop (k + 1) s ≡ drop 1 a.after = ap (λ (i : ℕ). drop (i + 1) s) a.taken ∙ ap (drop (length t + 1)) a.whole ∙ drop-append-add t a.after 1 in
    a.whole ∙ ap (λ (l : List ℕ). t ++ l) (at_is a.after 0 b h g) ∙ ap (λ (l : List ℕ). t ++ (b ∷ l)) (sym d)

after_sound : (s : List ℕ) (p : Place) (k : ℕ) → length s ≤ most → (a : RegisterAt s p k) → (o : Tree) (n : ℕ) → after_by (seen_place a.place) k (get_or s k 0) s ≡ operand_got o n → OperandAt s o n
unfolding after_by
after_sound s p k m a o n e = go (eqb (get_or s k 0) 124) refl (eqb (get_or s k 0) 46) refl e
  where
    r : Place
    r = seen_place a.place

    go : (t : Bool) → eqb (get_or s k 0) 124 ≡ t → (u : Bool) → eqb (get_or s k 0) 46 ≡ u → cond t (second_of (At r) (k + 1) s) (cond u (part_of r (k + 1) s) (operand_got (Bare r) k)) ≡ operand_got o n → OperandAt s o n
    go true q u v e = second_sound s (grammar.at a.place) (k + 1) a.good (after_is s p k 124 a (omega arith) (eqb-true (get_or s k 0) 124 q)) (omega (arith, a.taken)) o n e
    go false q true v e =
        let x = split is_name_byte refl (drop (k + 1) s) in
        part_by_lem s a.place (k + 1) m a.good (omega (arith, a.taken)) (after_is s p k 46 a (omega arith) (eqb-true (get_or s k 0) 46 v)) x.front x.back x.whole x.all x.stops o n e
    go false q false v e = is s (bare a.place) a.after k n o e a.whole a.good a.taken

first_sound : (s : List ℕ) → length s ≤ most → (x : Result (Place × ℕ) ℕ) → register_of s ≡ x → (o : Tree) (n : ℕ) → first_of x s ≡ operand_got o n → OperandAt s o n
unfolding first_of
first_sound s m (Err p) q o n e = never p o n e
first_sound s m (register_got p k) q o n e =
    let a = register_sound s p k q in
    after_sound s p k m a o n (ap (λ (r : Place). after_by r k (get_or s k 0) s) a.sees ∙ e)

pub operand_sound : (s : List ℕ) (o : Tree) (n : ℕ) → length s ≤ most → operand_scanned s ≡ operand_got o n → OperandAt s o n
unfolding operand_scanned
operand_sound s o n m e = go (eqb (get_or s 0 0) 33) refl (eqb (get_or s 0 0) 95) refl (eqb (get_or s 1 0) 124) refl e
  where
    go : (t : Bool) → eqb (get_or s 0 0) 33 ≡ t → (u : Bool) → eqb (get_or s 0 0) 95 ≡ u → (v : Bool) → eqb (get_or s 1 0) 124 ≡ v
        → cond t (inverted_by (register_of (drop 1 s))) (cond u (cond v (second_of Nothing 2 s) (operand_bad 1)) (first_of (register_of s) s)) ≡ operand_got o n → OperandAt s o n
    go true p u q v r e = inverted_sound s (at_is s 0 33 (omega arith) (eqb-true (get_or s 0 0) 33 p)) (register_of (drop 1 s)) refl o n e
    go false p true q true r e =
        second_sound s grammar.nothing 2 tt (at_is s 0 95 (omega arith) (eqb-true (get_or s 0 0) 95 q) ∙ ap (λ (l : List ℕ). 95 ∷ l) (at_is s 1 124 (omega arith) (eqb-true (get_or s 1 0) 124 r))) refl o n e
    go false p true q false r e = never 1 o n e
    go false p false q v r e = first_sound s m (register_of s) refl o n e
