-- What the code finds are the starts of the tree's pieces.
use Rattle.std.specs.Prelude.{ℕ, zero, suc, ◌+◌, ◌-◌, ◌≤◌, ◌<◌, ◌≡◌, refl, List, [], ◌∷◌, ◌++◌, true, false, eqb, length, get_or, drop}
use Rattle.std.proofs.Common.{arith, sym, ap, ◌∙◌, append_assoc, append-nil, length-append, drop_at}
use Rattle.std.proofs.Math.Seq.{drop-append_seam}
use Rattle.signs.specs.Bytes.{is_blank, is_name_byte, All}
use Rattle.signs.specs.Bytes.All.{none, more}
use Rattle.signs.specs.Text.{bytes}
use Rattle.record.specs.declared.File.TheVariants.{Words, Halves, Doubles, Preds}
use Rattle.record.specs.Registers.{Place, reg}
use Rattle.rules.specs.Shape.{Name, dotted, head_text, register_text, Spot, at, nothing, spot_text, OperandTree, pair, operand_text}
use Rattle.rules.specs.Grammar.{LineTree, Good, line_text, GuardTree, unguarded, guarded, guard_tree_text, Divided, divided_text, names_of, GoodName, GoodNames, GoodGuard, GoodOperand, GoodOthers}
use Rattle.rules.specs.BytePlaces.{guard_start, head_start, name_start, operands_start, to_next_operand, operand_start}
use Rattle.scan.specs.Runs.{run_length, capped_sum, most}
use Rattle.scan.specs.RunLaws.{Stops, run_all_lem, sum_is, seam, past_seam}
use Rattle.shape.specs.GuardLaws.{blank_first, name_first, guard_complete, guard_first}
use Rattle.shape.specs.OperandLaws.{edge_after, operand_complete, operand_first}
use Rattle.shape.specs.ListLaws.{comma_found, semicolon_found, divided_joined, divided_length}
use Rattle.shape.specs.HeadLaws.{few_names}
use Rattle.shape.specs.Complete.{line_joined}
use Rattle.starts.specs.Without.{joined, class_without, number_without, dotted_without}
use Rattle.starts.specs.declared.Next.TheVariants.{Operand, End}
use Rattle.starts.specs.Starts.{guard_end, head_at, name_from, name_done, name_stops, name_goes, operands_at, not_bar, bar_at, next_by, next_of, next_at, operand_from, operand_done, operand_stops, operand_goes}

-- ==== the head

from_head : LineTree → List ℕ
from_head t = head_text (names_of t) ++ (t.gap ++ (operand_text t.first ++ (divided_text t.others ++ (t.ending ++ (59 ∷ t.behind)))))

line_at : (t : LineTree) → line_text t ≡ t.before ++ (guard_tree_text t.guard ++ from_head t)
unfolding from_head
line_at t = line_joined t.before (guard_tree_text t.guard) (head_text (names_of t)) t.gap (operand_text t.first) (divided_text t.others) t.ending t.behind

opcode_byte : (t : LineTree) → Good t → is_name_byte (get_or (from_head t) 0 0) ≡ true
unfolding from_head
opcode_byte t g = ap (λ (l : List ℕ). is_name_byte (get_or l 0 0)) (append_assoc t.opcode (dotted t.modifiers) _) ∙ name_first g.opcode _

-- the guard, or the head if there is none
pub before_is : (t : LineTree) → Good t → run_length is_blank (line_text t) ≡ guard_start t
before_is t g =
    let r = guard_tree_text t.guard ++ from_head t in
    ap (run_length is_blank) (line_at t) ∙ run_all_lem is_blank r g.before (guard_first t.guard (from_head t) (opcode_byte t g))

pub head_at_is : (t : LineTree) → Good t → length (line_text t) ≤ 160 → head_at (line_text t) ≡ head_start t
unfolding head_at guard_end
head_at_is t g m =
    let a = t.before in
    let b = guard_tree_text t.guard in
    let r = from_head t in
    let n : length (line_text t) ≡ length a + (length b + length r) = ap length (line_at t) ∙ length-append a (b ++ r) ∙ ap (λ (k : ℕ). length a + k) (length-append b r) in
    rw (line_at t, run_all_lem is_blank (b ++ r) g.before (guard_first t.guard r (opcode_byte t g)), drop-append_seam a (b ++ r), guard_complete t.guard r g.guard (opcode_byte t g) (omega arith))
    (sum_is (length a) (length b) (omega arith))

-- ==== the names of a head

name_last : (p k : ℕ) (n r : List ℕ) → GoodName n → Stops is_name_byte r → eqb (get_or r 0 0) 46 ≡ false → p + length n ≤ most → name_from p (suc k) (n ++ r) ≡ p + length n
name_last p k n r g z e m =
    name_stops p (suc k) (length n) (get_or r 0 0) (n ++ r) (omega arith) (sym (run_all_lem is_name_byte r g.all z)) (sym (seam n r)) e ∙ sum_is p (length n) m

name_next : (p k : ℕ) (n l : List ℕ) → GoodName n → p + (length n + 1) ≤ most → name_from p (suc k) (n ++ (46 ∷ l)) ≡ name_from (p + (length n + 1)) k l
name_next p k n l g m =
    let q : p + (length n + 1) ≡ capped_sum p (length n + 1) = sym (sum_is p (length n + 1) m) in
    let s : length n + 1 ≡ capped_sum (length n) 1 = sym (sum_is (length n) 1 (omega arith)) in
    let i : suc k - 1 ≡ k = omega arith in
    name_goes p (suc k) (length n) 46 (length n + 1) (p + (length n + 1)) (n ++ (46 ∷ l)) l (omega arith) (sym (run_all_lem is_name_byte (46 ∷ l) g.all refl)) (sym (seam n (46 ∷ l))) refl s (sym (past_seam n 46 l)) q
    ∙ ap (λ (j : ℕ). name_from (p + (length n + 1)) j l) i

pub name_from_is : (p : ℕ) (n : Name) (ns : List Name) (r : List ℕ) (k : ℕ) → GoodName n → GoodNames ns → Stops is_name_byte r → eqb (get_or r 0 0) 46 ≡ false → p + length (head_text (n ∷ ns)) ≤ most
    → name_from p k (head_text (n ∷ ns) ++ r) ≡ p + name_start (n ∷ ns) k
name_from_is p n ns r zero g gs z e m = name_done p 0 (head_text (n ∷ ns) ++ r) (omega arith) ∙ omega arith
name_from_is p n [] r (suc k) g GoodNames.none z e m = ap (λ (l : List ℕ). name_from p (suc k) (l ++ r)) (append-nil n) ∙ name_last p k n r g z e (omega (arith, ap length (append-nil n)))
name_from_is p n (o ∷ os) r (suc k) g (GoodNames.more h hs) z e m =
    let l : List ℕ = head_text (o ∷ os) in
    let c : length (n ++ (46 ∷ l)) ≡ length n + suc (length l) = length-append n (46 ∷ l) in
    let d : length (n ++ bytes ".") ≡ length n + 1 = length-append n (bytes ".") in
    ap (name_from p (suc k)) (append_assoc n (46 ∷ l) r)
    ∙ name_next p k n (l ++ r) g (omega arith)
    ∙ name_from_is (p + (length n + 1)) o os r k h hs z e (omega arith)
    ∙ omega arith

-- the k-th name of a line's head, or the end of the head
pub name_start_is : (t : LineTree) (k : ℕ) → Good t → length (line_text t) ≤ 160 → name_from 0 k (drop (head_at (line_text t)) (line_text t)) ≡ name_start (names_of t) k
unfolding from_head
name_start_is t k g m =
    let a = t.before in
    let b = guard_tree_text t.guard in
    let r = from_head t in
    let w : List ℕ = operand_text t.first ++ (divided_text t.others ++ (t.ending ++ (59 ∷ t.behind))) in
    let n : length (line_text t) ≡ length (a ++ b) + length r = ap length (line_at t) ∙ sym (ap length (append_assoc a b r)) ∙ length-append (a ++ b) r in
    let h : head_at (line_text t) ≡ length (a ++ b) = head_at_is t g m ∙ sym (length-append a b) in
    let d : drop (head_at (line_text t)) (line_text t) ≡ r = ap (λ (i : ℕ). drop i (line_text t)) h ∙ ap (drop (length (a ++ b))) (line_at t ∙ sym (append_assoc a b r)) ∙ drop-append_seam (a ++ b) r in
    ap (name_from 0 k) d
    ∙ name_from_is 0 t.opcode t.modifiers (t.gap ++ w) k g.opcode g.modifiers (blank_first (λ (x : ℕ). is_name_byte x ≡ false) refl refl g.gap w) (blank_first (λ (x : ℕ). eqb x 46 ≡ false) refl refl g.gap w)
    (omega (arith, length-append (head_text (names_of t)) (t.gap ++ w)))
    ∙ omega arith

-- ==== the operands

-- an operand with a comma behind it, and one with the end behind it
next_comma : (o : OperandTree) (b a r : List ℕ) → GoodOperand o → All is_blank b → All is_blank a → Stops is_blank r → length (operand_text o) + (length b + 1 + length a) ≤ most
    → next_at (operand_text o ++ (b ++ (44 ∷ (a ++ r)))) ≡ Operand (length (operand_text o) + (length b + 1 + length a))
unfolding next_at next_of next_by
next_comma o b a r g x y z m =
    rw (
      operand_complete o (b ++ (44 ∷ (a ++ r))) g (edge_after 44 (a ++ r) (record { digit = refl; name = refl; bar = refl; dot = refl }) x) (omega arith),
      drop-append_seam (operand_text o) (b ++ (44 ∷ (a ++ r))),
      comma_found b a r x y z (omega arith),
      sum_is (length (operand_text o)) (length b + 1 + length a) m,
    )

next_end : (o : OperandTree) (b r : List ℕ) → GoodOperand o → All is_blank b → length (operand_text o) + (length b + 1) ≤ most
    → next_at (operand_text o ++ (b ++ (59 ∷ r))) ≡ End (length (operand_text o))
unfolding next_at next_of next_by
next_end o b r g x m =
    rw (operand_complete o (b ++ (59 ∷ r)) g (edge_after 59 r (record { digit = refl; name = refl; bar = refl; dot = refl }) x) (omega arith), drop-append_seam (operand_text o) (b ++ (59 ∷ r)), semicolon_found b r x (omega arith))

pub operand_from_is : (p : ℕ) (o : OperandTree) (ds : List Divided) (b r : List ℕ) (k : ℕ) → GoodOperand o → GoodOthers ds → All is_blank b
    → p + (length (operand_text o) + length (divided_text ds) + (length b + 1)) ≤ most → operand_from p k (operand_text o ++ (divided_text ds ++ (b ++ (59 ∷ r)))) ≡ p + operand_start o ds k
operand_from_is p o ds b r zero g gs x m = operand_done p 0 (operand_text o ++ (divided_text ds ++ (b ++ (59 ∷ r)))) (omega arith) ∙ omega arith
operand_from_is p o [] b r (suc k) g gs x m =
    operand_stops p (suc k) (length (operand_text o)) (operand_text o ++ (b ++ (59 ∷ r))) (omega arith) (next_end o b r g x (omega arith))
    ∙ sum_is p (length (operand_text o)) (omega arith)
operand_from_is p o (d ∷ ds) b r (suc k) g (GoodOthers.more h hs) x m =
    let t : List ℕ = operand_text d.operand in
    let l : List ℕ = t ++ (divided_text ds ++ (b ++ (59 ∷ r))) in
    let n : ℕ = length (operand_text o) + (length d.before + 1 + length d.after) in
    let c : length (divided_text (d ∷ ds)) ≡ length d.before + 1 + length d.after + (length t + length (divided_text ds)) = divided_length d.before d.after t (divided_text ds) in
    let e : length (operand_text o ++ d.before ++ bytes "," ++ d.after) ≡ n = simp length-append (omega arith) in
    let w : List ℕ = operand_text o ++ (d.before ++ (44 ∷ (d.after ++ l))) in
    let v : List ℕ = operand_text o ++ (d.before ++ (44 ∷ d.after)) in
    let u : v ++ l ≡ w = simp append_assoc in
    let y : length v ≡ n = simp length-append (omega arith) in
    let i : suc k - 1 ≡ k = omega arith in
    ap (λ (j : List ℕ). operand_from p (suc k) (operand_text o ++ j)) (divided_joined d.before d.after t (divided_text ds) (b ++ (59 ∷ r)))
    ∙ operand_goes p (suc k) (p + n) n w l (omega arith) (next_comma o d.before d.after l g h.before h.after (operand_first d.operand (divided_text ds ++ (b ++ (59 ∷ r)))) (omega arith))
    (sym (ap (λ (j : List ℕ). drop n j) (sym u) ∙ drop_at v l n y)) (sym (sum_is p n (omega arith)))
    ∙ ap (λ (j : ℕ). operand_from (p + n) j l) i
    ∙ operand_from_is (p + n) d.operand ds b r k h.operand hs x (omega arith)
    ∙ omega arith

-- ==== where the operands stand in the line

name_end : (n : Name) (ns : List Name) (k : ℕ) → length ns < k → name_start (n ∷ ns) k ≡ length (head_text (n ∷ ns))
name_end n ns zero h = absurd (omega arith)
name_end n [] (suc k) h = ap length (sym (append-nil n))
name_end n (o ∷ os) (suc k) h =
    let i = name_end o os k (omega arith) in
    omega (arith, length-append n (bytes "."), length-append n (46 ∷ head_text (o ∷ os)))

from_operands : LineTree → List ℕ
from_operands t = operand_text t.first ++ (divided_text t.others ++ (t.ending ++ (59 ∷ t.behind)))

-- the lengths of a line's parts
line_size : (t : LineTree) → length (line_text t) ≡ head_start t + (length (head_text (names_of t)) + (length t.gap + length (from_operands t)))
unfolding from_head from_operands
line_size t =
    let a = t.before in
    let b = guard_tree_text t.guard in
    let r = from_head t in
    ap length (line_at t) ∙ length-append a (b ++ r)
    ∙ omega (arith, length-append b r, length-append (head_text (names_of t)) (t.gap ++ from_operands t), length-append t.gap (from_operands t))

-- the line from the head on
head_rest : (t : LineTree) → Good t → length (line_text t) ≤ 160 → drop (head_at (line_text t)) (line_text t) ≡ head_text (names_of t) ++ (t.gap ++ from_operands t)
unfolding from_head from_operands
head_rest t g m =
    let a = t.before in
    let b = guard_tree_text t.guard in
    let r = from_head t in
    let h : head_at (line_text t) ≡ length (a ++ b) = head_at_is t g m ∙ sym (length-append a b) in
    ap (λ (i : ℕ). drop i (line_text t)) h ∙ ap (drop (length (a ++ b))) (line_at t ∙ sym (append_assoc a b r)) ∙ drop-append_seam (a ++ b) r

pub operands_at_is : (t : LineTree) → Good t → length (line_text t) ≤ 160 → operands_at (line_text t) ≡ operands_start t
unfolding operands_at from_operands
operands_at_is t g m =
    let l = line_text t in
    let s = head_text (names_of t) in
    let n : ℕ = length s in
    let c : length s ≡ length t.opcode + length (dotted t.modifiers) = length-append t.opcode (dotted t.modifiers) in
    let f : length t.modifiers < 160 = omega (arith, few_names t.modifiers, g.opcode.some, line_size t) in
    let e : name_from 0 160 (drop (head_at l) l) ≡ n = name_start_is t 160 g m ∙ name_end t.opcode t.modifiers 160 f in
    let b : run_length is_blank (t.gap ++ from_operands t) ≡ length t.gap = run_all_lem is_blank (from_operands t) g.gap.all (operand_first t.first (divided_text t.others ++ (t.ending ++ (59 ∷ t.behind)))) in
    ap (λ (i : ℕ). capped_sum (capped_sum (head_at l) i) (run_length is_blank (drop i (drop (head_at l) l)))) e
    ∙ ap (λ (v : List ℕ). capped_sum (capped_sum (head_at l) n) (run_length is_blank (drop n v))) (head_rest t g m)
    ∙ ap (λ (v : List ℕ). capped_sum (capped_sum (head_at l) n) (run_length is_blank v)) (drop-append_seam s (t.gap ++ from_operands t))
    ∙ ap (capped_sum (capped_sum (head_at l) n)) b
    ∙ ap (λ (h : ℕ). capped_sum (capped_sum h n) (length t.gap)) (head_at_is t g m)
    ∙ ap (λ (h : ℕ). capped_sum h (length t.gap)) (sum_is (head_start t) n (omega (arith, line_size t)))
    ∙ sum_is (head_start t + n) (length t.gap) (omega (arith, line_size t))

operands_rest : (t : LineTree) → drop (operands_start t) (line_text t) ≡ from_operands t
unfolding from_operands
operands_rest t =
    let v : List ℕ = t.before ++ guard_tree_text t.guard ++ head_text (names_of t) ++ t.gap in
    let u : line_text t ≡ v ++ from_operands t = simp append_assoc in
    let y : length v ≡ operands_start t = simp length-append (omega arith) in
    ap (drop (operands_start t)) u ∙ drop_at v (from_operands t) (operands_start t) y

-- the k-th operand of a line, or the end of the last
pub operand_start_is : (t : LineTree) (k : ℕ) → Good t → length (line_text t) ≤ 160 → operand_from 0 k (drop (operands_at (line_text t)) (line_text t)) ≡ operand_start t.first t.others k
unfolding from_operands
operand_start_is t k g m =
    let s : length (from_operands t) ≡ length (operand_text t.first) + (length (divided_text t.others) + (length t.ending + suc (length t.behind))) =
    length-append (operand_text t.first) (divided_text t.others ++ (t.ending ++ (59 ∷ t.behind)))
    ∙ ap (λ (n : ℕ). length (operand_text t.first) + n) (length-append (divided_text t.others) (t.ending ++ (59 ∷ t.behind)) ∙ ap (λ (n : ℕ). length (divided_text t.others) + n) (length-append t.ending (59 ∷ t.behind))) in
    ap (λ (i : ℕ). operand_from 0 k (drop i (line_text t))) (operands_at_is t g m)
    ∙ ap (operand_from 0 k) (operands_rest t)
    ∙ operand_from_is 0 t.first t.others t.ending t.behind k g.first g.others g.ending (omega (arith, line_size t))
    ∙ omega arith

-- ==== the second place of a pair: no `|` stands before the first pair's

register_bars : (p : Place) → All not_bar (register_text p)
register_bars (reg Words n) = more refl (more refl (number_without 124 refl n))
register_bars (reg Halves n) = more refl (more refl (more refl (number_without 124 refl n)))
register_bars (reg Doubles n) = more refl (more refl (more refl (number_without 124 refl n)))
register_bars (reg Preds n) = more refl (more refl (number_without 124 refl n))

spot_bars : (p : Spot) → All not_bar (spot_text p)
spot_bars (at p) = register_bars p
spot_bars nothing = more refl none

guard_bars : (g : GuardTree) → GoodGuard g → All not_bar (guard_tree_text g)
guard_bars unguarded g = none
guard_bars (guarded true p b) g = joined (more refl (more refl (register_bars p))) (class_without 124 is_blank refl g.1.all)
guard_bars (guarded false p b) g = joined (more refl (register_bars p)) (class_without 124 is_blank refl g.1.all)

pub second_start_is : (t : LineTree) (a b : Spot) → Good t → length (line_text t) ≤ 160 → t.first ≡ pair a b → bar_at (line_text t) ≡ operands_start t + length (spot_text a ++ bytes "|")
unfolding bar_at from_operands
second_start_is t a b g m e =
    let v : List ℕ = t.before ++ guard_tree_text t.guard ++ head_text (names_of t) ++ t.gap ++ spot_text a in
    let r : List ℕ = spot_text b ++ (divided_text t.others ++ (t.ending ++ (59 ∷ t.behind))) in
    let u : line_text t ≡ v ++ (124 ∷ r) = rw e (simp append_assoc) in
    let all : All not_bar v =
    joined (joined (joined (joined (class_without 124 is_blank refl g.before) (guard_bars t.guard g.guard)) (joined (class_without 124 is_name_byte refl g.opcode.all) (dotted_without 124 refl refl g.modifiers))) (class_without 124 is_blank refl g.gap.all)) (spot_bars a) in
    let y : length v ≡ operands_start t + length (spot_text a) = simp length-append (omega arith) in
    let z : length (line_text t) ≡ length v + suc (length r) = ap length u ∙ length-append v (124 ∷ r) in
    ap (λ (l : List ℕ). capped_sum (run_length not_bar l) 1) u ∙ ap (λ (n : ℕ). capped_sum n 1) (run_all_lem not_bar (124 ∷ r) all refl) ∙ sum_is (length v) 1 (omega arith) ∙ omega (arith, length-append (spot_text a) (bytes "|"))

-- ==== every start is within the line

name_within : (ns : List Name) (k : ℕ) → name_start ns k ≤ length (head_text ns)
name_within ns zero = omega arith
name_within [] (suc k) = omega arith
name_within (n ∷ []) (suc k) = omega (arith, ap length (append-nil n))
name_within (n ∷ m ∷ ns) (suc k) =
    let h = name_within (m ∷ ns) k in
    omega (arith, length-append n (bytes "."), length-append n (46 ∷ head_text (m ∷ ns)))

pub name_start_within : (t : LineTree) (k : ℕ) → head_start t + name_start (names_of t) k ≤ length (line_text t)
name_start_within t k = let h = name_within (names_of t) k in omega (arith, line_size t)

operand_within : (o : OperandTree) (ds : List Divided) (k : ℕ) → operand_start o ds k ≤ length (operand_text o) + length (divided_text ds)
operand_within o ds zero = omega arith
operand_within o [] (suc k) = omega arith
operand_within o (d ∷ ds) (suc k) =
    let h = operand_within d.operand ds k in
    let e : to_next_operand o d ≡ length (operand_text o) + (length d.before + 1 + length d.after) = simp length-append (omega arith) in
    omega (arith, divided_length d.before d.after (operand_text d.operand) (divided_text ds))

first_within : (o : OperandTree) (ds : List Divided) → length (operand_text o) ≤ operand_start o ds 1
first_within o [] = omega arith
first_within o (d ∷ ds) = simp length-append (omega arith)

pub operand_start_within : (t : LineTree) (k : ℕ) → operands_start t + operand_start t.first t.others k ≤ length (line_text t)
unfolding from_operands
operand_start_within t k =
    let h = operand_within t.first t.others k in
    omega (arith, line_size t, length-append (operand_text t.first) (divided_text t.others ++ (t.ending ++ (59 ∷ t.behind))), length-append (divided_text t.others) (t.ending ++ (59 ∷ t.behind)))

pub second_within : (t : LineTree) (q : Place) → t.first ≡ pair (at q) (at q) → operands_start t + length (register_text q ++ bytes "|") ≤ length (line_text t)
second_within t q e =
    let h = operand_start_within t 1 in
    let n : length (operand_text t.first) ≡ length (register_text q ++ bytes "|") + length (register_text q) = ap (λ (o : OperandTree). length (operand_text o)) e ∙ length-append (register_text q ++ bytes "|") (register_text q) in
    let k = first_within t.first t.others in
    omega arith
