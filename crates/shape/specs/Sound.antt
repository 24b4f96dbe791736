-- A line that is read has the shape, and the parts are what the reader keeps of its tree.
use Rattle.std.specs.Prelude.{ℕ, ◌+◌, ◌≤◌, ◌≡◌, refl, List, [], ◌∷◌, ◌++◌, Bool, true, false, cond, ltb, length, drop, Err, Ok, Result}
use Rattle.std.specs.Result.{is_ok}
use Rattle.std.proofs.Common.{sym, ap, ◌∙◌, subst, append-nil, arith, ltb-false, length-append}
use Rattle.std.proofs.Math.Seq.{drop-append_seam}
use Rattle.signs.specs.Bytes.{is_blank, All, Some}
use Rattle.signs.specs.Bytes.All.{none, more}
use Rattle.rules.specs.Shape.{Name, head_text, OperandTree, operand_text}
use Rattle.rules.specs.Grammar.{LineTree, Shaped, GuardTree, guard_tree_text, Divided, divided_text, GoodGuard, GoodName, GoodNames, GoodOperand, GoodOthers}
use Rattle.tree.specs.Seen.{seen, seen_guard, seen_head, seen_operands}
use Rattle.tree.specs.declared.Guarding.{Guarding}
use Rattle.tree.specs.declared.Head.{Head}
use Rattle.tree.specs.declared.Operands.{Operands}
use Rattle.tree.specs.declared.Parts.{Parts}
use Rattle.scan.specs.Runs.{run_length, capped_sum}
use Rattle.scan.specs.RunLaws.{not_so, Stops, Split, split, run_all_lem}
use Rattle.shape.specs.Head.{head_of}
use Rattle.shape.specs.HeadSound.{HeadAt, head_sound}
use Rattle.shape.specs.Operands.{operands_scanned}
use Rattle.shape.specs.ListLaws.{operands_in}
use Rattle.shape.specs.ListSound.{OperandsAt, operands_sound}
use Rattle.shape.specs.Guard.{guard_got, guard_of}
use Rattle.shape.specs.GuardSound.{GuardAt, guard_sound}
use Rattle.shape.specs.Line.{Scanned, parts_of, stopped_at, from_end, from_operands, from_gap, from_head, guarded_by, shape_of}
use Rattle.shape.specs.Complete.{after_before, after_gap, past_list, line_joined}

-- what is not refused is what was to be
chosen : (t : Bool) (r : Scanned) (q : ℕ) → is_ok (cond t r (stopped_at q)) ≡ true → (t ≡ true) × (cond t r (stopped_at q) ≡ r)
chosen true r q e = (refl, refl)
chosen false r q e = not_so e

-- ---- each stage, from the end

-- parts with nothing but blanks behind them
record EndAt (w : List ℕ) (x : Parts) (r : Scanned) : Type 0 where
  blank : All is_blank w
  parts : parts_of r ≡ x

nothing_left : (a b : List ℕ) → length (a ++ b) ≤ length a → b ≡ []
nothing_left a [] h = refl
nothing_left a (x ∷ b) h = absurd (omega (arith, length-append a (x ∷ b)))

end_sound : (p : ℕ) (x : Parts) (w : List ℕ) → is_ok (from_end p x w) ≡ true → EndAt w x (from_end p x w)
unfolding from_end
end_sound p x w e = go (ltb (run_length is_blank w) (length w)) refl e
  where
    s : Split is_blank w
    s = split is_blank refl w

    end : ℕ
    end = capped_sum p (run_length is_blank w)

    go : (t : Bool) → ltb (run_length is_blank w) (length w) ≡ t → is_ok (cond t (stopped_at end) (Ok (x, end))) ≡ true
        → EndAt w x (cond t (stopped_at end) (Ok (x, end)))
    go true q f = not_so f
    go false q f =
        let l : length w ≡ length (s.front ++ s.back) = ap length s.whole in
        let b : s.back ≡ [] = nothing_left s.front s.back (omega (arith, ltb-false (run_length is_blank w) (length w) q, s.count)) in
        let d : s.front ≡ w = sym (append-nil s.front) ∙ sym (ap (λ (i : List ℕ). s.front ++ i) b) ∙ sym s.whole in
        record { blank = subst (All is_blank) d s.all; parts = refl }

-- operands, what ends them, and blanks
record TailAt (w : List ℕ) (g : Guarding) (h : Head) (r : Scanned) : Type 0 where
  first : OperandTree
  others : List Divided
  ending : List ℕ
  behind : List ℕ
  whole : w ≡ operand_text first ++ (divided_text others ++ (ending ++ (59 ∷ behind)))
  good : GoodOperand first
  goods : GoodOthers others
  blank : All is_blank ending
  blanks : All is_blank behind
  parts : parts_of r ≡ record { guard = g; head = h; operands = seen_operands (first ∷ operands_in others) }

tail_from : (p : ℕ) (g : Guarding) (h : Head) (w : List ℕ) (r : Scanned) → OperandsAt w (operands_scanned w)
    → r ≡ from_end p (record { guard = g; head = h; operands = (operands_scanned w).operands }) (drop (operands_scanned w).place w) → is_ok r ≡ true → TailAt w g h r
tail_from p g h w r i e good =
    let x : Parts = record { guard = g; head = h; operands = (operands_scanned w).operands } in
    let n : ℕ = length (operand_text i.first) + length (divided_text i.others) + (length i.ending + 1) in
    let d : drop (operands_scanned w).place w ≡ i.after =
    ap (λ (k : ℕ). drop k w) i.place ∙ ap (drop n) i.whole ∙ past_list (operand_text i.first) (divided_text i.others) i.ending i.after in
    let q : r ≡ from_end p x i.after = e ∙ ap (from_end p x) d in
    let j = end_sound p x i.after (sym (ap is_ok q) ∙ good) in
    record {
      first = i.first;
      others = i.others;
      ending = i.ending;
      behind = i.after;
      whole = i.whole;
      good = i.good;
      goods = i.goods;
      blank = i.blank;
      blanks = j.blank;
      parts = ap parts_of q ∙ j.parts ∙ ap (λ (o : Operands). record { guard = g; head = h; operands = o }) i.operands;
    }

operands_stage : (p : ℕ) (g : Guarding) (h : Head) (w : List ℕ) → length w ≤ 160 → is_ok (from_operands p g h w) ≡ true → TailAt w g h (from_operands p g h w)
unfolding from_operands
operands_stage p g h w m e =
    let read = operands_scanned w in
    let end = capped_sum p read.place in
    let c = chosen read.good (from_end end (record { guard = g; head = h; operands = read.operands }) (drop read.place w)) end e in
    tail_from end g h w (from_operands p g h w) (operands_sound w m c.0) c.1 e

-- at least one blank before them
record GapAt (w : List ℕ) (g : Guarding) (h : Head) (r : Scanned) : Type 0 where
  gap : List ℕ
  tail : List ℕ
  whole : w ≡ gap ++ tail
  some : Some is_blank gap
  rest : TailAt tail g h r

no_gap : (p : ℕ) (g : Guarding) (h : Head) (w : List ℕ) → Stops is_blank w → is_ok (from_gap p g h w) ≡ false
unfolding from_gap
no_gap p g h w z = rw (run_all_lem is_blank w none z)

by_gap : (p : ℕ) (g : Guarding) (h : Head) (a b : List ℕ) → All is_blank a → Stops is_blank b → length (a ++ b) ≤ 160 → is_ok (from_gap p g h (a ++ b)) ≡ true → GapAt (a ++ b) g h (from_gap p g h (a ++ b))
by_gap p g h a b none z m e = not_so (sym (no_gap p g h b z) ∙ e)
by_gap p g h a b (more x y) z m e =
    let some : Some is_blank a = record { all = more x y; some = omega arith } in
    let q = after_gap p g h a b some z in
    let t = operands_stage (capped_sum p (length a)) g h b (omega (arith, length-append a b)) (sym (ap is_ok q) ∙ e) in
    record { gap = a; tail = b; whole = refl; some = some; rest = subst (TailAt b g h) (sym q) t }

gap_stage : (p : ℕ) (g : Guarding) (h : Head) (w : List ℕ) → length w ≤ 160 → is_ok (from_gap p g h w) ≡ true → GapAt w g h (from_gap p g h w)
gap_stage p g h w m e =
    let s = split is_blank refl w in
    subst (λ (x : List ℕ). length x ≤ 160 → is_ok (from_gap p g h x) ≡ true → GapAt x g h (from_gap p g h x)) (sym s.whole) (by_gap p g h s.front s.back s.all s.stops) m e

-- a head before that
record HeadFrom (w : List ℕ) (g : Guarding) (r : Scanned) : Type 0 where
  name : Name
  others : List Name
  tail : List ℕ
  whole : w ≡ head_text (name ∷ others) ++ tail
  good : GoodName name
  goods : GoodNames others
  rest : GapAt tail g (seen_head (name ∷ others)) r

head_from : (p : ℕ) (g : Guarding) (w : List ℕ) (r : Scanned) → length w ≤ 160 → HeadAt w (head_of w) → r ≡ from_gap p g (head_of w).head (drop (head_of w).place w) → is_ok r ≡ true → HeadFrom w g r
head_from p g w r m i e good =
    let t : List ℕ = head_text (i.name ∷ i.others) in
    let h : Head = seen_head (i.name ∷ i.others) in
    let d : drop (head_of w).place w ≡ i.after = ap (λ (k : ℕ). drop k w) i.place ∙ ap (drop (length t)) i.whole ∙ drop-append_seam t i.after in
    let q : r ≡ from_gap p g h i.after = e ∙ ap (from_gap p g (head_of w).head) d ∙ ap (λ (x : Head). from_gap p g x i.after) i.head in
    let l : length w ≡ length t + length i.after = ap length i.whole ∙ length-append t i.after in
    let j = gap_stage p g h i.after (omega arith) (sym (ap is_ok q) ∙ good) in
    record { name = i.name; others = i.others; tail = i.after; whole = i.whole; good = i.good; goods = i.goods; rest = subst (GapAt i.after g h) (sym q) j }

head_stage : (p : ℕ) (g : Guarding) (w : List ℕ) → length w ≤ 160 → is_ok (from_head p g w) ≡ true → HeadFrom w g (from_head p g w)
unfolding from_head
head_stage p g w m e =
    let read = head_of w in
    let end = capped_sum p read.place in
    let c = chosen read.good (from_gap end g read.head (drop read.place w)) end e in
    head_from end g w (from_head p g w) m (head_sound w m c.0) c.1 e

-- a guard before that
record GuardFrom (w : List ℕ) (r : Scanned) : Type 0 where
  tree : GuardTree
  tail : List ℕ
  whole : w ≡ guard_tree_text tree ++ tail
  good : GoodGuard tree
  rest : HeadFrom tail (seen_guard tree) r

guard_from : (p : ℕ) (w : List ℕ) (g : Guarding) (n : ℕ) (r : Scanned) → length w ≤ 160 → GuardAt w g n → r ≡ from_head p g (drop n w) → is_ok r ≡ true → GuardFrom w r
guard_from p w g n r m i e good =
    let t : List ℕ = guard_tree_text i.tree in
    let d : drop n w ≡ i.after = ap (λ (k : ℕ). drop k w) i.taken ∙ ap (drop (length t)) i.whole ∙ drop-append_seam t i.after in
    let q : r ≡ from_head p (seen_guard i.tree) i.after = e ∙ ap (from_head p g) d ∙ sym (ap (λ (x : Guarding). from_head p x i.after) i.sees) in
    let l : length w ≡ length t + length i.after = ap length i.whole ∙ length-append t i.after in
    let j = head_stage p (seen_guard i.tree) i.after (omega arith) (sym (ap is_ok q) ∙ good) in
    record { tree = i.tree; tail = i.after; whole = i.whole; good = i.good; rest = subst (HeadFrom i.after (seen_guard i.tree)) (sym q) j }

guard_stage : (p : ℕ) (w : List ℕ) → length w ≤ 160 → (x : Result (Guarding × ℕ) ℕ) → guard_of w ≡ x → is_ok (guarded_by p x w) ≡ true → GuardFrom w (guarded_by p x w)
guard_stage p w m (Err q) d e = not_so e
guard_stage p w m (Ok (g, n)) d e = guard_from (capped_sum p n) w g n (guarded_by p (guard_got g n) w) m (guard_sound w g n m d) refl e

-- ---- the line

-- s is the text of a good tree, and x what the reader keeps of it
pub record ShapedAs (s : List ℕ) (x : Parts) : Type 0 where
  pub tree : LineTree
  pub shaped : Shaped s tree
  pub sees : seen tree ≡ x

line_from : (a b : List ℕ) (r : Scanned) → All is_blank a → GuardFrom b r → ShapedAs (a ++ b) (parts_of r)
line_from a b r x i =
    let j = i.rest in
    let k = j.rest in
    let l = k.rest in
    let text_from_gap : List ℕ = k.gap ++ (operand_text l.first ++ (divided_text l.others ++ (l.ending ++ (59 ∷ l.behind)))) in
    let gap_is : j.tail ≡ text_from_gap = k.whole ∙ ap (λ (y : List ℕ). k.gap ++ y) l.whole in
    let head-is : i.tail ≡ head_text (j.name ∷ j.others) ++ text_from_gap = j.whole ∙ ap (λ (y : List ℕ). head_text (j.name ∷ j.others) ++ y) gap_is in
    let guard_is : a ++ b ≡ a ++ (guard_tree_text i.tree ++ (head_text (j.name ∷ j.others) ++ text_from_gap)) =
    ap (λ (y : List ℕ). a ++ y) (i.whole ∙ ap (λ (y : List ℕ). guard_tree_text i.tree ++ y) head-is) in
    record {
      tree = record { before = a; guard = i.tree; opcode = j.name; modifiers = j.others; gap = k.gap; first = l.first; others = l.others; ending = l.ending; behind = l.behind };
      shaped = record {
        good = record { before = x; guard = i.good; opcode = j.good; modifiers = j.goods; gap = k.some; first = l.good; others = l.goods; ending = l.blank; behind = l.blanks };
        text = line_joined a (guard_tree_text i.tree) (head_text (j.name ∷ j.others)) k.gap (operand_text l.first) (divided_text l.others) l.ending l.behind ∙ sym guard_is;
      };
      sees = sym l.parts;
    }

by_before : (a b : List ℕ) → All is_blank a → Stops is_blank b → length (a ++ b) ≤ 160 → is_ok (shape_of (a ++ b)) ≡ true → ShapedAs (a ++ b) (parts_of (shape_of (a ++ b)))
by_before a b x z m e =
    let q = after_before a b x z in
    let g = guard_stage (length a) b (omega (arith, length-append a b)) (guard_of b) refl (sym (ap is_ok q) ∙ e) in
    subst (λ (s : Scanned). ShapedAs (a ++ b) (parts_of s)) (sym q) (line_from a b (guarded_by (length a) (guard_of b) b) x g)

pub shape_sound : (s : List ℕ) → length s ≤ 160 → is_ok (shape_of s) ≡ true → ShapedAs s (parts_of (shape_of s))
shape_sound s m e =
    let x = split is_blank refl s in
    subst (λ (l : List ℕ). length l ≤ 160 → is_ok (shape_of l) ≡ true → ShapedAs l (parts_of (shape_of l))) (sym x.whole) (by_before x.front x.back x.all x.stops) m e

pub shape_found : (s : List ℕ) (x : Parts) (n : ℕ) → length s ≤ 160 → shape_of s ≡ Ok (x, n) → ShapedAs s x
shape_found s x n m e = subst (ShapedAs s) (ap parts_of e) (shape_sound s m (ap is_ok e))
