-- Every good tree's text is read, and the reader keeps of it what it should.
use Rattle.std.specs.Prelude.{ℕ, ◌+◌, ◌≤◌, ◌≡◌, refl, List, [], ◌∷◌, ◌++◌, Bool, true, false, cond, eqb, length, get_or, drop, Ok}
use Rattle.std.specs.Result.{is_ok}
use Rattle.std.proofs.Common.{sym, ap, ◌∙◌, append_assoc, append-nil, arith, ne_eqb, le-ltb, length-append}
use Rattle.std.proofs.Math.Seq.{drop-append_seam}
use Rattle.signs.specs.Bytes.{is_blank, is_name_byte, All, Some}
use Rattle.rules.specs.Shape.{dotted, head_text, operand_text}
use Rattle.rules.specs.Grammar.{LineTree, Good, line_text, guard_tree_text, divided_text}
use Rattle.rules.specs.Grammar.{operands_of}
use Rattle.tree.specs.Seen.{seen, seen_guard, seen_head, seen_operands}
use Rattle.tree.specs.declared.Guarding.{Guarding}
use Rattle.tree.specs.declared.Head.{Head}
use Rattle.tree.specs.declared.Operands.{Operands}
use Rattle.tree.specs.declared.Parts.{Parts}
use Rattle.scan.specs.Runs.{run_length, capped_sum}
use Rattle.scan.specs.RunLaws.{Stops, run_all_lem, sum_is}
use Rattle.shape.specs.Head.{head_of as head_at}
use Rattle.shape.specs.Operands.{operands_scanned}
use Rattle.shape.specs.OperandLaws.{operand_first}
use Rattle.shape.specs.HeadLaws.{HeadRead, head_complete}
use Rattle.shape.specs.ListLaws.{ListRead, operands_complete}
use Rattle.shape.specs.GuardLaws.{blank_first, name_first, guard_complete, guard_first}
use Rattle.shape.specs.Guard.{guard_got, guard_of}
use Rattle.shape.specs.Line.{Scanned, parts_of, stopped_at, from_end, from_operands, from_gap, from_head, guarded_by, shape_of}

-- ---- each stage, where it finds what it should

after_blanks : (p : ℕ) (x : Parts) (b : List ℕ) → All is_blank b → from_end p x b ≡ Ok (x, capped_sum p (length b))
unfolding from_end
after_blanks p x b a =
    let e : run_length is_blank b ≡ length b = ap (run_length is_blank) (sym (append-nil b)) ∙ run_all_lem is_blank [] a refl in
    rw (e, le-ltb (length b) (length b) (omega arith))

-- by what was read of the operands, and of the head
listed : ℕ → Guarding → Head → List ℕ → Bool → ℕ → Operands → Scanned
listed p g h w good n o = cond good (from_end (capped_sum p n) (record { guard = g; head = h; operands = o }) (drop n w)) (stopped_at (capped_sum p n))

after_operands : (p : ℕ) (g : Guarding) (h : Head) (w : List ℕ) (n : ℕ) (o : Operands) → ListRead (operands_scanned w) n o
    → from_operands p g h w ≡ from_end (capped_sum p n) (record { guard = g; head = h; operands = o }) (drop n w)
unfolding from_operands listed
after_operands p g h w n o r = go (operands_scanned w).good (operands_scanned w).place (operands_scanned w).operands r.good r.place r.operands
  where
    go : (t : Bool) (m : ℕ) (q : Operands) → t ≡ true → m ≡ n → q ≡ o → listed p g h w t m q ≡ from_end (capped_sum p n) (record { guard = g; head = h; operands = o }) (drop n w)
    go t m q a b c = rw (a, b, c)

pub after_gap : (p : ℕ) (g : Guarding) (h : Head) (b r : List ℕ) → Some is_blank b → Stops is_blank r → from_gap p g h (b ++ r) ≡ from_operands (capped_sum p (length b)) g h r
unfolding from_gap
after_gap p g h b r s z = let l = s.some in rw (run_all_lem is_blank r s.all z, ne_eqb (length b) 0 (λ q. omega arith), drop-append_seam b r)

named : ℕ → Guarding → List ℕ → Bool → ℕ → Head → Scanned
named p g w good n h = cond good (from_gap (capped_sum p n) g h (drop n w)) (stopped_at (capped_sum p n))

after_head : (p : ℕ) (g : Guarding) (w : List ℕ) (n : ℕ) (h : Head) → HeadRead (head_at w) n h → from_head p g w ≡ from_gap (capped_sum p n) g h (drop n w)
unfolding from_head named
after_head p g w n h r = go (head_at w).good (head_at w).place (head_at w).head r.good r.place r.head
  where
    go : (t : Bool) (m : ℕ) (q : Head) → t ≡ true → m ≡ n → q ≡ h → named p g w t m q ≡ from_gap (capped_sum p n) g h (drop n w)
    go t m q a b c = rw (a, b, c)

pub after_guard : (p : ℕ) (g : Guarding) (a r : List ℕ) → guard_of (a ++ r) ≡ guard_got g (length a) → guarded_by p (guard_of (a ++ r)) (a ++ r) ≡ from_head (capped_sum p (length a)) g r
after_guard p g a r e = rw (e, drop-append_seam a r)

pub after_before : (b r : List ℕ) → All is_blank b → Stops is_blank r → shape_of (b ++ r) ≡ guarded_by (length b) (guard_of r) r
unfolding shape_of
after_before b r a z = rw (run_all_lem is_blank r a z, drop-append_seam b r)

-- ---- a line's text, from its front

pub line_joined : (a b c d e f g h : List ℕ) → a ++ b ++ c ++ d ++ e ++ f ++ g ++ (59 ∷ []) ++ h ≡ a ++ (b ++ (c ++ (d ++ (e ++ (f ++ (g ++ (59 ∷ h)))))))
line_joined a b c d e f g h = simp append_assoc

line_length : (a b c d e f g h : List ℕ)
    → length (a ++ b ++ c ++ d ++ e ++ f ++ g ++ (59 ∷ []) ++ h) ≡ length a + length b + length c + length d + length e + length f + length g + 1 + length h
line_length a b c d e f g h = simp length-append (omega arith)

-- the rest of a list of operands is what follows the semicolon
pub past_list : (e f g h : List ℕ) → drop (length e + length f + (length g + 1)) (e ++ (f ++ (g ++ (59 ∷ h)))) ≡ h
past_list e f g h =
    let a : List ℕ = e ++ (f ++ (g ++ (59 ∷ []))) in
    let l : length a ≡ length e + length f + (length g + 1) = simp length-append (omega arith) in
    let q : e ++ (f ++ (g ++ (59 ∷ h))) ≡ a ++ h = simp append_assoc in
    ap (λ (n : ℕ). drop n (e ++ (f ++ (g ++ (59 ∷ h))))) (sym l) ∙ ap (drop (length a)) q ∙ drop-append_seam a h

-- the line is read to its end
pub shape_is : (t : LineTree) → Good t → length (line_text t) ≤ 160
    → shape_of (line_text t) ≡ Ok (seen t, length (line_text t))
shape_is t good m = whole
  where
    guard : List ℕ
    guard = guard_tree_text t.guard

    head : List ℕ
    head = head_text (t.opcode ∷ t.modifiers)

    operand : List ℕ
    operand = operand_text t.first

    others : List ℕ
    others = divided_text t.others

    end : List ℕ
    end = t.ending ++ (59 ∷ t.behind)

    from_first : List ℕ
    from_first = operand ++ (others ++ end)

    text_from_gap : List ℕ
    text_from_gap = t.gap ++ from_first

    text_from_head : List ℕ
    text_from_head = head ++ text_from_gap

    n : ℕ
    n = length operand + length others + (length t.ending + 1)

    place : ℕ
    place = capped_sum (capped_sum (capped_sum (capped_sum (length t.before) (length guard)) (length head)) (length t.gap)) n

    small : length t.before + length guard + length head + length t.gap + length operand + length others + length t.ending + 1 + length t.behind ≤ 160
    small = omega (arith, line_length t.before guard head t.gap operand others t.ending t.behind)

    first_byte : is_name_byte (get_or text_from_head 0 0) ≡ true
    first_byte = ap (λ (l : List ℕ). is_name_byte (get_or l 0 0)) (append_assoc t.opcode (dotted t.modifiers) text_from_gap) ∙ name_first good.opcode (dotted t.modifiers ++ text_from_gap)

    p1 : ℕ
    p1 = capped_sum (length t.before) (length guard)

    p2 : ℕ
    p2 = capped_sum p1 (length head)

    g : Guarding
    g = seen_guard t.guard

    h : Head
    h = seen_head (t.opcode ∷ t.modifiers)

    reached : capped_sum place (length t.behind) ≡ length (line_text t)
    reached =
        let s = line_length t.before guard head t.gap operand others t.ending t.behind in
        let a : p1 ≡ length t.before + length guard = sum_is _ _ (omega (arith, small)) in
        let b : p2 ≡ p1 + length head = sum_is _ _ (omega (arith, small, a)) in
        let c : capped_sum p2 (length t.gap) ≡ p2 + length t.gap = sum_is _ _ (omega (arith, small, a, b)) in
        let d : place ≡ capped_sum p2 (length t.gap) + n = sum_is _ _ (omega (arith, small, a, b, c)) in
        sum_is place (length t.behind) (omega (arith, small, a, b, c, d)) ∙ omega (arith, s, a, b, c, d)

    whole : shape_of (line_text t) ≡ Ok (seen t, length (line_text t))
    whole =
        ap shape_of (line_joined t.before guard head t.gap operand others t.ending t.behind)
        ∙ after_before t.before (guard ++ text_from_head) good.before (guard_first t.guard text_from_head first_byte)
        ∙ after_guard (length t.before) g guard text_from_head (guard_complete t.guard text_from_head good.guard first_byte (omega (arith, small)))
        ∙ after_head p1 g text_from_head (length head) h
        (head_complete t.opcode t.modifiers text_from_gap good.opcode good.modifiers (blank_first (λ (b : ℕ). is_name_byte b ≡ false) refl refl good.gap from_first)
        (blank_first (λ (b : ℕ). eqb b 46 ≡ false) refl refl good.gap from_first) (omega (arith, small)))
        ∙ ap (from_gap p2 g h) (drop-append_seam head text_from_gap)
        ∙ after_gap p2 g h t.gap from_first good.gap (operand_first t.first (others ++ end))
        ∙ after_operands (capped_sum p2 (length t.gap)) g h from_first n (seen_operands (operands_of t))
        (operands_complete t.first t.others t.ending t.behind good.first good.others good.ending (omega (arith, small)))
        ∙ ap (from_end place (seen t)) (past_list operand others t.ending t.behind)
        ∙ after_blanks place (seen t) t.behind good.behind
        ∙ ap (λ (k : ℕ). Ok (seen t, k)) reached

pub shape_complete : (t : LineTree) → Good t → length (line_text t) ≤ 160 → (is_ok (shape_of (line_text t)) ≡ true) × (parts_of (shape_of (line_text t)) ≡ seen t)
shape_complete t good m = let e = shape_is t good m in (ap is_ok e, ap parts_of e)

-- no text is of two trees of which the reader keeps different parts
pub shape_one : (t u : LineTree) → Good t → Good u → length (line_text t) ≤ 160 → line_text t ≡ line_text u → seen t ≡ seen u
shape_one t u g h m e = sym (shape_complete t g m).1 ∙ ap (λ (l : List ℕ). parts_of (shape_of l)) e ∙ (shape_complete u h (omega (arith, ap length e))).1
