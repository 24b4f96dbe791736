-- What is pushed one after the other is what the reader keeps of the whole list.
use Rattle.std.specs.Prelude.{ℕ, suc, zero, ◌+◌, ◌-◌, ◌≤◌, ◌<◌, ◌≡◌, refl, List, [], ◌∷◌, ◌++◌, map, Bool, true, false, cond, leb, ltb, length, get_or, take, set, replicate}
use Rattle.std.proofs.Common.{sym, ap, ◌∙◌, append_assoc, append-nil, arith, leb-true, leb-false, ltb-true, ltb-false, length-append, get_or-take, get_or-append-add}
use Rattle.std.proofs.lemmas.List.{length-map, get_or-replicate, take-append-le}
use Rattle.std.proofs.Math.ListN.{get_or-append, get_or-eq_default}
use Rattle.std.proofs.Math.Seq.{take-append-add, set-append_seam}
use Rattle.base.specs.Pack.{code_of}
use Rattle.rules.specs.Shape.{Name, OperandTree}
use Rattle.tree.specs.Seen.{first_padded, names_kept, operands_kept, spare, slot, seen_head, seen_operand, seen_operands}
use Rattle.tree.specs.declared.Head.{Head}
use Rattle.tree.specs.declared.Slot.{Slot}
use Rattle.tree.specs.declared.Operands.{Operands}
use Rattle.scan.specs.Runs.{capped_sum, most}
use Rattle.scan.specs.RunLaws.{sum_is}
use Rattle.shape.specs.Head.{no_head, pushed_name}
use Rattle.shape.specs.Operands.{no_operands, pushed_tree}

-- ---- one more in a list of which the first k are kept

module _ {A : Type 0} (past : A) where
  take_past : (j k : ℕ) → j ≤ k → take j (replicate k past) ≡ replicate j past
  take_past zero k h = refl
  take_past (suc j) zero h = absurd (omega arith)
  take_past (suc j) (suc k) h = ap (◌∷◌ past) (take_past j k (omega arith))

  room : (k j : ℕ) (ys : List A) (x : A) → k ≡ length ys + suc j → set (first_padded k past ys) (length ys) x ≡ first_padded k past (ys ++ (x ∷ []))
  room k j ys x h =
      let r : List A = replicate k past in
      let a : first_padded k past ys ≡ ys ++ (past ∷ replicate j past) =
      ap (λ (n : ℕ). take n (ys ++ r)) h ∙ take-append-add ys r (suc j) ∙ ap (λ (l : List A). ys ++ l) (take_past (suc j) k (omega arith)) in
      let b : first_padded k past (ys ++ (x ∷ [])) ≡ ys ++ (x ∷ replicate j past) =
      ap (take k) (append_assoc ys (x ∷ []) r) ∙ ap (λ (n : ℕ). take n (ys ++ (x ∷ r))) h ∙ take-append-add ys (x ∷ r) (suc j)
      ∙ ap (λ (l : List A). ys ++ (x ∷ l)) (take_past j k (omega arith)) in
      ap (λ (l : List A). set l (length ys) x) a ∙ set-append_seam ys past (replicate j past) x ∙ sym b

  full : (k : ℕ) (ys : List A) (x : A) → k ≤ length ys → first_padded k past ys ≡ first_padded k past (ys ++ (x ∷ []))
  full k ys x h =
      take-append-le k ys (replicate k past) h ∙ sym (take-append-le k ys ((x ∷ []) ++ replicate k past) h) ∙ sym (ap (take k) (append_assoc ys (x ∷ []) (replicate k past)))

  one_more : (k : ℕ) (ys : List A) (x : A) → cond (leb k (length ys)) (first_padded k past ys) (set (first_padded k past ys) (length ys) x) ≡ first_padded k past (ys ++ (x ∷ []))
  one_more k ys x = go (leb k (length ys)) refl
    where
      go : (t : Bool) → leb k (length ys) ≡ t → cond t (first_padded k past ys) (set (first_padded k past ys) (length ys) x) ≡ first_padded k past (ys ++ (x ∷ []))
      go true e = full k ys x (leb-true k (length ys) e)
      go false e = let h = leb-false k (length ys) e in room k (k - suc (length ys)) ys x (omega arith)

one_longer : {A : Type 0} (ys : List A) (x : A) → length ys + 1 ≤ most → capped_sum (length ys) 1 ≡ length (ys ++ (x ∷ []))
one_longer ys x h = sum_is (length ys) 1 h ∙ sym (length-append ys (x ∷ []))

-- ---- names

abbrev head_for : List ℕ → Head
head_for ys = record { n = length ys; at = first_padded names_kept 0 ys }

head_same : {n m : ℕ} {a b : List ℕ} → n ≡ m → a ≡ b → ◌≡◌ {A = Head} (record { n = n; at = a }) (record { n = m; at = b })
head_same p q = rw (p, q)

push_name : (ys : List ℕ) (c : ℕ) → length ys + 1 ≤ most → pushed_name (head_for ys) c ≡ head_for (ys ++ (c ∷ []))
unfolding pushed_name
push_name ys c h = head_same (one_longer ys c h) (one_more 0 names_kept ys c)

-- what is kept after further names
abbrev pub kept_names : Head → List Name → Head
kept_names h [] = h
kept_names h (n ∷ ns) = kept_names (pushed_name h (code_of n)) ns

kept_from : (ys : List ℕ) (ns : List Name) → length ys + length ns ≤ most → kept_names (head_for ys) ns ≡ head_for (ys ++ map code_of ns)
kept_from ys [] h = ap head_for (sym (append-nil ys))
kept_from ys (n ∷ ns) h =
    let c : ℕ = code_of n in
    let l : length (ys ++ (c ∷ [])) ≡ length ys + 1 = length-append ys (c ∷ []) in
    ap (λ (x : Head). kept_names x ns) (push_name ys c (omega arith))
    ∙ kept_from (ys ++ (c ∷ [])) ns (omega arith)
    ∙ ap head_for (append_assoc ys (c ∷ []) (map code_of ns))

pub kept_names_lem : (ns : List Name) → length ns ≤ most → kept_names no_head ns ≡ seen_head ns
unfolding seen_head
kept_names_lem ns h = kept_from [] ns (omega arith) ∙ head_same (length-map ns code_of) refl

-- ---- operands

abbrev operands_for : List Slot → Operands
operands_for ys = record { n = length ys; at = first_padded operands_kept spare ys }

operands_same : {n m : ℕ} {a b : List Slot} → n ≡ m → a ≡ b → ◌≡◌ {A = Operands} (record { n = n; at = a }) (record { n = m; at = b })
operands_same p q = rw (p, q)

push_tree : (ys : List Slot) (o : OperandTree) → length ys + 1 ≤ most → pushed_tree (operands_for ys) (seen_operand o) ≡ operands_for (ys ++ (slot o ∷ []))
unfolding pushed_tree
push_tree ys o h = operands_same (one_longer ys (slot o) h) (one_more spare operands_kept ys (slot o))

abbrev pub kept_operands : Operands → List OperandTree → Operands
kept_operands h [] = h
kept_operands h (o ∷ os) = kept_operands (pushed_tree h (seen_operand o)) os

kept_on : (ys : List Slot) (os : List OperandTree) → length ys + length os ≤ most → kept_operands (operands_for ys) os ≡ operands_for (ys ++ map slot os)
kept_on ys [] h = ap operands_for (sym (append-nil ys))
kept_on ys (o ∷ os) h =
    let l : length (ys ++ (slot o ∷ [])) ≡ length ys + 1 = length-append ys (slot o ∷ []) in
    ap (λ (x : Operands). kept_operands x os) (push_tree ys o (omega arith))
    ∙ kept_on (ys ++ (slot o ∷ [])) os (omega arith)
    ∙ ap operands_for (append_assoc ys (slot o ∷ []) (map slot os))

pub kept_operands_lem : (os : List OperandTree) → length os ≤ most → kept_operands no_operands os ≡ seen_operands os
unfolding seen_operands
kept_operands_lem os h = kept_on [] os (omega arith) ∙ operands_same (length-map os slot) refl

-- ---- what stands at a place of what is kept

pub kept_at : {A : Type 0} (past : A) (k i : ℕ) (l : List A) → i < k → get_or (first_padded k past l) i past ≡ get_or l i past
kept_at past k i l h = get_or-take k (l ++ replicate k past) i past h ∙ go (ltb i (length l)) refl
  where
    go : (t : Bool) → ltb i (length l) ≡ t → get_or (l ++ replicate k past) i past ≡ get_or l i past
    go true e = get_or-append l (replicate k past) past i (ltb-true i (length l) e)
    go false e =
        let j = ltb-false i (length l) e in
        let q : i ≡ length l + (i - length l) = omega arith in
        ap (λ (n : ℕ). get_or (l ++ replicate k past) n past) q
        ∙ get_or-append-add l (replicate k past) (i - length l) past
        ∙ get_or-replicate k (i - length l) past past (omega arith)
        ∙ sym (get_or-eq_default l past j)

pub name_at_lem : (ns : List Name) (i : ℕ) → i < names_kept → get_or (seen_head ns).at i 0 ≡ get_or (map code_of ns) i 0
unfolding seen_head
name_at_lem ns i h = kept_at 0 names_kept i (map code_of ns) h

pub operand_at : (os : List OperandTree) (i : ℕ) → i < operands_kept → get_or (seen_operands os).at i spare ≡ get_or (map slot os) i spare
unfolding seen_operands
operand_at os i h = kept_at spare operands_kept i (map slot os) h
