-- Every line gets the answer that the rules give it, and no other: the first refusal in the documents' order that applies, or its record. Assumes
-- nothing.
use Rattle.std.specs.Prelude.{ℕ, ◌≤◌, ◌<◌, ◌≡◌, refl, Bool, true, false, ◌||◌, cond, List, [], ◌∷◌, length, eqb, ltb, Ok, Err}
use Rattle.std.proofs.Common.{arith, sym, ap, ap₂, subst, ◌∙◌, eqb-true, ltb-true, ltb-false}
use Rattle.record.specs.Refusals.{numbers_in_range, pair_apart, Legal}
use Rattle.record.specs.declared.Record.{Record}
use Rattle.record.specs.declared.Target.{Target}
use Rattle.record.specs.declared.Mode.{Mode}
use Rattle.rules.specs.Targets.{allows}
use Rattle.rules.specs.Strict.{passes, Readable}
use Rattle.rules.specs.Grammar.{LineTree, Shaped}
use Rattle.signs.specs.Lists.{Listed}
use Rattle.signs.specs.Lists.Listed.{here, later}
use Rattle.rules.specs.Reading.{Spells, Relates, line_limit, Applies, too_long, shapeless, unknown, rowless, unfit, outside, equal, too_old, against_self, reading_order, FirstOf, this, next, Placed, at_byte, at_opcode, at_modifier, at_guard, at_operand, at_register, at_second, placeless, Answer, read, refused, refused_at, Answers, accepts, refuses, refuses_at}
use Rattle.laws.specs.PlaceLaws.{off, legal_parts, inside_spelled, outside_spelled, outside_listed, apart_spelled, equal_spelled}
use Rattle.heads.specs.Sound.{row_listed}
use Rattle.read.specs.Refuses.{Refuses, over_160, no_shape, no_opcode, no_row, no_fit, out_of_file, same_pair, old_target, same_part, Decides, decides_read, decides_refused}
use Rattle.places.specs.Mirror.{place_of}
use Rattle.places.specs.PlacedLaws.{placed_2, placed_3, placed_4, placed_5, placed_6, placed_7, placed_only}
use Rattle.read.specs.Mirror.{Verdict, verdict_of, no_place, refused_by, answer_by, read_of}
use Rattle.read.specs.Laws.{decides, decides_unique, one_record, spelled_by_all}

-- ==== the reader's refusals, said of the line, the target and the mode alone

-- one refusal at most
one_refusal : (target : Target) (mode : Mode) (l : List ℕ) (n k : ℕ) → Refuses target mode l n → Refuses target mode l k → n ≡ k
one_refusal target mode l n k r q = let e : Err n ≡ Err k = decides_unique target mode l (Err n) (Err k) (decides_refused r) (decides_refused q) in cc

applies : (target : Target) (mode : Mode) (l : List ℕ) (n : ℕ) → Refuses target mode l n → Applies target mode l n
applies target mode l n (over_160 h) = too_long h
applies target mode l n (no_shape h k) = shapeless k
applies target mode l n (no_opcode h t s k) = unknown t s k
applies target mode l n (no_row h t s o k) = rowless t s k
applies target mode l n (no_fit h t s i r k) = unfit t s i r k
applies target mode l n (out_of_file h t s m f e) = let o = outside_spelled t m f.spells e in let q = outside_listed o.1 in outside t s o.0 q.0 q.1 q.2
applies target mode l n (old_target m r h a) = too_old m r a
applies target mode l n (same_part m r h b) = against_self m r b
applies target mode l n (same_pair h t s m f e k) = let q = equal_spelled t m f.spells k in equal t s q.0 q.1

-- ==== no earlier one applies

module _ (target : Target) (mode : Mode) (l : List ℕ) where
  apart : (n k : ℕ) → (n ≡ k → ⊥) → Refuses target mode l n → Refuses target mode l k → ⊥
  apart n k p r q = p (one_refusal target mode l n k r q)

  no_1 : length l ≤ line_limit → Applies target mode l 1 → ⊥
  no_1 h (too_long k) = omega arith

  no_2 : (t : LineTree) → Shaped l t → Applies target mode l 2 → ⊥
  no_2 t s (shapeless z) = z t s

  module _ (short : length l ≤ line_limit) (first : Refuses target mode l 3 → ⊥) where
    no_3 : Applies target mode l 3 → ⊥
    no_3 (unknown t s z) = first (no_opcode short t s z)

    no_4 : (Refuses target mode l 4 → ⊥) → Applies target mode l 4 → ⊥
    no_4 second (rowless t s z) = first (no_opcode short t s (λ o. second (no_row short t s o z)))

  no_5 : length l ≤ line_limit → (Refuses target mode l 5 → ⊥) → Applies target mode l 5 → ⊥
  no_5 h fifth (unfit t s i r z) = fifth (no_fit h t s i r z)

  no_6 : length l ≤ line_limit → (t : LineTree) → Shaped l t → (m : Record) → Spells t m → numbers_in_range m ≡ true → Applies target mode l 6 → ⊥
  no_6 h t s m k e (outside u v n q a b) = let c = inside_spelled u m (spelled_by_all l h t u s v m k) e n q a in omega arith

  no_7 : length l ≤ line_limit → (t : LineTree) → Shaped l t → (m : Record) → Spells t m → pair_apart m ≡ true → Applies target mode l 7 → ⊥
  no_7 h t s m k e (equal u v n a) = apart_spelled u m (spelled_by_all l h t u s v m k) e n a

  no_12 : (m : Record) → Relates l m → allows target m ≡ true → Applies target mode l 12 → ⊥
  no_12 m r e (too_old k q a) = off (sym (ap (allows target) (one_record l k m q r) ∙ e) ∙ a)

  no_15 : (m : Record) → Relates l m → passes mode m ≡ true → Applies target mode l 15 → ⊥
  no_15 m r e (against_self k q b) = off (sym (ap (passes mode) (one_record l k m q r) ∙ e) ∙ b)

  -- a line that spells a legal record has none of 1 to 7
  past_7 : (n : ℕ) → 7 < n → Refuses target mode l n → (m : Record) → Relates l m → Legal m → FirstOf target mode l n (12 ∷ 15 ∷ []) → FirstOf target mode l n reading_order
  past_7 n g r m q h f =
      let a = apart n 3 (λ e. omega arith) r in
      let b = apart n 4 (λ e. omega arith) r in
      let c = apart n 5 (λ e. omega arith) r in
      let k = legal_parts m h in
      next (no_1 q.short)
      (next (no_2 q.tree q.shaped)
      (next (no_3 q.short a)
      (next (no_4 q.short a b)
      (next (no_5 q.short c)
      (next (no_6 q.short q.tree q.shaped m q.spells k.2) (next (no_7 q.short q.tree q.shaped m q.spells k.3) f))))))

  -- the reader's refusal is the first that applies
  pub first_of : (n : ℕ) → Refuses target mode l n → FirstOf target mode l n reading_order
  first_of n (over_160 h) = this (too_long h)
  first_of n (no_shape h k) = next (no_1 h) (this (shapeless k))
  first_of n (no_opcode h t s k) = next (no_1 h) (next (no_2 t s) (this (unknown t s k)))
  first_of n (no_row h t s o k) =
      let r = no_row h t s o k in
      next (no_1 h) (next (no_2 t s) (next (no_3 h (apart 4 3 (λ e. omega arith) r)) (this (rowless t s k))))
  first_of n (no_fit h t s i c k) =
      let r = no_fit h t s i c k in
      let a = apart 5 3 (λ e. omega arith) r in
      next (no_1 h) (next (no_2 t s) (next (no_3 h a) (next (no_4 h a (apart 5 4 (λ e. omega arith) r)) (this (unfit t s i c k)))))
  first_of n (out_of_file h t s m f e) =
      let r = out_of_file h t s m f e in
      let a = apart 6 3 (λ e. omega arith) r in
      let b = apart 6 4 (λ e. omega arith) r in
      next (no_1 h) (next (no_2 t s) (next (no_3 h a) (next (no_4 h a b) (next (no_5 h (apart 6 5 (λ e. omega arith) r)) (this (applies target mode l 6 r))))))
  first_of n (same_pair h t s m f e k) =
      let r = same_pair h t s m f e k in
      let a = apart 7 3 (λ e. omega arith) r in
      let b = apart 7 4 (λ e. omega arith) r in
      let c = apart 7 5 (λ e. omega arith) r in
      next (no_1 h)
      (next (no_2 t s) (next (no_3 h a) (next (no_4 h a b) (next (no_5 h c) (next (no_6 h t s m f.spells e) (this (applies target mode l 7 r)))))))
  first_of n (old_target m q h o) = past_7 12 (omega arith) (old_target m q h o) m q h (this (too_old m q o))
  first_of n (same_part m q h b) = past_7 15 (omega arith) (same_part m q h b) m q h.legal (next (no_12 m q h.allowed) (this (against_self m q b)))

-- ==== an accepted line

-- no refusal applies to it
pub accepted_none : (target : Target) (mode : Mode) (l : List ℕ) (m : Record) → Relates l m → Readable target mode m → (n : ℕ) → Applies target mode l n → ⊥
accepted_none target mode l m r h n (too_long k) = let s = r.short in omega arith
accepted_none target mode l m r h n (shapeless z) = z r.tree r.shaped
accepted_none target mode l m r h n (unknown t s z) =
    z (row_listed m.instruction t.opcode t.modifiers (spelled_by_all l r.short r.tree t r.shaped s m r.spells).head)
accepted_none target mode l m r h n (rowless t s z) =
    z m.instruction (record { names = (spelled_by_all l r.short r.tree t r.shaped s m r.spells).head; fit = (legal_parts m h.allowed.legal).0 })
accepted_none target mode l m r h n (unfit t s i w z) =
    let k = legal_parts m h.allowed.legal in
    z m (record { spells = spelled_by_all l r.short r.tree t r.shaped s m r.spells; modifiers = k.0; operands = k.1 })
accepted_none target mode l m r h n (outside t s k q a b) = no_6 target mode l r.short r.tree r.shaped m r.spells (legal_parts m h.allowed.legal).2 (outside t s k q a b)
accepted_none target mode l m r h n (too_old k q a) = no_12 target mode l m r h.allowed.allowed (too_old k q a)
accepted_none target mode l m r h n (against_self k q b) = no_15 target mode l m r h.passed (against_self k q b)
accepted_none target mode l m r h n (equal t s k a) = no_7 target mode l r.short r.tree r.shaped m r.spells (legal_parts m h.allowed.legal).3 (equal t s k a)

-- ==== the place

-- the reader's place of a refusal is the rules'
placed : (target : Target) (mode : Mode) (l : List ℕ) (n : ℕ) → Refuses target mode l n → (no_place n ≡ false) → Placed l n (place_of n l)
placed target mode l n (over_160 h) e = off e
placed target mode l n (old_target m r h a) e = off e
placed target mode l n (same_part m r h b) e = off e
placed target mode l n (no_shape h k) e = placed_2 l
placed target mode l n (no_opcode h t s k) e = placed_3 l h t s
placed target mode l n (no_row h t s o k) e = placed_4 l h t s
placed target mode l n (no_fit h t s i r k) e = placed_5 l h t s i r
placed target mode l n (out_of_file h t s m f k) e = placed_6 l h t s m f.spells k
placed target mode l n (same_pair h t s m f k j) e = placed_7 l h t s m f.spells j

-- one place at most
pub placed_one : (l : List ℕ) → length l ≤ line_limit → (n p q : ℕ) → Placed l n p → Placed l n q → p ≡ q
placed_one l h n p q x y = placed_only l h n p x ∙ sym (placed_only l h n q y)

-- and 1, 12 and 15 have none
between : (l : List ℕ) (n p : ℕ) → Placed l n p → (1 < n) × (n < 12)
between l n p (at_byte f) = (omega arith, omega arith)
between l n p (at_opcode t s) = (omega arith, omega arith)
between l n p (at_modifier t s k f) = (omega arith, omega arith)
between l n p (at_guard t s k) = (omega arith, omega arith)
between l n p (at_operand t s g h k f) = (omega arith, omega arith)
between l n p (at_register t s o) = (omega arith, omega arith)
between l n p (at_second t s q e) = (omega arith, omega arith)

pub placeless_unplaced : (l : List ℕ) (n p : ℕ) → Listed n placeless → Placed l n p → ⊥
placeless_unplaced l n p (here e) x = let k = between l n p x in omega arith
placeless_unplaced l n p (later (here e)) x = let k = between l n p x in omega arith
placeless_unplaced l n p (later (later (later x22))) x = elim x22 [ ]
placeless_unplaced l n p (later (later (here e))) x = let k = between l n p x in omega arith

-- a line that gets another is not too long
pub short_line : (target : Target) (mode : Mode) (l : List ℕ) (n p : ℕ) → FirstOf target mode l n reading_order → Placed l n p → length l ≤ line_limit
short_line target mode l n p (this a) x = let k = between l n p x in absurd (omega arith)
short_line target mode l n p (next z f) x = go (ltb line_limit (length l)) refl
  where
    go : (b : Bool) → ltb line_limit (length l) ≡ b → length l ≤ line_limit
    go true e = absurd (z (too_long (ltb-true line_limit (length l) e)))
    go false e = ltb-false line_limit (length l) e

-- ==== every line

no_place_listed : (n : ℕ) → no_place n ≡ true → Listed n placeless
no_place_listed n e = go (eqb n 1) refl (eqb n 12) refl e
  where
    go : (b : Bool) → eqb n 1 ≡ b → (c : Bool) → eqb n 12 ≡ c → b || c || eqb n 15 ≡ true → Listed n placeless
    go true h c i k = here (eqb-true n 1 h)
    go false h true i k = later (here (eqb-true n 12 i))
    go false h false i k = later (later (here (eqb-true n 15 k)))

-- the reader's answer is the rules'
refused_answers : (target : Target) (mode : Mode) (l : List ℕ) (n : ℕ) → Refuses target mode l n → Answers target mode l (refused_by n l)
unfolding refused_by
refused_answers target mode l n r = go (no_place n) refl
  where
    go : (b : Bool) → no_place n ≡ b → Answers target mode l (cond b (refused n) (refused_at n (place_of n l)))
    go true e = refuses (first_of target mode l n r) (no_place_listed n e)
    go false e = refuses_at (first_of target mode l n r) (placed target mode l n r e)

answered : (target : Target) (mode : Mode) (l : List ℕ) (v : Verdict) → Decides target mode l v → Answers target mode l (answer_by v l)
answered target mode l (Ok m) (decides_read k r h) = accepts m r h
answered target mode l (Err n) (decides_refused r) = refused_answers target mode l n r

pub answers_by : (target : Target) (mode : Mode) (l : List ℕ) (v : Verdict) → v ≡ verdict_of target mode l → Answers target mode l (answer_by v l)
answers_by target mode l v e = answered target mode l v (subst (Decides target mode l) (sym e) (decides target mode l))

pub answers : (target : Target) (mode : Mode) (l : List ℕ) → Answers target mode l (read_of target mode l)
unfolding read_of
answers target mode l = answers_by target mode l (verdict_of target mode l) refl

-- ==== and no other

-- one number is the first
first_one : (target : Target) (mode : Mode) (l : List ℕ) (n k : ℕ) (ns : List ℕ) → FirstOf target mode l n ns → FirstOf target mode l k ns → n ≡ k
first_one target mode l n k [] x'' _ = elim x'' [ ]
first_one target mode l n k (x ∷ ns) (this a) (this b) = refl
first_one target mode l n k (x ∷ ns) (this a) (next b q) = absurd (b a)
first_one target mode l n k (x ∷ ns) (next a p) (this b) = absurd (a b)
first_one target mode l n k (x ∷ ns) (next a p) (next b q) = first_one target mode l n k ns p q

-- the first of a list applies
pub first_applies : (target : Target) (mode : Mode) (l : List ℕ) (n : ℕ) (ns : List ℕ) → FirstOf target mode l n ns → Applies target mode l n
first_applies target mode l n [] x' = elim x' [ ]
first_applies target mode l n (x ∷ ns) (this a) = a
first_applies target mode l n (x ∷ ns) (next a p) = first_applies target mode l n ns p

-- no line gets two answers
pub answers_unique : (target : Target) (mode : Mode) (l : List ℕ) (a b : Answer) → Answers target mode l a → Answers target mode l b → a ≡ b
answers_unique target mode l (read m) (read k) (accepts x r h) (accepts y s i) = ap read (one_record l m k r s)
answers_unique target mode l (read m) (refused k) (accepts x r h) (refuses q i) = absurd (accepted_none target mode l m r h k (first_applies target mode l k reading_order q))
answers_unique target mode l (read m) (refused_at k b) (accepts x r h) (refuses_at q i) = absurd (accepted_none target mode l m r h k (first_applies target mode l k reading_order q))
answers_unique target mode l (refused n) (read k) (refuses p j) (accepts y s i) = absurd (accepted_none target mode l k s i n (first_applies target mode l n reading_order p))
answers_unique target mode l (refused n) (refused k) (refuses p j) (refuses q i) = ap refused (first_one target mode l n k reading_order p q)
answers_unique target mode l (refused n) (refused_at k b) (refuses p j) (refuses_at q i) =
    absurd (placeless_unplaced l n b j (subst (λ (x : ℕ). Placed l x b) (first_one target mode l k n reading_order q p) i))
answers_unique target mode l (refused_at n a) (read k) (refuses_at p j) (accepts y s i) = absurd (accepted_none target mode l k s i n (first_applies target mode l n reading_order p))
answers_unique target mode l (refused_at n a) (refused k) (refuses_at p j) (refuses q i) =
    absurd (placeless_unplaced l k a i (subst (λ (x : ℕ). Placed l x a) (first_one target mode l n k reading_order p q) j))
answers_unique target mode l (refused_at n a) (refused_at k b) (refuses_at p j) (refuses_at q i) =
    let e = first_one target mode l n k reading_order p q in
    ap₂ refused_at e (placed_one l (short_line target mode l k b q i) k a b (subst (λ (x : ℕ). Placed l x a) e j) i)

-- the first that applies is the reader's refusal: both forms say the same
pub of_first : (target : Target) (mode : Mode) (l : List ℕ) (n : ℕ) → FirstOf target mode l n reading_order → Refuses target mode l n
of_first target mode l n f = go (verdict_of target mode l) (decides target mode l)
  where
    go : (v : Verdict) → Decides target mode l v → Refuses target mode l n
    go (Ok m) (decides_read k r h) = absurd (accepted_none target mode l m r h n (first_applies target mode l n reading_order f))
    go (Err k) (decides_refused r) = subst (Refuses target mode l) (first_one target mode l k n reading_order (first_of target mode l k r) f) r

-- each refusal but 1, 12 and 15 has a place
pub placed_some : (target : Target) (mode : Mode) (l : List ℕ) (n : ℕ) → FirstOf target mode l n reading_order → (Listed n placeless → ⊥) → (p : ℕ) × Placed l n p
placed_some target mode l n f k = go (no_place n) refl
  where
    go : (b : Bool) → no_place n ≡ b → (p : ℕ) × Placed l n p
    go true e = absurd (k (no_place_listed n e))
    go false e = (place_of n l, placed target mode l n (of_first target mode l n f) e)

-- a line to which no refusal applies is accepted
pub none_accepted : (target : Target) (mode : Mode) (l : List ℕ) → ((n : ℕ) → Applies target mode l n → ⊥) → (m : Record) × Answers target mode l (read m)
none_accepted target mode l z = go (read_of target mode l) (answers target mode l)
  where
    go : (a : Answer) → Answers target mode l a → (m : Record) × Answers target mode l (read m)
    go (read m) (accepts x r h) = (m, accepts m r h)
    go (refused n) (refuses p i) = absurd (z n (first_applies target mode l n reading_order p))
    go (refused_at n p) (refuses_at q i) = absurd (z n (first_applies target mode l n reading_order q))
