-- T-14: lines of lanes one after another, whatever the lines of a lane are: what holds of each, what they answer, what they leave. Assumes nothing.
use Rattle.std.specs.Prelude.{ℕ, zero, suc, ◌+◌, ◌<◌, ◌≤◌, ◌≡◌, refl, Bool, true, false, cond, List, [], ◌∷◌, ◌++◌, map, ℤ}
use Rattle.std.proofs.Common.{arith, sym, ap, ap₂, subst, ◌∙◌, length-set, set-set, lt-ltb}
use Rattle.std.proofs.lemmas.List.{set-get_or, set_comm}
use Rattle.signs.specs.Lists.{Listed}
use Rattle.signs.specs.Lists.Listed.{here, later}
use Rattle.record.specs.Registers.{Files, with_file, word, r, at, Inside, is_inside, word_count}
use Rattle.record.specs.Operands.{mask_fits}
use Rattle.record.specs.declared.Word.{Word}
use Rattle.record.specs.declared.LaneWidth.{LaneWidth}
use Rattle.record.specs.declared.LaneWidth.TheVariants.{Half, Byte}
use Rattle.record.specs.declared.Mask.{Mask}
use Rattle.record.specs.declared.File.TheVariants.{Words}
use Rattle.record.specs.declared.Lanes.{Lanes}
use Rattle.record.specs.declared.Scalar.{Scalar}
use Rattle.record.specs.declared.Guard.{Guard}
use Rattle.record.specs.declared.Record.{Record}
use Rattle.record.specs.declared.Target.{Target}
use Rattle.rules.specs.Numbers.{lanes}
use Rattle.rules.specs.Execution.{arithmetic_of, vset_of, form_of, form_size, mask_at, group_of}
use Rattle.rules.specs.Targets.{Allowed}
use Rattle.rules.specs.Executing.{word_of, selected_word, form_c, form_d, write, writes, put, after, sizes_fit, Admitted, guard_holds, done, skipped, run}
use Rattle.rules.specs.LaneScalars.{Operation, compares, computes, scalar_of, ScalarLine, lines_from, all_lanes, run_all, answers_all}
use Rattle.laws.specs.PlaceLaws.{off}
use Rattle.laws.specs.OutcomeLaws.{executes, skips}
use Rattle.laws.specs.RunLaws.{left_by}
use Rattle.laws.specs.LaneLaws.{is_signed_of, scalar_z, step_of, past_unmasked, chain, chain_group}

-- ==== a word put into the files

pub word_range : (w : Word) → Inside (r w) → is_inside (r w) ≡ true
word_range w h = lt-ltb w.0 word_count h

-- the files with other words
abbrev with_words : Files → List ℕ → Files
with_words f ws = with_file Words ws f

pub put_put : (n u v : ℕ) (f : Files) → put (word n) v (put (word n) u f) ≡ put (word n) v f
put_put n u v f = ap (with_words f) (set-set f.words n u v)

pub put_past : (m n u v : ℕ) (f : Files) → (m ≡ n → ⊥) → put (word m) u (put (word n) v f) ≡ put (word n) v (put (word m) u f)
put_past m n u v f h = ap (with_words f) (set_comm f.words n m v u (λ e. h (sym e)))

-- what is there already
pub put_back : (n : ℕ) (f : Files) → put (word n) (at f (word n)) f ≡ f
put_back n f = ap (with_words f) (set-get_or f.words n 0)

pub put_admitted : (n v : ℕ) (f : Files) → Admitted f → Admitted (put (word n) v f)
unfolding sizes_fit
put_admitted n v f ok = record { sizes = rw (length-set f.words n v) ok.sizes; bits = ok.bits }

-- ==== lines of scalar video under a guard

pub scalar_writes : (target : Target) (o : Operation) (s : Scalar) (f : Files)
    → writes target (scalar_of o s) f
    ≡ write (r (form_d s.form))
    (form_of (is_signed_of o) s.form (form_c f.words s.form)
    (scalar_z o (form_size s.form) s (word_of f.words (selected_word s.a)) (word_of f.words (selected_word s.b)))) ∷ []
unfolding writes vset_of arithmetic_of
scalar_writes target (compares cmp) s f = refl
scalar_writes target (computes op dtype sat) s f = refl

-- a line that the target allows answers done where its guard holds, else skipped
pub answer_by_guard : (target : Target) (y : Record) → Allowed target y → (f : Files) → Admitted f → (t : Bool) → guard_holds f.preds y.guard ≡ t → (run target y f).answer ≡ cond t done skipped
answer_by_guard target y allowed f admitted true t = ap (λ q. q.answer) (executes target y f allowed admitted t)
answer_by_guard target y allowed f admitted false t = ap (λ q. q.answer) (skips target y f allowed admitted t)

-- a line of scalar video moves at most one word
one_word : (target : Target) (g : Guard) (y : Record) → ScalarLine target g y → (f : Files) (P : Files → Type 0) → P f → ((n v : ℕ) → P (put (word n) v f)) → P (run target y f).files
unfolding after
one_word target g y k f P same moved = left_by target y f P same (rw (k.scalar, scalar_writes target k.o k.s f) (moved _ _))

-- the guard and the admitted files
abbrev Under : Guard → Bool → Files → Type 0
Under g t f = Admitted f × (guard_holds f.preds g ≡ t)

-- one after another, all answer alike,
pub all_answer : (target : Target) (g : Guard) (t : Bool) (ys : List Record) → ((y : Record) → Listed y ys → ScalarLine target g y) → (f : Files) → Admitted f → guard_holds f.preds g ≡ t
    → answers_all target ys f ≡ map (λ (y : Record). cond t done skipped) ys
all_answer target g t [] each f ok guard = refl
all_answer target g t (y ∷ ys) each f ok guard =
    let k = each y (here refl) in
    let h = one_word target g y k f (Under g t) (ok, guard) (λ n v. (put_admitted n v f ok, guard)) in
    ap₂ ◌∷◌ (answer_by_guard target y k.allowed f ok t (ap (guard_holds f.preds) k.guarded ∙ guard))
    (all_answer target g t ys (λ z m. each z (later m)) (run target y f).files h.0 h.1)

-- and where the guard does not hold, nothing moves
pub all_skipped : (target : Target) (g : Guard) (ys : List Record) → ((y : Record) → Listed y ys → ScalarLine target g y) → (f : Files) → Admitted f → guard_holds f.preds g ≡ false → run_all target ys f ≡ f
all_skipped target g [] each f ok guard = refl
all_skipped target g (y ∷ ys) each f ok guard =
    let k = each y (here refl) in
    ap (λ q. run_all target ys q.files) (skips target y f k.allowed ok (ap (guard_holds f.preds) k.guarded ∙ guard))
    ∙ all_skipped target g ys (λ z m. each z (later m)) f ok guard

-- ==== the lines of the lanes

-- a legal mask names some lane
pub some_masked : (w : LaneWidth) (m : Mask) → mask_fits w m ≡ true → (i : ℕ) × (i < lanes w) × (mask_at m i ≡ true)
some_masked w m e = go w m.lane0 m.lane1 m.lane2 m.lane3 refl refl refl refl e
  where
    go : (w : LaneWidth) (a b c d : Bool) → m.lane0 ≡ a → m.lane1 ≡ b → m.lane2 ≡ c → m.lane3 ≡ d → mask_fits w m ≡ true → (i : ℕ) × (i < lanes w) × (mask_at m i ≡ true)
    go Half true b c d p q s t e = (0, omega arith, p)
    go Half false true c d p q s t e = (1, omega arith, q)
    go Half false false true d p q s t e = off (sym (rw (p, q, s) at e))
    go Half false false false true p q s t e = off (sym (rw (p, q, s, t) at e))
    go Half false false false false p q s t e = off (sym (rw (p, q, s, t) at e))
    go Byte true b c d p q s t e = (0, omega arith, p)
    go Byte false true c d p q s t e = (1, omega arith, q)
    go Byte false false true d p q s t e = (2, omega arith, s)
    go Byte false false false true p q s t e = (3, omega arith, t)
    go Byte false false false false p q s t e = off (sym (rw (p, q, s, t) at e))

listed_among : (y : Record) (xs ys : List Record) {A : Type 0} → (Listed y xs → A) → (Listed y ys → A) → Listed y (xs ++ ys) → A
listed_among y [] ys f g q = g q
listed_among y (x ∷ xs) ys f g (here q) = f (here q)
listed_among y (x ∷ xs) ys f g (later q) = listed_among y xs ys (λ m. f (later m)) g q

run_append : (target : Target) (xs ys : List Record) (f : Files) → run_all target (xs ++ ys) f ≡ run_all target ys (run_all target xs f)
run_append target [] ys f = refl
run_append target (x ∷ xs) ys f = run_append target xs ys (run target x f).files

module _ (of : ℕ → Word → List Record) (l : Lanes) (e : Word) where
  -- what holds of the lines of each lane, whichever register of the file they take, holds of all
  module _ (P : Record → Type 0) (in_e : is_inside (r e) ≡ true) (each : (i : ℕ) (c : Word) → is_inside (r c) ≡ true → (y : Record) → Listed y (of i c) → P y) where
    from_each : (n i : ℕ) (c : Word) → is_inside (r c) ≡ true → (y : Record) → Listed y (lines_from of l.mask e n i c) → P y
    from_each zero i c k y m = elim m [ ]
    from_each (suc n) i c k y m = go (mask_at l.mask i) m (λ d h. from_each n (suc i) d h y)
      where
        go : (m : Bool) → Listed y (cond m (of i c ++ lines_from of l.mask e n (suc i) e) (lines_from of l.mask e n (suc i) c))
            → ((d : Word) → is_inside (r d) ≡ true → Listed y (lines_from of l.mask e n (suc i) d) → P y)
            → P y
        go true q next = listed_among y (of i c) (lines_from of l.mask e n (suc i) e) (each i c k y) (next e in_e) q
        go false q next = next c k q

    pub lanes_each : is_inside (r l.c) ≡ true → (y : Record) → Listed y (all_lanes l of e) → P y
    lanes_each k y m = from_each (lanes l.width) 0 l.c k y m

  -- what is left with v in e: where each lane's lines lead from there to one step more, all of them lead to the group of lanes
  module _ (target : Target) (t : ℕ → ℤ) (signed : Bool) (f : Files) (Left : ℕ → Files → Type 0) (first : (i : ℕ) → i < lanes l.width → Left (step_of l signed i (at f (r l.c)) (t i)) (run_all target (of i l.c) f)) (next : (i v : ℕ) (g : Files) → i < lanes l.width → Left v g → Left (step_of l signed i v (t i)) (run_all target (of i e) g)) where
    later_lanes : (n i v : ℕ) (g : Files) → n + i ≡ lanes l.width → Left v g → Left (chain l t signed n i v) (run_all target (lines_from of l.mask e n i e) g)
    later_lanes zero i v g q k = k
    later_lanes (suc n) i v g q k = go (mask_at l.mask i) (λ u y. later_lanes n (suc i) u y (omega arith))
      where
        go : (m : Bool) → ((u : ℕ) (y : Files) → Left u y → Left (chain l t signed n (suc i) u) (run_all target (lines_from of l.mask e n (suc i) e) y))
            → Left (cond m (chain l t signed n (suc i) (step_of l signed i v (t i))) (chain l t signed n (suc i) v))
            (run_all target (cond m (of i e ++ lines_from of l.mask e n (suc i) e) (lines_from of l.mask e n (suc i) e)) g)
        go true rest = rw (run_append target (of i e) (lines_from of l.mask e n (suc i) e) g) (rest _ (run_all target (of i e) g) (next i v g (omega arith) k))
        go false rest = rest v g k

    all_lanes_lem : (n i j : ℕ) → n + i ≡ lanes l.width → i ≤ j → j < n + i → mask_at l.mask j ≡ true
        → Left (chain l t signed n i (at f (r l.c))) (run_all target (lines_from of l.mask e n i l.c) f)
    all_lanes_lem zero i j q p k m = absurd (omega arith)
    all_lanes_lem (suc n) i j q p k m = go (mask_at l.mask i) refl (λ h. all_lanes_lem n (suc i) j (omega arith) h (omega arith) m)
      where
        go : (s : Bool) → mask_at l.mask i ≡ s → (suc i ≤ j → Left (chain l t signed n (suc i) (at f (r l.c))) (run_all target (lines_from of l.mask e n (suc i) l.c) f))
            → Left (cond s (chain l t signed n (suc i) (step_of l signed i (at f (r l.c)) (t i))) (chain l t signed n (suc i) (at f (r l.c))))
            (run_all target (cond s (of i l.c ++ lines_from of l.mask e n (suc i) e) (lines_from of l.mask e n (suc i) l.c)) f)
        go true s rest =
            rw (run_append target (of i l.c) (lines_from of l.mask e n (suc i) e) f) (later_lanes n (suc i) _ (run_all target (of i l.c) f) (omega arith) (first i (omega arith)))
        go false s rest = rest (past_unmasked l.mask i j p s m)

    pub lanes_left : mask_fits l.width l.mask ≡ true → Left (group_of l t (at f (r l.c))) (run_all target (all_lanes l of e) f)
    lanes_left fit =
        let some = some_masked l.width l.mask fit in
        subst (λ v. Left v (run_all target (all_lanes l of e) f)) (chain_group l t signed (at f (r l.c)) some.0 some.1 some.2)
        (all_lanes_lem (lanes l.width) 0 some.0 (omega arith) (omega arith) (omega (arith, some.1)) some.2)
