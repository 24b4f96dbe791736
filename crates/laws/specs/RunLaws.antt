-- What `run` leaves in the files: which places move, what each destination holds, that nothing else moves. Assumes nothing.
use Rattle.std.specs.Prelude.{ℕ, ◌<◌, ◌+◌, ◌%◌, ◌≡◌, Bool, true, false, not, ◌&&◌, cond, List, [], ◌∷◌, ◌++◌, get_or, set, length, eqb, pos, ◌+ℤ◌}
use Rattle.std.proofs.Common.{arith, sym, subst, ◌∙◌, length-set, get_or-set_same, get_or-set_other, eqb-true, eq-eqb}
use Rattle.std.proofs.Math.Path.{refl, ap, ap₂}
use Rattle.std.proofs.Math.Bool.{and-eq-true_iff}
use Rattle.record.specs.Registers.{Files, file_of, with_file, Place, reg, pred, r, p, operand_place, at, Inside, SameLengths, count_of}
use Rattle.record.specs.Refusals.{Legal, instruction_apart, destination_apart}
use Rattle.record.specs.declared.File.{File}
use Rattle.record.specs.declared.File.TheVariants.{Words, Halves, Doubles, Preds}
use Rattle.record.specs.declared.Cmp6.{Cmp6}
use Rattle.record.specs.declared.LaneArith.{LaneArith}
use Rattle.record.specs.declared.VideoType.{VideoType}
use Rattle.record.specs.declared.Lanes.{Lanes}
use Rattle.record.specs.declared.Pred.{Pred}
use Rattle.record.specs.declared.Condition.{Condition}
use Rattle.record.specs.declared.Choice.{Choice}
use Rattle.record.specs.declared.Scalar.{Scalar}
use Rattle.record.specs.declared.Form.{Form}
use Rattle.record.specs.declared.Form.TheVariants.{Plain, Merge, Combine}
use Rattle.record.specs.declared.Guard.{Guard}
use Rattle.record.specs.declared.Guard.TheVariants.{Always, When}
use Rattle.record.specs.declared.BoolOp.{BoolOp}
use Rattle.record.specs.declared.Combination.{Combination}
use Rattle.record.specs.declared.Combination.TheVariants.{Alone, With}
use Rattle.record.specs.declared.Comparison.{Comparison}
use Rattle.record.specs.declared.Destination.{Destination}
use Rattle.record.specs.declared.Destination.TheVariants.{One, Pair, First, Second}
use Rattle.record.specs.declared.Instruction.{Instruction}
use Rattle.record.specs.declared.Instruction.TheVariants.{Arithmetic, Vset, VsetLanes, ArithmeticLanes, Set, Setp, Selp, Slct}
use Rattle.record.specs.declared.Record.{Record}
use Rattle.record.specs.declared.Target.{Target}
use Rattle.signs.specs.Lists.{Listed}
use Rattle.signs.specs.Lists.Listed.{here, later}
use Rattle.rules.specs.Numbers.{word_size, lane_size, lanes, part_at, low_of, bit}
use Rattle.rules.specs.Execution.{arithmetic_of, vset_of, comparison_of, set_of, selp_of, slct_of, lanes_of, arithmetic_lanes_of, mask_at, lane_holds, count, lane_result, sum_z, bool_of}
use Rattle.rules.specs.Targets.{Allowed, flushes, slct_type_at}
use Rattle.rules.specs.Executing.{places_of, operand_of, selected_word, form_c, form_sources, condition_holds, combination_sources, comparison_sources, scalar_sources, kept, Write, write, writes, form_d, destination_writes, destination_places, destinations, sources, guard_sources, put, put_all, after, pred_holds, combined_of, test_of, Outcome, run, guard_holds, size_fits, sizes_fit, Admitted}
use Rattle.laws.specs.OutcomeLaws.{executes, run_cases}
use Rattle.laws.specs.PlaceLaws.{legal_parts, legal_inside}
use Rattle.laws.specs.ExecutionLaws.{masked_gets_bit, unmasked_keeps_c, add_counts, masked_gets_low, unmasked_keeps_lane, add_sums}

-- what holds of the files lent, and of those after the instruction, holds of what is left
pub left_by : (target : Target) (x : Record) (f : Files) (P : Files → Type 0) → P f → P (after target x.instruction f) → P (run target x f).files
left_by target x f P h k = run_cases target x f (λ (o : Outcome). P o.files) h h h h k h

-- ==== one file and another

-- two files are one, or what is put into the first leaves the second as it was
data OneFile (j k : File) : Type 0 where
  same : j ≡ k → OneFile j k
  apart : ((l : List ℕ) (f : Files) → file_of (with_file j l f) k ≡ file_of f k) → OneFile j k

one_file : (j k : File) → OneFile j k
one_file Words Words = same refl
one_file Words Halves = apart (λ l f. refl)
one_file Words Doubles = apart (λ l f. refl)
one_file Words Preds = apart (λ l f. refl)
one_file Halves Words = apart (λ l f. refl)
one_file Halves Halves = same refl
one_file Halves Doubles = apart (λ l f. refl)
one_file Halves Preds = apart (λ l f. refl)
one_file Doubles Words = apart (λ l f. refl)
one_file Doubles Halves = apart (λ l f. refl)
one_file Doubles Doubles = same refl
one_file Doubles Preds = apart (λ l f. refl)
one_file Preds Words = apart (λ l f. refl)
one_file Preds Halves = apart (λ l f. refl)
one_file Preds Doubles = apart (λ l f. refl)
one_file Preds Preds = same refl

with_same : (k : File) (l : List ℕ) (f : Files) → file_of (with_file k l f) k ≡ l
with_same Words l f = refl
with_same Halves l f = refl
with_same Doubles l f = refl
with_same Preds l f = refl

-- ==== nothing else moves

destination_places_lem : (d : Destination) (t u : Bool) → places_of (destination_writes d t u) ≡ destination_places d
destination_places_lem (One a) t u = refl
destination_places_lem (Pair a b) t u = refl
destination_places_lem (First a) t u = refl
destination_places_lem (Second b) t u = refl

-- the places that are written are the record's destinations, whatever the files hold
pub writes_destinations : (target : Target) (i : Instruction) (f : Files) → places_of (writes target i f) ≡ destinations i
unfolding writes
writes_destinations target (Arithmetic op dtype sat s) f = refl
writes_destinations target (Vset cmp s) f = refl
writes_destinations target (VsetLanes cmp l) f = refl
writes_destinations target (ArithmeticLanes op dtype sat l) f = refl
writes_destinations target (Set dtype d s) f = refl
writes_destinations target (Setp d s) f = destination_places_lem d _ _
writes_destinations target (Selp s c) f = refl
writes_destinations target (Slct ctype s c) f = refl

other : (xs : List ℕ) (m n v : ℕ) → (m ≡ n → ⊥) → get_or (set xs m v) n 0 ≡ get_or xs n 0
other xs m n v h = get_or-set_other xs m n v 0 (λ e. h (sym e))

pub put_other : (q s : Place) (v : ℕ) (f : Files) → (s ≡ q → ⊥) → at (put s v f) q ≡ at f q
put_other (reg k n) (reg j m) v f h = go (one_file j k)
  where
    go : OneFile j k → at (put (reg j m) v f) (reg k n) ≡ at f (reg k n)
    go (same e) =
        rw e (ap (λ (l : List ℕ). get_or l n 0) (with_same k (set (file_of f k) m v) f) ∙ other (file_of f k) m n v (λ d. h (ap₂ reg e d)))
    go (apart a) = ap (λ (l : List ℕ). get_or l n 0) (a (set (file_of f j) m v) f)

put_all_other : (q : Place) (ws : List Write) (f : Files) → (Listed q (places_of ws) → ⊥) → at (put_all ws f) q ≡ at f q
put_all_other q [] f h = refl
put_all_other q (w ∷ ws) f h =
    put_all_other q ws (put w.place w.value f) (λ e. h (later e)) ∙ put_other q w.place w.value f (λ e. h (here (sym e)))

-- a place that is no destination of the record holds what it held
pub others_stay : (target : Target) (x : Record) (f : Files) (q : Place) → (Listed q (destinations x.instruction) → ⊥) → at (run target x f).files q ≡ at f q
unfolding after
others_stay target x f q h =
    left_by target x f (λ (g : Files). at g q ≡ at f q) refl
    (put_all_other q (writes target x.instruction f) f (λ e. h (subst (Listed q) (writes_destinations target x.instruction f) e)))

-- no file becomes longer or shorter

same_lengths : (f : Files) → SameLengths f f
same_lengths f k = refl

pub put_lengths : (q : Place) (v : ℕ) (f : Files) → SameLengths f (put q v f)
put_lengths (reg j n) v f k = go (one_file j k)
  where
    go : OneFile j k → length (file_of (put (reg j n) v f) k) ≡ length (file_of f k)
    go (same e) = rw e (ap length (with_same k (set (file_of f k) n v) f) ∙ length-set (file_of f k) n v)
    go (apart a) = ap length (a (set (file_of f j) n v) f)

put_all_lengths : (ws : List Write) (f : Files) → SameLengths f (put_all ws f)
put_all_lengths [] f k = refl
put_all_lengths (w ∷ ws) f k = put_all_lengths ws (put w.place w.value f) k ∙ put_lengths w.place w.value f k

pub lengths_stay : (target : Target) (x : Record) (f : Files) → SameLengths f (run target x f).files
unfolding after
lengths_stay target x f = left_by target x f (SameLengths f) (same_lengths f) (put_all_lengths (writes target x.instruction f) f)

-- ==== nothing but the sources is read

-- both files hold the same in each of the places
abbrev pub Agree : Files → Files → List Place → Type 0
Agree f g qs = (q : Place) → Listed q qs → at f q ≡ at g q

module _ (f g : Files) where
  form_same : (s : Form) → Agree f g (form_sources s) → form_c f.words s ≡ form_c g.words s
  form_same (Plain d) h = refl
  form_same (Merge d sel c) h = h (r c) (here refl)
  form_same (Combine op d c) h = h (r c) (here refl)

  condition_same : (c : Condition) → at f (p c.pred) ≡ at g (p c.pred) → condition_holds f.preds c ≡ condition_holds g.preds c
  condition_same c e = ap (λ (v : ℕ). cond c.inverted (not (eqb v 1)) (eqb v 1)) e

  combined_same : (c : Combination) (t : Bool) → Agree f g (combination_sources c) → combined_of f.preds c t ≡ combined_of g.preds c t
  unfolding combined_of
  combined_same Alone t h = refl
  combined_same (With op c) t h = ap (bool_of op t) (condition_same c (h (p c.pred) (here refl)))

  test_same : (target : Target) (s : Comparison) → Agree f g (comparison_sources s) → test_of target f s ≡ test_of target g s
  unfolding test_of
  test_same target s h =
      ap₂ (comparison_of s.cmp (flushes target s.ftz) s.stype) (h (operand_place s.a) (here refl))
      (h (operand_place s.b) (later (here refl)))

  outcome_same : (target : Target) (s : Comparison) → Agree f g (comparison_sources s) → (turn : Bool → Bool)
      → combined_of f.preds s.combination (turn (test_of target f s)) ≡ combined_of g.preds s.combination (turn (test_of target g s))
  outcome_same target s h turn =
      ap (λ (t : Bool). combined_of f.preds s.combination (turn t)) (test_same target s h)
      ∙ combined_same s.combination (turn (test_of target g s)) (λ q e. h q (later (later e)))

  lanes_same : (l : Lanes) (give : ℕ → ℕ → ℕ → ℕ) → Agree f g (r l.a ∷ r l.b ∷ r l.c ∷ [])
      → write (r l.d) (give (at f (r l.a)) (at f (r l.b)) (at f (r l.c))) ∷ []
      ≡ write (r l.d) (give (at g (r l.a)) (at g (r l.b)) (at g (r l.c))) ∷ []
  lanes_same l give h = rw (h (r l.a) (here refl), h (r l.b) (later (here refl)), h (r l.c) (later (later (here refl))))

  scalar_same : (s : Scalar) (give : ℕ → ℕ → ℕ → ℕ) → Agree f g (scalar_sources s)
      → write (r (form_d s.form)) (give (at f (r (selected_word s.a))) (at f (r (selected_word s.b))) (form_c f.words s.form)) ∷ []
      ≡ write (r (form_d s.form)) (give (at g (r (selected_word s.a))) (at g (r (selected_word s.b))) (form_c g.words s.form)) ∷ []
  scalar_same s give h =
      rw (h (r (selected_word s.a)) (here refl), h (r (selected_word s.b)) (later (here refl)), form_same s.form (λ q e. h q (later (later e))))

  choice_same : (s : Choice) (c : Place) (give : ℕ → ℕ → ℕ → ℕ) → Agree f g (operand_place s.a ∷ operand_place s.b ∷ c ∷ [])
      → write (operand_place s.d) (kept s.d (give (at f c) (operand_of f s.a) (operand_of f s.b))) ∷ []
      ≡ write (operand_place s.d) (kept s.d (give (at g c) (operand_of g s.a) (operand_of g s.b))) ∷ []
  choice_same s c give h =
      rw
      (h c (later (later (here refl))), h (operand_place s.a) (here refl), h (operand_place s.b) (later (here refl)))

  -- files that agree on the sources get the same writes
  pub reads_sources : (target : Target) (i : Instruction) → Agree f g (sources i) → writes target i f ≡ writes target i g
  unfolding writes
  reads_sources target (Arithmetic op dtype sat s) h = scalar_same s (arithmetic_of op dtype sat s) h
  reads_sources target (Vset cmp s) h = scalar_same s (vset_of cmp s) h
  reads_sources target (VsetLanes cmp l) h = lanes_same l (lanes_of cmp l) h
  reads_sources target (ArithmeticLanes op dtype sat l) h = lanes_same l (arithmetic_lanes_of op dtype sat l) h
  reads_sources target (Set dtype d s) h = ap (λ (t : Bool). write (r d) (set_of dtype t) ∷ []) (outcome_same target s h (λ t. t))
  reads_sources target (Setp d s) h = ap₂ (destination_writes d) (outcome_same target s h (λ t. t)) (outcome_same target s h not)
  reads_sources target (Selp s c) h = choice_same s (p c) selp_of h
  reads_sources target (Slct ctype s c) h = choice_same s (r c) (slct_of (slct_type_at target ctype)) h

  pub guard_reads_sources : (e : Guard) → Agree f g (guard_sources e) → guard_holds f.preds e ≡ guard_holds g.preds e
  unfolding guard_holds
  guard_reads_sources Always h = refl
  guard_reads_sources (When c) h = condition_same c (h (p c.pred) (here refl))

-- ==== each destination holds its value

-- no place twice
abbrev Distinct : List Place → Type 0
Distinct [] = Unit {0}
Distinct (q ∷ qs) = (Listed q qs → ⊥) × Distinct qs

-- files of 64, 32, 32 and 16 places
abbrev pub Sized : Files → Type 0
Sized f = (k : File) → length (file_of f k) ≡ count_of k

pub sized : (f : Files) → sizes_fit f ≡ true → Sized f
unfolding sizes_fit
sized f e k = of k (simp and-eq-true_iff at e)
  where
    of : (k : File) → (((size_fits f Words ≡ true) × (size_fits f Halves ≡ true)) × (size_fits f Doubles ≡ true)) × (size_fits f Preds ≡ true)
        → length (file_of f k) ≡ count_of k
    of Words h = eqb-true _ _ h.0.0.0
    of Halves h = eqb-true _ _ h.0.0.1
    of Doubles h = eqb-true _ _ h.0.1
    of Preds h = eqb-true _ _ h.1

put_sized : (q : Place) (v : ℕ) (f : Files) → Sized f → Sized (put q v f)
put_sized q v f s k = put_lengths q v f k ∙ s k

pub put_same : (q : Place) (v : ℕ) (f : Files) → Sized f → Inside q → at (put q v f) q ≡ v
put_same (reg k n) v f s h =
    ap (λ (l : List ℕ). get_or l n 0) (with_same k (set (file_of f k) n v) f) ∙ get_or-set_same (file_of f k) n v 0 (rw (s k) h)

put_all_holds : (ws : List Write) (f : Files) → Sized f → Distinct (places_of ws) → ((q : Place) → Listed q (places_of ws) → Inside q)
    → (w : Write) → Listed w ws → at (put_all ws f) w.place ≡ w.value
put_all_holds [] f s d h w x4 = elim x4 [ ]
put_all_holds (v ∷ ws) f s d h w (here e) =
    rw e (put_all_other v.place ws (put v.place v.value f) d.0 ∙ put_same v.place v.value f s (h v.place (here refl)))
put_all_holds (v ∷ ws) f s d h w (later e) =
    put_all_holds ws (put v.place v.value f) (put_sized v.place v.value f s) d.1 (λ q k. h q (later k)) w e

none_listed : {q : Place} (qs : List Place) → qs ≡ [] → Listed q qs → ⊥
none_listed {q = q} [] z x'' = elim x'' [ ]
none_listed (s ∷ qs) z (here e) = let y : ◌≡◌ {A = ℕ} 0 1 = cc in omega arith
none_listed (s ∷ qs) z (later e) = let y : ◌≡◌ {A = ℕ} 0 1 = cc in omega arith

one_place : (q : Place) → Distinct (q ∷ [])
one_place q = (none_listed [] refl, tt)

two_places : (a b : ℕ) → not (eqb a b) ≡ true → Distinct (pred a ∷ pred b ∷ [])
two_places a b e = (once (pred b ∷ []) refl, one_place (pred b))
  where
    once : (qs : List Place) → qs ≡ pred b ∷ [] → Listed (pred a) qs → ⊥
    once [] z x'' = elim x'' [ ]
    once (s ∷ qs) z (here k) =
        let y : a ≡ b = cc in
        let t : not (eqb a b) ≡ false = rw (eq-eqb a b y) in
        let u : true ≡ false = sym e ∙ t in
        let v : ◌≡◌ {A = ℕ} 0 1 = cc in
        omega arith
    once (s ∷ qs) z (later k) =
        let y : qs ≡ [] = cc in
        none_listed qs y k

destination_distinct : (d : Destination) → destination_apart d ≡ true → Distinct (destination_places d)
destination_distinct (One a) e = one_place (p a)
destination_distinct (Pair a b) e = two_places a.0 b.0 e
destination_distinct (First a) e = one_place (p a)
destination_distinct (Second b) e = one_place (p b)

-- both places of a legal pair are two
distinct : (i : Instruction) → instruction_apart i ≡ true → Distinct (destinations i)
distinct (Arithmetic op dtype sat s) e = one_place (r (form_d s.form))
distinct (Vset cmp s) e = one_place (r (form_d s.form))
distinct (VsetLanes cmp l) e = one_place (r l.d)
distinct (ArithmeticLanes op dtype sat l) e = one_place (r l.d)
distinct (Set dtype d s) e = one_place (r d)
distinct (Setp d s) e = destination_distinct d e
distinct (Selp s c) e = one_place (operand_place s.d)
distinct (Slct ctype s c) e = one_place (operand_place s.d)

among_front : (xs ys : List Place) {q : Place} → Listed q xs → Listed q (xs ++ ys)
among_front [] ys {q = q} x' = elim x' [ ]
among_front (x ∷ xs) ys (here e) = here e
among_front (x ∷ xs) ys (later e) = later (among_front xs ys e)

among_behind : (xs ys : List Place) {q : Place} → Listed q ys → Listed q (xs ++ ys)
among_behind [] ys e = e
among_behind (x ∷ xs) ys e = later (among_behind xs ys e)

destinations_inside : (x : Record) → Legal x → (q : Place) → Listed q (destinations x.instruction) → Inside q
destinations_inside x h q e =
    legal_inside x h q (among_behind (guard_sources x.guard) _ (among_front (destinations x.instruction) (sources x.instruction) e))

module _ (target : Target) (x : Record) (f : Files) (allowed : Allowed target x) (admitted : Admitted f) (guard : guard_holds f.preds x.guard ≡ true) where
  -- what is written is there afterwards, in every destination
  pub holds_written : (w : Write) → Listed w (writes target x.instruction f) → at (run target x f).files w.place ≡ w.value
  unfolding after
  holds_written w e =
      rw (executes target x f allowed admitted guard)
      (put_all_holds (writes target x.instruction f) f (sized f admitted.sizes)
      (subst Distinct (sym (writes_destinations target x.instruction f)) (distinct x.instruction (legal_parts x allowed.legal).3))
      (λ q k. destinations_inside x allowed.legal q (subst (Listed q) (writes_destinations target x.instruction f) k)) w e)

  -- ---- vset2 and vset4, lane by lane

  -- what the registers a, b and c of the forms with 2 and 4 held before
  abbrev a_of : Lanes → ℕ
  a_of l = at f (r l.a)

  abbrev b_of : Lanes → ℕ
  b_of l = at f (r l.b)

  abbrev c_of : Lanes → ℕ
  c_of l = at f (r l.c)

  module _ (cmp : Cmp6) (l : Lanes) (is : x.instruction ≡ VsetLanes cmp l) where
    pub vset_lanes_hold : at (run target x f).files (r l.d) ≡ lanes_of cmp l (a_of l) (b_of l) (c_of l)
    unfolding writes
    vset_lanes_hold = holds_written (write (r l.d) (lanes_of cmp l (a_of l) (b_of l) (c_of l))) (rw is (here refl))

    -- a masked lane gets 1 or 0 as its comparison holds
    pub masked_lane : l.add ≡ false → (i : ℕ) → i < lanes l.width → mask_at l.mask i ≡ true
        → part_at (lane_size l.width) (at (run target x f).files (r l.d)) i ≡ bit (lane_holds cmp l (a_of l) (b_of l) i)
    masked_lane plain i h m = rw vset_lanes_hold (masked_gets_bit cmp l (a_of l) (b_of l) (c_of l) plain i h m)

    -- a lane that the mask does not name keeps c's part
    pub unmasked_lane : l.add ≡ false → (i : ℕ) → i < lanes l.width → mask_at l.mask i ≡ false
        → part_at (lane_size l.width) (at (run target x f).files (r l.d)) i ≡ part_at (lane_size l.width) (c_of l) i
    unmasked_lane plain i h m = rw vset_lanes_hold (unmasked_keeps_c cmp l (a_of l) (b_of l) (c_of l) plain i h m)

    -- with `add`, d is c plus the number of masked lanes that hold, modulo 2^32
    pub add_counted : l.add ≡ true
        → at (run target x f).files (r l.d) ≡ (c_of l + count (lanes l.width) (λ i. mask_at l.mask i && lane_holds cmp l (a_of l) (b_of l) i)) % word_size
    add_counted e = rw vset_lanes_hold (add_counts cmp l (a_of l) (b_of l) (c_of l) e)

  -- ---- the twelve of T-01, lane by lane

  module _ (op : LaneArith) (dtype : VideoType) (sat : Bool) (l : Lanes) (is : x.instruction ≡ ArithmeticLanes op dtype sat l) where
    pub lanes_hold : at (run target x f).files (r l.d) ≡ arithmetic_lanes_of op dtype sat l (a_of l) (b_of l) (c_of l)
    unfolding writes
    lanes_hold = holds_written (write (r l.d) (arithmetic_lanes_of op dtype sat l (a_of l) (b_of l) (c_of l))) (rw is (here refl))

    -- a masked lane gets the low bits of its result
    pub masked_result : l.add ≡ false → (i : ℕ) → i < lanes l.width → mask_at l.mask i ≡ true
        → part_at (lane_size l.width) (at (run target x f).files (r l.d)) i ≡ low_of (lane_size l.width) (lane_result op dtype sat l (a_of l) (b_of l) i)
    masked_result plain i h m = rw lanes_hold (masked_gets_low op dtype sat l (a_of l) (b_of l) (c_of l) plain i h m)

    -- a lane that the mask does not name keeps c's part
    pub unmasked_result : l.add ≡ false → (i : ℕ) → i < lanes l.width → mask_at l.mask i ≡ false
        → part_at (lane_size l.width) (at (run target x f).files (r l.d)) i ≡ part_at (lane_size l.width) (c_of l) i
    unmasked_result plain i h m = rw lanes_hold (unmasked_keeps_lane op dtype sat l (a_of l) (b_of l) (c_of l) plain i h m)

    -- with `add`, d is c plus the exact results of the masked lanes, modulo 2^32
    pub add_summed : l.add ≡ true
        → at (run target x f).files (r l.d)
        ≡ low_of word_size (pos (c_of l) +ℤ sum_z (lanes l.width) (λ i. cond (mask_at l.mask i) (lane_result op dtype sat l (a_of l) (b_of l) i) (pos 0)))
    add_summed e = rw lanes_hold (add_sums op dtype sat l (a_of l) (b_of l) (c_of l) e)

  -- ---- setp, from the predicates before it: one place, or one of a pair that drops the other

  module _ (a : Pred) (s : Comparison) where
    -- BoolOp(t, c) alone
    pub one_holds : x.instruction ≡ Setp (One a) s → at (run target x f).files (p a) ≡ bit (combined_of f.preds s.combination (test_of target f s))
    unfolding writes
    one_holds is = holds_written (write (p a) (bit (combined_of f.preds s.combination (test_of target f s)))) (rw is (here refl))

    pub first_holds : x.instruction ≡ Setp (First a) s → at (run target x f).files (p a) ≡ bit (combined_of f.preds s.combination (test_of target f s))
    unfolding writes
    first_holds is = holds_written (write (p a) (bit (combined_of f.preds s.combination (test_of target f s)))) (rw is (here refl))

    -- BoolOp(not t, c) alone
    pub second_holds : x.instruction ≡ Setp (Second a) s
        → at (run target x f).files (p a) ≡ bit (combined_of f.preds s.combination (not (test_of target f s)))
    unfolding writes
    second_holds is =
        holds_written (write (p a) (bit (combined_of f.preds s.combination (not (test_of target f s))))) (rw is (here refl))

  -- ---- setp's two places, from the predicates before either is written

  module _ (a b : Pred) (s : Comparison) (is : x.instruction ≡ Setp (Pair a b) s) where
    -- BoolOp(t, c)
    pub first_place : at (run target x f).files (p a) ≡ bit (combined_of f.preds s.combination (test_of target f s))
    unfolding writes
    first_place = holds_written (write (p a) (bit (combined_of f.preds s.combination (test_of target f s)))) (rw is (here refl))

    -- BoolOp(not t, c), also where c is the first place
    pub second_place : at (run target x f).files (p b) ≡ bit (combined_of f.preds s.combination (not (test_of target f s)))
    unfolding writes
    second_place =
        holds_written (write (p b) (bit (combined_of f.preds s.combination (not (test_of target f s))))) (rw is (later (here refl)))

    -- c is read before a predicate is written: where c is the first place, the second has BoolOp(not t, c) of c before
    pub c_read_first : (op : BoolOp) (inverted : Bool) → s.combination ≡ With op (record { inverted = inverted; pred = a })
        → at (run target x f).files (p b)
        ≡ bit (bool_of op (not (test_of target f s)) (cond inverted (not (pred_holds f.preds a)) (pred_holds f.preds a)))
    unfolding combined_of
    c_read_first op inverted e = second_place ∙ ap (λ (c : Combination). bit (combined_of f.preds c (not (test_of target f s)))) e
