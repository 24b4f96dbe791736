-- T-14, `sat` with `add`: two scalar lines a lane, by a spare register, do what the SIMD line does. Assumes nothing.
use Rattle.std.specs.Prelude.{ℕ, ◌<◌, ◌≡◌, refl, Bool, true, false, ℤ, ◌+ℤ◌}
use Rattle.std.proofs.Common.{sym, ap₂, subst, ◌∙◌}
use Rattle.std.proofs.Math.Path.{ap}
use Rattle.signs.specs.Lists.{Listed}
use Rattle.signs.specs.Lists.Listed.{here, later}
use Rattle.record.specs.Registers.{Files, r, number_of, at, Inside, is_inside}
use Rattle.record.specs.declared.Word.{Word}
use Rattle.record.specs.declared.Arith.{Arith}
use Rattle.record.specs.declared.Arith.TheVariants.{Vadd}
use Rattle.record.specs.declared.LaneArith.{LaneArith}
use Rattle.record.specs.declared.VideoType.{VideoType}
use Rattle.record.specs.declared.Lanes.{Lanes}
use Rattle.record.specs.declared.Form.TheVariants.{Merge}
use Rattle.record.specs.declared.Instruction.TheVariants.{ArithmeticLanes}
use Rattle.record.specs.declared.Record.{Record}
use Rattle.record.specs.declared.Target.{Target}
use Rattle.rules.specs.Numbers.{word_size, lane_size, lanes, part_at, exact_of, is_signed, low_of}
use Rattle.rules.specs.Execution.{form_of, replaced}
use Rattle.rules.specs.Targets.{Allowed}
use Rattle.rules.specs.Executing.{word_of, put, after, Admitted, guard_holds, run}
use Rattle.rules.specs.LaneScalars.{computes, scalar_of, part_selector, lane_scalar, lane_record, ScalarLine, part_scalar, clamped_lines, clamped_apart, run_all}
use Rattle.laws.specs.OutcomeLaws.{executes}
use Rattle.laws.specs.RunLaws.{sized, put_same, put_other}
use Rattle.laws.specs.ExecutionLaws.{size_pos, low_lt, selected_part_replaced}
use Rattle.laws.specs.LaneLaws.{selector_width_lem, selector_part_lem, part_number, lane_z, at_width, step_of, step_add, clamped_lane}
use Rattle.laws.specs.LaneLines.{word_range, put_put, put_past, put_back, put_admitted, scalar_writes, all_skipped, lanes_each, lanes_left}
use Rattle.laws.specs.TakenApartLaws.{whole_number, scalar_fits, allowed_scalar, fits, guard_range, registers_range, lane_allowed, simd_holds, d_inside, simd_files, simd_skipped}

module _ (target : Target) (x : Record) (allowed : Allowed target x) (op : Arith) (dtype : VideoType) (l : Lanes) (is : x.instruction ≡ ArithmeticLanes (LaneArith.Scalar op) dtype true l) (t e : Word) (in-t : Inside (r t)) (in_e : Inside (r e)) where
  -- the two lines of lane i, the second of which takes c
  abbrev clamp_line : ℕ → Record
  clamp_line i = lane_record x.guard (computes op dtype true) l i (Merge t (part_selector l.width i) t)

  abbrev part_line : ℕ → Word → Record
  part_line i c = record { guard = x.guard; instruction = scalar_of (computes Vadd dtype false) (part_scalar dtype t (part_selector l.width i) e c) }

  c_range : is_inside (r l.c) ≡ true
  c_range = (registers_range target x allowed (computes op dtype true) l is).3

  clamp_allowed : (i : ℕ) → Allowed target (clamp_line i)
  clamp_allowed i = lane_allowed target x allowed (computes op dtype true) l is i (Merge t (part_selector l.width i) t) (rw (word_range t in-t))

  part_allowed : (i : ℕ) (c : Word) → is_inside (r c) ≡ true → Allowed target (part_line i c)
  part_allowed i c k =
      allowed_scalar target x allowed.allowed (computes op dtype true) l is x.guard (computes Vadd dtype false) (part_scalar dtype t (part_selector l.width i) e c) (scalar_fits x.guard (computes Vadd dtype false) (part_scalar dtype t (part_selector l.width i) e c) (guard_range target x allowed (computes op dtype true) l is)
      (rw (word_range e in_e, word_range t in-t, k)))

  -- all of them are lines of scalar video, legal and allowed, under the SIMD line's guard
  pub clamped_scalar : (y : Record) → Listed y (clamped_apart x.guard op dtype l t e) → ScalarLine target x.guard y
  clamped_scalar y m = lanes_each (clamped_lines x.guard op dtype l t e) l e (ScalarLine target x.guard) (word_range e in_e) each c_range y m
    where
      each : (i : ℕ) (c : Word) → is_inside (r c) ≡ true → (y : Record) → Listed y (clamped_lines x.guard op dtype l t e i c) → ScalarLine target x.guard y
      each i c k y (here q) =
          rw q (record { allowed = clamp_allowed i; guarded = refl; o = computes op dtype true; s = lane_scalar l i (Merge t (part_selector l.width i) t); scalar = refl })
      each i c k y (later (later x7)) = elim x7 [ ]
      each i c k y (later (here q)) =
          rw q (record { allowed = part_allowed i c k; guarded = refl; o = computes Vadd dtype false; s = part_scalar dtype t (part_selector l.width i) e c; scalar = refl })

  module _ (g : Files) (ok : Admitted g) (holds : guard_holds g.preds x.guard ≡ true) (i : ℕ) (h : i < lanes l.width) where
    -- the lane's result, and what the first line leaves in t
    abbrev result_in : ℤ
    result_in = lane_z (computes op dtype true) l (at g (r l.a)) (at g (r l.b)) i

    abbrev clamped_word : ℕ
    clamped_word = replaced l.width i (at g (r t)) (low_of (lane_size l.width) result_in)

    clamp_run : (run target (clamp_line i) g).files ≡ put (r t) clamped_word g
    unfolding after form_of
    clamp_run =
        ap (λ q. q.files) (executes target (clamp_line i) g (clamp_allowed i) ok holds)
        ∙ rw
        (scalar_writes target (computes op dtype true) (lane_scalar l i (Merge t (part_selector l.width i) t)) g, selector_width_lem l.width i, selector_part_lem l.width i h, at_width g.words l (fits target x allowed (computes op dtype true) l is).1 (fits target x allowed (computes op dtype true) l is).2 i h (Merge t (part_selector l.width i) t) (computes op dtype true))

    part_run : (c : Word) → is_inside (r c) ≡ true
        → (run target (part_line i c) g).files
        ≡ put (r e) (low_of word_size (exact_of (is_signed dtype) (lane_size l.width) (part_at (lane_size l.width) (at g (r t)) i) +ℤ exact_of (is_signed dtype) word_size (at g (r c)))) g
    unfolding after form_of
    part_run c k =
        ap (λ q. q.files) (executes target (part_line i c) g (part_allowed i c k) ok holds)
        ∙ rw
        (scalar_writes target (computes Vadd dtype false) (part_scalar dtype t (part_selector l.width i) e c) g, part_number dtype t l.width i (word_of g.words t) h, whole_number dtype c (word_of g.words c))

  module _ (adds : l.add ≡ true) (t-not-e : t.0 ≡ e.0 → ⊥) (t-not-a : t.0 ≡ l.a.0 → ⊥) (t-not-b : t.0 ≡ l.b.0 → ⊥) (t-not-c : t.0 ≡ l.c.0 → ⊥) (e-not-a : e.0 ≡ l.a.0 → ⊥) (e-not-b : e.0 ≡ l.b.0 → ⊥) where
    -- both lines of a lane
    two_run : (g : Files) (ok : Admitted g) (holds : guard_holds g.preds x.guard ≡ true) (i : ℕ) (h : i < lanes l.width) (c : Word) → is_inside (r c) ≡ true → (t.0 ≡ c.0 → ⊥)
        → (run target (part_line i c) (run target (clamp_line i) g).files).files
        ≡ put (r e) (step_of l (is_signed dtype) i (at g (r c)) (result_in g ok holds i h)) (put (r t) (clamped_word g ok holds i h) g)
    two_run g ok holds i h c k t_not =
        let w = clamped_word g ok holds i h in
        let z = result_in g ok holds i h in
        ap (λ q. (run target (part_line i c) q).files) (clamp_run g ok holds i h)
        ∙ part_run (put (r t) w g) (put_admitted t.0 w g ok) holds i h c k
        ∙ ap₂
        (λ (u v : ℕ). put (r e) (low_of word_size (exact_of (is_signed dtype) (lane_size l.width) (part_at (lane_size l.width) u i) +ℤ exact_of (is_signed dtype) word_size v)) (put (r t) w g))
        (put_same (r t) w g (sized g ok.sizes) in-t) (put_other (r c) (r t) w g (λ q. t_not (ap number_of q)))
        ∙ ap (λ (y : ℤ). put (r e) (low_of word_size (y +ℤ exact_of (is_signed dtype) word_size (at g (r c)))) (put (r t) w g))
        (ap (exact_of (is_signed dtype) (lane_size l.width))
        (selected_part_replaced l.width i (at g (r t)) (low_of (lane_size l.width) z) (low_lt (lane_size l.width) z (size_pos l.width)) h)
        ∙ clamped_lane op dtype l (at g (r l.a)) (at g (r l.b)) i)
        ∙ ap (λ (v : ℕ). put (r e) v (put (r t) w g)) (sym (step_add l (is_signed dtype) i (at g (r c)) z adds))

    module _ (f : Files) (admitted : Admitted f) (guard : guard_holds f.preds x.guard ≡ true) where
      -- f with v in e and w in t
      abbrev with_et : ℕ → ℕ → Files
      with_et v w = put (r e) v (put (r t) w f)

      et_admitted : (v w : ℕ) → Admitted (with_et v w)
      et_admitted v w = put_admitted e.0 v (put (r t) w f) (put_admitted t.0 w f admitted)

      et_reads : (v w : ℕ) (q : Word) → (t.0 ≡ q.0 → ⊥) → (e.0 ≡ q.0 → ⊥) → at (with_et v w) (r q) ≡ at f (r q)
      et_reads v w q h k = put_other (r q) (r e) v (put (r t) w f) (λ s. k (ap number_of s)) ∙ put_other (r q) (r t) w f (λ s. h (ap number_of s))

      et_reads_e : (v w : ℕ) → at (with_et v w) (r e) ≡ v
      et_reads_e v w = put_same (r e) v (put (r t) w f) (sized (put (r t) w f) (put_admitted t.0 w f admitted).sizes) in_e

      -- what was in e and t before makes no difference
      et_again : (v w y u : ℕ) → put (r e) y (put (r t) u (with_et v w)) ≡ with_et y u
      et_again v w y u =
          ap (put (r e) y) (put_past t.0 e.0 u v (put (r t) w f) t-not-e ∙ ap (put (r e) v) (put_put t.0 w u f)) ∙ put_put e.0 v y (put (r t) u f)

      -- the lanes' results, and one more of them on top of v
      abbrev clamped_result : ℕ → ℤ
      clamped_result i = lane_z (computes op dtype true) l (at f (r l.a)) (at f (r l.b)) i

      abbrev clamped_step : ℕ → ℕ → ℕ
      clamped_step i v = step_of l (is_signed dtype) i v (clamped_result i)

      -- v in e, and something in t
      abbrev Left : ℕ → Files → Type 0
      Left v g = (w : ℕ) × (g ≡ with_et v w)

      first_two : (i : ℕ) → i < lanes l.width → Left (clamped_step i (at f (r l.c))) (run target (part_line i l.c) (run target (clamp_line i) f).files).files
      first_two i h = (clamped_word f admitted guard i h, two_run f admitted guard i h l.c c_range t-not-c)

      later_two : (i v : ℕ) (g : Files) → i < lanes l.width → Left v g → Left (clamped_step i v) (run target (part_line i e) (run target (clamp_line i) g).files).files
      later_two i v g h k =
          let w = k.0 in
          let ok = et_admitted v w in
          let u = clamped_word (with_et v w) ok guard i h in (
            u,
            ap (λ (y : Files). (run target (part_line i e) (run target (clamp_line i) y).files).files) k.1
                ∙ two_run (with_et v w) ok guard i h e (word_range e in_e) t-not-e
                ∙ et_again v w _ u
                ∙ ap (λ (y : ℕ). with_et y u) (rw (et_reads_e v w, et_reads v w l.a t-not-a e-not-a, et_reads v w l.b t-not-b e-not-b)),
          )

      -- the lines leave in e what the SIMD line leaves in d, something in t, and move nothing else
      pub clamped_apart_lem : Left (at (run target x f).files (r l.d)) (run_all target (clamped_apart x.guard op dtype l t e) f)
      clamped_apart_lem =
          subst (λ (v : ℕ). Left v (run_all target (clamped_apart x.guard op dtype l t e) f)) (sym (simd_holds target x allowed (computes op dtype true) l is f admitted guard))
          (lanes_left (clamped_lines x.guard op dtype l t e) l e target clamped_result (is_signed dtype) f Left first_two later_two (fits target x allowed (computes op dtype true) l is).0)

-- in the SIMD line's own d, they do what the SIMD line does, but for t
module _ (target : Target) (x : Record) (allowed : Allowed target x) (op : Arith) (dtype : VideoType) (l : Lanes) (is : x.instruction ≡ ArithmeticLanes (LaneArith.Scalar op) dtype true l) (t : Word) (in-t : Inside (r t)) (adds : l.add ≡ true) (t-not-d : t.0 ≡ l.d.0 → ⊥) (t-not-a : t.0 ≡ l.a.0 → ⊥) (t-not-b : t.0 ≡ l.b.0 → ⊥) (t-not-c : t.0 ≡ l.c.0 → ⊥) (d-not-a : l.d.0 ≡ l.a.0 → ⊥) (d-not-b : l.d.0 ≡ l.b.0 → ⊥) (f : Files) (admitted : Admitted f) where
  abbrev InPlace : Type 0
  InPlace = (w : ℕ) × (run_all target (clamped_apart x.guard op dtype l t l.d) f ≡ put (r t) w (run target x f).files)

  pub clamped_in_place : InPlace
  clamped_in_place = go (guard_holds f.preds x.guard) refl
    where
      in_d : Inside (r l.d)
      in_d = d_inside target x allowed (computes op dtype true) l is f admitted

      go : (s : Bool) → guard_holds f.preds x.guard ≡ s → InPlace
      go true s =
          let k = clamped_apart_lem target x allowed op dtype l is t l.d in-t in_d adds t-not-d t-not-a t-not-b t-not-c d-not-a d-not-b f admitted s in (
            k.0,
            k.1 ∙ put_past l.d.0 t.0 _ k.0 f (λ q. t-not-d (sym q)) ∙ ap (put (r t) k.0) (sym (simd_files target x allowed (computes op dtype true) l is f admitted s)),
          )
      go false s = (
        at f (r t),
        all_skipped target x.guard (clamped_apart x.guard op dtype l t l.d) (clamped_scalar target x allowed op dtype l is t l.d in-t in_d) f admitted s ∙ sym (put_back t.0 f)
            ∙ ap (put (r t) (at f (r t))) (sym (simd_skipped target x allowed (computes op dtype true) l is f admitted s)),
      )
