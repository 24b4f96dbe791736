-- T-14, of `run`: the scalar lines of a legal SIMD line are legal, each gives its lane, and one after another they give the line. Assumes nothing.
use Rattle.std.specs.Prelude.{ℕ, ◌+◌, ◌%◌, ◌<◌, ◌≡◌, refl, Bool, true, false, ◌&&◌, cond, ltb, leb, ℤ, pos}
use Rattle.std.proofs.Common.{arith, sym, ◌∙◌, ltb-true, leb-true, le-leb}
use Rattle.std.proofs.Math.Path.{ap}
use Rattle.std.proofs.Math.Bool.{and-eq-true_iff}
use mathlib.Core.List.{List, [], ◌∷◌, map}
use Rattle.signs.specs.Lists.{later, Listed}
use Rattle.signs.specs.Lists.Listed.{here}
use Rattle.record.specs.Registers.{Files, r, number_of, at, Inside, is_inside, word_count}
use Rattle.record.specs.Operands.{lanes_fit, mask_fits, digits_fit, instruction_operands_fit}
use Rattle.record.specs.Refusals.{is_legal, Legal, guard_in_range, selected_in_range, form_in_range, scalar_in_range, lanes_in_range, instruction_in_range}
use Rattle.record.specs.declared.Word.{Word}
use Rattle.record.specs.declared.Cmp6.{Cmp6}
use Rattle.record.specs.declared.Arith.{Arith}
use Rattle.record.specs.declared.Selected.TheVariants.{Whole}
use Rattle.record.specs.declared.LaneArith.{LaneArith}
use Rattle.record.specs.declared.VideoType.{VideoType}
use Rattle.record.specs.declared.Lanes.{Lanes}
use Rattle.record.specs.declared.Op2.TheVariants.{Add}
use Rattle.record.specs.declared.Form.{Form}
use Rattle.record.specs.declared.Form.TheVariants.{Plain, Merge, Combine}
use Rattle.record.specs.declared.Scalar.{Scalar}
use Rattle.record.specs.declared.Guard.{Guard}
use Rattle.record.specs.declared.Instruction.{Instruction}
use Rattle.record.specs.declared.Instruction.TheVariants.{VsetLanes, ArithmeticLanes}
use Rattle.record.specs.declared.Record.{Record}
use Rattle.record.specs.declared.Target.{Target}
use Rattle.record.specs.declared.Target.TheVariants.{Sm20, Sm30}
use Rattle.rules.specs.Numbers.{word_size, lane_size, lanes, part_at, exact_of, is_signed, low_of, bit}
use Rattle.rules.specs.Execution.{selected_of, arithmetic_lanes_of, form_of, form_size, digit_at, mask_at, lane_holds, group_of}
use Rattle.rules.specs.Targets.{generation, needs, allows, Allowed}
use Rattle.rules.specs.Executing.{word_of, selected_word, form_c, form_d, Write, write, writes, put, put_all, after, Admitted, guard_holds, Answer, run}
use Rattle.rules.specs.LaneScalars.{Operation, compares, computes, simd_of, scalar_of, saturates, part_selector, digit_operand, lane_scalar, lane_record, masked_sum, extended, ScalarLine, lane_form, lane_lines, taken_apart, run_all, answers_all}
use Rattle.laws.specs.PlaceLaws.{legal_parts, off}
use Rattle.laws.specs.OutcomeLaws.{executes, skips}
use Rattle.laws.specs.RunLaws.{holds_written, masked_lane, sized, put_same, put_other}
use Rattle.laws.specs.ExecutionLaws.{size_pos, low_lt, masked_gets, selected_part_replaced, vset_group}
use Rattle.laws.specs.LaneLaws.{selector_width_lem, selector_part_lem, is_signed_of, lane_z, scalar_z, at_width, unclamped, group_plain, group_adds, added_low, step_of, form_step, low_low, clamped_lane}
use Rattle.laws.specs.LaneLines.{word_range, put_put, put_admitted, scalar_writes, answer_by_guard, all_answer, all_skipped, lanes_each, lanes_left}

-- ==== a SIMD line, as it stands in `writes`

simd_writes : (target : Target) (o : Operation) (l : Lanes) (f : Files)
    → writes target (simd_of o l) f ≡ write (r l.d) (group_of l (lane_z o l (at f (r l.a)) (at f (r l.b))) (at f (r l.c))) ∷ []
unfolding writes arithmetic_lanes_of
simd_writes target (compares cmp) l f = ap (λ (v : ℕ). write (r l.d) v ∷ []) (vset_group cmp l (at f (r l.a)) (at f (r l.b)) (at f (r l.c)))
simd_writes target (computes op dtype sat) l f = refl

pub whole_number : (t : VideoType) (c : Word) (v : ℕ) → selected_of t (Whole c) v ≡ exact_of (is_signed t) word_size v
unfolding selected_of
whole_number t c v = refl

-- ==== legality

simd_operands : (o : Operation) (l : Lanes) → instruction_operands_fit (simd_of o l) ≡ lanes_fit l
simd_operands (compares cmp) l = refl
simd_operands (computes op dtype sat) l = refl

simd_range : (o : Operation) (l : Lanes) → instruction_in_range (simd_of o l) ≡ lanes_in_range l
simd_range (compares cmp) l = refl
simd_range (computes op dtype sat) l = refl

pub scalar_fits : (g : Guard) (o : Operation) (s : Scalar) → guard_in_range g ≡ true → scalar_in_range s ≡ true → Legal (record { guard = g; instruction = scalar_of o s })
unfolding is_legal
scalar_fits g (compares cmp) s e h = rw (e, h)
scalar_fits g (computes op dtype sat) s e h = rw (e, h)

-- scalar video needs less than forms with 2 or 4
simd_needs : (o : Operation) (l : Lanes) → needs (simd_of o l) ≡ Sm30
simd_needs (compares cmp) l = refl
simd_needs (computes op dtype sat) l = refl

scalar_needs : (o : Operation) (s : Scalar) → needs (scalar_of o s) ≡ Sm20
scalar_needs (compares cmp) s = refl
scalar_needs (computes op dtype sat) s = refl

pub allowed_scalar : (target : Target) (x : Record) → allows target x ≡ true → (o : Operation) (l : Lanes) → x.instruction ≡ simd_of o l → (g : Guard) (q : Operation) (s : Scalar)
    → Legal (record { guard = g; instruction = scalar_of q s }) → Allowed target (record { guard = g; instruction = scalar_of q s })
unfolding allows
allowed_scalar target x a o l is g q s h =
    let k = leb-true (generation Sm30) (generation target) (ap (λ (t : Target). leb (generation t) (generation target)) (sym (ap needs is ∙ simd_needs o l)) ∙ a) in
    record { legal = h; allowed = rw (scalar_needs q s) (le-leb (generation Sm20) (generation target) (omega arith)) }

digit_range : (l : Lanes) (k : ℕ) → is_inside (r l.a) ≡ true → is_inside (r l.b) ≡ true → selected_in_range (digit_operand l k) ≡ true
digit_range l k e h = go (ltb k (lanes l.width)) refl
  where
    go : (t : Bool) → ltb k (lanes l.width) ≡ t → selected_in_range (digit_operand l k) ≡ true
    go true k = rw k e
    go false k = rw k h

-- where lane i goes, by `add`
module _ (l : Lanes) (e : Word) where
  abbrev form_by : Bool → ℕ → Word → Form
  form_by add i c = cond add (Combine Add e c) (Merge e (part_selector l.width i) c)

  form_d_lem : (add : Bool) (i : ℕ) (c : Word) → form_d (form_by add i c) ≡ e
  form_d_lem true i c = refl
  form_d_lem false i c = refl

  form_c_lem : (ws : List ℕ) (add : Bool) (i : ℕ) (c : Word) → form_c ws (form_by add i c) ≡ word_of ws c
  form_c_lem ws true i c = refl
  form_c_lem ws false i c = refl

  form_range : (add : Bool) (i : ℕ) (c : Word) → is_inside (r e) ≡ true → is_inside (r c) ≡ true → form_in_range (form_by add i c) ≡ true
  form_range true i c h k = rw (h, k)
  form_range false i c h k = rw (h, k)

-- ==== a legal SIMD line

module _ (target : Target) (x : Record) (allowed : Allowed target x) (o : Operation) (l : Lanes) (is : x.instruction ≡ simd_of o l) where
  pub fits : (mask_fits l.width l.mask ≡ true) × (digits_fit l.width l.asel ≡ true) × (digits_fit l.width l.bsel ≡ true)
  fits =
      let e : lanes_fit l ≡ true = sym (simd_operands o l) ∙ ap instruction_operands_fit (sym is) ∙ (legal_parts x allowed.legal).1 in
      split (mask_fits l.width l.mask) (digits_fit l.width l.asel) (digits_fit l.width l.bsel) e
    where
      split : (a b c : Bool) → a && b && c ≡ true → (a ≡ true) × (b ≡ true) × (c ≡ true)
      split a b c e = let k = simp and-eq-true_iff at e in (k.0.0, k.0.1, k.1)

  pub guard_range : guard_in_range x.guard ≡ true
  guard_range = let k = simp and-eq-true_iff at (legal_parts x allowed.legal).2 in k.0

  pub registers_range : (is_inside (r l.d) ≡ true) × (is_inside (r l.a) ≡ true) × (is_inside (r l.b) ≡ true) × (is_inside (r l.c) ≡ true)
  registers_range =
      let e : guard_in_range x.guard && lanes_in_range l ≡ true = ap (◌&&◌ (guard_in_range x.guard)) (sym (simd_range o l) ∙ ap instruction_in_range (sym is)) ∙ (legal_parts x allowed.legal).2 in
      split (guard_in_range x.guard) (is_inside (r l.d)) (is_inside (r l.a)) (is_inside (r l.b)) (is_inside (r l.c)) e
    where
      split : (g a b c d : Bool) → g && (a && b && c && d) ≡ true → (a ≡ true) × (b ≡ true) × (c ≡ true) × (d ≡ true)
      split g a b c d e = let k = simp and-eq-true_iff at e in (k.1.0.0.0, k.1.0.0.1, k.1.0.1, k.1.1)

  -- the scalar line of a lane is legal, wherever in the files it goes, and a target that allows the SIMD line allows it
  pub lane_allowed : (i : ℕ) (form : Form) → form_in_range form ≡ true → Allowed target (lane_record x.guard o l i form)
  lane_allowed i form h =
      allowed_scalar target x allowed.allowed o l is x.guard o (lane_scalar l i form) (scalar_fits x.guard o (lane_scalar l i form) guard_range
      (rw (h, digit_range l (digit_at l.asel i) registers_range.1 registers_range.2, digit_range l (digit_at l.bsel i) registers_range.1 registers_range.2)))

  -- its scalar lines into e are legal lines of scalar video, under its guard
  pub lines_scalar : (e : Word) → Inside (r e) → (y : Record) → Listed y (taken_apart x.guard o l e) → ScalarLine target x.guard y
  lines_scalar e inside y m = lanes_each (lane_lines x.guard o l e) l e (ScalarLine target x.guard) (word_range e inside) each registers_range.3 y m
    where
      each : (i : ℕ) (c : Word) → is_inside (r c) ≡ true → (y : Record) → Listed y (lane_lines x.guard o l e i c) → ScalarLine target x.guard y
      each i c k y (later x4) = elim x4 [ ]
      each i c k y (here q) =
          rw q (record { allowed = lane_allowed i (lane_form l e i c) (form_range l e l.add i c (word_range e inside) k); guarded = refl; o = o; s = lane_scalar l i (lane_form l e i c); scalar = refl })

  -- ==== on admitted files

  module _ (f : Files) (admitted : Admitted f) where
    module _ (guard : guard_holds f.preds x.guard ≡ true) where
      -- the exact result of lane i
      abbrev result_of : ℕ → ℤ
      result_of i = lane_z o l (at f (r l.a)) (at f (r l.b)) i

      pub simd_holds : at (run target x f).files (r l.d) ≡ group_of l result_of (at f (r l.c))
      simd_holds =
          let e = ap (λ (i : Instruction). writes target i f) is ∙ simd_writes target o l f in
          holds_written target x f allowed admitted guard (write (r l.d) (group_of l result_of (at f (r l.c)))) (rw e (here refl))

      scalar_holds : (i : ℕ) (form : Form) → form_in_range form ≡ true
          → at (run target (lane_record x.guard o l i form) f).files (r (form_d form))
          ≡ form_of (is_signed_of o) form (form_c f.words form)
          (scalar_z o (form_size form) (lane_scalar l i form) (word_of f.words (selected_word (lane_scalar l i form).a)) (word_of f.words (selected_word (lane_scalar l i form).b)))
      scalar_holds i form h =
          holds_written target (lane_record x.guard o l i form) f (lane_allowed i form h) admitted guard (write (r (form_d form)) _) (rw (scalar_writes target o (lane_scalar l i form) f) (here refl))

      -- ---- each lane alone

      module _ (i : ℕ) (h : i < lanes l.width) (d : Word) (inside : Inside (r d)) where
        -- merged into the lane's part: the low bits of the lane's result
        pub merge_holds : (c : Word) → Inside (r c)
            → part_at (lane_size l.width) (at (run target (lane_record x.guard o l i (Merge d (part_selector l.width i) c)) f).files (r d)) i ≡ low_of (lane_size l.width) (result_of i)
        unfolding form_of
        merge_holds c k =
            rw
            (scalar_holds i (Merge d (part_selector l.width i) c) (rw (word_range d inside, word_range c k)), selector_width_lem l.width i, selector_part_lem l.width i h, at_width f.words l fits.1 fits.2 i h (Merge d (part_selector l.width i) c) o)
            (selected_part_replaced l.width i (word_of f.words c) (low_of (lane_size l.width) (result_of i)) (low_lt (lane_size l.width) (result_of i) (size_pos l.width)) h)

        -- as a whole word, without `sat`: the low 32 bits of the lane's result
        pub plain_holds : saturates o ≡ false → at (run target (lane_record x.guard o l i (Plain d)) f).files (r d) ≡ low_of word_size (result_of i)
        unfolding form_of
        plain_holds e =
            scalar_holds i (Plain d) (word_range d inside) ∙ ap (low_of word_size) (unclamped f.words l fits.1 fits.2 i h (Plain d) o e word_size)

        -- a masked lane is the low bits of its result,
        masked_low : l.add ≡ false → mask_at l.mask i ≡ true → part_at (lane_size l.width) (at (run target x f).files (r l.d)) i ≡ low_of (lane_size l.width) (result_of i)
        masked_low plain m =
            ap (λ (v : ℕ). part_at (lane_size l.width) v i) (simd_holds ∙ group_plain l result_of (at f (r l.c)) plain)
            ∙ masked_gets l (λ j. low_of (lane_size l.width) (result_of j)) (λ j. low_lt (lane_size l.width) (result_of j) (size_pos l.width)) (at f (r l.c)) i h m

        -- so it is that part of its scalar line's d,
        pub lane_merges : l.add ≡ false → mask_at l.mask i ≡ true → (c : Word) → Inside (r c)
            → part_at (lane_size l.width) (at (run target x f).files (r l.d)) i
            ≡ part_at (lane_size l.width) (at (run target (lane_record x.guard o l i (Merge d (part_selector l.width i) c)) f).files (r d)) i
        lane_merges plain m c k = masked_low plain m ∙ sym (merge_holds c k)

        -- and without `sat` the low bits of its scalar line's whole d
        pub lane_low : l.add ≡ false → saturates o ≡ false → mask_at l.mask i ≡ true
            → part_at (lane_size l.width) (at (run target x f).files (r l.d)) i ≡ at (run target (lane_record x.guard o l i (Plain d)) f).files (r d) % lane_size l.width
        lane_low plain no-sat m =
            masked_low plain m ∙ sym (ap (λ (v : ℕ). v % lane_size l.width) (plain_holds no-sat) ∙ low_low l.width (result_of i))

      -- ---- with `add`

      -- c plus the sum of the scalar lines' words over the masked lanes
      pub lanes_add : l.add ≡ true → saturates o ≡ false → (d : ℕ → Word) → ((i : ℕ) → Inside (r (d i)))
          → at (run target x f).files (r l.d)
          ≡ (at f (r l.c) + masked_sum l (λ i. at (run target (lane_record x.guard o l i (Plain (d i))) f).files (r (d i)))) % word_size
      lanes_add adds e d inside =
          simd_holds ∙ group_adds l result_of (at f (r l.c)) adds
          ∙ added_low l result_of (λ i. at (run target (lane_record x.guard o l i (Plain (d i))) f).files (r (d i))) (at f (r l.c))
          (λ i h m. sym (plain_holds i h (d i) (inside i) e))

    -- both answer alike
    pub lines_answer : (ys : List Record) → ((y : Record) → Listed y ys → ScalarLine target x.guard y) → answers_all target ys f ≡ map (λ (y : Record). (run target x f).answer) ys
    lines_answer ys each =
        let t = guard_holds f.preds x.guard in
        all_answer target x.guard t ys each f admitted refl ∙ ap (λ (a : Answer). map (λ (y : Record). a) ys) (sym (answer_by_guard target x allowed f admitted t refl))

    -- ==== the scalar lines one after another, into e

    module _ (e : Word) (inside : Inside (r e)) where
      -- `sat` with `add` clamps each lane at its own width, which no scalar line with `add` does
      module _ (one_line : saturates o && l.add ≡ false) where
        -- so `sat` clamps at the lane's width, or there is no `sat`
        lane_exact : (ws : List ℕ) (i : ℕ) → i < lanes l.width → (c : Word)
            → scalar_z o (form_size (lane_form l e i c)) (lane_scalar l i (lane_form l e i c)) (word_of ws (selected_word (digit_operand l (digit_at l.asel i)))) (word_of ws (selected_word (digit_operand l (digit_at l.bsel i))))
            ≡ lane_z o l (word_of ws l.a) (word_of ws l.b) i
        lane_exact ws i h c = go l.add (lane_form l e i c) refl (saturates o) refl one_line
          where
            go : (t : Bool) (form : Form) → form_by l e t i c ≡ form → (s : Bool) → saturates o ≡ s → s && t ≡ false
                → scalar_z o (form_size form) (lane_scalar l i form) (word_of ws (selected_word (digit_operand l (digit_at l.asel i)))) (word_of ws (selected_word (digit_operand l (digit_at l.bsel i))))
                ≡ lane_z o l (word_of ws l.a) (word_of ws l.b) i
            go t form k false s z = unclamped ws l fits.1 fits.2 i h form o s (form_size form)
            go true form k true s z = off z
            go false form k true s z =
                let n : form_size form ≡ lane_size l.width = ap form_size (sym k) ∙ ap lane_size (selector_width_lem l.width i) in
                rw n (at_width ws l fits.1 fits.2 i h form o)

        -- one line, on files g with a guard that holds
        line_run : (g : Files) → Admitted g → guard_holds g.preds x.guard ≡ true → (i : ℕ) → i < lanes l.width → (c : Word) → is_inside (r c) ≡ true
            → (run target (lane_record x.guard o l i (lane_form l e i c)) g).files
            ≡ put (r e) (step_of l (is_signed_of o) i (at g (r c)) (lane_z o l (at g (r l.a)) (at g (r l.b)) i)) g
        unfolding after
        line_run g ok holds i h c k =
            ap (λ q. q.files) (executes target (lane_record x.guard o l i (lane_form l e i c)) g (lane_allowed i (lane_form l e i c) (form_range l e l.add i c (word_range e inside) k)) ok holds)
            ∙ rw
            (scalar_writes target o (lane_scalar l i (lane_form l e i c)) g, form_d_lem l e l.add i c, form_c_lem l e g.words l.add i c, lane_exact g.words i h c, form_step l (is_signed_of o) i h e c (word_of g.words c) (lane_z o l (word_of g.words l.a) (word_of g.words l.b) i))

        module _ (guard : guard_holds f.preds x.guard ≡ true) (not_a : e.0 ≡ l.a.0 → ⊥) (not-b : e.0 ≡ l.b.0 → ⊥) where
          -- f with v in e
          abbrev with_e : ℕ → Files
          with_e v = put (r e) v f

          reads_a : (v : ℕ) → at (with_e v) (r l.a) ≡ at f (r l.a)
          reads_a v = put_other (r l.a) (r e) v f (λ q. not_a (ap number_of q))

          reads_b : (v : ℕ) → at (with_e v) (r l.b) ≡ at f (r l.b)
          reads_b v = put_other (r l.b) (r e) v f (λ q. not-b (ap number_of q))

          reads_e : (v : ℕ) → at (with_e v) (r e) ≡ v
          reads_e v = put_same (r e) v f (sized f admitted.sizes) inside

          -- a later line, which takes e
          later_line : (i v : ℕ) → i < lanes l.width → (run target (lane_record x.guard o l i (lane_form l e i e)) (with_e v)).files ≡ with_e (step_of l (is_signed_of o) i v (result_of guard i))
          later_line i v h = line_run (with_e v) (put_admitted e.0 v f admitted) guard i h e (word_range e inside) ∙ rw (reads_a v, reads_b v, reads_e v) (put_put e.0 v _ f)

          -- the scalar lines leave in e what the SIMD line leaves in d, and move nothing else
          pub taken_apart_lem : run_all target (taken_apart x.guard o l e) f ≡ put (r e) (at (run target x f).files (r l.d)) f
          taken_apart_lem =
              lanes_left (lane_lines x.guard o l e) l e target (result_of guard) (is_signed_of o) f (λ (v : ℕ) (g : Files). g ≡ with_e v) (λ i h. line_run f admitted guard i h l.c registers_range.3)
              (λ i v g h k. ap (run_all target (lane_lines x.guard o l e i e)) k ∙ later_line i v h) fits.0
              ∙ ap with_e (sym (simd_holds guard))

    -- in the SIMD line's own d, they do what the SIMD line does

    pub d_inside : Inside (r l.d)
    d_inside = ltb-true l.d.0 word_count registers_range.0

    pub simd_files : guard_holds f.preds x.guard ≡ true → (run target x f).files ≡ put (r l.d) (at (run target x f).files (r l.d)) f
    unfolding after
    simd_files t =
        ap (λ q. q.files) (executes target x f allowed admitted t) ∙ ap (λ (ws : List Write). put_all ws f) (ap (λ (i : Instruction). writes target i f) is ∙ simd_writes target o l f)
        ∙ ap (λ (v : ℕ). put (r l.d) v f) (sym (simd_holds t))

    pub simd_skipped : guard_holds f.preds x.guard ≡ false → (run target x f).files ≡ f
    simd_skipped t = ap (λ q. q.files) (skips target x f allowed admitted t)

    pub in_place : saturates o && l.add ≡ false → (l.d.0 ≡ l.a.0 → ⊥) → (l.d.0 ≡ l.b.0 → ⊥) → run_all target (taken_apart x.guard o l l.d) f ≡ (run target x f).files
    in_place one_line not_a not-b = go (guard_holds f.preds x.guard) refl
      where
        go : (t : Bool) → guard_holds f.preds x.guard ≡ t → run_all target (taken_apart x.guard o l l.d) f ≡ (run target x f).files
        go true t = taken_apart_lem l.d d_inside one_line t not_a not-b ∙ sym (simd_files t)
        go false t = all_skipped target x.guard (taken_apart x.guard o l l.d) (lines_scalar l.d d_inside) f admitted t ∙ sym (simd_skipped t)

-- ==== vset as a whole register, and `sat` with `add`

module _ (target : Target) (x : Record) (allowed : Allowed target x) (l : Lanes) (f : Files) (admitted : Admitted f) (guard : guard_holds f.preds x.guard ≡ true) where
  bit_word : (t : Bool) → low_of word_size (pos (bit t)) ≡ bit t
  bit_word true = omega arith
  bit_word false = omega arith

  module _ (cmp : Cmp6) (is : x.instruction ≡ VsetLanes cmp l) (i : ℕ) (h : i < lanes l.width) (d : Word) (inside : Inside (r d)) where
    -- the scalar vset of a lane gives its number
    pub vset_number : at (run target (lane_record x.guard (compares cmp) l i (Plain d)) f).files (r d) ≡ bit (lane_holds cmp l (at f (r l.a)) (at f (r l.b)) i)
    vset_number = plain_holds target x allowed (compares cmp) l is f admitted guard i h d inside refl ∙ bit_word (lane_holds cmp l (at f (r l.a)) (at f (r l.b)) i)

    -- and so does the masked lane
    pub vset_lane : l.add ≡ false → mask_at l.mask i ≡ true
        → part_at (lane_size l.width) (at (run target x f).files (r l.d)) i ≡ at (run target (lane_record x.guard (compares cmp) l i (Plain d)) f).files (r d)
    vset_lane plain m = masked_lane target x f allowed admitted guard cmp l is plain i h m ∙ sym vset_number

  -- with `sat` and `add`: c plus the sum of the masked lanes' parts, each by dtype
  pub lanes_add_clamped : (op : Arith) (dtype : VideoType) → x.instruction ≡ ArithmeticLanes (LaneArith.Scalar op) dtype true l → l.add ≡ true
      → (d c : ℕ → Word) → ((i : ℕ) → Inside (r (d i))) → ((i : ℕ) → Inside (r (c i)))
      → at (run target x f).files (r l.d)
      ≡ (at f (r l.c) + masked_sum l (λ i. extended l dtype i (at (run target (lane_record x.guard (computes op dtype true) l i (Merge (d i) (part_selector l.width i) (c i))) f).files (r (d i))))) % word_size
  lanes_add_clamped op dtype is adds d c inside-d inside-c =
      simd_holds target x allowed (computes op dtype true) l is f admitted guard
      ∙ group_adds l (result_of target x allowed (computes op dtype true) l is f admitted guard) (at f (r l.c)) adds
      ∙ added_low l (result_of target x allowed (computes op dtype true) l is f admitted guard) _ (at f (r l.c))
      (λ i h m. ap (low_of word_size)
      (sym (ap (exact_of (is_signed dtype) (lane_size l.width)) (merge_holds target x allowed (computes op dtype true) l is f admitted guard i h (d i) (inside-d i) (c i) (inside-c i))
      ∙ clamped_lane op dtype l (at f (r l.a)) (at f (r l.b)) i)))
