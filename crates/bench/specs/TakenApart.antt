-- Request T-14, "One lane, one scalar", in a technician's words: what a SIMD line does, its scalar lines do. Laws of `run`, which `execute` of src/lib.rt promises for
-- every input, once over the lane width and over what the lines do. Which scalar line a lane has says `lane_scalar` in crates/rules/specs/LaneScalars.antt. Assumes nothing.
use Rattle.std.specs.Prelude.{ℕ, ◌+◌, ◌%◌, ◌<◌, ◌≡◌, refl, Bool, true, false, ◌&&◌, map}
use Rattle.std.proofs.Common.{arith}
use Rattle.signs.specs.Lists.{Listed}
use Rattle.record.specs.Registers.{Files, r, at, Inside}
use Rattle.record.specs.Refusals.{form_in_range}
use Rattle.record.specs.declared.Word.{Word}
use Rattle.record.specs.declared.Cmp6.{Cmp6}
use Rattle.record.specs.declared.Arith.{Arith}
use Rattle.record.specs.declared.LaneArith.{LaneArith}
use Rattle.record.specs.declared.VideoType.{VideoType}
use Rattle.record.specs.declared.Lanes.{Lanes}
use Rattle.record.specs.declared.Form.{Form}
use Rattle.record.specs.declared.Form.TheVariants.{Plain, Merge}
use Rattle.record.specs.declared.Instruction.TheVariants.{VsetLanes, ArithmeticLanes}
use Rattle.record.specs.declared.Record.{Record}
use Rattle.record.specs.declared.Target.{Target}
use Rattle.rules.specs.Numbers.{word_size, lane_size, lanes, part_at, low_of, bit}
use Rattle.rules.specs.Execution.{mask_at, lane_holds, count, lane_result}
use Rattle.rules.specs.Targets.{Allowed}
use Rattle.rules.specs.Executing.{put, Admitted, guard_holds, run}
use Rattle.rules.specs.LaneScalars.{Operation, compares, computes, simd_of, saturates, part_selector, lane_record, ScalarLine, masked_sum, extended, taken_apart, clamped_apart, run_all, answers_all}
use Rattle.laws.specs.LaneLaws as numbers
use Rattle.laws.specs.LaneLines.{all_skipped}
use Rattle.laws.specs.TakenApartLaws as laws
use Rattle.laws.specs.ClampedLaws as clamped

-- every line of vset2 and vset4, and every line of T-01's but the average, is one of `simd_of`
pub every_vset : (cmp : Cmp6) (l : Lanes) → (o : Operation) × (simd_of o l ≡ VsetLanes cmp l)
every_vset cmp l = (compares cmp, refl)

pub every_but_the_average : (op : LaneArith) (dtype : VideoType) (sat : Bool) (l : Lanes) → (op ≡ LaneArith.Vavrg → ⊥) → (o : Operation) × (simd_of o l ≡ ArithmeticLanes op dtype sat l)
every_but_the_average (LaneArith.Scalar op) dtype sat l not-it = (computes op dtype sat, refl)
every_but_the_average LaneArith.Vavrg dtype sat l not-it = absurd (not-it refl)

-- the average, vavrg2 and vavrg4, is none: scalar video has no such operation
pub not_the_average : (o : Operation) (l k : Lanes) (dtype : VideoType) (sat : Bool) → simd_of o l ≡ ArithmeticLanes LaneArith.Vavrg dtype sat k → ⊥
not_the_average (compares cmp) l k dtype sat e = let z : ◌≡◌ {A = ℕ} 0 1 = cc in omega arith
not_the_average (computes op t s) l k dtype sat e = let z : ◌≡◌ {A = ℕ} 0 1 = cc in omega arith

-- `sat` alone saturates, and vset has none
pub sat_saturates : (op : Arith) (dtype : VideoType) (sat : Bool) → saturates (computes op dtype sat) ≡ sat
sat_saturates op dtype sat = refl

pub vset_does_not : (cmp : Cmp6) → saturates (compares cmp) ≡ false
vset_does_not cmp = refl

-- over the masked lanes, a sum of ones and zeros is the number of masked lanes that hold
pub masked_sum_counts : (l : Lanes) (f : ℕ → Bool) → masked_sum l (λ i. bit (f i)) ≡ count (lanes l.width) (λ i. mask_at l.mask i && f i)
masked_sum_counts l f = numbers.masked_sum_counts l f

-- ==== x is a legal SIMD line, at a target that allows it (T-07). The scalar line of a lane is itself legal and allowed there, with any word registers as
-- its destination and its c

module _ (target : Target) (x : Record) (allowed : Allowed target x) (l : Lanes) where
  pub scalar_allowed : (o : Operation) → x.instruction ≡ simd_of o l → (i : ℕ) (form : Form) → form_in_range form ≡ true → Allowed target (lane_record x.guard o l i form)
  scalar_allowed o is i form h = laws.lane_allowed target x allowed o l is i form h

  -- ==== on files f that document 01 admits, with a guard that holds

  module _ (f : Files) (admitted : Admitted f) (guard : guard_holds f.preds x.guard ≡ true) where
    -- ---- vset2 and vset4

    module _ (cmp : Cmp6) (is : x.instruction ≡ simd_of (compares cmp) l) (i : ℕ) (h : i < lanes l.width) (d : Word) (inside : Inside (r d)) where
      -- running the scalar vset of a lane gives that lane's number in its destination: 1 or 0, as the lane holds
      pub vset_gives_lane : at (run target (lane_record x.guard (compares cmp) l i (Plain d)) f).files (r d) ≡ bit (lane_holds cmp l (at f (r l.a)) (at f (r l.b)) i)
      vset_gives_lane = laws.vset_number target x allowed l f admitted guard cmp is i h d inside

      -- "every masked lane of vset2 and vset4 without `add` equals the scalar vset on the parts its selectors pick, with the same types and comparison"
      pub lane_is_vset : l.add ≡ false → mask_at l.mask i ≡ true
          → part_at (lane_size l.width) (at (run target x f).files (r l.d)) i ≡ at (run target (lane_record x.guard (compares cmp) l i (Plain d)) f).files (r d)
      lane_is_vset plain m = laws.vset_lane target x allowed l f admitted guard cmp is i h d inside plain m

    -- ---- T-01's

    module _ (op : Arith) (dtype : VideoType) (i : ℕ) (h : i < lanes l.width) (d : Word) (inside : Inside (r d)) where
      -- running the scalar line of a lane, without `sat`, gives the low 32 bits of the lane's exact result in its destination,
      pub arithmetic_gives_lane : x.instruction ≡ simd_of (computes op dtype false) l
          → at (run target (lane_record x.guard (computes op dtype false) l i (Plain d)) f).files (r d)
          ≡ low_of word_size (lane_result (LaneArith.Scalar op) dtype false l (at f (r l.a)) (at f (r l.b)) i)
      arithmetic_gives_lane is = laws.plain_holds target x allowed (computes op dtype false) l is f admitted guard i h d inside refl

      -- and with the selector of the lane's own part on d, that part is the low bits of the lane's result, clamped if `sat`
      pub part_gives_lane : (sat : Bool) → x.instruction ≡ simd_of (computes op dtype sat) l → (c : Word) → Inside (r c)
          → part_at (lane_size l.width) (at (run target (lane_record x.guard (computes op dtype sat) l i (Merge d (part_selector l.width i) c)) f).files (r d)) i
          ≡ low_of (lane_size l.width) (lane_result (LaneArith.Scalar op) dtype sat l (at f (r l.a)) (at f (r l.b)) i)
      part_gives_lane sat is c in_c = laws.merge_holds target x allowed (computes op dtype sat) l is f admitted guard i h d inside c in_c

    -- ---- all but the average

    -- "`add` equals c plus the sum of those scalar results, modulo 2^32", over the masked lanes; each scalar line may have a destination of its own
    pub add_is_sum : (o : Operation) → x.instruction ≡ simd_of o l → saturates o ≡ false → l.add ≡ true → (d : ℕ → Word) → ((i : ℕ) → Inside (r (d i)))
        → at (run target x f).files (r l.d) ≡ (at f (r l.c) + masked_sum l (λ i. at (run target (lane_record x.guard o l i (Plain (d i))) f).files (r (d i)))) % word_size
    add_is_sum o is no-sat adds d inside = laws.lanes_add target x allowed o l is f admitted guard adds no-sat d inside

    module _ (o : Operation) (is : x.instruction ≡ simd_of o l) (plain : l.add ≡ false) (i : ℕ) (h : i < lanes l.width) (masked : mask_at l.mask i ≡ true) (d : Word) (inside : Inside (r d)) where
      -- with a selector on d, that of the lane's own part, the scalar line's part is the masked lane: the same low bits, and with `sat` the same clamp
      pub lane_is_part : (c : Word) → Inside (r c)
          → part_at (lane_size l.width) (at (run target x f).files (r l.d)) i
          ≡ part_at (lane_size l.width) (at (run target (lane_record x.guard o l i (Merge d (part_selector l.width i) c)) f).files (r d)) i
      lane_is_part c in_c = laws.lane_merges target x allowed o l is f admitted guard i h d inside plain masked c in_c

      -- with a bare d and without `sat`, the masked lane is the low bits of the scalar line's word
      pub lane_is_low : saturates o ≡ false
          → part_at (lane_size l.width) (at (run target x f).files (r l.d)) i ≡ at (run target (lane_record x.guard o l i (Plain d)) f).files (r d) % lane_size l.width
      lane_is_low no-sat = laws.lane_low target x allowed o l is f admitted guard i h d inside plain no-sat masked

    -- with `sat` and `add` the clamp is at the lane's width: c plus the sum of what stands in the scalar lines' parts, each read by dtype
    pub clamped_add_is_sum : (op : Arith) (dtype : VideoType) → x.instruction ≡ simd_of (computes op dtype true) l → l.add ≡ true
        → (d c : ℕ → Word) → ((i : ℕ) → Inside (r (d i))) → ((i : ℕ) → Inside (r (c i)))
        → at (run target x f).files (r l.d)
        ≡ (at f (r l.c) + masked_sum l (λ i. extended l dtype i (at (run target (lane_record x.guard (computes op dtype true) l i (Merge (d i) (part_selector l.width i) (c i))) f).files (r (d i))))) % word_size
    clamped_add_is_sum op dtype is adds d c in_d in_c = laws.lanes_add_clamped target x allowed l f admitted guard op dtype is adds d c in_d in_c

  -- ==== on files that document 01 admits a technician may replace the SIMD line by scalar lines, one after another. Without `sat` or without `add`, each masked lane has one:

  module _ (o : Operation) (is : x.instruction ≡ simd_of o l) where
    -- all of them are lines of scalar video, legal and allowed at the target, under the SIMD line's guard,
    pub lines_allowed : (e : Word) → Inside (r e) → (y : Record) → Listed y (taken_apart x.guard o l e) → ScalarLine target x.guard y
    lines_allowed e inside y m = laws.lines_scalar target x allowed o l is e inside y m

    module _ (f : Files) (admitted : Admitted f) where
      -- and answer as it does: done, or skipped where the guard does not hold, and then they move nothing.
      pub lines_answer : (e : Word) → Inside (r e) → answers_all target (taken_apart x.guard o l e) f ≡ map (λ (y : Record). (run target x f).answer) (taken_apart x.guard o l e)
      lines_answer e inside = laws.lines_answer target x allowed o l is f admitted (taken_apart x.guard o l e) (laws.lines_scalar target x allowed o l is e inside)

      pub lines_skipped : guard_holds f.preds x.guard ≡ false → (e : Word) → Inside (r e) → run_all target (taken_apart x.guard o l e) f ≡ f
      lines_skipped guard e inside = all_skipped target x.guard (taken_apart x.guard o l e) (laws.lines_scalar target x allowed o l is e inside) f admitted guard

      module _ (one_line : saturates o && l.add ≡ false) where
        -- Where it holds, they leave in e, a register that is neither a nor b, what the SIMD line leaves in d, and move nothing else,
        pub replaced_elsewhere : guard_holds f.preds x.guard ≡ true → (e : Word) → Inside (r e) → (e.0 ≡ l.a.0 → ⊥) → (e.0 ≡ l.b.0 → ⊥)
            → run_all target (taken_apart x.guard o l e) f ≡ put (r e) (at (run target x f).files (r l.d)) f
        replaced_elsewhere guard e inside not_a not-b = laws.taken_apart_lem target x allowed o l is f admitted e inside one_line guard not_a not-b

        -- and in the SIMD line's place, where its d is neither a nor b, they leave the files as it does, whether the guard holds or not
        pub replaced_in_place : (l.d.0 ≡ l.a.0 → ⊥) → (l.d.0 ≡ l.b.0 → ⊥) → run_all target (taken_apart x.guard o l l.d) f ≡ (run target x f).files
        replaced_in_place not_a not-b = laws.in_place target x allowed o l is f admitted one_line not_a not-b

  -- With `sat` and `add` each masked lane has two, by way of a spare register t, which is none of a, b, c and the register that gets the result:

  module _ (op : Arith) (dtype : VideoType) (is : x.instruction ≡ simd_of (computes op dtype true) l) (t : Word) (in-t : Inside (r t)) where
    -- all of them are lines of scalar video, legal and allowed at the target, under the SIMD line's guard,
    pub clamped_allowed : (e : Word) → Inside (r e) → (y : Record) → Listed y (clamped_apart x.guard op dtype l t e) → ScalarLine target x.guard y
    clamped_allowed e in_e y m = clamped.clamped_scalar target x allowed op dtype l is t e in-t in_e y m

    module _ (f : Files) (admitted : Admitted f) where
      -- and answer as it does, and where the guard does not hold they move nothing.
      pub clamped_answer : (e : Word) → Inside (r e) → answers_all target (clamped_apart x.guard op dtype l t e) f ≡ map (λ (y : Record). (run target x f).answer) (clamped_apart x.guard op dtype l t e)
      clamped_answer e in_e =
          laws.lines_answer target x allowed (computes op dtype true) l is f admitted (clamped_apart x.guard op dtype l t e) (clamped.clamped_scalar target x allowed op dtype l is t e in-t in_e)

      pub clamped_skipped : guard_holds f.preds x.guard ≡ false → (e : Word) → Inside (r e) → run_all target (clamped_apart x.guard op dtype l t e) f ≡ f
      clamped_skipped guard e in_e = all_skipped target x.guard (clamped_apart x.guard op dtype l t e) (clamped.clamped_scalar target x allowed op dtype l is t e in-t in_e) f admitted guard

      module _ (adds : l.add ≡ true) (not_a : t.0 ≡ l.a.0 → ⊥) (not-b : t.0 ≡ l.b.0 → ⊥) (not-c : t.0 ≡ l.c.0 → ⊥) where
        -- Where it holds, they leave in e, which is neither a nor b, what the SIMD line leaves in d, something in t, and move nothing else,
        pub clamped_elsewhere : guard_holds f.preds x.guard ≡ true → (e : Word) → Inside (r e) → (t.0 ≡ e.0 → ⊥) → (e.0 ≡ l.a.0 → ⊥) → (e.0 ≡ l.b.0 → ⊥)
            → (w : ℕ) × (run_all target (clamped_apart x.guard op dtype l t e) f ≡ put (r e) (at (run target x f).files (r l.d)) (put (r t) w f))
        clamped_elsewhere guard e in_e not-e ea eb = clamped.clamped_apart_lem target x allowed op dtype l is t e in-t in_e adds not-e not_a not-b not-c ea eb f admitted guard

        -- and in the SIMD line's place, where its d is neither a nor b, they leave the files as it does, but for t, whether the guard holds or not
        pub clamped_in_place : (t.0 ≡ l.d.0 → ⊥) → (l.d.0 ≡ l.a.0 → ⊥) → (l.d.0 ≡ l.b.0 → ⊥)
            → (w : ℕ) × (run_all target (clamped_apart x.guard op dtype l t l.d) f ≡ put (r t) w (run target x f).files)
        clamped_in_place not-d da db = clamped.clamped_in_place target x allowed op dtype l is t in-t adds not-d not_a not-b not-c da db f admitted
