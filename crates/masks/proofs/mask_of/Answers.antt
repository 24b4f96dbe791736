use Rattle.std.proofs.Common.{ℕ, arith, eq-eqb, ne_eqb, sym, ◌%◌, ◌-◌, ◌/◌, ◌∙◌, ◌≡◌}
use Rattle.base.specs.Pack.{radix, pack}
use Rattle.rules.specs.Numbers.{lanes}
use Rattle.rules.specs.Names.{lane_letter}
use Rattle.signs.specs.Digits.{zero_byte}
use Rattle.record.specs.declared.LaneWidth.{LaneWidth}
use Rattle.record.specs.declared.Mask.{Mask}
use Rattle.masks.specs.Masks.{falling, mask_of, no_lane}
use Rattle.masks.specs.MaskLaws.{falls, stops, ends}
use Rattle.masks.proofs.mask_of.Goals as goal
use Rattle.masks.proofs.mask_of.Goals.{then-x-letter-via-then-x-letter, then-x-letter-via-else-x-letter+then-rest-eq0}

-- the digits that are left, from the last one and the lanes so far, give the mask of the whole name
whole : (w : LaneWidth) (x limit last rest : ℕ) (mask : Mask) → x % radix ≡ pack (lane_letter w) → (x / radix ≡ 0 → ⊥) → lanes w ≡ limit - zero_byte
    → falling (last - zero_byte) mask rest ≡ falling (limit - zero_byte) no_lane (x / radix) → falling (last - zero_byte) mask rest ≡ mask_of w x
unfolding mask_of
whole w x limit last rest mask l n e i =
    rw (eq-eqb (x % radix) (pack (lane_letter w)) l, ne_eqb (x / radix) 0 n, e) i

pub returns-then-x-letter : goal.returns-then-x-letter
unfolding mask_of
returns-then-x-letter c =
    let a = c.args in
    elim c.then-x-letter.branch [
      | then-x-letter-via-then-x-letter w ↦ rw (ne_eqb (a.x % radix) (pack (lane_letter a.w)) (λ e. omega (arith, c.letter.ensures.0, w.if-x-letter.true)))
      | then-x-letter-via-else-x-letter+then-rest-eq0 w ↦
          let l : a.x % radix ≡ pack (lane_letter a.w) = omega (arith, c.letter.ensures.0, w.if-x-letter.false) in
          let z : a.x / radix ≡ 0 = omega (arith, w.if-rest-eq0.true) in
          rw (eq-eqb (a.x % radix) (pack (lane_letter a.w)) l, z)
    ]

pub returns-then-digit-lt48 : goal.returns-then-digit-lt48
returns-then-digit-lt48 c =
    let s = c.loop-rest in
    sym (stops (s.last - zero_byte) s.mask s.rest (omega arith) (λ g. omega (arith, c.then-digit-lt48.either))) ∙ whole c.args.w c.args.x c.digit_limit-last.result s.last s.rest s.mask (omega (arith, c.letter.ensures.0)) (λ e. omega arith) (omega (arith, c.digit_limit-last.ensures)) s.invariant

pub loop-rest-preserved : goal.loop-rest-preserved
loop-rest-preserved c =
    let s = c.loop-rest in
    sym (falls (s.last - zero_byte) s.mask s.rest (omega arith) (omega arith) (omega arith) (omega arith)) ∙ s.invariant

pub returns : goal.returns
returns c =
    let s = c.loop-rest in
    sym (ends (s.last - zero_byte) s.mask) ∙ rw c.loop-rest-test.false at (whole c.args.w c.args.x c.digit_limit-last.result s.last s.rest s.mask (omega (arith, c.letter.ensures.0)) (λ e. omega arith) (omega (arith, c.digit_limit-last.ensures)) s.invariant)
