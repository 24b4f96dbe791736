use Rattle.std.proofs.Common.{arith, length, ◌<◌, ◌-◌, ◌^◌}
use Rattle.std.proofs.lemmas.List.{length-reverse}
use Rattle.std.proofs.lemmas.Iterator.Adapters.{YieldsList-from_rev_slice}
use Rattle.std.proofs.lemmas.Iterator.Consumers.{YieldsList-turn, YieldsList-end}
use Rattle.base.specs.Pack.{radix}
use Rattle.scan.specs.CodeLaws.{pack_rest, pack_end, code_long}
use Rattle.scan.proofs.code.Goals as goal
use Rattle.scan.proofs.code.Goals.{In-Some}

pub returns-then-w-gt-LONGEST_NAME : goal.returns-then-w-gt-LONGEST_NAME
returns-then-w-gt-LONGEST_NAME c = code_long c.args.w.now c.if-w-gt-LONGEST_NAME.true

-- a byte is still to come, so what is read has room for one more
small : (c : In-Some) → c.loop-b.number < radix ^ 8
small c =
    let w = c.args.w.now in
    let x = c.loop-b in
    let l = YieldsList-from_rev_slice w cc in
    let t = YieldsList-turn l x.yielded _ x.yielded_by _ _ c.in-Some.b c.in-Some.is c.next.ensures.steps in
    let h : 0 < length w - length x.yielded = omega (arith, t.0, length-reverse w) in
    omega (arith, x.invariant.1, pack_rest w (length w - length x.yielded) h x.invariant.0)

pub overflow_mul-number : goal.overflow_mul-number
overflow_mul-number c = omega (arith, small (goal.at.overflow_mul-number c).In-Some)

pub overflow_add-number : goal.overflow_add-number
overflow_add-number c = omega (arith, c.name_digit.ensures, small (goal.at.overflow_add-number c).In-Some)

pub returns : goal.returns
returns c =
    let w = c.args.w.now in
    let x = c.loop-b in
    let l = YieldsList-from_rev_slice w cc in
    let t = YieldsList-end l x.yielded _ x.yielded_by _ _ c.in-None.is c.next.ensures.steps in
    pack_end w (length w - length x.yielded) x.number x.invariant.0 (omega (arith, t.1, length-reverse w)) x.invariant.1
