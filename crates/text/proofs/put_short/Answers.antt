use Rattle.std.proofs.Common.{arith, rules, ◌/◌, ◌∙◌, ◌≡◌}
use Rattle.base.specs.Pack.{radix, unpacked}
use Rattle.base.specs.PackLaws.{unpacked_none, unpacked_more}
use Rattle.text.specs.Buffer.{goes_on_lem}
use Rattle.text.proofs.put_short.Goals as goal

pub loop-left-preserved : goal.loop-left-preserved
loop-left-preserved c = (
  search rules,
  search rules,
  let n = c.loop-left.left in
      goes_on_lem (unpacked (n / radix)) c.push-next.ensures
      ∙ rw (← unpacked_more n (search rules) c.loop-left.invariant.0) c.loop-left.invariant.2,
)

pub returns : goal.returns
returns c =
    let e : c.loop-left.left ≡ 0 = omega arith in
    record { text = rw (e, unpacked_none) at c.loop-left.invariant.2 }
