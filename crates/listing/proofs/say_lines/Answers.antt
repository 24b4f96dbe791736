use Rattle.std.proofs.Common.{◌≤◌, length, arith}
use Rattle.report.specs.Chunks.{line_room}
use Rattle.report.specs.OutputLaws.{none_called, called, call_goes_on, told}
use Rattle.listing.proofs.say_lines.Goals as goal

pub loop-at-init : goal.loop-at-init
loop-at-init g c = none_called _ _ _ _

pub loop-at-smaller : goal.loop-at-smaller
loop-at-smaller g c =
    let room : line_room ≤ length c.loop-at.out = omega arith in
    omega (arith, call_goes_on c.loop-at-test.true room c.some_lines-p.ensures.some)

pub loop-at-preserved : goal.loop-at-preserved
loop-at-preserved g c = called c.loop-at.invariant c.loop-at-test.true (omega arith) c.some_lines-p.ensures

pub returns : goal.returns
returns g c = λ _. told c.loop-at.invariant c.loop-at-test.false
