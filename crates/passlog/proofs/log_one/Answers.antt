use Rattle.std.proofs.Common.{arith, drop, rules, ◌-◌, ◌≡◌}
use Rattle.signs.specs.Bytes.{line_feed}
use Rattle.lines.specs.Until.{length_to}
use Rattle.passlog.specs.StepLaws.{line_logged}
use Rattle.passlog.proofs.log_one.Goals as goal

pub returns : goal.returns
returns c =
    let q : c.until-end.result - c.args.from ≡ length_to line_feed (drop c.args.from c.args.input.now) = omega (arith, c.until-end.ensures.0) in
    let p = rw q at c.put_line-p.ensures in
    rw c.until-end.ensures.0 (line_logged c.requires.0 c.requires.1 c.requires.2 (search rules) p)
