use Rattle.std.proofs.Common.{length, rules, sym, ◌∙◌, ◌≤◌}
use Rattle.tally.specs.PlaceLaws.{from_here}
use Rattle.tally.proofs.place.Goals as goal

pub returns-then-e-tag : goal.returns-then-e-tag
returns-then-e-tag c =
    let fits : c.args.n ≤ length c.args.entries = search rules in
    sym (from_here c.args.tag c.args.entries c.args.n fits c.loop-i.i c.loop-i-test.true c.if-e-tag.true)
    ∙ c.loop-i.invariant.1
