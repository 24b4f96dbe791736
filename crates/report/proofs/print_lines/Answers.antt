use Rattle.std.proofs.Common.{arith, drop, length, lit<, mod-lt, rules, sym, ◌-◌, ◌∙◌, ◌≡◌}
use Rattle.signs.specs.Bytes.{line_feed}
use Rattle.lines.specs.Until.{length_to}
use Rattle.report.specs.ChunkLaws.{used_length}
use Rattle.report.specs.ChunkLaws.{room_there}
use Rattle.report.specs.ChunkLaws.{goes_on_lem, stops}
use Rattle.report.proofs.print_lines.Goals as goal

pub loop-target-preserved : goal.loop-target-preserved
loop-target-preserved c =
    let h = room_there (length c.args.listing.now) c.loop-target.at (length c.loop-target.out - c.loop-target.used) c.goes_on.ensures c.loop-target-test.true in
    let e = c.until-end.ensures.0 in
    let q : c.until-end.result - c.loop-target.at ≡ length_to line_feed (drop c.loop-target.at c.args.listing.now) = omega (arith, e) in
    let g = goes_on_lem c.loop-target.invariant.6 c.loop-target.invariant.7 h.0 (rw c.loop-target.invariant.5 at h.1) c.requires (rw q at c.put_line-used.ensures) in (
      omega (arith, used_length g, g.fits),
      search rules,
      search rules,
      search rules,
      search rules,
      search rules,
      rw (c.next_place-at.ensures, e, c.wrapping_add_u64-number.ensures.value) g,
      rw c.wrapping_add_u64-number.ensures.value (mod-lt _ (lit< tt)),
    )

pub returns : goal.returns
returns c = stops c.loop-target.invariant.6 (sym (rw c.loop-target.invariant.5 at c.goes_on.ensures) ∙ c.loop-target-test.false)
