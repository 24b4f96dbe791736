use Rattle.std.proofs.Common.{arith, length, sym, ◌∙◌, ◌≡◌, ◌≤◌}
use Rattle.tally.proofs.Laws.{tally_full}
use Rattle.tally.specs.PlaceLaws.{tally_over, tally_fit, wrong_count, tag_twice, entry_fits, all_fit}
use Rattle.tally.proofs.is_tally.Goals as goal

pub returns-then-n-gt-TAGS : goal.returns-then-n-gt-TAGS
returns-then-n-gt-TAGS c =
    let full = tally_full c.args.t _ c.well_formed.0 in
    sym (tally_over c.args.t full c.if-n-gt-TAGS.true)

pub returns-then-not-count_fits : goal.returns-then-not-count_fits
returns-then-not-count_fits c =
    let full = tally_full c.args.t _ c.well_formed.0 in
    let fits : c.args.t.len ≤ length c.args.t.entries = omega (arith, tally_full c.args.t _ c.well_formed.0) in
    sym (tally_fit c.args.t full c.if-n-gt-TAGS.false ∙ sym c.loop-i.invariant.1
    ∙ wrong_count c.args.t.entries c.args.t.len fits c.loop-i.i c.loop-i-test.true (sym c.count_fits.ensures ∙ c.if-not-count_fits.true))

pub returns-then-k-n : goal.returns-then-k-n
returns-then-k-n c =
    let full = tally_full c.args.t _ c.well_formed.0 in
    let fits : c.args.t.len ≤ length c.args.t.entries = omega (arith, tally_full c.args.t _ c.well_formed.0) in
    sym (tally_fit c.args.t full c.if-n-gt-TAGS.false ∙ sym c.loop-i.invariant.1
    ∙ tag_twice c.args.t.entries c.args.t.len fits c.loop-i.i c.loop-i-test.true (sym c.count_fits.ensures ∙ c.if-not-count_fits.false) (rw c.place-k.ensures at c.if-k-n.true))

pub loop-i-preserved : goal.loop-i-preserved
loop-i-preserved c =
    let fits : c.args.t.len ≤ length c.args.t.entries = omega (arith, tally_full c.args.t _ c.well_formed.0) in (
      omega arith,
      sym (entry_fits c.args.t.entries c.args.t.len fits c.loop-i.i c.loop-i-test.true (sym c.count_fits.ensures ∙ c.if-not-count_fits.false) (rw c.place-k.ensures at c.if-k-n.false))
          ∙ c.loop-i.invariant.1,
    )

pub returns : goal.returns
returns c =
    let full = tally_full c.args.t _ c.well_formed.0 in
    let fits : c.args.t.len ≤ length c.args.t.entries = omega (arith, tally_full c.args.t _ c.well_formed.0) in
    let e : c.loop-i.i ≡ c.args.t.len = omega arith in
    sym (tally_fit c.args.t full c.if-n-gt-TAGS.false ∙ sym (rw e at c.loop-i.invariant.1) ∙ all_fit c.args.t.entries c.args.t.len fits)
