use Rattle.std.proofs.Common.{arith, sym, ◌∙◌}
use Rattle.tally.specs.CallLaws.{tally_small, call_23, call_weak, call_strong}
use Rattle.tally.proofs.Laws.{tally_full}
use Rattle.tally.proofs.update.Goals as goal

pub returns-then-not-is_tally : goal.returns-then-not-is_tally
returns-then-not-is_tally c = call_23 c.args.t (tally_full c.args.t _ c.well_formed.0) c.args.r c.args.floor (sym c.is_tally.ensures ∙ c.if-not-is_tally.true)

pub returns-then-v-lt-ENOUGH_VOTES : goal.returns-then-v-lt-ENOUGH_VOTES
returns-then-v-lt-ENOUGH_VOTES c =
    rw c.votes-v.ensures
    (call_weak c.args.t (tally_full c.args.t _ c.well_formed.0) c.args.r c.args.floor (sym c.is_tally.ensures ∙ c.if-not-is_tally.false) (omega (arith, c.votes-v.ensures, c.if-v-lt-ENOUGH_VOTES.true)))

pub strong-requires : goal.strong-requires
strong-requires c = tally_small c.args.t (tally_full c.args.t _ c.well_formed.0) (sym c.is_tally.ensures ∙ c.if-not-is_tally.false)

pub returns : goal.returns
returns c =
    c.strong.ensures
    ∙ call_strong c.args.t (tally_full c.args.t _ c.well_formed.0) c.args.r c.args.floor (sym c.is_tally.ensures ∙ c.if-not-is_tally.false) (omega (arith, c.votes-v.ensures, c.if-v-lt-ENOUGH_VOTES.false))
