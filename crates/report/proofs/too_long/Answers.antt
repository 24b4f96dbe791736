use Rattle.std.proofs.Common.{length, sym, ◌∙◌}
use Rattle.report.specs.ChunkLaws.{room_there, none_printed, over_limit}
use Rattle.report.proofs.too_long.Goals as goal

pub returns-then-not-goes_on : goal.returns-then-not-goes_on
returns-then-not-goes_on c = λ t m f. none_printed t m _ _ _ f _ (sym c.goes_on.ensures ∙ c.if-not-goes_on.true)

pub returns : goal.returns
returns c =
    let h = room_there (length c.args.listing.now) c.args.from (length c.args.out.now) c.goes_on.ensures (c.if-not-goes_on.false) in
    λ t m f. over_limit h.0 h.1 c.requires c.put-used.ensures
