-- The reader has the listing, and what is found before its place is what is found in all.
use Rattle.std.proofs.Common.{◌≡◌, length, ◌-◌}
use Rattle.last.specs.Back.{last_beyond}
use Rattle.last.proofs.search.Given as goal

abbrev pub invariant-loop-b : goal.invariant-loop-b
invariant-loop-b l = (l.b.listing.now ≡ l.listing) × (last_beyond l.listing l.b.gone l.n ≡ last_beyond l.listing 0 l.n)

abbrev pub decreases-loop-b : goal.decreases-loop-b
decreases-loop-b l = length l.listing - l.b.gone
