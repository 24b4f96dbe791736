-- What the proofs of this crate cite: an array of a struct has as many entries as its type says. Assumes nothing.
use mathlib.Core.Path.{◌≡◌}
use mathlib.Core.List.{List}
use lib.ListN.{length}
use mir.Val.{Val}
use denote.Laws.{Is}
use Rattle.tally.specs.declared.Tally.{Tally}
use Rattle.tally.specs.Passes.{most_tags}
use Rattle.tally.specs.contracts.Tally as T

pub tally_full : (t : Tally) (vs : List Val) → Is T.the_row t vs → length t.entries ≡ most_tags
tally_full t vs p = p.1.1.1.0.1.0.1
