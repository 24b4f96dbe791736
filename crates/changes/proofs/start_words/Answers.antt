use Rattle.record.specs.Registers.{word}
use Rattle.changes.specs.Changes.{start_value, start_files}
use Rattle.changes.proofs.Laws.{tabbed}
use Rattle.changes.proofs.start_words.Goals as goal

pub returns : goal.returns
unfolding start_files
returns c = tabbed 64 (λ n. start_value (word n)) _ c.from_fn.ensures.items.long (λ i h. (c.from_fn.ensures.items.at i 0 h).2.met)
