use Rattle.text.specs.Out.{Writes}
use Rattle.changes.specs.Changes.{changes_text}
use Rattle.changes.proofs.put_file.Given as goal

abbrev pub invariant-loop-k : goal.invariant-loop-k
invariant-loop-k l = Writes l.initial.out (changes_text l.file l.k l.files) l.out
