use Rattle.std.proofs.Common.{add-one, rules, ◌≡◌}
use Rattle.text.specs.Out.{nothing, ◌then◌}
use Rattle.record.specs.Registers.{count_of}
use Rattle.changes.specs.Changes.{changes_text}
use Rattle.changes.proofs.put_file.Goals as goal

pub loop-k-init : goal.loop-k-init
unfolding changes_text
loop-k-init c = nothing _

pub loop-k-preserved : goal.loop-k-preserved
unfolding changes_text
loop-k-preserved c = rw (add-one, ← c.value.ensures) (c.loop-k.invariant then c.put_change.ensures)

pub returns : goal.returns
returns c =
    let e : c.loop-k.k ≡ count_of c.args.file = search rules in
    rw e at c.loop-k.invariant
