-- What was printed, and that what is printed from here on goes behind it.
use Rattle.std.proofs.Common.{length, ◌-◌}
use Rattle.record.specs.Registers.{files}
use Rattle.report.specs.OutputLaws.{Called}
use Rattle.listing.proofs.say_lines.Given as goal

abbrev pub invariant-loop-at : goal.invariant-loop-at
invariant-loop-at g l =
    let before = l.initial.registers in
    let now = l.registers in
    Called l.target l.mode l.listing
    (files before.words before.halves before.doubles before.preds)
    l.at l.number
    (files now.words now.halves now.doubles now.preds)

abbrev pub decreases-loop-at : goal.decreases-loop-at
decreases-loop-at g l = length l.listing - l.at
