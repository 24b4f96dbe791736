use Rattle.std.proofs.Common.{length, ◌-◌, ◌<◌, ◌^◌, ◌≡◌, ◌≤◌}
use Rattle.record.specs.Registers.{files}
use Rattle.report.specs.ChunkLaws.{Going}
use Rattle.report.proofs.print_lines.Given as goal

abbrev pub invariant-loop-target : goal.invariant-loop-target
invariant-loop-target l = (l.used ≤ length l.initial.out)
    × (length l.words ≡ length l.initial.words)
    × (length l.halves ≡ length l.initial.halves)
    × (length l.doubles ≡ length l.initial.doubles)
    × (length l.preds ≡ length l.initial.preds)
    × (length l.out ≡ length l.initial.out)
    × Going l.target l.mode l.listing l.from l.first (files l.initial.words l.initial.halves l.initial.doubles l.initial.preds) l.initial.out l.at l.number l.used (files l.words l.halves l.doubles l.preds) l.out
    × (l.number < 2 ^ 64)

abbrev pub decreases-loop-target : goal.decreases-loop-target
decreases-loop-target l = length l.listing - l.at
