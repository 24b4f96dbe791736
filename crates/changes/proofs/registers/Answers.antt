use Rattle.std.proofs.Common.{lt-ltb, rules}
use Rattle.record.specs.Registers.{files}
use Rattle.text.specs.Out.{◌then◌, stands}
use Rattle.changes.specs.Changes.{registers_text}
use Rattle.changes.proofs.Laws.{registers_printed}
use Rattle.changes.specs.Registers.{printing}
use Rattle.changes.proofs.registers.Goals as goal

pub returns-then-out-lt-REGISTERS_ROOM : goal.returns-then-out-lt-REGISTERS_ROOM
unfolding printing
returns-then-out-lt-REGISTERS_ROOM c =
    simp
    (lt-ltb _ _ c.if-out-lt-REGISTERS_ROOM.true)

pub returns : goal.returns
unfolding registers_text
returns c =
    let w = c.put_file.ensures then c.put_file-2.ensures then c.put_file-3.ensures then c.put_file-4.ensures in
    registers_printed (files c.args.words.now c.args.halves.now c.args.doubles.now c.args.preds.now) c.if-out-lt-REGISTERS_ROOM.false
    (stands c.new-print.ensures.start w (search rules) c.place.ensures)
