use Rattle.passlog.specs.StepLaws.{none_left, no_room_there, over_limit}
use Rattle.passlog.proofs.log_line.Goals as goal

pub returns-then-input-from : goal.returns-then-input-from
returns-then-input-from c = none_left c.if-input-from.true

pub returns-then-out-lt-LINE_ROOM : goal.returns-then-out-lt-LINE_ROOM
returns-then-out-lt-LINE_ROOM c = no_room_there c.if-input-from.false c.if-out-lt-LINE_ROOM.true

pub returns-then-input-gt-LIMIT : goal.returns-then-input-gt-LIMIT
returns-then-input-gt-LIMIT c = over_limit c.if-input-from.false c.if-out-lt-LINE_ROOM.false c.if-input-gt-LIMIT.true c.put.ensures
