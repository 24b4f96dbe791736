use Rattle.lastline.specs.Steps.{no_room}
use Rattle.lastline.specs.TextLaws.{laid_by}
use Rattle.lastline.proofs.answer.Goals as goal

pub returns-then-out-lt-ANSWER_ROOM : goal.returns-then-out-lt-ANSWER_ROOM
returns-then-out-lt-ANSWER_ROOM c = no_room c.if-out-lt-ANSWER_ROOM.true

pub returns : goal.returns
returns c = laid_by c.put_answer.ensures c.if-out-lt-ANSWER_ROOM.false
