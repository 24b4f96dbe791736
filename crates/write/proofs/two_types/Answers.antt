use Rattle.write.specs.Pieces.{end, skip, name, maybe_last, opcode}
use Rattle.write.proofs.two_types.Goals as goal

pub returns : goal.returns
returns c = record {
  head = λ s o. opcode s
      (name c.dot.ensures c.video_number.ensures
      (name c.dot-2.ensures c.video_number-2.ensures
      (name c.dot-3.ensures c.six_number.ensures
      (maybe_last o (skip end)))));
}
