use Rattle.write.specs.Pieces.{no_name, one_name}
use Rattle.write.proofs.combination_modifier.Goals as goal

pub returns-in-Alone : goal.returns-in-Alone
returns-in-Alone c = rw c.in-Alone.is no_name

pub returns-in-With : goal.returns-in-With
returns-in-With c = rw c.in-With.is (one_name c.dot.ensures c.bool_number.ensures)
