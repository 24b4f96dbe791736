-- Each return is a case of `last_of`, by any full reading.
use Rattle.std.proofs.Common.{lt-ltb, le-ltb, le-leb}
use Rattle.std.proofs.lemmas.Bool.{lt-leb}
use Rattle.last.specs.LastLaws.{ends_long, ends_register, ends_told}
use Rattle.last.proofs.last_writer.Goals as goal

pub returns-then-too_long : goal.returns-then-too_long
returns-then-too_long c = λ answer full. ends_long _ _ answer full (lt-ltb _ _ c.if-too_long.true)

pub returns-then-out_of_file : goal.returns-then-out_of_file
returns-then-out_of_file c = λ answer full. ends_register _ _ answer full (le-ltb _ _ c.if-too_long.false) (le-leb _ _ c.if-out_of_file.true)

pub returns : goal.returns
returns c = λ answer full. ends_told _ _ answer full (le-ltb _ _ c.if-too_long.false) (lt-leb _ _ c.if-out_of_file.false) c.search.ensures
