use Rattle.std.proofs.Common.{refl}
use Rattle.read.specs.Mirror.{candidate_of}
use Rattle.read.proofs.from_parts.Goals as goal

pub returns-in-Ok : goal.returns-in-Ok
unfolding candidate_of
returns-in-Ok c = simp (c.from_row.ensures, ← c.row.ensures, c.in-Ok.is)

pub returns-in-Err-NoOpcode : goal.returns-in-Err-NoOpcode
unfolding candidate_of
returns-in-Err-NoOpcode c = rw (← c.row.ensures, c.in-Err-NoOpcode.is, c.in-Err-NoOpcode.field-0-is) refl

pub returns-in-Err-Wrong : goal.returns-in-Err-Wrong
unfolding candidate_of
returns-in-Err-Wrong c = rw (← c.row.ensures, c.in-Err-Wrong.is, c.in-Err-Wrong.field-0-is) refl
