use Rattle.std.proofs.Common.{ap, not, sym}
use Rattle.base.specs.Moved.{un_lt, un_le, un_eq}
use Rattle.video.specs.Exact.{bias}
use Rattle.rules.specs.Numbers.{holds_z}
use Rattle.video.proofs.holds.Goals as goal

pub returns-in-Eq : goal.returns-in-Eq
unfolding holds_z
returns-in-Eq c = rw c.in-Eq.is (sym (un_eq bias c.args.x c.args.y))

pub returns-in-Ne : goal.returns-in-Ne
unfolding holds_z
returns-in-Ne c = rw c.in-Ne.is (ap not (sym (un_eq bias c.args.x c.args.y)))

pub returns-in-Lt : goal.returns-in-Lt
unfolding holds_z
returns-in-Lt c = rw c.in-Lt.is (sym (un_lt bias c.args.x c.args.y))

pub returns-in-Le : goal.returns-in-Le
unfolding holds_z
returns-in-Le c = rw c.in-Le.is (sym (un_le bias c.args.x c.args.y))

pub returns-in-Gt : goal.returns-in-Gt
unfolding holds_z
returns-in-Gt c = rw c.in-Gt.is (sym (un_lt bias c.args.y c.args.x))

pub returns-in-Ge : goal.returns-in-Ge
unfolding holds_z
returns-in-Ge c = rw c.in-Ge.is (sym (un_le bias c.args.y c.args.x))
