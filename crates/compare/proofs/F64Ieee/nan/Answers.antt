use Rattle.std.proofs.Common.{refl}
use lib.Ieee.{of_bits, of_fields}
use Rattle.compare.proofs.F64Ieee.nan.Goals as goal

pub returns : goal.returns
unfolding of_bits of_fields
returns c = refl
