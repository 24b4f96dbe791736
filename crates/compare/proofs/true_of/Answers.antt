use lib.Ieee.{of_bits, to_bits, of_fields, odd, span, climb}
use Rattle.compare.proofs.true_of.Goals as goal

pub returns-in-F32 : goal.returns-in-F32
unfolding of_bits to_bits of_fields odd span climb
returns-in-F32 c = rw c.in-F32.is
