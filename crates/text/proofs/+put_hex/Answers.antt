use Rattle.std.proofs.Common.{arith}
use Rattle.text.specs.Buffer.{◌then◌, same}
use Rattle.text.specs.DigitLaws.{hex_none, hex_more}
use Rattle.text.proofs.+put_hex.Goals as goal

pub returns-then-digits-eq0 : goal.returns-then-digits-eq0
returns-then-digits-eq0 t c = rw (c.if-digits-eq0.true, hex_none) (same _)

pub returns : goal.returns
returns t c =
    rw (hex_more c.args.digits c.args.x (omega arith), ← c.hex_digit.ensures)
    (c.put_hex-next.ensures then c.push.ensures)
