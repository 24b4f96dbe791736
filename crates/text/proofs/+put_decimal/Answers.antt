use Rattle.std.proofs.Common.{arith, ◌+◌, ◌≡◌}
use Rattle.signs.specs.Digits.{zero_byte}
use Rattle.text.specs.Buffer.{◌then◌}
use Rattle.text.specs.DigitLaws.{one_digit, more_digits}
use Rattle.text.proofs.+put_decimal.Goals as goal

pub returns-then-n-lt10 : goal.returns-then-n-lt10
returns-then-n-lt10 t c =
    let e : c.digit.result ≡ c.args.n + zero_byte = omega (arith, c.digit.ensures) in
    rw (one_digit _ c.if-n-lt10.true, ← e) c.push.ensures

pub returns : goal.returns
returns t c =
    rw (more_digits _ c.if-n-lt10.false, ← c.digit-2.ensures) (c.put_decimal-next.ensures then c.push-2.ensures)
