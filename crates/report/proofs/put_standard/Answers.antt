use Rattle.std.proofs.Common.{arith, refl}
use native.Mathlib.Nat.{sub-zero}
use Rattle.text.specs.Buffer.{same}
use Rattle.report.proofs.Laws.{wrote_within, wrote_text, refused_text_lem}
use Rattle.report.proofs.put_standard.Goals as goal

pub slice_bounds-put-end : goal.slice_bounds-put-end
slice_bounds-put-end c = omega (arith, wrote_within _ _ _ refl _ (rw c.in-Ok.is at c.write.ensures))

pub returns-in-Ok : goal.returns-in-Ok
returns-in-Ok c =
    let e = rw c.in-Ok.is at c.write.ensures in
    rw (sub-zero, wrote_text _ _ _ refl _ e) at c.put.ensures

pub returns-in-Err : goal.returns-in-Err
returns-in-Err c = rw (← refused_text_lem _ _ _ refl _ (rw c.in-Err.is at c.write.ensures)) (same _)
