use Rattle.std.proofs.Common.{ℕ, ◌+◌, ◌%◌, ◌^◌, ap, rules}
use Rattle.lastline.specs.TextLaws.{found_put, not_placed}
use Rattle.lastline.proofs.put_found.Goals as goal

pub returns-in-Ok : goal.returns-in-Ok
returns-in-Ok c =
    λ number m x.
    let n = ap (λ (k : ℕ). (k + 1) % 2 ^ 64) c.feeds.ensures in
    found_put x c.left-at.result c.until-end.result c.left-at.ensures c.until-end.ensures.0 _ n (search rules)
    (rw c.in-Ok.is at c.read.ensures) c.put_record.ensures

pub returns-in-Err : goal.returns-in-Err
returns-in-Err c =
    λ number m x. not_placed x c.left-at.result c.until-end.result c.left-at.ensures c.until-end.ensures.0 _ c.in-Err.field-0.place (rw c.in-Err.is at c.read.ensures)
