use Rattle.std.proofs.Common.{refl, sym, true, ◌∙◌, ◌≡◌}
use Rattle.std.proofs.Math.Bool.{and-true}
use Rattle.places.specs.Mirror.{guard_good}
use Rattle.record.specs.Modifiers.{modifiers_fit}
use Rattle.read.specs.Mirror.{guard_in, record_of}
use Rattle.read.proofs.from_row.Goals as goal

pub returns-in-Ok : goal.returns-in-Ok
returns-in-Ok c =
    let fits : modifiers_fit (record_of (guard_in c.args.g) c.args.i) ≡ true = sym c.row_fits.ensures ∙ c.if-not-row_fits.false in
    c.from_filled.ensures ∙ rw (← c.fill_in.ensures, c.in-Ok.is, fits, and-true (guard_good c.args.g)) refl
