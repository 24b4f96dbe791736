-- Every public contract that is an equation gives one outcome and no second. Assumes nothing.
use Rattle.std.specs.Prelude.{◌≡◌}
use Rattle.std.proofs.Common.{sym, ◌∙◌}

-- no two outcomes x and y satisfy a contract that is an equation with a definition
pub one_outcome : {A : Type 0} {x y meant : A} → x ≡ meant → y ≡ meant → x ≡ y
one_outcome p q = p ∙ sym q
