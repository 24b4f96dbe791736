-- What stands in an optional place and is not of its set.
use Rattle.std.specs.Prelude.{ℕ, ◌≡◌, refl, Bool, true, false, not, ◌&&◌, eqb, None, Option, Some}
use Rattle.std.proofs.Common.{arith}
use Rattle.std.proofs.Math.Bool.{and-eq-true_iff}
use Rattle.std.proofs.lemmas.Bool.{not-true}
use Rattle.base.specs.Pack.{code_of}
use Rattle.base.specs.Values.{each}
use Rattle.rules.specs.Shape.{Name}
use Rattle.rules.specs.Names.{set_type_name, type_name, op2_name}
use Rattle.laws.specs.Choices.{set_types, types, op2s}
use Rattle.record.specs.declared.SetType.{SetType}
use Rattle.record.specs.declared.DataType.{DataType}
use Rattle.record.specs.declared.Op2.{Op2}
use Rattle.names.specs.Back.{bool_op_of, op2_of}
use Rattle.heads.specs.Tables.{sat_code, ftz_code}
use Rattle.record.specs.declared.BoolOp.{BoolOp}

pub op2_none : op2_of 0 ≡ None
unfolding op2_of
op2_none = refl

pub op2_sat : (t : Op2) → eqb (code_of (op2_name t)) sat_code ≡ false
unfolding code_of
op2_sat t = not-true (eqb (code_of (op2_name t)) sat_code) (each (λ t. not (eqb (code_of (op2_name t)) sat_code)) op2s refl t)

pub ftz_bool : bool_op_of ftz_code ≡ None
unfolding bool_op_of
ftz_bool = refl

-- ==== no type is a BoolOp, nor is it ftz

pub record Skips (w : Name) : Type 0 where
  pub bool : bool_op_of (code_of w) ≡ None
  pub ftz : eqb (code_of w) ftz_code ≡ false

abbrev no_bool : Option BoolOp → Bool
no_bool (Some t) = false
no_bool None = true

no_bool_lem : (r : Option BoolOp) → no_bool r ≡ true → r ≡ None
no_bool_lem None e = refl
no_bool_lem (Some t) e = let z : ◌≡◌ {A = ℕ} 0 1 = cc in absurd (omega arith)

abbrev skips : Name → Bool
skips w = no_bool (bool_op_of (code_of w)) && not (eqb (code_of w) ftz_code)

skipped : (w : Name) → skips w ≡ true → Skips w
skipped w e = let k = simp and-eq-true_iff at e in record { bool = no_bool_lem (bool_op_of (code_of w)) k.0; ftz = not-true (eqb (code_of w) ftz_code) k.1 }

pub type_skips : (t : DataType) → Skips (type_name t)
unfolding bool_op_of code_of
type_skips t = skipped (type_name t) (each (λ t. skips (type_name t)) types refl t)

pub set_type_skips : (t : SetType) → Skips (set_type_name t)
unfolding bool_op_of code_of
set_type_skips t = skipped (set_type_name t) (each (λ t. skips (set_type_name t)) set_types refl t)
