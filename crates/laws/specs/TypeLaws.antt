-- A type's name is its letter and its width: so `kind_of` and `type_bits` say of each type what its name says. `is_f32` is of f32
-- alone, so that `ftz` in set and setp goes with no other type. Assumes nothing.
use Rattle.std.specs.Prelude.{ℕ, ◌≡◌, refl, true, List, ◌++◌}
use Rattle.std.proofs.Common.{arith}
use Rattle.signs.specs.Text.{bytes}
use Rattle.signs.specs.Digits.{decimal, decimal_in}
use Rattle.record.specs.Modifiers.{kind_of, is_f32}
use Rattle.record.specs.Operands.{type_bits}
use Rattle.record.specs.declared.Kind.{Kind}
use Rattle.record.specs.declared.Kind.TheVariants.{B, U, S, F}
use Rattle.record.specs.declared.DataType.{DataType}
use Rattle.record.specs.declared.DataType.TheVariants.{B16, B32, B64, U16, U32, U64, S16, S32, S64, F32, F64}
use Rattle.rules.specs.Names.{type_name}

abbrev pub letter : Kind → List ℕ
letter B = bytes "b"
letter U = bytes "u"
letter S = bytes "s"
letter F = bytes "f"

pub type_spelled : (t : DataType) → type_name t ≡ letter (kind_of t) ++ decimal (type_bits t)
unfolding decimal decimal_in
type_spelled B16 = refl
type_spelled B32 = refl
type_spelled B64 = refl
type_spelled U16 = refl
type_spelled U32 = refl
type_spelled U64 = refl
type_spelled S16 = refl
type_spelled S32 = refl
type_spelled S64 = refl
type_spelled F32 = refl
type_spelled F64 = refl

not_so : {A : Type 0} → (◌≡◌ {A = ℕ} 0 1) → A
not_so e = absurd (omega arith)

pub ftz_f32 : (t : DataType) → is_f32 t ≡ true → t ≡ F32
ftz_f32 B16 e = not_so cc
ftz_f32 B32 e = not_so cc
ftz_f32 B64 e = not_so cc
ftz_f32 U16 e = not_so cc
ftz_f32 U32 e = not_so cc
ftz_f32 U64 e = not_so cc
ftz_f32 S16 e = not_so cc
ftz_f32 S32 e = not_so cc
ftz_f32 S64 e = not_so cc
ftz_f32 F32 e = refl
ftz_f32 F64 e = not_so cc
