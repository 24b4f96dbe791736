-- Change request T-07, old yard cards: a target goes with each reading and execution, sm_10, sm_13, sm_20 or sm_30. When a target
-- flushes, and which records it allows. Records, their legality and writing know no target.
use Rattle.std.specs.Prelude.{ℕ, ◌≡◌, Bool, true, false, ◌||◌, List, leb}
use Rattle.signs.specs.Text.{bytes}
use Rattle.record.specs.Refusals.{Legal}
use Rattle.record.specs.declared.Target.{Target}
use Rattle.record.specs.declared.Target.TheVariants.{Sm10, Sm13, Sm20, Sm30}
use Rattle.record.specs.declared.DataType.{DataType}
use Rattle.record.specs.declared.DataType.TheVariants.{B16, B32, B64, U16, U32, U64, S16, S32, S64, F32, F64}
use Rattle.record.specs.declared.SlctType.{SlctType}
use Rattle.record.specs.declared.Instruction.{Instruction}
use Rattle.record.specs.declared.Instruction.TheVariants.{Arithmetic, Vset, VsetLanes, ArithmeticLanes, Set, Setp, Selp, Slct}
use Rattle.record.specs.declared.Record.{Record}

abbrev pub target_name : Target → List ℕ
target_name Sm10 = bytes "sm_10"
target_name Sm13 = bytes "sm_13"
target_name Sm20 = bytes "sm_20"
target_name Sm30 = bytes "sm_30"

-- the number in its name: a later target has a higher one
abbrev pub generation : Target → ℕ
generation Sm10 = 10
generation Sm13 = 13
generation Sm20 = 20
generation Sm30 = 30

-- ==== when a target flushes

-- The first two flush f32 subnormals in set, setp and slct whether or not `ftz` stands there; the later two only when it does
abbrev pub flushes_always : Target → Bool
flushes_always Sm10 = true
flushes_always Sm13 = true
flushes_always Sm20 = false
flushes_always Sm30 = false

abbrev pub flushes : Target → Bool → Bool
flushes target ftz = flushes_always target || ftz

-- so c of slct with f32 is flushed
abbrev pub slct_type_at : Target → SlctType → SlctType
slct_type_at target SlctType.S32 = SlctType.S32
slct_type_at target (SlctType.F32 ftz) = SlctType.F32 (flushes target ftz)

-- ==== which records a target allows

-- f64 types need sm_13; any other type needs nothing, so it goes with the first target on
abbrev pub type_needs : DataType → Target
type_needs B16 = Sm10
type_needs B32 = Sm10
type_needs B64 = Sm10
type_needs U16 = Sm10
type_needs U32 = Sm10
type_needs U64 = Sm10
type_needs S16 = Sm10
type_needs S32 = Sm10
type_needs S64 = Sm10
type_needs F32 = Sm10
type_needs F64 = Sm13

-- scalar video [needs] sm_20, forms with 2 or 4 sm_30; set and setp go by stype, selp by its type, slct by dtype
abbrev pub needs : Instruction → Target
needs (Arithmetic op dtype sat s) = Sm20
needs (Vset cmp s) = Sm20
needs (VsetLanes cmp l) = Sm30
needs (ArithmeticLanes op dtype sat l) = Sm30
needs (Set dtype d s) = type_needs s.stype
needs (Setp d s) = type_needs s.stype
needs (Selp s c) = type_needs s.dtype
needs (Slct ctype s c) = type_needs s.dtype

-- 12, target too old, says that this does not hold
unfoldable pub allows : Target → Record → Bool
allows target x = leb (generation (needs x.instruction)) (generation target)

-- the legal records that a target allows
pub record Allowed (target : Target) (x : Record) : Type 0 where
  pub legal : Legal x
  pub allowed : allows target x ≡ true
