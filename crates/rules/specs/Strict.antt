-- Change request T-09, no byte against itself: a mode goes with each reading, ordinary or strict. Which records compare a part of a register
-- with itself, and which a mode passes. Records, their legality, writing and executing know no mode.
use Rattle.std.specs.Prelude.{ℕ, zero, suc, ◌-◌, ◌≡◌, Bool, true, false, not, ◌&&◌, ◌||◌, cond, eqb, ltb}
use Rattle.record.specs.declared.Mode.{Mode}
use Rattle.record.specs.declared.Mode.TheVariants.{Ordinary, Strict}
use Rattle.record.specs.declared.Target.{Target}
use Rattle.record.specs.declared.Word.{Word}
use Rattle.record.specs.declared.Lanes.{Lanes}
use Rattle.record.specs.declared.Instruction.{Instruction}
use Rattle.record.specs.declared.Instruction.TheVariants.{Arithmetic, Vset, VsetLanes, ArithmeticLanes, Set, Setp, Selp, Slct}
use Rattle.record.specs.declared.Record.{Record}
use Rattle.rules.specs.Numbers.{lanes}
use Rattle.rules.specs.Execution.{digit_at, mask_at}
use Rattle.rules.specs.Targets.{Allowed}

-- ==== which records compare a part with itself

-- a part of a register: the register's number, so that a and b may be one register, and the part's, low part first
pub record Origin : Type 0 where
  pub register : ℕ
  pub part : ℕ

abbrev pub part_in : Word → ℕ → Origin
part_in w k = record { register = w.0; part = k }

-- what a digit of a selector picks. Part numbers count through a first, low part first, then b: below the number of lanes a part of a, else one of b
abbrev pub origin : Lanes → ℕ → Origin
origin l k = cond (ltb k (lanes l.width)) (part_in l.a k) (part_in l.b (k - lanes l.width))

-- the same part of the same register, also when a and b are one register under two names of parts
abbrev pub same_origin : Origin → Origin → Bool
same_origin x y = eqb x.register y.register && eqb x.part y.part

-- lane i's two selectors pick the same
abbrev pub lane_against_itself : Lanes → ℕ → Bool
lane_against_itself l i = same_origin (origin l (digit_at l.asel i)) (origin l (digit_at l.bsel i))

-- f holds of some of the first k
abbrev pub some_of : ℕ → (ℕ → Bool) → Bool
some_of zero f = false
some_of (suc k) f = f 0 || some_of k (λ i. f (suc i))

-- a masked lane's two selectors pick the same: once over the width. Types don't matter, nor do `add`, d and c
unfoldable pub lanes_against_itself : Lanes → Bool
lanes_against_itself l = some_of (lanes l.width) (λ i. mask_at l.mask i && lane_against_itself l i)

-- any vset2 or vset4 line, and no other: T-01's arithmetic is not touched
abbrev pub instruction_against_itself : Instruction → Bool
instruction_against_itself (Arithmetic op dtype sat s) = false
instruction_against_itself (Vset cmp s) = false
instruction_against_itself (VsetLanes cmp l) = lanes_against_itself l
instruction_against_itself (ArithmeticLanes op dtype sat l) = false
instruction_against_itself (Set dtype d s) = false
instruction_against_itself (Setp d s) = false
instruction_against_itself (Selp s c) = false
instruction_against_itself (Slct ctype s c) = false

-- guarded or not
abbrev pub against_itself : Record → Bool
against_itself x = instruction_against_itself x.instruction

-- ==== which records a mode passes

-- In strict reading, refuse [such a] line; only in strict reading. 15 says that this does not hold
unfoldable pub passes : Mode → Record → Bool
passes Ordinary x = true
passes Strict x = not (against_itself x)

-- Demand 3, and the reading back in demand 2, add this condition for strict reading: the legal records that the target allows and the mode passes
pub record Readable (target : Target) (mode : Mode) (x : Record) : Type 0 where
  pub allowed : Allowed target x
  pub passed : passes mode x ≡ true
