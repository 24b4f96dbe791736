-- What a line may go on with, as the bytes are read one by one. No one has to believe it: laws join it to the grammar.
use Rattle.std.specs.Prelude.{ℕ, List, Bool, true, false, cond, eqb}
use Rattle.signs.specs.Bytes.{is_blank, is_digit, is_name_byte}
use Rattle.begins.specs.Machines as machine
use Rattle.viable.specs.declared.Role.{Role}
use Rattle.viable.specs.declared.Role.TheVariants as role
use Rattle.viable.specs.declared.Read.{Read}
use Rattle.viable.specs.declared.Read.TheVariants as read
use Rattle.viable.specs.declared.State.{State}
use Rattle.viable.specs.declared.State.TheVariants.{Wrong, Start, Guard, Blanks, Dot, Name, Operand, Nothing, Bar, Part, Selector, End, Register}

unfoldable pub named : ℕ → State → State → State
named b then other = cond (is_name_byte b) then other

unfoldable pub ends : ℕ → State
ends b = cond (is_blank b) (Register role.Last read.Whole) (cond (eqb b 44) Operand (cond (eqb b 59) End Wrong))

unfoldable pub follow : Role → ℕ → State
follow role.Guard b = cond (is_blank b) Blanks Wrong
follow role.First b = cond (eqb b 124) Bar (cond (eqb b 46) Part (ends b))
follow role.Last b = ends b

unfoldable pub digits : Role → ℕ → State
digits k b = cond (eqb b 48) (Register k read.Whole) (cond (is_digit b) (Register k read.One) Wrong)

unfoldable pub register : Role → Read → ℕ → State
register k read.Nothing b = cond (eqb b 37) (Register k read.Sign) Wrong
register k read.Sign b = cond (eqb b 112) (Register k read.File) (cond (eqb b 114) (Register k read.Wide) Wrong)
register k read.Wide b = cond (eqb b 100) (Register k read.File) (cond (eqb b 115) (Register k read.File) (digits k b))
register k read.File b = digits k b
register k read.One b = cond (is_digit b) (Register k read.Two) (follow k b)
register k read.Two b = cond (is_digit b) (Register k read.Whole) (follow k b)
register k read.Whole b = follow k b

abbrev pub in_head : ℕ → State
in_head b = named b Name (cond (eqb b 46) Dot (cond (is_blank b) Operand Wrong))

abbrev pub in_list : ℕ → State
in_list b = cond (is_blank b) Operand (cond (eqb b 33) (Register role.Last read.Nothing) (cond (eqb b 95) Nothing (register role.First read.Nothing b)))

unfoldable pub step : State → ℕ → State
step Wrong b = Wrong
step Start b = cond (is_blank b) Start (cond (eqb b 64) Guard (named b Name Wrong))
step Guard b = cond (eqb b 33) (Register role.Guard read.Nothing) (register role.Guard read.Nothing b)
step Blanks b = cond (is_blank b) Blanks (named b Name Wrong)
step Dot b = named b Name Wrong
step Name b = in_head b
step Operand b = in_list b
step Nothing b = cond (eqb b 124) Bar Wrong
step Bar b = cond (eqb b 95) (Register role.Last read.Whole) (register role.Last read.Nothing b)
step Part b = named b Selector Wrong
step Selector b = named b Selector (ends b)
step End b = cond (is_blank b) End Wrong
step (Register k d) b = register k d b

abbrev pub is_wrong : State → Bool
is_wrong Wrong = true
is_wrong Start = false
is_wrong Guard = false
is_wrong Blanks = false
is_wrong Dot = false
is_wrong Name = false
is_wrong Operand = false
is_wrong Nothing = false
is_wrong Bar = false
is_wrong Part = false
is_wrong Selector = false
is_wrong End = false
is_wrong (Register k d) = false

-- where the bytes lead from a state
abbrev pub reach : State → List ℕ → State
reach = machine.reach step

-- the first byte that leads to the wrong state, or the end
unfoldable pub shape_place_of : List ℕ → ℕ
shape_place_of l = machine.wrong_from step is_wrong Start 0 l
