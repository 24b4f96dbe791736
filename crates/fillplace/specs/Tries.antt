-- How far operands begin as a legal list does, as the code tries it. No one has to believe it: laws join it to document 01.
use Rattle.std.specs.Prelude.{ℕ, ◌+◌, ◌-◌, [], ◌∷◌, ◌≡◌, Bool, true, false, ◌||◌, cond, eqb, ltb, Err, Ok, Result}
use Rattle.record.specs.Operands.{instruction_operands_fit}
use Rattle.record.specs.Registers.{operand_place}
use Rattle.record.specs.declared.DataType.{DataType}
use Rattle.record.specs.declared.DataType.TheVariants.{B16, B32, B64, U16, U32, U64, S16, S32, S64, F32, F64}
use Rattle.record.specs.declared.Operand.{Operand}
use Rattle.record.specs.declared.Operand.TheVariants as operand
use Rattle.record.specs.declared.Instruction.{Instruction}
use Rattle.record.specs.declared.Instruction.TheVariants.{Arithmetic, Vset, VsetLanes, ArithmeticLanes, Set, Setp, Selp, Slct}
use Rattle.rules.specs.Shape.{bare}
use Rattle.tree.specs.Seen.{seen_operand}
use Rattle.begins.specs.Searches.{turns_at, searched}
use Rattle.tree.specs.declared.Place.TheVariants.{Word, Pred}
use Rattle.tree.specs.declared.Spot.TheVariants.{Nothing}
use Rattle.tree.specs.declared.Tree.{Tree}
use Rattle.tree.specs.declared.Tree.TheVariants.{Pair, Bare}
use Rattle.tree.specs.declared.Operands.{Operands}
use Rattle.tree.specs.declared.Slot.{Slot}
use Rattle.fills.specs.Fills.{tree_at, filled_of}

abbrev pub fits : Instruction → Bool
fits i = instruction_operands_fit i

abbrev pub is_full : Result Instruction ℕ → Bool
is_full (Ok i) = fits i
is_full (Err k) = false

unfoldable pub is_filled : Instruction → Operands → Bool
is_filled i o = is_full (filled_of i o)

abbrev pub none : Tree
none = Pair Nothing Nothing

abbrev pub any_word : Tree
any_word = Bare (Word (record { 0 = 0 }))

-- a register of the type's width
abbrev pub typed : DataType → Operand
typed B16 = operand.Half (record { 0 = 0 })
typed B32 = operand.Word (record { 0 = 0 })
typed B64 = operand.Double (record { 0 = 0 })
typed U16 = operand.Half (record { 0 = 0 })
typed U32 = operand.Word (record { 0 = 0 })
typed U64 = operand.Double (record { 0 = 0 })
typed S16 = operand.Half (record { 0 = 0 })
typed S32 = operand.Word (record { 0 = 0 })
typed S64 = operand.Double (record { 0 = 0 })
typed F32 = operand.Word (record { 0 = 0 })
typed F64 = operand.Double (record { 0 = 0 })

-- a register that the row has as a and b
abbrev pub row_operand : Instruction → Operand
row_operand (Arithmetic op dtype sat s) = operand.Word (record { 0 = 0 })
row_operand (Vset cmp s) = operand.Word (record { 0 = 0 })
row_operand (VsetLanes cmp l) = operand.Word (record { 0 = 0 })
row_operand (ArithmeticLanes op dtype sat l) = operand.Word (record { 0 = 0 })
row_operand (Set dtype d s) = typed s.stype
row_operand (Setp d s) = typed s.stype
row_operand (Selp s c) = typed s.dtype
row_operand (Slct ctype s c) = typed s.dtype

abbrev pub any_of : Operand → Tree
any_of o = seen_operand (bare (operand_place o))

abbrev pub any_pred : Tree
any_pred = Bare (Pred (record { 0 = 0 }))

unfoldable pub entry : Operands → ℕ → Tree → Tree → Tree → ℕ → Tree
entry o k x y z j = cond (ltb j k) (tree_at o j) (cond (eqb (j - k) 0) x (cond (eqb (j - k) 1) y (cond (eqb (j - k) 2) z none)))

abbrev pub slot_of : Tree → Slot
slot_of t = record { tree = t }

unfoldable pub completed : Operands → ℕ → ℕ → Tree → Tree → Tree → Operands
completed o k n x y z =
    let e : ℕ → Tree = entry o k x y z in
    record { n = k + n; at = slot_of (e 0) ∷ slot_of (e 1) ∷ slot_of (e 2) ∷ slot_of (e 3) ∷ slot_of (e 4) ∷ [] }

unfoldable pub tried : Instruction → Operands → ℕ → ℕ → Tree → Tree → Tree → Bool
tried i o k n x y z = is_filled i (completed o k n x y z)

unfoldable pub begins_filled : Instruction → Operands → ℕ → Bool
begins_filled i o k =
    let t = tried i o k in
    let u = none in
    let x = any_of (row_operand i) in
    let w = any_word in
    let p = any_pred in
    cond (ltb 4 k) false
    (t 0 u u u || (t 1 x u u || (t 2 x x u || (t 1 p u u || (t 2 x p u || (t 3 x x p || (t 1 w u u || (t 2 x w u || t 3 x x w))))))))

-- where the reader stopped; if it did not, the first operand
unfoldable pub guess_of : Result Instruction ℕ → ℕ
guess_of (Ok i) = 0
guess_of (Err k) = k

unfoldable pub operand_place_of : Instruction → Operands → ℕ
operand_place_of i o =
    let k = guess_of (filled_of i o) in
    cond (turns_at (begins_filled i o) o.n k) k (searched (begins_filled i o) 0 o.n)

pub operand_guessed : (i : Instruction) (o : Operands) (f : Result Instruction ℕ) (k : ℕ) → f ≡ filled_of i o → k ≡ guess_of f → turns_at (begins_filled i o) o.n k ≡ true → k ≡ operand_place_of i o
unfolding operand_place_of
operand_guessed i o f k r e t = rw (← r, ← e, t)

pub operand_searched : (i : Instruction) (o : Operands) (f : Result Instruction ℕ) (k : ℕ) → f ≡ filled_of i o → k ≡ guess_of f → turns_at (begins_filled i o) o.n k ≡ false → searched (begins_filled i o) 0 o.n ≡ operand_place_of i o
unfolding operand_place_of
operand_searched i o f k r e t = rw (← r, ← e, t)
