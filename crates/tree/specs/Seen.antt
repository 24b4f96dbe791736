-- What the reader keeps of a line's tree. No one has to believe it: the laws of the rooms above join it to the tree.
use Rattle.std.specs.Prelude.{ℕ, List, ◌++◌, map, length, take, replicate}
use Rattle.base.specs.Pack.{code_of}
use Rattle.record.specs.declared.File.{File}
use Rattle.record.specs.declared.File.TheVariants.{Words, Halves, Doubles, Preds}
use Rattle.record.specs.Registers as files
use Rattle.rules.specs.Shape.{Name, OperandTree, inverted, pair, bare, part}
use Rattle.rules.specs.Shape as shape
use Rattle.rules.specs.Grammar.{LineTree, GuardTree, unguarded, guarded, names_of, operands_of}
use Rattle.tree.specs.declared.Place.{Place}
use Rattle.tree.specs.declared.Place.TheVariants.{Word, Half, Double, Pred}
use Rattle.tree.specs.declared.Spot.{Spot}
use Rattle.tree.specs.declared.Spot.TheVariants.{At, Nothing}
use Rattle.tree.specs.declared.Tree.{Tree}
use Rattle.tree.specs.declared.Tree.TheVariants.{Inverted, Pair, Bare, Part}
use Rattle.tree.specs.declared.Slot.{Slot}
use Rattle.tree.specs.declared.Operands.{Operands}
use Rattle.tree.specs.declared.Head.{Head}
use Rattle.tree.specs.declared.Guarding.{Guarding}
use Rattle.tree.specs.declared.Guarding.TheVariants.{Unguarded, Guarded}
use Rattle.tree.specs.declared.Parts.{Parts}

abbrev pub place_in : File → ℕ → Place
place_in Words n = Word (record { 0 = n })
place_in Halves n = Half (record { 0 = n })
place_in Doubles n = Double (record { 0 = n })
place_in Preds n = Pred (record { 0 = n })

abbrev pub seen_place : files.Place → Place
seen_place (files.reg file n) = place_in file n

abbrev pub seen_spot : shape.Spot → Spot
seen_spot (shape.at p) = At (seen_place p)
seen_spot shape.nothing = Nothing

abbrev pub seen_operand : OperandTree → Tree
seen_operand (inverted p) = Inverted (seen_place p)
seen_operand (pair p q) = Pair (seen_spot p) (seen_spot q)
seen_operand (bare p) = Bare (seen_place p)
seen_operand (part p n) = Part (seen_place p) (code_of n)

-- the first k, and what stands past the end
abbrev pub first_padded {ℓ} : {A : Type ℓ} → ℕ → A → List A → List A
first_padded k past l = take k (l ++ replicate k past)

abbrev pub names_kept : ℕ
names_kept = 8

-- past the end stands 0, which is no name
unfoldable pub seen_head : List Name → Head
seen_head ns = record { n = length ns; at = first_padded names_kept 0 (map code_of ns) }

abbrev pub operands_kept : ℕ
operands_kept = 5

abbrev pub slot : OperandTree → Slot
slot o = record { tree = seen_operand o }

-- past the end stands `_|_`, which no opcode takes
abbrev pub spare : Slot
spare = record { tree = Pair Nothing Nothing }

unfoldable pub seen_operands : List OperandTree → Operands
seen_operands os = record { n = length os; at = first_padded operands_kept spare (map slot os) }

abbrev pub seen_guard : GuardTree → Guarding
seen_guard unguarded = Unguarded
seen_guard (guarded negated p blanks) = Guarded negated (seen_place p)

abbrev pub seen : LineTree → Parts
seen t = record {
  guard = seen_guard t.guard;
  head = seen_head (names_of t);
  operands = seen_operands (operands_of t);
}
