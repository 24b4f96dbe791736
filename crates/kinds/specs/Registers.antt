-- The code's side of an operand that is a register: which kind stands where. No one has to believe it: laws join it to the operand's tree.
use Rattle.std.specs.Prelude.{Bool, true, false, None, Option, Some, option_map, option_and_then}
use Rattle.record.specs.declared.Operand.{Operand}
use Rattle.record.specs.declared.Destination.TheVariants.{One, Pair, First, Second}
use Rattle.record.specs.declared.Pred.{Pred}
use Rattle.tree.specs.declared.Place.{Place}
use Rattle.tree.specs.declared.Place.TheVariants as place
use Rattle.tree.specs.declared.Spot.TheVariants as spot
use Rattle.tree.specs.declared.Tree.{Tree}
use Rattle.tree.specs.declared.Tree.TheVariants as tree
use Rattle.record.specs.declared.Condition.{Condition}
use Rattle.record.specs.declared.Destination.{Destination}
use Rattle.record.specs.declared.Word.{Word}

abbrev pub as_word : Place → Option Word
as_word (place.Word w) = Some w
as_word (place.Half h) = None
as_word (place.Double d) = None
as_word (place.Pred q) = None

abbrev pub as_pred : Place → Option Pred
as_pred (place.Word w) = None
as_pred (place.Half h) = None
as_pred (place.Double d) = None
as_pred (place.Pred q) = Some q

abbrev pub as_operand : Place → Option Operand
as_operand (place.Word w) = Some (Operand.Word w)
as_operand (place.Half h) = Some (Operand.Half h)
as_operand (place.Double d) = Some (Operand.Double d)
as_operand (place.Pred q) = None

-- the register that stands alone
abbrev pub bare : Tree → Option Place
bare (tree.Inverted p) = None
bare (tree.Pair p q) = None
bare (tree.Bare p) = Some p
bare (tree.Part p x) = None

abbrev pub bare_word : Tree → Option Word
bare_word t = option_and_then as_word (bare t)

abbrev pub bare_pred : Tree → Option Pred
bare_pred t = option_and_then as_pred (bare t)

abbrev pub bare_operand : Tree → Option Operand
bare_operand t = option_and_then as_operand (bare t)

abbrev pub condition_by : Bool → Option Pred → Option Condition
condition_by i (Some q) = Some (record { inverted = i; pred = q })
condition_by i None = None

abbrev pub condition_of : Tree → Option Condition
condition_of (tree.Inverted p) = condition_by true (as_pred p)
condition_of (tree.Pair p q) = None
condition_of (tree.Bare p) = condition_by false (as_pred p)
condition_of (tree.Part p x) = None

abbrev pub pair_by : Option Pred → Option Pred → Option Destination
pair_by (Some p) (Some q) = Some (Pair p q)
pair_by (Some p) None = None
pair_by None q = None

-- after `_` another `_` is wrong
abbrev pub destination_of : Tree → Option Destination
destination_of (tree.Inverted p) = None
destination_of (tree.Pair (spot.At p) (spot.At q)) = pair_by (as_pred p) (as_pred q)
destination_of (tree.Pair (spot.At p) spot.Nothing) = option_map First (as_pred p)
destination_of (tree.Pair spot.Nothing (spot.At q)) = option_map Second (as_pred q)
destination_of (tree.Pair spot.Nothing spot.Nothing) = None
destination_of (tree.Bare p) = option_map One (as_pred p)
destination_of (tree.Part p x) = None
