-- The code's side of taking a line's operands into an instruction. No one has to believe it: laws join it to the operands' trees.
use Rattle.std.specs.Prelude.{ℕ, Bool, cond, leb, eqb, get_or, Err, None, Ok, Option, Result, Some}
use Rattle.std.specs.Option.{option_zip}
use Rattle.record.specs.Operands.{full_mask, default_a, default_b}
use Rattle.record.specs.declared.Arith.{Arith}
use Rattle.record.specs.declared.BoolOp.{BoolOp}
use Rattle.record.specs.declared.Choice.{Choice}
use Rattle.record.specs.declared.Cmp6.{Cmp6}
use Rattle.record.specs.declared.Combination.{Combination}
use Rattle.record.specs.declared.Combination.TheVariants.{Alone, With}
use Rattle.record.specs.declared.Comparison.{Comparison}
use Rattle.record.specs.declared.DataType.{DataType}
use Rattle.record.specs.declared.Digits.{Digits}
use Rattle.record.specs.declared.Form.{Form}
use Rattle.record.specs.declared.Form.TheVariants as form
use Rattle.record.specs.declared.Instruction.{Instruction}
use Rattle.record.specs.declared.Instruction.TheVariants.{Arithmetic, Vset, VsetLanes, ArithmeticLanes, Set, Setp, Selp, Slct}
use Rattle.record.specs.declared.LaneArith.{LaneArith}
use Rattle.record.specs.declared.LaneWidth.{LaneWidth}
use Rattle.record.specs.declared.Lanes.{Lanes}
use Rattle.record.specs.declared.Op2.{Op2}
use Rattle.record.specs.declared.Operand.{Operand}
use Rattle.record.specs.declared.Scalar.{Scalar}
use Rattle.record.specs.declared.Selected.{Selected}
use Rattle.record.specs.declared.Selected.TheVariants.{Whole, Part}
use Rattle.record.specs.declared.Selector.{Selector}
use Rattle.record.specs.declared.SetType.{SetType}
use Rattle.record.specs.declared.SlctType.{SlctType}
use Rattle.record.specs.declared.VideoType.{VideoType}
use Rattle.record.specs.declared.Word.{Word}
use Rattle.tree.specs.Seen.{operands_kept, spare}
use Rattle.tree.specs.declared.Operands.{Operands}
use Rattle.tree.specs.declared.Place.TheVariants as place
use Rattle.tree.specs.declared.Slot.{Slot}
use Rattle.tree.specs.declared.Tree.{Tree}
use Rattle.tree.specs.declared.Tree.TheVariants as tree
use Rattle.kinds.specs.Registers.{as_word, bare_word, bare_pred, bare_operand, condition_of, destination_of}
use Rattle.names.specs.Back.{selector_of}
use Rattle.masks.specs.Masks.{mask_of, digits_named}
use Rattle.fills.specs.declared.Start.{Start}
use Rattle.fills.specs.declared.Start.TheVariants as start
use Rattle.record.specs.declared.Condition.{Condition}
use Rattle.record.specs.declared.Destination.{Destination}
use Rattle.record.specs.declared.Mask.{Mask}
use Rattle.record.specs.declared.Pred.{Pred}

-- past the fifth stands `_|_`; the list has five, so the last value of `get_or` is never taken
abbrev pub untaken : Slot
untaken = record { tree = tree.Inverted (place.Word (record { 0 = 0 })) }

unfoldable pub tree_at : Operands → ℕ → Tree
tree_at o k = cond (leb operands_kept k) spare.tree (get_or o.at k untaken).tree

-- ==== c as the last operand, and what needs none

abbrev pub last_by : {A : Type 0} → ℕ → Option A → Result A ℕ
last_by n (Some c) = cond (eqb n 4) (Ok c) (Err 4)
last_by n None = Err 3

abbrev pub without_c : {A : Type 0} → ℕ → A → Result A ℕ
without_c n x = cond (eqb n 3) (Ok x) (Err 3)

-- ==== scalar video

abbrev pub whole_by : Option Word → Option Selected
whole_by (Some w) = Some (Whole w)
whole_by None = None

abbrev pub part_by : Option Word → Option Selector → Option Selected
part_by (Some w) (Some s) = Some (Part w s)
part_by (Some w) None = None
part_by None s = None

abbrev pub selected_from : Tree → Option Selected
selected_from (tree.Inverted p) = None
selected_from (tree.Pair p q) = None
selected_from (tree.Bare p) = whole_by (as_word p)
selected_from (tree.Part p x) = part_by (as_word p) (selector_of x)

abbrev pub start_plain : Selected → Option Start
start_plain (Whole w) = Some (start.Plain w)
start_plain (Part w s) = Some (start.Merge w s)

abbrev pub start_combine : Op2 → Selected → Option Start
start_combine op (Whole w) = Some (start.Combine op w)
start_combine op (Part w s) = None

abbrev pub start_from : Form → Option Selected → Option Start
start_from f None = None
start_from (form.Plain d) (Some s) = start_plain s
start_from (form.Merge d sel c) (Some s) = start_plain s
start_from (form.Combine op d c) (Some s) = start_combine op s

abbrev pub plain_form : Word → ℕ → Result Form ℕ
plain_form d n = without_c n (form.Plain d)

abbrev pub merge_form : Word → Selector → Result Word ℕ → Result Form ℕ
merge_form d s (Ok c) = Ok (form.Merge d s c)
merge_form d s (Err k) = Err k

abbrev pub combine_form : Op2 → Word → Result Word ℕ → Result Form ℕ
combine_form op d (Ok c) = Ok (form.Combine op d c)
combine_form op d (Err k) = Err k

abbrev pub form_from : Start → ℕ → Option Word → Result Form ℕ
form_from (start.Plain d) n c = plain_form d n
form_from (start.Merge d s) n c = merge_form d s (last_by n c)
form_from (start.Combine op d) n c = combine_form op d (last_by n c)

abbrev pub scalar_end : Scalar → Result Form ℕ → Selected → Selected → Result Scalar ℕ
scalar_end s (Ok f) a b = Ok (record { atype = s.atype; btype = s.btype; form = f; a = a; b = b })
scalar_end s (Err k) a b = Err k

abbrev pub scalar_by : Scalar → ℕ → Option Start → Option Selected → Option Selected → Option Word → Result Scalar ℕ
scalar_by s n None a b c = Err 0
scalar_by s n (Some d) None b c = Err 1
scalar_by s n (Some d) (Some a) None c = Err 2
scalar_by s n (Some d) (Some a) (Some b) c = scalar_end s (form_from d n c) a b

unfoldable pub scalar_from : Scalar → Operands → Result Scalar ℕ
scalar_from s o =
    scalar_by s o.n
    (start_from s.form (selected_from (tree_at o 0)))
    (selected_from (tree_at o 1))
    (selected_from (tree_at o 2))
    (bare_word (tree_at o 3))

-- ==== the forms with 2 and 4

abbrev pub masked_from : LaneWidth → Tree → Option (Word × Mask)
masked_from w (tree.Inverted p) = None
masked_from w (tree.Pair p q) = None
masked_from w (tree.Bare p) = option_zip (as_word p) (Some (full_mask w))
masked_from w (tree.Part p x) = option_zip (as_word p) (mask_of w x)

abbrev pub laned_from : LaneWidth → Digits → Tree → Option (Word × Digits)
laned_from w s (tree.Inverted p) = None
laned_from w s (tree.Pair p q) = None
laned_from w s (tree.Bare p) = option_zip (as_word p) (Some s)
laned_from w s (tree.Part p x) = option_zip (as_word p) (digits_named w x)

abbrev pub lanes_with : Lanes → Word × Mask → Word × Digits → Word × Digits → Word → Lanes
lanes_with l d a b c =
    record {
      width = l.width;
      atype = l.atype;
      btype = l.btype;
      add = l.add;
      d = d.0;
      mask = d.1;
      a = a.0;
      asel = a.1;
      b = b.0;
      bsel = b.1;
      c = c;
    }

abbrev pub lanes_by : Lanes → Option (Word × Mask) → Option (Word × Digits) → Option (Word × Digits) → Result Word ℕ → Result Lanes ℕ
lanes_by l None a b c = Err 0
lanes_by l (Some d) None b c = Err 1
lanes_by l (Some d) (Some a) None c = Err 2
lanes_by l (Some d) (Some a) (Some b) (Ok c) = Ok (lanes_with l d a b c)
lanes_by l (Some d) (Some a) (Some b) (Err k) = Err k

unfoldable pub lanes_from : Lanes → Operands → Result Lanes ℕ
lanes_from l o =
    lanes_by l
    (masked_from l.width (tree_at o 0))
    (laned_from l.width (default_a l.width) (tree_at o 1))
    (laned_from l.width (default_b l.width) (tree_at o 2))
    (last_by o.n (bare_word (tree_at o 3)))

-- ==== set, setp

abbrev pub alone_by : ℕ → Result Combination ℕ
alone_by n = without_c n Alone

abbrev pub with_by : BoolOp → ℕ → Option Condition → Result Combination ℕ
with_by op n (Some c) = cond (eqb n 4) (Ok (With op c)) (Err 4)
with_by op n None = Err 3

abbrev pub combination_from : Combination → ℕ → Option Condition → Result Combination ℕ
combination_from Alone n c = alone_by n
combination_from (With op d) n c = with_by op n c

abbrev pub comparison_end : Comparison → Operand → Operand → Result Combination ℕ → Result Comparison ℕ
comparison_end s a b (Ok k) =
    Ok (record { cmp = s.cmp; combination = k; ftz = s.ftz; stype = s.stype; a = a; b = b })
comparison_end s a b (Err k) = Err k

abbrev pub comparison_by : Comparison → Option Operand → Option Operand → Result Combination ℕ → Result Comparison ℕ
comparison_by s None b k = Err 1
comparison_by s (Some a) None k = Err 2
comparison_by s (Some a) (Some b) k = comparison_end s a b k

unfoldable pub comparison_from : Comparison → Operands → Result Comparison ℕ
comparison_from s o =
    comparison_by s
    (bare_operand (tree_at o 1))
    (bare_operand (tree_at o 2))
    (combination_from s.combination o.n (condition_of (tree_at o 3)))

-- ==== selp, slct

abbrev pub choice_by : DataType → Option Operand → Option Operand → Option Operand → Result Choice ℕ
choice_by t None a b = Err 0
choice_by t (Some d) None b = Err 1
choice_by t (Some d) (Some a) None = Err 2
choice_by t (Some d) (Some a) (Some b) = Ok (record { dtype = t; d = d; a = a; b = b })

unfoldable pub choice_from : Choice → Operands → Result Choice ℕ
choice_from s o = choice_by s.dtype (bare_operand (tree_at o 0)) (bare_operand (tree_at o 1)) (bare_operand (tree_at o 2))

-- ==== the instruction

abbrev pub arithmetic_from : Arith → VideoType → Bool → Result Scalar ℕ → Result Instruction ℕ
arithmetic_from op t sat (Ok s) = Ok (Arithmetic op t sat s)
arithmetic_from op t sat (Err k) = Err k

abbrev pub vset_from : Cmp6 → Result Scalar ℕ → Result Instruction ℕ
vset_from cmp (Ok s) = Ok (Vset cmp s)
vset_from cmp (Err k) = Err k

abbrev pub vset_lanes_from : Cmp6 → Result Lanes ℕ → Result Instruction ℕ
vset_lanes_from cmp (Ok l) = Ok (VsetLanes cmp l)
vset_lanes_from cmp (Err k) = Err k

abbrev pub arithmetic_lanes_from : LaneArith → VideoType → Bool → Result Lanes ℕ → Result Instruction ℕ
arithmetic_lanes_from op t sat (Ok l) = Ok (ArithmeticLanes op t sat l)
arithmetic_lanes_from op t sat (Err k) = Err k

abbrev pub set_from : SetType → Option Word → Result Comparison ℕ → Result Instruction ℕ
set_from t None s = Err 0
set_from t (Some d) (Ok s) = Ok (Set t d s)
set_from t (Some d) (Err k) = Err k

abbrev pub setp_from : Option Destination → Result Comparison ℕ → Result Instruction ℕ
setp_from None s = Err 0
setp_from (Some d) (Ok s) = Ok (Setp d s)
setp_from (Some d) (Err k) = Err k

abbrev pub selp_from : Result Choice ℕ → Result Pred ℕ → Result Instruction ℕ
selp_from (Ok s) (Ok c) = Ok (Selp s c)
selp_from (Ok s) (Err k) = Err k
selp_from (Err k) c = Err k

abbrev pub slct_from : SlctType → Result Choice ℕ → Result Word ℕ → Result Instruction ℕ
slct_from t (Ok s) (Ok c) = Ok (Slct t s c)
slct_from t (Ok s) (Err k) = Err k
slct_from t (Err k) c = Err k

unfoldable pub filled_of : Instruction → Operands → Result Instruction ℕ
filled_of (Arithmetic op t sat s) o = arithmetic_from op t sat (scalar_from s o)
filled_of (Vset cmp s) o = vset_from cmp (scalar_from s o)
filled_of (VsetLanes cmp l) o = vset_lanes_from cmp (lanes_from l o)
filled_of (ArithmeticLanes op t sat l) o = arithmetic_lanes_from op t sat (lanes_from l o)
filled_of (Set t d s) o = set_from t (bare_word (tree_at o 0)) (comparison_from s o)
filled_of (Setp d s) o = setp_from (destination_of (tree_at o 0)) (comparison_from s o)
filled_of (Selp s c) o = selp_from (choice_from s o) (last_by o.n (bare_pred (tree_at o 3)))
filled_of (Slct t s c) o = slct_from t (choice_from s o) (last_by o.n (bare_word (tree_at o 3)))
