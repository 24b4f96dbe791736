-- Document 01, "Refusal numbers" for executing, with T-07's 12: what a record reads and writes, refusals 8, 12, 10, 11, done and skipped. Of the bullets on
-- execution those on places and on `!` stand here.
use Rattle.std.specs.Prelude.{ℕ, ◌%◌, ◌≡◌, Bool, true, not, ◌&&◌, cond, List, [], ◌∷◌, ◌++◌, get_or, set, length, leb, eqb}
use Rattle.record.specs.Registers.{Files, file_of, with_file, Place, reg, r, p, operand_place, at, count_of}
use Rattle.record.specs.Refusals.{is_legal}
use Rattle.record.specs.declared.File.{File}
use Rattle.record.specs.declared.File.TheVariants.{Words, Halves, Doubles, Preds}
use Rattle.record.specs.declared.Word.{Word}
use Rattle.record.specs.declared.Pred.{Pred}
use Rattle.record.specs.declared.Condition.{Condition}
use Rattle.record.specs.declared.Guard.{Guard}
use Rattle.record.specs.declared.Guard.TheVariants.{Always, When}
use Rattle.record.specs.declared.Combination.{Combination}
use Rattle.record.specs.declared.Combination.TheVariants.{Alone, With}
use Rattle.record.specs.declared.Selected.{Selected}
use Rattle.record.specs.declared.Selected.TheVariants.{Whole, Part}
use Rattle.record.specs.declared.Form.{Form}
use Rattle.record.specs.declared.Form.TheVariants.{Plain, Merge, Combine}
use Rattle.record.specs.declared.Scalar.{Scalar}
use Rattle.record.specs.declared.Operand.{Operand}
use Rattle.record.specs.declared.Comparison.{Comparison}
use Rattle.record.specs.declared.Destination.{Destination}
use Rattle.record.specs.declared.Destination.TheVariants.{One, Pair, First, Second}
use Rattle.record.specs.declared.Instruction.{Instruction}
use Rattle.record.specs.declared.Instruction.TheVariants.{Arithmetic, Vset, VsetLanes, ArithmeticLanes, Set, Setp, Selp, Slct}
use Rattle.record.specs.declared.Record.{Record}
use Rattle.record.specs.declared.Target.{Target}
use Rattle.rules.specs.Numbers.{bit, word_size, half_size}
use Rattle.rules.specs.Targets.{allows, flushes, slct_type_at}
use Rattle.rules.specs.Execution.{arithmetic_of, vset_of, lanes_of, arithmetic_lanes_of, comparison_of, bool_of, set_of, selp_of, slct_of}

-- ==== what is read, each from the file that it stands in

abbrev pub word_of : List ℕ → Word → ℕ
word_of words w = get_or words w.0 0

abbrev pub pred_of : List ℕ → Pred → ℕ
pred_of preds p = get_or preds p.0 0

abbrev pub operand_of : Files → Operand → ℕ
operand_of f o = at f (operand_place o)

abbrev pub selected_word : Selected → Word
selected_word (Whole w) = w
selected_word (Part w sel) = w

-- c of scalar video; the form `d, a, b` has none, and does not look at it
abbrev pub form_c : List ℕ → Form → ℕ
form_c words (Plain d) = 0
form_c words (Merge d sel c) = word_of words c
form_c words (Combine op d c) = word_of words c

-- a predicate is true where it is 1. In both, `!` inverts c; so it does in a guard
abbrev pub pred_holds : List ℕ → Pred → Bool
pred_holds preds q = eqb (pred_of preds q) 1

abbrev pub condition_holds : List ℕ → Condition → Bool
condition_holds preds c = cond c.inverted (not (pred_holds preds c.pred)) (pred_holds preds c.pred)

-- BoolOp(t, c), t alone without BoolOp
unfoldable pub combined_of : List ℕ → Combination → Bool → Bool
combined_of preds Alone t = t
combined_of preds (With op c) t = bool_of op t (condition_holds preds c)

-- t of set and setp; T-07: the target says whether it flushes without `ftz`, which is of f32 alone (valueOf)
unfoldable pub test_of : Target → Files → Comparison → Bool
test_of target f s = comparison_of s.cmp (flushes target s.ftz) s.stype (operand_of f s.a) (operand_of f s.b)

-- ==== which places a record names, from the record alone

abbrev pub form_d : Form → Word
form_d (Plain d) = d
form_d (Merge d sel c) = d
form_d (Combine op d c) = d

-- one predicate, or a pair of which one may be `_`
abbrev pub destination_places : Destination → List Place
destination_places (One a) = p a ∷ []
destination_places (Pair a b) = p a ∷ p b ∷ []
destination_places (First a) = p a ∷ []
destination_places (Second b) = p b ∷ []

-- what an instruction writes: d, in setp its places in their order
abbrev pub destinations : Instruction → List Place
destinations (Arithmetic op dtype sat s) = r (form_d s.form) ∷ []
destinations (Vset cmp s) = r (form_d s.form) ∷ []
destinations (VsetLanes cmp l) = r l.d ∷ []
destinations (ArithmeticLanes op dtype sat l) = r l.d ∷ []
destinations (Set dtype d s) = r d ∷ []
destinations (Setp d s) = destination_places d
destinations (Selp s c) = operand_place s.d ∷ []
destinations (Slct ctype s c) = operand_place s.d ∷ []

abbrev pub form_sources : Form → List Place
form_sources (Plain d) = []
form_sources (Merge d sel c) = r c ∷ []
form_sources (Combine op d c) = r c ∷ []

abbrev pub combination_sources : Combination → List Place
combination_sources Alone = []
combination_sources (With op c) = p c.pred ∷ []

abbrev pub scalar_sources : Scalar → List Place
scalar_sources s = r (selected_word s.a) ∷ r (selected_word s.b) ∷ form_sources s.form

abbrev pub comparison_sources : Comparison → List Place
comparison_sources s = operand_place s.a ∷ operand_place s.b ∷ combination_sources s.combination

-- what it reads: a, b and, where it has one, c
abbrev pub sources : Instruction → List Place
sources (Arithmetic op dtype sat s) = scalar_sources s
sources (Vset cmp s) = scalar_sources s
sources (VsetLanes cmp l) = r l.a ∷ r l.b ∷ r l.c ∷ []
sources (ArithmeticLanes op dtype sat l) = r l.a ∷ r l.b ∷ r l.c ∷ []
sources (Set dtype d s) = comparison_sources s
sources (Setp d s) = comparison_sources s
sources (Selp s c) = operand_place s.a ∷ operand_place s.b ∷ p c ∷ []
sources (Slct ctype s c) = operand_place s.a ∷ operand_place s.b ∷ r c ∷ []

-- what a guard reads
abbrev pub guard_sources : Guard → List Place
guard_sources Always = []
guard_sources (When c) = p c.pred ∷ []

-- the registers that a record names, in the order of its line
abbrev pub named : Record → List Place
named x = guard_sources x.guard ++ (destinations x.instruction ++ sources x.instruction)

-- ==== what is written, in operand order

pub record Write : Type 0 where
  pub place : Place
  pub value : ℕ

abbrev pub write : Place → ℕ → Write
write q v = record { place = q; value = v }

abbrev pub places_of : List Write → List Place
places_of [] = []
places_of (w ∷ ws) = w.place ∷ places_of ws

-- as much as the place holds: all of it where the widths agree, as in every legal record
abbrev pub kept : Operand → ℕ → ℕ
kept (Operand.Word w) v = v % word_size
kept (Operand.Half h) v = v % half_size
kept (Operand.Double d) v = v

-- setp writes BoolOp(t, c) to the first place, BoolOp(not t, c) to the second; `_` drops one
abbrev pub destination_writes : Destination → Bool → Bool → List Write
destination_writes (One a) first second = write (p a) (bit first) ∷ []
destination_writes (Pair a b) first second = write (p a) (bit first) ∷ write (p b) (bit second) ∷ []
destination_writes (First a) first second = write (p a) (bit first) ∷ []
destination_writes (Second b) first second = write (p b) (bit second) ∷ []

unfoldable pub writes : Target → Instruction → Files → List Write
writes target (Arithmetic op dtype sat s) f =
    write (r (form_d s.form))
    (arithmetic_of op dtype sat s (word_of f.words (selected_word s.a)) (word_of f.words (selected_word s.b)) (form_c f.words s.form))
    ∷ []
writes target (Vset cmp s) f =
    write (r (form_d s.form))
    (vset_of cmp s (word_of f.words (selected_word s.a)) (word_of f.words (selected_word s.b)) (form_c f.words s.form))
    ∷ []
writes target (VsetLanes cmp l) f =
    write (r l.d) (lanes_of cmp l (word_of f.words l.a) (word_of f.words l.b) (word_of f.words l.c)) ∷ []
writes target (ArithmeticLanes op dtype sat l) f =
    write (r l.d) (arithmetic_lanes_of op dtype sat l (word_of f.words l.a) (word_of f.words l.b) (word_of f.words l.c)) ∷ []
writes target (Set dtype d s) f =
    write (r d) (set_of dtype (combined_of f.preds s.combination (test_of target f s))) ∷ []
writes target (Setp d s) f =
    destination_writes d (combined_of f.preds s.combination (test_of target f s))
    (combined_of f.preds s.combination (not (test_of target f s)))
writes target (Selp s c) f =
    write (operand_place s.d)
    (kept s.d (selp_of (pred_of f.preds c) (operand_of f s.a) (operand_of f s.b)))
    ∷ []
writes target (Slct ctype s c) f =
    write (operand_place s.d)
    (kept s.d (slct_of (slct_type_at target ctype) (word_of f.words c) (operand_of f s.a) (operand_of f s.b)))
    ∷ []

abbrev pub put : Place → ℕ → Files → Files
put (reg file n) v f = with_file file (set (file_of f file) n v) f

abbrev pub put_all : List Write → Files → Files
put_all [] f = f
put_all (w ∷ ws) f = put_all ws (put w.place w.value f)

-- All sources are read before any destination is written
unfoldable pub after : Target → Instruction → Files → Files
after target i f = put_all (writes target i f) f

-- ==== executing a record

-- a file has its length
abbrev pub size_fits : Files → File → Bool
size_fits f file = eqb (length (file_of f file)) (count_of file)

-- 10 says that this does not hold: file lengths not 64, 32, 16; T-06: 10 reads 64, 32, 32, 16 with the new file second
unfoldable pub sizes_fit : Files → Bool
sizes_fit f = size_fits f Words && size_fits f Halves && size_fits f Doubles && size_fits f Preds

-- 11 says that this does not hold: some predicate byte over 1
unfoldable pub preds_fit : List ℕ → Bool
preds_fit [] = true
preds_fit (b ∷ ps) = leb b 1 && preds_fit ps

-- the files that executing admits
pub record Admitted (f : Files) : Type 0 where
  pub sizes : sizes_fit f ≡ true
  pub bits : preds_fit f.preds ≡ true

unfoldable pub guard_holds : List ℕ → Guard → Bool
guard_holds preds Always = true
guard_holds preds (When c) = condition_holds preds c

-- Execution answers done or skipped (guard false, nothing changed). A refusal returns its number only
pub data Answer : Type 0 where
  done : Answer
  skipped : Answer
  refused : ℕ → Answer

pub record Outcome : Type 0 where
  pub answer : Answer
  pub files : Files

abbrev pub outcome : Answer → Files → Outcome
outcome a f = record { answer = a; files = f }

-- Executing: 8, 10, 11, each looked at only when the earlier ones don't apply; T-07: 12, target too old, straight after 8. Lent memory is
-- unchanged by a refusal
unfoldable pub run : Target → Record → Files → Outcome
run target x f =
    cond (not (is_legal x)) (outcome (refused 8) f)
    (cond (not (allows target x)) (outcome (refused 12) f)
    (cond (not (sizes_fit f)) (outcome (refused 10) f)
    (cond (not (preds_fit f.preds)) (outcome (refused 11) f)
    (cond (guard_holds f.preds x.guard) (outcome done (after target x.instruction f))
    (outcome skipped f)))))
