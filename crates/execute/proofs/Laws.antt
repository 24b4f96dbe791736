-- What the proof of `execute` cites: writes file by file, and predicates one by one. Assumes nothing.
use Prim.Native.Nat.{ℕ}
use mathlib.Core.Path.{◌≡◌, refl, ap, ap₂, ◌∙◌}
use mathlib.Core.Bool.{Bool, true, false, not, cond}
use mathlib.Core.List.{List, [], ◌∷◌}
use Rattle.std.specs.Prelude.{leb}
use Rattle.std.specs.List.{list_all}
use Rattle.record.specs.declared.Destination.{Destination}
use Rattle.record.specs.declared.Destination.TheVariants.{One, Pair, First, Second}
use Rattle.record.specs.declared.Comparison.{Comparison}
use Rattle.record.specs.declared.Choice.{Choice}
use Rattle.record.specs.declared.Operand.{Operand}
use Rattle.record.specs.declared.Instruction.{Instruction}
use Rattle.record.specs.declared.Instruction.TheVariants.{Arithmetic, Vset, VsetLanes, ArithmeticLanes, Set, Setp, Selp, Slct}
use Rattle.record.specs.declared.Target.{Target}
use Rattle.record.specs.declared.Record.{Record}
use Rattle.record.specs.Refusals.{is_legal}
use Rattle.refusals.specs.declared.Refusal.{Refusal}
use Rattle.refusals.specs.Numbers.{number_of, above_0}
use Rattle.refusals.specs.Order.{first_executing}
use Rattle.record.specs.Registers.{Files, r, operand_place}
use Rattle.rules.specs.Execution.{comparison_of, set_of, selp_of, slct_of}
use Rattle.rules.specs.Targets.{allows, flushes, slct_type_at}
use Rattle.rules.specs.Executing.{word_of, pred_of, operand_of, combined_of, test_of, kept, destination_writes, writes, put, put_all, after, sizes_fit, preds_fit, guard_holds, outcome, done, skipped, refused, run}
use Rattle.execute.specs.Mirror.{operand_in, test_in, operand_write, write_of, preds_with, written}
use Rattle.execute.specs.declared.Write.{Write}

-- ---- reads: the files that an operand can name, and all

pub operand_in_lem : (f : Files) (o : Operand) → operand_in f o ≡ operand_of f o
operand_in_lem f (Operand.Word w) = refl
operand_in_lem f (Operand.Half h) = refl
operand_in_lem f (Operand.Double d) = refl

test_in_lem : (target : Target) (f : Files) (s : Comparison) → test_in target f s ≡ test_of target f s
unfolding test_in test_of
test_in_lem target f s = ap₂ (comparison_of s.cmp (flushes target s.ftz) s.stype) (operand_in_lem f s.a) (operand_in_lem f s.b)

-- ---- writes

operand_written : (o : Operand) (v : ℕ) (f : Files) → written (operand_write o v) f ≡ put (operand_place o) (kept o v) f
unfolding operand_write written
operand_written (Operand.Word w) v f = refl
operand_written (Operand.Half h) v f = refl
operand_written (Operand.Double d) v f = refl

choice_written : (s : Choice) (f : Files) (give : ℕ → ℕ → ℕ)
    → written (operand_write s.d (give (operand_in f s.a) (operand_in f s.b))) f
    ≡ put (operand_place s.d) (kept s.d (give (operand_of f s.a) (operand_of f s.b))) f
choice_written s f give =
    operand_written s.d _ f ∙ ap₂ (λ (a b : ℕ). put (operand_place s.d) (kept s.d (give a b)) f) (operand_in_lem f s.a) (operand_in_lem f s.b)

destination_written : (d : Destination) (p q : Bool) (f : Files) → written (Write.Preds d p q) f ≡ put_all (destination_writes d p q) f
unfolding written preds_with
destination_written (One a) p q f = refl
destination_written (Pair a b) p q f = refl
destination_written (First a) p q f = refl
destination_written (Second b) p q f = refl

pub instruction_written : (target : Target) (i : Instruction) (f : Files) → written (write_of target i f) f ≡ after target i f
unfolding write_of written after writes
instruction_written target (Arithmetic op dtype sat s) f = refl
instruction_written target (Vset cmp s) f = refl
instruction_written target (VsetLanes cmp l) f = refl
instruction_written target (ArithmeticLanes op dtype sat l) f = refl
instruction_written target (Set dtype d s) f = ap (λ (t : Bool). put (r d) (set_of dtype (combined_of f.preds s.combination t)) f) (test_in_lem target f s)
instruction_written target (Setp d s) f =
    destination_written d _ _ f
    ∙ ap (λ (t : Bool). put_all (destination_writes d (combined_of f.preds s.combination t) (combined_of f.preds s.combination (not t))) f) (test_in_lem target f s)
instruction_written target (Selp s c) f = choice_written s f (selp_of (pred_of f.preds c))
instruction_written target (Slct ctype s c) f = choice_written s f (slct_of (slct_type_at target ctype) (word_of f.words c))

-- ---- predicates: each is at most 1

pub bits_all : (xs : List ℕ) → list_all (λ b. leb b 1) xs ≡ preds_fit xs
unfolding preds_fit
bits_all [] = refl
bits_all (x ∷ xs) = rw (bits_all xs)

-- ---- a refusal: its number is that of the first test that fails

refused_by_lem : (target : Target) (x : Record) (f : Files) (a o b c : Bool) (r : Refusal) → number_of r ≡ first_executing a o b c
    → outcome (refused (number_of r)) f
    ≡ cond a (outcome (refused 8) f)
    (cond o (outcome (refused 12) f)
    (cond b (outcome (refused 10) f)
    (cond c (outcome (refused 11) f)
    (cond (guard_holds f.preds x.guard) (outcome done (after target x.instruction f))
    (outcome skipped f)))))
refused_by_lem target x f true o b c r e = ap (λ (k : ℕ). outcome (refused k) f) e
refused_by_lem target x f false true b c r e = ap (λ (k : ℕ). outcome (refused k) f) e
refused_by_lem target x f false false true c r e = ap (λ (k : ℕ). outcome (refused k) f) e
refused_by_lem target x f false false false true r e = ap (λ (k : ℕ). outcome (refused k) f) e
refused_by_lem target x f false false false false r e = absurd (above_0 r e)

pub ends_refused : (target : Target) (x : Record) (f : Files) (r : Refusal)
    → number_of r ≡ first_executing (not (is_legal x)) (not (allows target x)) (not (sizes_fit f)) (not (preds_fit f.preds))
    → outcome (refused (number_of r)) f ≡ run target x f
unfolding run
ends_refused target x f r e = refused_by_lem target x f (not (is_legal x)) (not (allows target x)) (not (sizes_fit f)) (not (preds_fit f.preds)) r e
