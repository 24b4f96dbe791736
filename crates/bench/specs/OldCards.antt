-- Change request T-07, "Old yard cards", for someone with an old card: what a target changes and what it leaves as it is. Laws of `Answers` and `run`, which `read` and
-- `execute` of src/lib.rt promise for every target and, `read`, in each mode; which records a target allows, and when it flushes, says crates/rules/specs/Targets.antt. Assumes nothing.
use Rattle.std.specs.Prelude.{ℕ, ◌≤◌, ◌<◌, ◌≡◌, refl, Bool, true, false, not, cond, List, [], ◌∷◌, leb}
use Rattle.std.proofs.Common.{sym, ◌∙◌, lt-ltb, le-ltb}
use Rattle.signs.specs.Lists.{Listed}
use Rattle.signs.specs.Lists.Listed.{here, later}
use Rattle.record.specs.Registers.{Files, r, operand_place, at}
use Rattle.record.specs.Refusals.{is_legal, Legal}
use Rattle.record.specs.declared.Target.{Target}
use Rattle.record.specs.declared.Mode.{Mode}
use Rattle.record.specs.declared.Target.TheVariants.{Sm10, Sm13, Sm20, Sm30}
use Rattle.record.specs.declared.DataType.{DataType}
use Rattle.record.specs.declared.DataType.TheVariants.{F32, F64}
use Rattle.record.specs.declared.VideoType.{VideoType}
use Rattle.record.specs.declared.Cmp6.{Cmp6}
use Rattle.record.specs.declared.Arith.{Arith}
use Rattle.record.specs.declared.LaneArith.{LaneArith}
use Rattle.record.specs.declared.Scalar.{Scalar}
use Rattle.record.specs.declared.Lanes.{Lanes}
use Rattle.record.specs.declared.Pred.{Pred}
use Rattle.record.specs.declared.Destination.{Destination}
use Rattle.record.specs.declared.SetType.{SetType}
use Rattle.record.specs.declared.SlctType.{SlctType}
use Rattle.record.specs.declared.Word.{Word}
use Rattle.record.specs.declared.Choice.{Choice}
use Rattle.record.specs.declared.Comparison.{Comparison}
use Rattle.record.specs.declared.Instruction.{Instruction}
use Rattle.record.specs.declared.Instruction.TheVariants.{Arithmetic, Vset, VsetLanes, ArithmeticLanes, Set, Setp, Selp, Slct}
use Rattle.record.specs.declared.Record.{Record}
use Rattle.rules.specs.Targets.{generation, type_needs, needs, allows, Allowed, flushes_always, slct_type_at}
use Rattle.rules.specs.Strict.{passes}
use Rattle.rules.specs.Reading.{Relates, Applies, too_old, Answer, read, refused, Answers, accepts}
use Rattle.rules.specs.Execution.{comparison_of, set_of, selp_of, not_below_zero, slct_of}
use Rattle.rules.specs.Executing as executing
use Rattle.rules.specs.Executing.{word_of, pred_of, operand_of, combined_of, test_of, kept, write, writes, after, sizes_fit, preds_fit, Admitted, guard_holds, done, skipped, run}
use Rattle.laws.specs.RunLaws as runs
use Rattle.laws.specs.PlaceLaws.{off}
use Rattle.laws.specs.TargetLaws as targets
use Rattle.laws.specs.TargetLaws.{without_ftz, worked}
use Rattle.read.specs.Promises as promises
use Rattle.read.specs.Promises.{older}

-- ==== what a line needs

-- a target allows what needs it or an older one
pub allows_needed : (target : Target) (x : Record) → allows target x ≡ leb (generation (needs x.instruction)) (generation target)
unfolding allows
allows_needed target x = refl

-- scalar video needs sm_20, forms with 2 or 4 sm_30, whatever else stands in the line
pub arithmetic_needs : (op : Arith) (dtype : VideoType) (sat : Bool) (s : Scalar) → needs (Arithmetic op dtype sat s) ≡ Sm20
arithmetic_needs op dtype sat s = refl

pub vset_needs : (cmp : Cmp6) (s : Scalar) → needs (Vset cmp s) ≡ Sm20
vset_needs cmp s = refl

pub vset_lanes_need : (cmp : Cmp6) (l : Lanes) → needs (VsetLanes cmp l) ≡ Sm30
vset_lanes_need cmp l = refl

pub lanes_need : (op : LaneArith) (dtype : VideoType) (sat : Bool) (l : Lanes) → needs (ArithmeticLanes op dtype sat l) ≡ Sm30
lanes_need op dtype sat l = refl

-- set and setp go by stype, selp and slct by the type of what they copy
pub set_needs : (dtype : SetType) (d : Word) (s : Comparison) → needs (Set dtype d s) ≡ type_needs s.stype
set_needs dtype d s = refl

pub setp_needs : (d : Destination) (s : Comparison) → needs (Setp d s) ≡ type_needs s.stype
setp_needs d s = refl

pub selp_needs : (s : Choice) (c : Pred) → needs (Selp s c) ≡ type_needs s.dtype
selp_needs s c = refl

pub slct_needs : (ctype : SlctType) (s : Choice) (c : Word) → needs (Slct ctype s c) ≡ type_needs s.dtype
slct_needs ctype s c = refl

-- f64 types need sm_13, every other type, b64, u64 and s64 among them, nothing; and what needs nothing every target allows
pub f64_needs : type_needs F64 ≡ Sm13
f64_needs = refl

pub others_need_nothing : (t : DataType) → (t ≡ F64 → ⊥) → type_needs t ≡ Sm10
others_need_nothing t h = targets.type_needs_lem t h

pub nothing_needed : (target : Target) (x : Record) → needs x.instruction ≡ Sm10 → allows target x ≡ true
nothing_needed target x e = targets.nothing_needed target x e

-- what was legal before is allowed at sm_30
pub newest_allowed : (x : Record) → Legal x → Allowed Sm30 x
newest_allowed x h = record { legal = h; allowed = targets.newest_allows x }

-- ==== reading: 12, target too old, without a place, after 7; in each mode

-- a line gets 12 exactly where it spells a legal record that the target does not allow, so that none of 1 to 7 applies
pub too_old_read : (target : Target) (mode : Mode) (l : List ℕ) (x : Record) → Relates l x → Legal x → allows target x ≡ false → Answers target mode l (refused 12)
too_old_read target mode l x q h a = promises.legal_too_old target mode l x q h a

pub read_too_old : (target : Target) (mode : Mode) (l : List ℕ) → Answers target mode l (refused 12) → (x : Record) × Relates l x × Legal x × (allows target x ≡ false)
read_too_old target mode l a = promises.too_old_legal target mode l a

-- an older target gives a line what a newer one gives it, or 12 where the newer one accepts it and the older one does not allow its record; of T-09's 15
-- StrictReading.antt says it
pub older_answers : (old new : Target) (mode : Mode) (l : List ℕ) (a : Answer) → generation old ≤ generation new → (a ≡ refused 15 → ⊥) → Answers new mode l a → Answers old mode l (older old a)
older_answers old new mode l a h z q = promises.answered_older old new mode l h a z q

-- what an older target accepts, a newer one accepts with the same record
pub accepted_later : (old new : Target) (mode : Mode) (l : List ℕ) (x : Record) → generation old ≤ generation new → Answers old mode l (read x) → Answers new mode l (read x)
accepted_later old new mode l x h (accepts m q a) =
    accepts x q (record { allowed = record { legal = a.allowed.legal; allowed = targets.allows_later old new x h a.allowed.allowed }; passed = a.passed })

-- sm_30 gives what was given before there were targets: no line gets 12, and one that spells a legal record is accepted (T-09: if the mode passes it). By
-- `older_answers` each refusal but 12 and 15 is every target's
pub newest_without_12 : (mode : Mode) (l : List ℕ) → Applies Sm30 mode l 12 → ⊥
newest_without_12 mode l (too_old x q a) = off (sym (targets.newest_allows x) ∙ a)

pub newest_accepts : (mode : Mode) (l : List ℕ) (x : Record) → Relates l x → Legal x → passes mode x ≡ true → Answers Sm30 mode l (read x)
newest_accepts mode l x q h p = accepts x q (record { allowed = newest_allowed x h; passed = p })

-- ==== executing: 12 straight after 8 (execute-12 of Demands.antt)

-- sm_30 gives what was given before: `run` without 12, and each line worked as it stands
pub newest_runs : (x : Record) (f : Files)
    → run Sm30 x f
    ≡ cond (not (is_legal x)) (executing.outcome (executing.refused 8) f)
    (cond (not (sizes_fit f)) (executing.outcome (executing.refused 10) f)
    (cond (not (preds_fit f.preds)) (executing.outcome (executing.refused 11) f)
    (cond (guard_holds f.preds x.guard) (executing.outcome done (after Sm30 x.instruction f))
    (executing.outcome skipped f))))
newest_runs x f = targets.run_newest x f

pub newest_worked : (i : Instruction) → worked Sm30 i ≡ i
newest_worked i = targets.worked_newest i

-- every target does with a line what sm_30 does with it, `ftz` put where the target flushes; nothing else knows the target
pub as_newest : (target : Target) (i : Instruction) (f : Files) → writes target i f ≡ writes Sm30 (worked target i) f
as_newest target i f = targets.as_newest target i f

-- two targets that flush alike, the first two or the later two, do the same with a record that both allow, or neither
pub alike : (t u : Target) → flushes_always t ≡ flushes_always u → (x : Record) (f : Files) → allows t x ≡ allows u x → run t x f ≡ run u x f
alike t u e x f a = targets.run_alike t u e f x a

-- The first two flush f32 subnormals in set, setp and slct whether or not `ftz` stands there;
module _ (target : Target) (early : generation target < generation Sm20) where
  always : flushes_always target ≡ true
  always = targets.first_two target ∙ lt-ltb (generation target) (generation Sm20) early

  pub flush_without_ftz : (i : Instruction) (f : Files) → writes target i f ≡ writes target (without_ftz i) f
  flush_without_ftz i f = targets.ftz_no_matter target always i f

  pub early_test : (f : Files) (s : Comparison) → test_of target f s ≡ comparison_of s.cmp true s.stype (operand_of f s.a) (operand_of f s.b)
  unfolding test_of
  early_test f s = rw always

  pub early_c : (ftz : Bool) → slct_type_at target (SlctType.F32 ftz) ≡ SlctType.F32 true
  early_c ftz = rw always

-- the later two only when it does
module _ (target : Target) (late : generation Sm20 ≤ generation target) where
  only : flushes_always target ≡ false
  only = targets.first_two target ∙ le-ltb (generation target) (generation Sm20) late

  pub late_test : (f : Files) (s : Comparison) → test_of target f s ≡ comparison_of s.cmp s.ftz s.stype (operand_of f s.a) (operand_of f s.b)
  unfolding test_of
  late_test f s = rw only

  pub late_c : (c : SlctType) → slct_type_at target c ≡ c
  late_c SlctType.S32 = refl
  late_c (SlctType.F32 ftz) = rw only

-- (of another type than f32 nothing is flushed, at any target)
pub other_types : (target : Target) (f : Files) (s : Comparison) → (s.stype ≡ F32 → ⊥)
    → test_of target f s ≡ comparison_of s.cmp false s.stype (operand_of f s.a) (operand_of f s.b)
other_types target f s h = targets.other_test target f s h

-- (nor is c of slct with s32)
pub s32_c : (target : Target) → slct_type_at target SlctType.S32 ≡ SlctType.S32
s32_c target = refl

-- ==== what set, selp and slct leave in d: t and c as flushed above, and the bits that selp and slct copy are never flushed

module _ (target : Target) (x : Record) (f : Files) (allowed : Allowed target x) (admitted : Admitted f) (guard : guard_holds f.preds x.guard ≡ true) where
  pub set_writes : (dtype : SetType) (d : Word) (s : Comparison) → x.instruction ≡ Set dtype d s
      → at (run target x f).files (r d) ≡ set_of dtype (combined_of f.preds s.combination (test_of target f s))
  unfolding writes
  set_writes dtype d s is = runs.holds_written target x f allowed admitted guard (write (r d) (set_of dtype (combined_of f.preds s.combination (test_of target f s)))) (rw is (here refl))

  pub selp_writes : (s : Choice) (c : Pred) → x.instruction ≡ Selp s c
      → at (run target x f).files (operand_place s.d) ≡ kept s.d (selp_of (pred_of f.preds c) (operand_of f s.a) (operand_of f s.b))
  unfolding writes
  selp_writes s c is =
      runs.holds_written target x f allowed admitted guard
      (write (operand_place s.d) (kept s.d (selp_of (pred_of f.preds c) (operand_of f s.a) (operand_of f s.b)))) (rw is (here refl))

  module _ (ctype : SlctType) (s : Choice) (c : Word) (is : x.instruction ≡ Slct ctype s c) where
    pub slct_writes : at (run target x f).files (operand_place s.d)
        ≡ kept s.d (slct_of (slct_type_at target ctype) (word_of f.words c) (operand_of f s.a) (operand_of f s.b))
    unfolding writes
    slct_writes =
        runs.holds_written target x f allowed admitted guard
        (write (operand_place s.d) (kept s.d (slct_of (slct_type_at target ctype) (word_of f.words c) (operand_of f s.a) (operand_of f s.b)))) (rw is (here refl))

    pub slct_copies : Listed (at (run target x f).files (operand_place s.d)) (kept s.d (operand_of f s.a) ∷ kept s.d (operand_of f s.b) ∷ [])
    slct_copies = rw slct_writes (go (not_below_zero (slct_type_at target ctype) (word_of f.words c)))
      where
        go : (t : Bool) → Listed (kept s.d (cond t (operand_of f s.a) (operand_of f s.b))) (kept s.d (operand_of f s.a) ∷ kept s.d (operand_of f s.b) ∷ [])
        go true = here refl
        go false = later (here refl)
