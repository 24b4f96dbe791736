-- T-07's targets: their names, what they allow, when they flush, and that sm_30 gives what was given before there were targets. Assumes nothing.
use Rattle.std.specs.Prelude.{ℕ, ◌≤◌, ◌≡◌, Bool, true, false, not, ◌||◌, cond, ◌++◌, ltb}
use Rattle.std.proofs.Common.{arith, ap₂, sym, ◌∙◌, leb-true, le-leb}
use Rattle.std.proofs.Math.Path.{refl, ap}
use Rattle.signs.specs.Text.{bytes}
use Rattle.signs.specs.Digits.{decimal, decimal_in}
use Rattle.record.specs.Registers.{Files}
use Rattle.record.specs.Refusals.{is_legal}
use Rattle.record.specs.declared.Target.{Target}
use Rattle.record.specs.declared.Target.TheVariants.{Sm10, Sm13, Sm20, Sm30}
use Rattle.record.specs.declared.DataType.{DataType}
use Rattle.record.specs.declared.DataType.TheVariants.{B16, B32, B64, U16, U32, U64, S16, S32, S64, F32, F64}
use Rattle.record.specs.declared.SlctType.{SlctType}
use Rattle.record.specs.declared.Comparison.{Comparison}
use Rattle.record.specs.declared.Instruction.{Instruction}
use Rattle.record.specs.declared.Instruction.TheVariants.{Arithmetic, Vset, VsetLanes, ArithmeticLanes, Set, Setp, Selp, Slct}
use Rattle.record.specs.declared.Record.{Record}
use Rattle.rules.specs.Execution.{value_of, values_hold, comparison_of}
use Rattle.rules.specs.Targets.{target_name, generation, type_needs, needs, allows, flushes_always, flushes, slct_type_at}
use Rattle.rules.specs.Executing.{operand_of, test_of, writes, outcome, refused, done, skipped, sizes_fit, preds_fit, guard_holds, after, run}
use Rattle.laws.specs.PlaceLaws.{off}

-- a target's name is `sm_` and its number
pub target_spelled : (t : Target) → target_name t ≡ bytes "sm_" ++ decimal (generation t)
unfolding decimal decimal_in
target_spelled Sm10 = refl
target_spelled Sm13 = refl
target_spelled Sm20 = refl
target_spelled Sm30 = refl

-- ==== what a target allows

-- what an older target allows, a newer one allows; what a newer one does not allow, an older one does not
pub allows_later : (t u : Target) (x : Record) → generation t ≤ generation u → allows t x ≡ true → allows u x ≡ true
unfolding allows
allows_later t u x h e =
    let k = leb-true (generation (needs x.instruction)) (generation t) e in
    le-leb (generation (needs x.instruction)) (generation u) (omega arith)

pub disallowed_earlier : (t u : Target) (x : Record) → generation t ≤ generation u → allows u x ≡ false → allows t x ≡ false
disallowed_earlier t u x h e = go (allows t x) refl
  where
    go : (b : Bool) → allows t x ≡ b → b ≡ false
    go true k = off (sym (allows_later t u x h k) ∙ e)
    go false k = refl

-- the first and the last of them
oldest_least : (t : Target) → generation Sm10 ≤ generation t
oldest_least Sm10 = omega arith
oldest_least Sm13 = omega arith
oldest_least Sm20 = omega arith
oldest_least Sm30 = omega arith

newest_most : (t : Target) → generation t ≤ generation Sm30
newest_most Sm10 = omega arith
newest_most Sm13 = omega arith
newest_most Sm20 = omega arith
newest_most Sm30 = omega arith

-- what needs nothing goes with every target
pub nothing_needed : (t : Target) (x : Record) → needs x.instruction ≡ Sm10 → allows t x ≡ true
unfolding allows
nothing_needed t x e = rw e (le-leb (generation Sm10) (generation t) (oldest_least t))

-- sm_30 allows all
pub newest_allows : (x : Record) → allows Sm30 x ≡ true
unfolding allows
newest_allows x = le-leb (generation (needs x.instruction)) (generation Sm30) (newest_most (needs x.instruction))

-- f64 alone needs a target
pub type_needs_lem : (t : DataType) → (t ≡ F64 → ⊥) → type_needs t ≡ Sm10
type_needs_lem B16 h = refl
type_needs_lem B32 h = refl
type_needs_lem B64 h = refl
type_needs_lem U16 h = refl
type_needs_lem U32 h = refl
type_needs_lem U64 h = refl
type_needs_lem S16 h = refl
type_needs_lem S32 h = refl
type_needs_lem S64 h = refl
type_needs_lem F32 h = refl
type_needs_lem F64 h = absurd (h refl)

-- ==== when it flushes

-- the first two: those before sm_20
pub first_two : (t : Target) → flushes_always t ≡ ltb (generation t) (generation Sm20)
first_two Sm10 = refl
first_two Sm13 = refl
first_two Sm20 = refl
first_two Sm30 = refl

-- nothing is flushed of another type than f32, so that the target says nothing there
pub other_value : (t : DataType) → (t ≡ F32 → ⊥) → (ftz : Bool) (x : ℕ) → value_of t ftz x ≡ value_of t false x
unfolding value_of
other_value B16 h ftz x = refl
other_value B32 h ftz x = refl
other_value B64 h ftz x = refl
other_value U16 h ftz x = refl
other_value U32 h ftz x = refl
other_value U64 h ftz x = refl
other_value S16 h ftz x = refl
other_value S32 h ftz x = refl
other_value S64 h ftz x = refl
other_value F32 h ftz x = absurd (h refl)
other_value F64 h ftz x = refl

pub other_test : (t : Target) (f : Files) (s : Comparison) → (s.stype ≡ F32 → ⊥)
    → test_of t f s ≡ comparison_of s.cmp false s.stype (operand_of f s.a) (operand_of f s.b)
unfolding test_of comparison_of
other_test t f s h =
    ap₂ (values_hold s.cmp) (other_value s.stype h (flushes t s.ftz) (operand_of f s.a)) (other_value s.stype h (flushes t s.ftz) (operand_of f s.b))

-- two targets that flush alike write alike, so sm_10 and sm_13 do, and sm_20 and sm_30
module _ (t u : Target) (e : flushes_always t ≡ flushes_always u) (f : Files) where
  test_alike : (s : Comparison) → test_of t f s ≡ test_of u f s
  unfolding test_of
  test_alike s = ap (λ (b : Bool). comparison_of s.cmp (b || s.ftz) s.stype (operand_of f s.a) (operand_of f s.b)) e

  type_alike : (c : SlctType) → slct_type_at t c ≡ slct_type_at u c
  type_alike SlctType.S32 = refl
  type_alike (SlctType.F32 ftz) = ap (λ (b : Bool). SlctType.F32 (b || ftz)) e

  pub writes_alike : (i : Instruction) → writes t i f ≡ writes u i f
  unfolding writes
  writes_alike (Arithmetic op dtype sat s) = refl
  writes_alike (Vset cmp s) = refl
  writes_alike (VsetLanes cmp l) = refl
  writes_alike (ArithmeticLanes op dtype sat l) = refl
  writes_alike (Set dtype d s) = rw (test_alike s)
  writes_alike (Setp d s) = rw (test_alike s)
  writes_alike (Selp s c) = refl
  writes_alike (Slct ctype s c) = rw (type_alike ctype)

  -- so a record that both allow, or neither, has one outcome at both
  pub run_alike : (x : Record) → allows t x ≡ allows u x → run t x f ≡ run u x f
  unfolding run after
  run_alike x a = rw (a, writes_alike x.instruction)

-- the line with its `ftz` turned into another
abbrev pub with_ftz : (Bool → Bool) → Instruction → Instruction
with_ftz turn (Set dtype d s) = Set dtype d (record { cmp = s.cmp; combination = s.combination; ftz = turn s.ftz; stype = s.stype; a = s.a; b = s.b })
with_ftz turn (Setp d s) = Setp d (record { cmp = s.cmp; combination = s.combination; ftz = turn s.ftz; stype = s.stype; a = s.a; b = s.b })
with_ftz turn (Slct (SlctType.F32 ftz) s c) = Slct (SlctType.F32 (turn ftz)) s c
with_ftz turn (Slct SlctType.S32 s c) = Slct SlctType.S32 s c
with_ftz turn (Arithmetic op dtype sat s) = Arithmetic op dtype sat s
with_ftz turn (Vset cmp s) = Vset cmp s
with_ftz turn (VsetLanes cmp l) = VsetLanes cmp l
with_ftz turn (ArithmeticLanes op dtype sat l) = ArithmeticLanes op dtype sat l
with_ftz turn (Selp s c) = Selp s c

-- without it
abbrev pub without_ftz : Instruction → Instruction
without_ftz i = with_ftz (λ ftz. false) i

-- with it where the target flushes: in set and setp it says something of f32 alone (`other_test`)
abbrev pub worked : Target → Instruction → Instruction
worked t i = with_ftz (flushes t) i

-- a target writes what sm_30 writes of that line: nothing else knows the target
pub as_newest : (t : Target) (i : Instruction) (f : Files) → writes t i f ≡ writes Sm30 (worked t i) f
unfolding writes test_of
as_newest t (Arithmetic op dtype sat s) f = refl
as_newest t (Vset cmp s) f = refl
as_newest t (VsetLanes cmp l) f = refl
as_newest t (ArithmeticLanes op dtype sat l) f = refl
as_newest t (Set dtype d s) f = refl
as_newest t (Setp d s) f = refl
as_newest t (Selp s c) f = refl
as_newest t (Slct SlctType.S32 s c) f = refl
as_newest t (Slct (SlctType.F32 ftz) s c) f = refl

-- and sm_30 works each line as it stands
pub worked_newest : (i : Instruction) → worked Sm30 i ≡ i
worked_newest (Arithmetic op dtype sat s) = refl
worked_newest (Vset cmp s) = refl
worked_newest (VsetLanes cmp l) = refl
worked_newest (ArithmeticLanes op dtype sat l) = refl
worked_newest (Set dtype d s) = refl
worked_newest (Setp d s) = refl
worked_newest (Selp s c) = refl
worked_newest (Slct SlctType.S32 s c) = refl
worked_newest (Slct (SlctType.F32 ftz) s c) = refl

-- whether or not `ftz` stands there, the first two write the same
pub ftz_no_matter : (t : Target) → flushes_always t ≡ true → (i : Instruction) (f : Files) → writes t i f ≡ writes t (without_ftz i) f
unfolding writes test_of
ftz_no_matter t e (Arithmetic op dtype sat s) f = refl
ftz_no_matter t e (Vset cmp s) f = refl
ftz_no_matter t e (VsetLanes cmp l) f = refl
ftz_no_matter t e (ArithmeticLanes op dtype sat l) f = refl
ftz_no_matter t e (Set dtype d s) f = rw e
ftz_no_matter t e (Setp d s) f = rw e
ftz_no_matter t e (Selp s c) f = refl
ftz_no_matter t e (Slct SlctType.S32 s c) f = refl
ftz_no_matter t e (Slct (SlctType.F32 ftz) s c) f = rw e

-- ==== sm_30 gives what was given before there were targets

-- `run` as it stood, without 12
pub run_newest : (x : Record) (f : Files)
    → run Sm30 x f
    ≡ cond (not (is_legal x)) (outcome (refused 8) f)
    (cond (not (sizes_fit f)) (outcome (refused 10) f)
    (cond (not (preds_fit f.preds)) (outcome (refused 11) f)
    (cond (guard_holds f.preds x.guard) (outcome done (after Sm30 x.instruction f))
    (outcome skipped f))))
unfolding run
run_newest x f = rw (newest_allows x)
