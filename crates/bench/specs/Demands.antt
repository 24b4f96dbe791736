-- The user's three demands, in their words and order, as laws of the whole bench: document 01 with the requests that have landed (T-01, T-02, T-04, T-05, T-06, T-07, T-09). The laws of T-14,
-- which changed no answer, stand beside this file, in TakenApart.antt; what stands at each place of T-05, in WhereWrong.antt; T-07's
-- targets beside one another, in OldCards.antt; T-09's two modes of reading, in StrictReading.antt. A target goes with each reading and execution (T-07): the laws hold for
-- each, and for the records that it allows. A mode goes with each reading (T-09): the laws of reading hold for both, and in strict reading for the records that are not against themselves.
-- `read`, `write` and `execute` of src/lib.rt promise `Answers`, `writing` and `run` for every input; these laws say what that means, and
-- proofs/Contracts.antt says the records at the end of this file of the functions' own contracts, and that these ask nothing. What a definition says, its own file says
-- after the documents (docs/RULES.md leads the way). Assumes nothing.
use Rattle.std.specs.Prelude.{ℕ, ◌+◌, ◌%◌, ◌≤◌, ◌<◌, ◌≡◌, refl, Bool, true, false, not, ◌&&◌, cond, List, [], ◌∷◌, ◌++◌, length, take, drop, ltb, pos, ◌+ℤ◌}
use Rattle.std.proofs.Common.{ap, sym, subst, ◌∙◌, take_at, arith, ltb-true, ltb-false}
use Rattle.signs.specs.Bytes.{line_feed}
use Rattle.record.specs.Registers.{Files, Place, r, p, at, Inside, SameLengths}
use Rattle.record.specs.Refusals.{is_legal, Legal}
use Rattle.record.specs.declared.Cmp6.{Cmp6}
use Rattle.record.specs.declared.LaneArith.{LaneArith}
use Rattle.record.specs.declared.VideoType.{VideoType}
use Rattle.record.specs.declared.Lanes.{Lanes}
use Rattle.record.specs.declared.Pred.{Pred}
use Rattle.record.specs.declared.Comparison.{Comparison}
use Rattle.record.specs.declared.Destination.TheVariants.{One, Pair, First, Second}
use Rattle.record.specs.declared.Instruction.TheVariants.{VsetLanes, ArithmeticLanes, Setp}
use Rattle.record.specs.declared.Record.{Record}
use Rattle.record.specs.declared.Target.{Target}
use Rattle.record.specs.declared.Mode.{Mode}
use Rattle.rules.specs.Grammar.{LineTree, Shaped}
use Rattle.rules.specs.Targets.{allows, Allowed}
use Rattle.rules.specs.Strict.{passes, Readable}
use Rattle.rules.specs.StandardLine.{standard}
use Rattle.rules.specs.Reading.{Relates, line_limit, Applies, reading_order, FirstOf, Placed, placeless, Answer, read, refused, refused_at, Answers}
use Rattle.signs.specs.Lists.{Listed}
use Rattle.rules.specs.Writing as paper
use Rattle.rules.specs.Writing.{written, writing}
use Rattle.rules.specs.Numbers.{word_size, lane_size, lanes, part_at, low_of, bit}
use Rattle.rules.specs.Execution.{mask_at, lane_holds, count, lane_result, sum_z}
use Rattle.rules.specs.Executing as executing
use Rattle.rules.specs.Executing.{destinations, named, Write, places_of, writes, after, combined_of, test_of, sizes_fit, preds_fit, Admitted, guard_holds, done, skipped, run}
use Rattle.laws.specs.ShapeLaws as shapes
use Rattle.laws.specs.PlaceLaws as places
use Rattle.laws.specs.OutcomeLaws as outcomes
use Rattle.laws.specs.RunLaws as runs
use Rattle.laws.specs.LineLengths.{standard_fits}
use Rattle.read.specs.Mirror.{read_of}
use Rattle.read.specs.Laws as reader
use Rattle.read.specs.Answering as answering
use Rattle.read.specs.Promises as promises
use Rattle.read.specs.Promises.{Refusal}

-- ==== 1. Every line, every decoded record and every set of register files gets an answer.

-- `writing` and `run` are functions of all records, buffers and files; for a line there is an answer, and one
pub every_line_answered : (target : Target) (mode : Mode) (l : List ℕ) → (a : Answer) × Answers target mode l a
every_line_answered target mode l = (read_of target mode l, answering.answers target mode l)

pub one_answer : (target : Target) (mode : Mode) (l : List ℕ) (a b : Answer) → Answers target mode l a → Answers target mode l b → a ≡ b
one_answer target mode l a b x y = answering.answers_unique target mode l a b x y

-- Each entry point tests its own input: none has a `requires`, so what a caller would have had to test is a refusal.

-- a line: 1 to 7, 12 and 15 are under demand 3. A record and a buffer: 8, 9
pub write_8 : (x : Record) (b : List ℕ) → is_legal x ≡ false → writing x b ≡ paper.outcome (paper.refused 8) b
write_8 x b e = outcomes.write_8 x b e

pub write_9 : (x : Record) (b : List ℕ) → Legal x → length b < length (standard x) → writing x b ≡ paper.outcome (paper.refused 9) b
write_9 x b e h = outcomes.write_9 x b e h

-- a record and files: 8, 12 (T-07), 10, 11
pub execute_8 : (target : Target) (x : Record) (f : Files) → is_legal x ≡ false → run target x f ≡ executing.outcome (executing.refused 8) f
execute_8 target x f e = outcomes.execute_8 target x f e

pub execute_12 : (target : Target) (x : Record) (f : Files) → Legal x → allows target x ≡ false → run target x f ≡ executing.outcome (executing.refused 12) f
execute_12 target x f e a = outcomes.execute_12 target x f e a

pub execute_10 : (target : Target) (x : Record) (f : Files) → Allowed target x → sizes_fit f ≡ false → run target x f ≡ executing.outcome (executing.refused 10) f
execute_10 target x f e s = outcomes.execute_10 target x f e s

pub execute_11 : (target : Target) (x : Record) (f : Files) → Allowed target x → sizes_fit f ≡ true → preds_fit f.preds ≡ false → run target x f ≡ executing.outcome (executing.refused 11) f
execute_11 target x f e s b = outcomes.execute_11 target x f e s b

-- A refusal carries document 01's number and leaves registers, predicates and the output buffer exactly as they were lent.

-- (a line is lent to be read only: by its type it stays as it is)
pub read_refused : (target : Target) (mode : Mode) (l : List ℕ) (n : ℕ) → Answers target mode l (refused n) → Listed n reading_order × Listed n placeless
read_refused target mode l n a = (promises.refused_listed target mode l n a, (promises.refused_first target mode l n a).1)

-- T-05: refusals 2 to 7, all but 1 (T-07: and 12, T-09: and 15), carry a byte place, which is one of the line or its length
pub read_refused_at : (target : Target) (mode : Mode) (l : List ℕ) (n q : ℕ) → Answers target mode l (refused_at n q) → Listed n reading_order × (Listed n placeless → ⊥) × (q ≤ length l)
read_refused_at target mode l n q a =
    (promises.refused_at_listed target mode l n q a, λ i. answering.placeless_unplaced l n q i (promises.refused_at_first target mode l n q a).1, (promises.refused_at_within target mode l n q a).0)

pub write_refused : (x : Record) (b : List ℕ) (n : ℕ) → (writing x b).answer ≡ paper.refused n → Listed n (8 ∷ 9 ∷ []) × ((writing x b).buffer ≡ b)
write_refused x b n e = outcomes.write_refused x b n e

pub execute_refused : (target : Target) (x : Record) (f : Files) (n : ℕ) → (run target x f).answer ≡ executing.refused n → Listed n (8 ∷ 12 ∷ 10 ∷ 11 ∷ []) × ((run target x f).files ≡ f)
execute_refused target x f n e = outcomes.execute_refused target x f n e

-- ==== 2. A legal record, on files that document 01 admits, does to the registers what the PTX steps condensed there say,

-- (T-07: for each target and the records it allows)

-- (files that are neither 10 nor 11 are admitted)
pub admits : (f : Files) → sizes_fit f ≡ true → preds_fit f.preds ≡ true → Admitted f
admits f s b = outcomes.admits f s b

-- (it is executed where its guard holds, and else skipped)
pub executes : (target : Target) (x : Record) (f : Files) → Allowed target x → Admitted f → guard_holds f.preds x.guard ≡ true → run target x f ≡ executing.outcome done (after target x.instruction f)
executes target x f e a g = outcomes.executes target x f e a g

pub skips : (target : Target) (x : Record) (f : Files) → Allowed target x → Admitted f → guard_holds f.preds x.guard ≡ false → run target x f ≡ executing.outcome skipped f
skips target x f e a g = outcomes.skips target x f e a g

module _ (target : Target) (x : Record) (f : Files) (allowed : Allowed target x) (admitted : Admitted f) (guard : guard_holds f.preds x.guard ≡ true) where
  -- each destination holds its value afterwards: `writes` says it of each instruction, by the definitions of Execution.antt
  pub destinations_hold : (w : Write) → Listed w (writes target x.instruction f) → at (run target x f).files w.place ≡ w.value
  destinations_hold w e = runs.holds_written target x f allowed admitted guard w e

  -- (SIMD lines are allowed at sm_30 alone: of the laws below, those of lanes speak of that target)
  -- vset2 and vset4: masked lanes, those the mask names, get 1 or 0; other lanes keep c's part. With `add`, d is c plus the number of masked
  -- lanes that hold, modulo 2^32
  module _ (cmp : Cmp6) (l : Lanes) (is : x.instruction ≡ VsetLanes cmp l) where
    pub masked_lane : l.add ≡ false → (i : ℕ) → i < lanes l.width → mask_at l.mask i ≡ true
        → part_at (lane_size l.width) (at (run target x f).files (r l.d)) i ≡ bit (lane_holds cmp l (at f (r l.a)) (at f (r l.b)) i)
    masked_lane plain i h m = runs.masked_lane target x f allowed admitted guard cmp l is plain i h m

    pub unmasked_lane : l.add ≡ false → (i : ℕ) → i < lanes l.width → mask_at l.mask i ≡ false
        → part_at (lane_size l.width) (at (run target x f).files (r l.d)) i ≡ part_at (lane_size l.width) (at f (r l.c)) i
    unmasked_lane plain i h m = runs.unmasked_lane target x f allowed admitted guard cmp l is plain i h m

    pub add_counted : l.add ≡ true
        → at (run target x f).files (r l.d)
        ≡ (at f (r l.c) + count (lanes l.width) (λ i. mask_at l.mask i && lane_holds cmp l (at f (r l.a)) (at f (r l.b)) i)) % word_size
    add_counted e = runs.add_counted target x f allowed admitted guard cmp l is e

  -- T-01: a merge keeps the low bits of the lane, and unmasked lanes keep c's parts. `add` adds the exact masked lane results to c, modulo 2^32
  module _ (op : LaneArith) (dtype : VideoType) (sat : Bool) (l : Lanes) (is : x.instruction ≡ ArithmeticLanes op dtype sat l) where
    pub masked_result : l.add ≡ false → (i : ℕ) → i < lanes l.width → mask_at l.mask i ≡ true
        → part_at (lane_size l.width) (at (run target x f).files (r l.d)) i
        ≡ low_of (lane_size l.width) (lane_result op dtype sat l (at f (r l.a)) (at f (r l.b)) i)
    masked_result plain i h m = runs.masked_result target x f allowed admitted guard op dtype sat l is plain i h m

    pub unmasked_result : l.add ≡ false → (i : ℕ) → i < lanes l.width → mask_at l.mask i ≡ false
        → part_at (lane_size l.width) (at (run target x f).files (r l.d)) i ≡ part_at (lane_size l.width) (at f (r l.c)) i
    unmasked_result plain i h m = runs.unmasked_result target x f allowed admitted guard op dtype sat l is plain i h m

    pub add_summed : l.add ≡ true
        → at (run target x f).files (r l.d)
        ≡ low_of word_size
        (pos (at f (r l.c)) +ℤ sum_z (lanes l.width) (λ i. cond (mask_at l.mask i) (lane_result op dtype sat l (at f (r l.a)) (at f (r l.b)) i) (pos 0)))
    add_summed e = runs.add_summed target x f allowed admitted guard op dtype sat l is e

  -- setp writes BoolOp(t, c) to the first place, BoolOp(not t, c) to the second, of the predicates before either is written
  module _ (a b : Pred) (s : Comparison) (is : x.instruction ≡ Setp (Pair a b) s) where
    pub first_place : at (run target x f).files (p a) ≡ bit (combined_of f.preds s.combination (test_of target f s))
    first_place = runs.first_place target x f allowed admitted guard a b s is

    pub second_place : at (run target x f).files (p b) ≡ bit (combined_of f.preds s.combination (not (test_of target f s)))
    second_place = runs.second_place target x f allowed admitted guard a b s is

  -- (one predicate gets what the first place of a pair gets; `_` drops one)
  module _ (a : Pred) (s : Comparison) where
    pub one_alone : x.instruction ≡ Setp (One a) s → at (run target x f).files (p a) ≡ bit (combined_of f.preds s.combination (test_of target f s))
    one_alone is = runs.one_holds target x f allowed admitted guard a s is

    pub first_alone : x.instruction ≡ Setp (First a) s → at (run target x f).files (p a) ≡ bit (combined_of f.preds s.combination (test_of target f s))
    first_alone is = runs.first_holds target x f allowed admitted guard a s is

    pub second_alone : x.instruction ≡ Setp (Second a) s
        → at (run target x f).files (p a) ≡ bit (combined_of f.preds s.combination (not (test_of target f s)))
    second_alone is = runs.second_holds target x f allowed admitted guard a s is

-- a legal record names only places in their files: its guard's, its destinations, its sources
pub names_inside : (x : Record) → Legal x → (q : Place) → Listed q (named x) → Inside q
names_inside x h q e = places.legal_inside x h q e

-- and nothing else in them moves.

-- what is written are the destinations, which the record alone names
pub writes_destinations : (target : Target) (x : Record) (f : Files) → places_of (writes target x.instruction f) ≡ destinations x.instruction
writes_destinations target x f = runs.writes_destinations target x.instruction f

pub others_stay : (target : Target) (x : Record) (f : Files) (q : Place) → (Listed q (destinations x.instruction) → ⊥) → at (run target x f).files q ≡ at f q
others_stay target x f q h = runs.others_stay target x f q h

pub lengths_stay : (target : Target) (x : Record) (f : Files) → SameLengths f (run target x f).files
lengths_stay target x f = runs.lengths_stay target x f

pub all_stays_unless_done : (target : Target) (x : Record) (f : Files) → ((run target x f).answer ≡ done → ⊥) → (run target x f).files ≡ f
all_stays_unless_done target x f h = outcomes.unless_done_unmoved target x f h

-- Every legal record is written as its one standard line, given a buffer with room for it, (and no byte behind it changes)
pub writes_standard : (x : Record) (b : List ℕ) → Legal x → length (standard x) ≤ length b
    → writing x b ≡ paper.outcome (written (length (standard x))) (standard x ++ drop (length (standard x)) b)
writes_standard x b e h = outcomes.writes_standard x b e h

pub room_of_a_line_is_enough : (x : Record) → Legal x → length (standard x) ≤ line_limit
room_of_a_line_is_enough x h = standard_fits x h

-- and reading that line gives the record again (T-07: at each target that allows it; T-09: in strict reading, where it is not against itself).
pub reads_back : (target : Target) (mode : Mode) (x : Record) → Readable target mode x → Answers target mode (standard x) (read x)
reads_back target mode x h = promises.standard_reads target mode x h

-- ==== 3. A line is accepted exactly when the grammar of document 01, set down apart from the reader, relates it to a legal record (T-07:
-- that the target allows; T-09: and that in strict reading is not against itself).

pub accepted_related : (target : Target) (mode : Mode) (l : List ℕ) (x : Record) → Answers target mode l (read x) → Relates l x × Readable target mode x
accepted_related target mode l x a = promises.accepted_related target mode l x a

pub related_accepted : (target : Target) (mode : Mode) (l : List ℕ) (x : Record) → Relates l x → Readable target mode x → Answers target mode l (read x)
related_accepted target mode l x q h = promises.related_accepted target mode l x q h

-- (and no line with the shape has a line feed)
pub no_line_feed : (l : List ℕ) (t : LineTree) → Shaped l t → Listed line_feed l → ⊥
no_line_feed l t s e = shapes.no_line_feed l t s e

-- No line is related to two records,
pub one_record : (l : List ℕ) (x y : Record) → Relates l x → Relates l y → x ≡ y
one_record l x y a b = reader.one_record l x y a b

-- every legal record has a line,
pub has_line : (x : Record) → Legal x → (l : List ℕ) × Relates l x
has_line x h = promises.has_line x h

-- two accepted lines have equal records exactly when their standard lines are equal.
pub equal_standard_lines : (target other : Target) (mode way : Mode) (l k : List ℕ) (x y : Record) → Answers target mode l (read x) → Answers other way k (read y) → standard x ≡ standard y → x ≡ y
equal_standard_lines target other mode way l k x y a b e = promises.same_line target other mode way l k x y a b e

pub equal_records : (x y : Record) → x ≡ y → standard x ≡ standard y
equal_records x y e = ap standard e

-- A line that is not accepted gets the first refusal, in document 01's order, that applies to it.

-- n applies, and none before it in the order does. T-05: demand 3 covers the place too
pub refused_first : (target : Target) (mode : Mode) (l : List ℕ) (n : ℕ) → Answers target mode l (refused n) → FirstOf target mode l n reading_order × Listed n placeless
refused_first target mode l n a = promises.refused_first target mode l n a

pub refused_at_first : (target : Target) (mode : Mode) (l : List ℕ) (n q : ℕ) → Answers target mode l (refused_at n q) → FirstOf target mode l n reading_order × Placed l n q
refused_at_first target mode l n q a = promises.refused_at_first target mode l n q a

pub first_refused : (target : Target) (mode : Mode) (l : List ℕ) (n : ℕ) → FirstOf target mode l n reading_order → Listed n placeless → Answers target mode l (refused n)
first_refused target mode l n f i = promises.first_refused target mode l n f i

pub first_refused_at : (target : Target) (mode : Mode) (l : List ℕ) (n q : ℕ) → FirstOf target mode l n reading_order → Placed l n q → Answers target mode l (refused_at n q)
first_refused_at target mode l n q f i = promises.first_refused_at target mode l n q f i

-- each refusal but 1, 12 and 15 has a place, and one; these have none
pub some_place : (target : Target) (mode : Mode) (l : List ℕ) (n : ℕ) → FirstOf target mode l n reading_order → (Listed n placeless → ⊥) → (q : ℕ) × Placed l n q
some_place target mode l n f k = answering.placed_some target mode l n f k

pub one_place : (l : List ℕ) → length l ≤ line_limit → (n q k : ℕ) → Placed l n q → Placed l n k → q ≡ k
one_place l h n q k x y = answering.placed_one l h n q k x y

pub no_place_lem : (l : List ℕ) (n q : ℕ) → Listed n placeless → Placed l n q → ⊥
no_place_lem l n q i x = answering.placeless_unplaced l n q i x

-- an accepted line has no refusal that applies, and a line with none that applies is accepted
pub accepted_none_applies : (target : Target) (mode : Mode) (l : List ℕ) (x : Record) → Answers target mode l (read x) → (n : ℕ) → Applies target mode l n → ⊥
accepted_none_applies target mode l x a n e = promises.accepted_none_applies target mode l x a n e

pub none_applies_accepted : (target : Target) (mode : Mode) (l : List ℕ) → ((n : ℕ) → Applies target mode l n → ⊥) → (x : Record) × Answers target mode l (read x)
none_applies_accepted target mode l h = answering.none_accepted target mode l h

pub not_accepted_refused : (target : Target) (mode : Mode) (l : List ℕ) → ((x : Record) → Relates l x → Readable target mode x → ⊥) → (a : Answer) × Answers target mode l a × (n : ℕ) × Refusal a n
not_accepted_refused target mode l h = promises.unrelated_refused target mode l h

pub refused_not_accepted : (target : Target) (mode : Mode) (l : List ℕ) (a : Answer) (n : ℕ) (x : Record) → Answers target mode l a → Refusal a n → Relates l x → Readable target mode x → ⊥
refused_not_accepted target mode l a n x h i q k = promises.refused_unrelated target mode l a n x h i q k

-- ==== the demands of one call: what is asked for, the answer a, and what the lent memory holds at exit

-- a line is read
pub record ReadAsDemanded (target : Target) (mode : Mode) (l : List ℕ) (a : Answer) : Type 0 where
  pub accepted : (x : Record) → a ≡ read x → Relates l x × Readable target mode x
  pub related : (x : Record) → Relates l x → Readable target mode x → a ≡ read x
  pub refused_first : (n : ℕ) → a ≡ refused n → FirstOf target mode l n reading_order × Listed n placeless
  pub first_refused : (n : ℕ) → FirstOf target mode l n reading_order → Listed n placeless → a ≡ refused n
  pub refused_at_first : (n q : ℕ) → a ≡ refused_at n q → FirstOf target mode l n reading_order × Placed l n q
  pub first_refused_at : (n q : ℕ) → FirstOf target mode l n reading_order → Placed l n q → a ≡ refused_at n q

-- a record is written into a buffer b, which holds c at exit
pub record WrittenAsDemanded (x : Record) (b : List ℕ) (a : paper.Answer) (c : List ℕ) : Type 0 where
  pub refused_as_lent : (n : ℕ) → a ≡ paper.refused n → Listed n (8 ∷ 9 ∷ []) × (c ≡ b)
  pub not_legal : is_legal x ≡ false → a ≡ paper.refused 8
  pub no_room : Legal x → length b < length (standard x) → a ≡ paper.refused 9
  pub standard_line : Legal x → length (standard x) ≤ length b → (a ≡ written (length (standard x))) × (c ≡ standard x ++ drop (length (standard x)) b)

-- a record is executed on files f, which are g at exit
pub record ExecutedAsDemanded (target : Target) (x : Record) (f : Files) (a : executing.Answer) (g : Files) : Type 0 where
  pub refused_as_lent : (n : ℕ) → a ≡ executing.refused n → Listed n (8 ∷ 12 ∷ 10 ∷ 11 ∷ []) × (g ≡ f)
  pub not_legal : is_legal x ≡ false → a ≡ executing.refused 8
  pub too_old : Legal x → allows target x ≡ false → a ≡ executing.refused 12
  pub wrong_sizes : Allowed target x → sizes_fit f ≡ false → a ≡ executing.refused 10
  pub wrong_preds : Allowed target x → sizes_fit f ≡ true → preds_fit f.preds ≡ false → a ≡ executing.refused 11
  pub done_where_allowed : Allowed target x → Admitted f → guard_holds f.preds x.guard ≡ true → a ≡ done
  pub destinations_hold : Allowed target x → Admitted f → guard_holds f.preds x.guard ≡ true → (w : Write) → Listed w (writes target x.instruction f) → at g w.place ≡ w.value
  pub skipped_where_false : Allowed target x → Admitted f → guard_holds f.preds x.guard ≡ false → (a ≡ skipped) × (g ≡ f)
  pub others_stay : (q : Place) → (Listed q (destinations x.instruction) → ⊥) → at g q ≡ at f q
  pub lengths_stay : SameLengths f g

-- the equations that the contracts promise give them
pub read_as_demanded : (target : Target) (mode : Mode) (l : List ℕ) (a : Answer) → Answers target mode l a → ReadAsDemanded target mode l a
read_as_demanded target mode l a h =
    record {
      accepted = λ x e. promises.accepted_related target mode l x (rw (← e) h);
      related = λ x r e. answering.answers_unique target mode l a (read x) h (promises.related_accepted target mode l x r e);
      refused_first = λ n e. promises.refused_first target mode l n (rw (← e) h);
      first_refused = λ n f i. answering.answers_unique target mode l a (refused n) h (promises.first_refused target mode l n f i);
      refused_at_first = λ n q e. promises.refused_at_first target mode l n q (rw (← e) h);
      first_refused_at = λ n q f i. answering.answers_unique target mode l a (refused_at n q) h (promises.first_refused_at target mode l n q f i);
    }

pub written_as_demanded : (x : Record) (b : List ℕ) (a : paper.Answer) (c : List ℕ) → paper.outcome a c ≡ writing x b → WrittenAsDemanded x b a c
written_as_demanded x b a c h =
    let said : a ≡ (writing x b).answer = ap (λ (o : paper.Outcome). o.answer) h in
    let left : c ≡ (writing x b).buffer = ap (λ (o : paper.Outcome). o.buffer) h in
    record {
      refused_as_lent = λ n e. let k = outcomes.write_refused x b n (sym said ∙ e) in (k.0, left ∙ k.1);
      not_legal = λ e. said ∙ ap (λ (o : paper.Outcome). o.answer) (outcomes.write_8 x b e);
      no_room = λ e short. said ∙ ap (λ (o : paper.Outcome). o.answer) (outcomes.write_9 x b e short);
      standard_line = λ e room. let k = outcomes.writes_standard x b e room in (said ∙ ap (λ (o : paper.Outcome). o.answer) k, left ∙ ap (λ (o : paper.Outcome). o.buffer) k);
    }

pub executed_as_demanded : (target : Target) (x : Record) (f : Files) (a : executing.Answer) (g : Files) → executing.outcome a g ≡ run target x f → ExecutedAsDemanded target x f a g
executed_as_demanded target x f a g h =
    let said : a ≡ (run target x f).answer = ap (λ (o : executing.Outcome). o.answer) h in
    let left : g ≡ (run target x f).files = ap (λ (o : executing.Outcome). o.files) h in
    record {
      refused_as_lent = λ n e. let k = outcomes.execute_refused target x f n (sym said ∙ e) in (k.0, left ∙ k.1);
      not_legal = λ e. said ∙ ap (λ (o : executing.Outcome). o.answer) (outcomes.execute_8 target x f e);
      too_old = λ e o. said ∙ ap (λ (o : executing.Outcome). o.answer) (outcomes.execute_12 target x f e o);
      wrong_sizes = λ e s. said ∙ ap (λ (o : executing.Outcome). o.answer) (outcomes.execute_10 target x f e s);
      wrong_preds = λ e s b. said ∙ ap (λ (o : executing.Outcome). o.answer) (outcomes.execute_11 target x f e s b);
      done_where_allowed = λ e i t. said ∙ ap (λ (o : executing.Outcome). o.answer) (outcomes.executes target x f e i t);
      destinations_hold = λ e i t w k. ap (λ (u : Files). at u w.place) left ∙ runs.holds_written target x f e i t w k;
      skipped_where_false = λ e i t. let k = outcomes.skips target x f e i t in (said ∙ ap (λ (o : executing.Outcome). o.answer) k, left ∙ ap (λ (o : executing.Outcome). o.files) k);
      others_stay = λ q k. ap (λ (u : Files). at u q) left ∙ runs.others_stay target x f q k;
      lengths_stay = rw left (runs.lengths_stay target x f);
    }

-- reading that line gives the record again, at a target that allows it and in a mode that passes it: the first n bytes, where the writer answered n
pub written_then_read : (target : Target) (mode : Mode) (x : Record) (b c : List ℕ) (a : paper.Answer) (n : ℕ) (y : Answer) → WrittenAsDemanded x b a c → a ≡ written n → allows target x ≡ true
    → passes mode x ≡ true → ReadAsDemanded target mode (take n c) y → y ≡ read x
written_then_read target mode x b c a n y w h allowed passed r = go (is_legal x) refl (ltb (length b) (length (standard x))) refl
  where
    other : (k : ℕ) → a ≡ paper.refused k → y ≡ read x
    other k e =
        let z : written n ≡ paper.refused k = sym h ∙ e in
        let u : ◌≡◌ {A = ℕ} 0 1 = cc in
        absurd (omega arith)

    go : (t : Bool) → is_legal x ≡ t → (u : Bool) → ltb (length b) (length (standard x)) ≡ u → y ≡ read x
    go false e u f = other 8 (w.not_legal e)
    go true e true f = other 9 (w.no_room e (ltb-true (length b) (length (standard x)) f))
    go true e false f =
        let k = w.standard_line e (ltb-false (length b) (length (standard x)) f) in
        let z : written n ≡ written (length (standard x)) = sym h ∙ k.0 in
        let m : n ≡ length (standard x) = cc in
        let line : take n c ≡ standard x = rw (m, k.1) (take_at (standard x) _ _ refl) in
        let there : Readable target mode x = record { allowed = record { legal = e; allowed = allowed }; passed = passed } in
        r.related x (subst (λ (l : List ℕ). Relates l x) (sym line) (promises.accepted_related target mode (standard x) x (promises.standard_reads target mode x there)).0) there
