-- The two accumulations count the eight bytes, and are the bench's own line. Assumes nothing.
use Rattle.std.specs.Prelude.{ℕ, zero, suc, ◌+◌, ◌<◌, ◌≤◌, ◌≡◌, Bool, true, false}
use Rattle.std.proofs.Common.{mod-eq_of_lt, arith, ◌∙◌, le-leb}
use Rattle.std.proofs.Math.Path.{refl}
use Rattle.std.proofs.Math.Dec.{leb}
use Rattle.signs.specs.Text.{bytes}
use Rattle.record.specs.declared.LaneWidth.TheVariants.{Byte}
use Rattle.record.specs.declared.Cmp6.TheVariants.{Ge}
use Rattle.record.specs.declared.Guard.TheVariants.{Always}
use Rattle.record.specs.declared.Instruction.TheVariants.{VsetLanes}
use Rattle.record.specs.declared.Record.{Record}
use Rattle.record.specs.declared.Target.TheVariants.{Sm30}
use Rattle.record.specs.Registers.{Files, r, at}
use Rattle.record.specs.Refusals.{is_legal, Legal}
use Rattle.rules.specs.Numbers.{lane_size, lanes, part_at, exact_of, bit, holds_z}
use Rattle.rules.specs.Execution.{count, lane_holds, lanes_of}
use Rattle.rules.specs.Executing.{Admitted, guard_holds, run}
use Rattle.rules.specs.StandardLine.{standard}
use Rattle.laws.specs.ExecutionLaws.{part_joined, size_pos, add_counts}
use Rattle.laws.specs.RunLaws.{vset_lanes_hold}
use Rattle.laws.specs.TargetLaws.{newest_allows}
use Rattle.tally.specs.declared.Read.{Read}
use Rattle.tally.specs.Votes.{antennas, antenna, vote_of, gate, floor_word, accumulated}

-- ==== as many as hold

count_le : (k : ℕ) (f : ℕ → Bool) → count k f ≤ k
count_le zero f = omega arith
count_le (suc k) f = go (f 0) (count_le k (λ i. f (suc i)))
  where
    go : (t : Bool) → count k (λ i. f (suc i)) ≤ k → bit t + count k (λ i. f (suc i)) ≤ suc k
    go true h = omega arith
    go false h = omega arith

count_all : (k : ℕ) (f : ℕ → Bool) → ((i : ℕ) → f i ≡ true) → count k f ≡ k
count_all zero f h = refl
count_all (suc k) f h = rw (h 0, count_all k (λ i. f (suc i)) (λ i. h (suc i))) (omega arith)

-- a vote is at most eight
pub vote_le : (floor : ℕ) (r : Read) → vote_of floor r ≤ antennas
unfolding vote_of
vote_le floor r = count_le antennas (λ i. leb floor (antenna r i))

-- floor 0 gives 8, whatever the antennas say
pub floor_zero : (r : Read) → vote_of 0 r ≡ 8
unfolding vote_of
floor_zero r = count_all antennas (λ i. leb 0 (antenna r i)) (λ i. le-leb 0 (antenna r i) (omega arith))

-- ==== the two accumulations

module _ (floor : ℕ) (byte : floor < lane_size Byte) where
  part_floor : (i : ℕ) → i < lanes Byte → part_at (lane_size Byte) (floor_word floor) i ≡ floor
  part_floor i h = part_joined (lane_size Byte) (lanes Byte) (λ _. floor) i (size_pos Byte) (λ _. byte) h

  -- one accumulation adds the number of the word's bytes at or above the floor
  one_word : (x c : ℕ) → c < antennas → lanes_of Ge gate x (floor_word floor) c ≡ c + count (lanes Byte) (λ i. leb floor (part_at (lane_size Byte) x i))
  unfolding lane_holds holds_z exact_of
  one_word x c h =
      add_counts Ge gate x (floor_word floor) c refl
      ∙ rw (part_floor 0 (omega arith), part_floor 1 (omega arith), part_floor 2 (omega arith), part_floor 3 (omega arith))
      (mod-eq_of_lt (omega (arith, count_le (lanes Byte) (λ i. leb floor (part_at (lane_size Byte) x i)))))

  -- its vote is the number of the eight bytes at or above a floor byte, by two vset4 accumulations
  pub votes_accumulated : (r : Read) → accumulated floor r ≡ vote_of floor r
  unfolding accumulated vote_of
  votes_accumulated r =
      let k : 0 + count (lanes Byte) (λ i. leb floor (part_at (lane_size Byte) r.first i)) < antennas = omega (arith, count_le (lanes Byte) (λ i. leb floor (part_at (lane_size Byte) r.first i))) in
      rw (one_word r.first 0 (omega arith), one_word r.second (0 + count (lanes Byte) (λ i. leb floor (part_at (lane_size Byte) r.first i))) k) (omega arith)

-- ==== an accumulation is a line of the bench

abbrev pub gate_record : Record
gate_record = record { guard = Always; instruction = VsetLanes Ge gate }

pub gate_line : standard gate_record ≡ bytes "vset4.u32.u32.ge.add %r3, %r1, %r2, %r3;"
unfolding standard
gate_line = refl

gate_legal : Legal gate_record
unfolding is_legal
gate_legal = refl

-- on any files that executing admits it leaves in %r3 what an accumulation gives
pub gate_runs : (f : Files) → Admitted f
    → at (run Sm30 gate_record f).files (r gate.d) ≡ lanes_of Ge gate (at f (r gate.a)) (at f (r gate.b)) (at f (r gate.c))
unfolding guard_holds
gate_runs f admitted = vset_lanes_hold Sm30 gate_record f (record { legal = gate_legal; allowed = newest_allows gate_record }) admitted refl Ge gate refl
