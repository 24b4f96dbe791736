-- Document 02, T-13: A read is a tag, a pass number and two words of antenna bytes; its vote is the number of the eight bytes at or above a floor
-- byte, by two vset4 accumulations.
use Rattle.std.specs.Prelude.{ℕ, ◌-◌, true, cond, ltb, leb}
use Rattle.record.specs.declared.Lanes.{Lanes}
use Rattle.record.specs.declared.LaneWidth.TheVariants.{Byte}
use Rattle.record.specs.declared.VideoType.TheVariants.{U32}
use Rattle.record.specs.declared.Cmp6.TheVariants.{Ge}
use Rattle.record.specs.Operands.{full_mask, default_a, default_b}
use Rattle.rules.specs.Numbers.{lane_size, lanes, part_at, joined}
use Rattle.rules.specs.Execution.{count, lanes_of}
use Rattle.tally.specs.declared.Read.{Read}

-- the eight bytes
abbrev pub antennas : ℕ
antennas = 8

-- byte i of the eight: those of the first word, low byte first, then those of the second
abbrev pub antenna : Read → ℕ → ℕ
antenna r i = cond (ltb i (lanes Byte)) (part_at (lane_size Byte) r.first i) (part_at (lane_size Byte) r.second (i - lanes Byte))

-- its vote is the number of the eight bytes at or above a floor byte
unfoldable pub vote_of : ℕ → Read → ℕ
vote_of floor r = count antennas (λ i. leb floor (antenna r i))

-- by two vset4 accumulations: `vset4.u32.u32.ge.add %r3, %r1, %r2, %r3;`, a word of antenna bytes in %r1, the floor in all four bytes of %r2. Which
-- registers it names does not matter
abbrev pub gate : Lanes
gate = record {
  width = Byte;
  atype = U32;
  btype = U32;
  add = true;
  d = record { 0 = 3 };
  mask = full_mask Byte;
  a = record { 0 = 1 };
  asel = default_a Byte;
  b = record { 0 = 2 };
  bsel = default_b Byte;
  c = record { 0 = 3 };
}

abbrev pub floor_word : ℕ → ℕ
floor_word floor = joined (lane_size Byte) (lanes Byte) (λ _. floor)

-- the first on top of 0, the second on top of the first one's result
unfoldable pub accumulated : ℕ → Read → ℕ
accumulated floor r = lanes_of Ge gate r.second (floor_word floor) (lanes_of Ge gate r.first (floor_word floor) 0)
