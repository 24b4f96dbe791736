-- Lines and the answers that document 01, T-05, T-06, T-07 and T-09 give them: lines that are read, each refusal 1 to 7, from 2 on with its place, 12, 15, and lines to which more
-- than one applies. One list with one claim. Then whole listings, document 01's own, one at each target and one in each mode, with what is printed of them, and their claim;
-- and questions who wrote a register last (T-11).
use Rattle.std.specs.Prelude.{ℕ, ◌≡◌, refl, true, List, [], ◌∷◌, ◌++◌, map, length, replicate, leb}
use Prim.Native.String.{String}
use Rattle.std.specs.Float.Ieee.{lt, eq, is_nan, of_bits, of_fields, odd}
use Rattle.signs.specs.Bytes.{line_feed}
use Rattle.signs.specs.Digits.{decimal, decimal_in, hex}
use Rattle.signs.specs.Text.{bytes}
use Rattle.base.specs.Pack.{code_of}
use Rattle.record.specs.Refusals.{is_legal}
use Rattle.record.specs.declared.Mode.{Mode}
use Rattle.record.specs.declared.Mode.TheVariants.{Ordinary, Strict}
use Rattle.record.specs.declared.Target.{Target}
use Rattle.record.specs.declared.Target.TheVariants.{Sm10, Sm13, Sm20, Sm30}
use Rattle.rules.specs.Targets.{allows}
use Rattle.rules.specs.Strict.{lanes_against_itself, passes}
use Rattle.rules.specs.Numbers.{exact_of, holds_z}
use Rattle.rules.specs.Execution.{selected_of, form_of, arithmetic_of, lanes_of, lane_holds, value_of, comparison_of}
use Rattle.rules.specs.Executing.{combined_of, test_of, writes, after, sizes_fit, preds_fit, guard_holds, run}
use Rattle.rules.specs.StandardLine.{standard}
use Rattle.changes.specs.Changes.{start_files, change_text, changes_text, registers_text}
use Rattle.lines.specs.Lines.{lines_with, listing_limit}
use Rattle.report.specs.Listing.{printed_line, Output}
use Rattle.report.specs.OutputLaws.{turns_text, turns_files, computed}
use Rattle.rules.specs.Reading.{Answer, read, refused, refused_at, Answers}
use Rattle.scan.specs.Runs.{capped_sum}
use Rattle.scan.specs.Numbers.{number_found, number_by}
use Rattle.scan.specs.Registers.{register_of, register_by, prefix_by, register_from}
use Rattle.shape.specs.Turns.{turns}
use Rattle.shape.specs.Guard.{guard_of, guard_by}
use Rattle.shape.specs.Head.{head_of, name_turn, name_by, pushed_name}
use Rattle.shape.specs.Operand.{operand_scanned, inverted_by, first_of, after_by, part_of, second_of, second_by}
use Rattle.shape.specs.Operands.{operands_scanned, operand_turn, operand_by, divided_by, divider_of, divider_by, pushed_tree}
use Rattle.shape.specs.Line.{shape_of, from_head, from_gap, from_operands, from_end}
use Rattle.names.specs.Back.{opcode_of, video_of, set_type_of, type_of, six_of, cmp_of, bool_op_of, op2_of, selector_of}
use Rattle.heads.specs.Rows.{row_of, row_by, found_of, read_of as read_head, name_at, whole_of, sides_at, sides_by, head_compared, compared_by, typed_of, typed_by, ending_at, ending_by, arithmetic_row, arithmetic_typed, arithmetic_by, vset_row, vset_by, vset_lanes_row, vset_lanes_by, lane_arithmetic_row, lane_arithmetic_typed, lane_arithmetic_by, tested_of, tested_by, test_at, set_row, set_tested, set_at, set_by, setp_row, setp_tested, setp_at, setp_by, selp_row, selp_by, slct_row, slct_at, slct_by}
use Rattle.heads.specs.Tables.{slct_type_of}
use Rattle.masks.specs.Masks.{mask_of, falling, digits_named, digits_in}
use Rattle.fills.specs.Fills.{filled_of, tree_at, scalar_from, lanes_from, comparison_from, choice_from}
use Rattle.begins.specs.Machines.{wrong_from}
use Rattle.begins.specs.Searches.{turns_at, searched}
use Rattle.viable.specs.States.{named, ends, follow, digits, register, step, shape_place_of}
use Rattle.starts.specs.Starts.{guard_end, head_at, name_from, operands_at, next_by, next_of, next_at, operand_from, bar_at}
use Rattle.starts.specs.Over.{over_at}
use Rattle.rowplace.specs.Tries as row
use Rattle.rowplace.specs.Tries.{is_row, begins_row, row_place_of}
use Rattle.fillplace.specs.Tries as fill
use Rattle.fillplace.specs.Tries.{is_filled, begins_filled, operand_place_of}
use Rattle.places.specs.Mirror.{modifier_place_of, operand_index_of, legal_place_of, guard_place_of, parts_place_of, place_of}
use Rattle.read.specs.Mirror.{candidate_of, verdict_of, refused_by, read_of}
use Rattle.last.specs.Last.{last_in, last_of, ByFullReading}
use Rattle.last.specs.Last as last
use Rattle.last.specs.Back.{own_answer}
use Rattle.lastline.specs.LastText.{Printed}
use Rattle.lastline.specs.Steps.{feeds_in}
use Rattle.lastline.specs.TextLaws as lasttext
use Rattle.lines.specs.Until.{length_to}
use Rattle.figures.specs.Lines.{example_vset4, example_setp, example_selp, highest_word, half_selp, half_set, double_set, bits_selp, flushed_slct, same_vset4, apart_vset4, apart_vset2, same_vadd4, same_vset}

pub record Answered : Type 0 where
  pub target : Target
  pub mode : Mode
  pub line : List ℕ
  pub answer : Answer

-- T-07: at a target, in ordinary reading; most at sm_30
abbrev at : Target → List ℕ → Answer → Answered
at t l a = record { target = t; mode = Ordinary; line = l; answer = a }

abbrev gets : List ℕ → Answer → Answered
gets l a = at Sm30 l a

-- T-09: at a target, in strict reading
abbrev strictly_at : Target → List ℕ → Answer → Answered
strictly_at t l a = record { target = t; mode = Strict; line = l; answer = a }

abbrev strictly : List ℕ → Answer → Answered
strictly l a = strictly_at Sm30 l a

-- 37 bytes and n blanks
abbrev padded : ℕ → List ℕ
padded n = bytes "vset4.u32.u32.lt %r10, %r1, %r2, %r0;" ++ replicate n 32

unfoldable pub answered : List Answered
answered =
    -- document 01's example: Lines.antt has the standard line of each record
    gets (bytes "vset4.u32.u32.lt %r10, %r1, %r2, %r0;") (read example_vset4)
    ∷ gets (bytes "vset4.u32.u32.ne.max %r1, %r2, %r3, %r0;") (refused_at 4 17)
    ∷ gets (bytes "setp.lt.u32 %p1|_, %r1, %r2;") (read example_setp)
    ∷ gets (bytes "@!%p1  selp.u32 %r11, %r1,%r2, %p1;") (read example_selp)
    -- a bare operand and its written default are one record
    ∷ gets (bytes "vset4.u32.u32.lt %r10.b3210, %r1.b3210, %r2.b7654, %r0;") (read example_vset4)
    -- `%r63` is read, `%r64` gives 6, `%r063` gives 2
    ∷ gets (bytes "vadd.u32.u32.u32 %r63, %r1, %r2;") (read highest_word)
    ∷ gets (bytes "vadd.u32.u32.u32 %r64, %r1, %r2;") (refused_at 6 17)
    ∷ gets (bytes "vadd.u32.u32.u32 %r063, %r1, %r2;") (refused_at 2 20)
    -- 160 bytes are read, 161 give 1. The empty line gives 2
    ∷ gets (padded 123) (read example_vset4)
    ∷ gets (padded 124) (refused 1)
    ∷ gets [] (refused_at 2 0)
    -- no opcode here. `_|_` gives 5. Both places of a pair are the same predicate
    ∷ gets (bytes "vmad.u32.u32.u32 %r1, %r2, %r3, %r4;") (refused_at 3 0)
    ∷ gets (bytes "setp.lt.u32 _|_, %r1, %r2;") (refused_at 5 12)
    ∷ gets (bytes "setp.lt.u32 %p1|%p1, %r1, %r2;") (refused_at 7 16)
    -- each looked at only when the earlier ones don't apply: 1 and 2; 3, 4 and 6; 4 alone, though an operand is missing; 5 and 6; 6 and 7
    ∷ gets (replicate 161 32) (refused 1)
    ∷ gets (bytes "vmad.u32.u32.u32 %r64, %r2, %r3, %r4;") (refused_at 3 0)
    ∷ gets (bytes "vset4.u32.u32.ne.max %r1, %r2, %r3;") (refused_at 4 17)
    ∷ gets (bytes "setp.lt.u32 _|_, %r64, %r2;") (refused_at 5 12)
    ∷ gets (bytes "setp.lt.u32 %p16|%p16, %r1, %r2;") (refused_at 6 12)
    -- T-05, worked by hand. For 2: the fourth digit; the comma behind a lone `_`; the number, which no operand begins with; only unfinished
    ∷ gets (bytes "selp.u32 %r1000, %r1, %r2, %p1;") (refused_at 2 14)
    ∷ gets (bytes "setp.lt.u32 _, %r1, %r2;") (refused_at 2 13)
    ∷ gets (bytes "selp.u32 %r1, 7, %r2, %p1;") (refused_at 2 14)
    ∷ gets (bytes "   ") (refused_at 2 3)
    ∷ gets (bytes "@%p1") (refused_at 2 4)
    ∷ gets (bytes "selp.u32 %r40, %r1, %r2, %p1") (refused_at 2 28)
    -- however long: 36 bytes and 124 blanks, and the semicolon would be the 161st
    ∷ gets (bytes "vset4.u32.u32.lt %r10, %r1, %r2, %r0" ++ replicate 124 32) (refused_at 2 160)
    -- for 3 the opcode, behind blanks and a guard
    ∷ gets (bytes " @!%p1 mov.u32 %r1, %r2;") (refused_at 3 7)
    -- for 4 the first modifier that no legal list has after the ones before it, or the end of the list if it is only too short
    ∷ gets (bytes "setp.lo.ftz.u32 %p1, %r1, %r2;") (refused_at 4 8)
    ∷ gets (bytes "set.num.u32.u32 %r1, %r2, %r3;") (refused_at 4 12)
    ∷ gets (bytes "setp.lt.b32 %p1, %r1, %r2;") (refused_at 4 8)
    ∷ gets (bytes "setp.eq.ftz.s32 %p1, %r1, %r2;") (refused_at 4 12)
    ∷ gets (bytes "vadd.u32.u32 %r1, %r2, %r3;") (refused_at 4 12)
    ∷ gets (bytes "slct.b32.ftz.f32 %r1, %r2, %r3, %r4;") (refused_at 4 9)
    -- for 5 the guard; the first operand that no legal list has after the ones before it; the end of the list
    ∷ gets (bytes "@%r1 selp.u32 %r1, %r2, %r3, %p1;") (refused_at 5 0)
    ∷ gets (bytes "@%r1 selp.u32 %p1, %r2, %r3, %p1;") (refused_at 5 0)
    ∷ gets (bytes "vadd.u32.u32.u32 %r1, %r1, %r1, %r1;") (refused_at 5 32)
    ∷ gets (bytes "selp.u32 %rd1, %r2, %r3, %p1;") (refused_at 5 9)
    ∷ gets (bytes "vset4.u32.u32.lt %r1.b01, %r2, %r3, %r4;") (refused_at 5 17)
    ∷ gets (bytes "vset4.u32.u32.lt %r1.b3210, %p2, %r3, %r4;") (refused_at 5 28)
    ∷ gets (bytes "vadd.u32.u32.u32.add %r1.b0, %r2, %r3, %r4;") (refused_at 5 21)
    -- register numbers and equal pairs aside
    ∷ gets (bytes "setp.lt.and.u32 %p1, %r1, %r64, !%r1;") (refused_at 5 32)
    ∷ gets (bytes "setp.lt.u32 %p1|%p1, %r1, %rd2;") (refused_at 5 26)
    ∷ gets (bytes "vadd.u32.u32.u32 %r1.b0, %r2, %r3 ;") (refused_at 5 33)
    -- for 6 the first such register, guard first, for 7 the second place
    ∷ gets (bytes "@%p16 selp.u32 %r64, %r2, %r3, %p1;") (refused_at 6 1)
    ∷ gets (bytes "selp.u32 %r64, %r65, %r3, %p1;") (refused_at 6 9)
    ∷ gets (bytes "selp.u32 %r1, %r64, %r65, %p16;") (refused_at 6 14)
    ∷ gets (bytes "selp.u32 %r1, %r2, %r3, %p16;") (refused_at 6 24)
    ∷ gets (bytes "@%p1 setp.lt.u32 %p1|%p1, %r1, %r2;") (refused_at 7 21)
    -- T-06. `%rs` and a number is a register everywhere; `%rs32` is 6, `%rs032` and `%rs1000` are 2
    ∷ gets (bytes "@%p1 selp.b16 %rs5, %rs31, %rs2, %p1;") (read half_selp)
    ∷ gets (bytes " set.gt.u32.s16  %r1,%rs5 ,%rs0 ; ") (read half_set)
    ∷ gets (bytes "selp.b16 %rs32, %rs1, %rs2, %p1;") (refused_at 6 9)
    ∷ gets (bytes "selp.b16 %rs1, %rs31, %rs999, %p1;") (refused_at 6 22)
    ∷ gets (bytes "selp.b16 %rs032, %rs1, %rs2, %p1;") (refused_at 2 13)
    ∷ gets (bytes "selp.b16 %rs1000, %rs1, %rs2, %p1;") (refused_at 2 15)
    ∷ gets (bytes "selp.b16 %rs") (refused_at 2 12)
    ∷ gets (bytes "selp.b16 %rsd1, %rs1, %rs2, %p1;") (refused_at 2 12)
    ∷ gets (bytes "selp.b16 %s1, %rs1, %rs2, %p1;") (refused_at 2 10)
    -- b16 u16 s16 for stype, selp's type, slct's dtype; not set's dtype, not slct's second type, no f16; comparisons and `ftz` as for the wider ones
    ∷ gets (bytes "set.lo.s32.s16 %r1, %rs1, %rs2;") (refused_at 4 11)
    ∷ gets (bytes "set.lt.u16.u32 %r1, %r2, %r3;") (refused_at 4 7)
    ∷ gets (bytes "setp.lt.b16 %p1, %rs1, %rs2;") (refused_at 4 8)
    ∷ gets (bytes "setp.eq.ftz.u16 %p1, %rs1, %rs2;") (refused_at 4 12)
    ∷ gets (bytes "set.eq.ftz.u32.b16 %r1, %rs1, %rs2;") (refused_at 4 15)
    ∷ gets (bytes "setp.lt.ftz.s16 %p1, %rs1, %rs2;") (refused_at 4 12)
    ∷ gets (bytes "set.num.u32.s16 %r1, %rs1, %rs2;") (refused_at 4 12)
    ∷ gets (bytes "selp.f16 %rs1, %rs2, %rs3, %p1;") (refused_at 4 5)
    ∷ gets (bytes "slct.s32.s16 %r1, %r2, %r3, %rs4;") (refused_at 4 9)
    ∷ gets (bytes "vadd.u16.u32.u32 %r1, %r2, %r3;") (refused_at 4 5)
    -- a 16-bit type takes `%rs`, no other does; a guard and video operands are 5
    ∷ gets (bytes "selp.u16 %r1, %rs2, %rs3, %p1;") (refused_at 5 9)
    ∷ gets (bytes "selp.u16 %rs1, %rs2, %rd3, %p1;") (refused_at 5 21)
    ∷ gets (bytes "set.eq.u32.u16 %rs1, %rs2, %rs3;") (refused_at 5 15)
    ∷ gets (bytes "set.eq.u32.u16 %r1, %r2, %r3;") (refused_at 5 20)
    ∷ gets (bytes "setp.lt.s32 %p1, %r1, %rs2;") (refused_at 5 22)
    ∷ gets (bytes "vadd.u32.u32.u32 %rs1, %r2, %r3;") (refused_at 5 17)
    ∷ gets (bytes "@%rs1 selp.u16 %rs1, %rs2, %rs3, %p1;") (refused_at 5 0)
    ∷ gets (bytes "slct.u16.s32 %rs1, %rs2, %rs3, %rs4;") (refused_at 5 31)
    ∷ gets (bytes "slct.u16.s32 %rs1, %rs2, %rs3;") (refused_at 5 29)
    ∷ gets (bytes "selp.u16 %rs1.h0, %rs2, %rs3, %p1;") (refused_at 5 9)
    -- T-07: scalar video needs sm_20, and 6 comes first
    ∷ at Sm13 (bytes "vadd.u32.u32.u32 %r63, %r1, %r2;") (refused 12)
    ∷ at Sm20 (bytes "vadd.u32.u32.u32 %r63, %r1, %r2;") (read highest_word)
    ∷ at Sm13 (bytes "vadd.u32.u32.u32 %r1, %r2, %r3;") (refused 12)
    ∷ at Sm13 (bytes "vadd.u32.u32.u32 %r64, %r2, %r3;") (refused_at 6 17)
    ∷ at Sm13 (bytes "vset.u32.u32.lt %r1, %r2, %r3;") (refused 12)
    ∷ at Sm10 (bytes "vmax.u32.u32.u32.sat.add %r1, %r2, %r3, %r4;") (refused 12)
    -- forms with 2 or 4 need sm_30
    ∷ at Sm20 (bytes "vset4.u32.u32.lt %r10, %r1, %r2, %r0;") (refused 12)
    ∷ at Sm20 (bytes "vset2.u32.u32.lt %r10, %r1, %r2, %r0;") (refused 12)
    ∷ at Sm20 (bytes "vavrg4.u32.u32.u32 %r10, %r1, %r2, %r0;") (refused 12)
    ∷ at Sm20 (bytes "vadd2.u32.u32.u32 %r10, %r1, %r2, %r0;") (refused 12)
    -- f64 types need sm_13
    ∷ at Sm10 (bytes "set.lt.u32.f64 %r1, %rd2, %rd3;") (refused 12)
    ∷ at Sm13 (bytes "set.lt.u32.f64 %r1, %rd2, %rd3;") (read double_set)
    ∷ at Sm10 (bytes "setp.lt.f64 %p1, %rd2, %rd3;") (refused 12)
    ∷ at Sm10 (bytes "selp.f64 %rd1, %rd2, %rd3, %p1;") (refused 12)
    ∷ at Sm10 (bytes "slct.f64.s32 %rd1, %rd2, %rd3, %r1;") (refused 12)
    ∷ at Sm10 (bytes "slct.ftz.f64.f32 %rd1, %rd2, %rd3, %r1;") (refused 12)
    ∷ at Sm10 (bytes "@%p1 selp.f64 %rd1, %rd2, %rd3, %p1;") (refused 12)
    -- b64 and all else need nothing, `ftz` among it
    ∷ at Sm10 (bytes "selp.b64 %rd1, %rd2, %rd3, %p1;") (read bits_selp)
    ∷ at Sm10 (bytes "set.gt.u32.s16 %r1, %rs5, %rs0;") (read half_set)
    ∷ at Sm10 (bytes "slct.ftz.f32.f32 %r1, %r2, %r3, %r4;") (read flushed_slct)
    ∷ at Sm10 (bytes "@!%p1  selp.u32 %r11, %r1,%r2, %p1;") (read example_selp)
    -- 1 to 7 come first, with the places that they have at each target
    ∷ at Sm10 (padded 124) (refused 1)
    ∷ at Sm10 (bytes "vset4.u32.u32.lt %r10, %r1, %r2, %r0") (refused_at 2 36)
    ∷ at Sm10 (bytes "vavrg.u32.u32.u32 %r1, %r2, %r3;") (refused_at 3 0)
    ∷ at Sm10 (bytes "selp.f64.u32 %rd1, %rd2, %rd3, %p1;") (refused_at 4 9)
    ∷ at Sm10 (bytes "set.eq.ftz.u32.f64 %r1, %rd2, %rd3;") (refused_at 4 15)
    ∷ at Sm10 (bytes "vset4.u32.u32.lt %r10.b01, %r1, %r2, %r0;") (refused_at 5 17)
    ∷ at Sm10 (bytes "selp.f64 %r1, %rd2, %rd3, %p1;") (refused_at 5 9)
    ∷ at Sm10 (bytes "setp.lt.f64 %p1|%p1, %rd32, %rd3;") (refused_at 6 21)
    ∷ at Sm10 (bytes "setp.lt.f64 %p1|%p1, %rd2, %rd3;") (refused_at 7 16)
    -- T-09: the same part of the same register, a and b being one register; ordinary reading reads it
    ∷ strictly (bytes "vset4.u32.u32.lt %r1, %r2, %r2, %r4;") (refused 15)
    ∷ gets (bytes "vset4.u32.u32.lt %r1, %r2, %r2, %r4;") (read same_vset4)
    -- a digit of b's selector picks from a: only in masked lanes. Types don't matter
    ∷ strictly (bytes "vset4.u32.s32.lt %r1.b0, %r2.b3210, %r3.b7650, %r4;") (refused 15)
    ∷ strictly (bytes "vset4.u32.s32.lt %r1.b10, %r2.b3210, %r3.b7650, %r4;") (refused 15)
    ∷ strictly (bytes "vset4.u32.s32.lt %r1.b32, %r2.b3210, %r3.b7650, %r4;") (read apart_vset4)
    -- with `add` too; one register under two names of parts, 1 and 3, and under the names of two parts, 1 and 2
    ∷ strictly (bytes "vset2.u32.u32.eq.add %r1.h1, %r2.h01, %r3.h02, %r4;") (refused 15)
    ∷ strictly (bytes "vset2.u32.u32.eq %r1.h0, %r2.h01, %r2.h03, %r4;") (refused 15)
    ∷ strictly (bytes "vset2.u32.u32.eq %r1.h0, %r2.h01, %r2.h02, %r4;") (read apart_vset2)
    -- each lane by itself: 1, 2 and, both selectors picking from b, 3 (0 is above); the same part of two registers is read
    ∷ strictly (bytes "vset4.u32.u32.eq %r1.b1, %r2, %r3.b7614, %r4;") (refused 15)
    ∷ strictly (bytes "vset4.u32.u32.eq %r1.b2, %r2, %r3.b7254, %r4;") (refused 15)
    ∷ strictly (bytes "vset4.u32.u32.ne %r1.b3, %r2.b4000, %r3.b4111, %r4;") (refused 15)
    ∷ strictly (bytes "vset4.u32.u32.lt %r10, %r1, %r2, %r0;") (read example_vset4)
    ∷ strictly (bytes "@!%p1 vset4.u32.u32.lt.add %r2, %r2.b3333, %r3.b3777, %r2;") (refused 15)
    -- T-01's arithmetic and scalar vset are not touched
    ∷ strictly (bytes "vadd4.u32.u32.u32 %r1, %r2, %r2, %r4;") (read same_vadd4)
    ∷ strictly (bytes "vset.u32.u32.lt %r1, %r2.b0, %r2.b0;") (read same_vset)
    -- 1, 2, 4, 5 and 6 come first, with the places that they have, and 12; no such line can have 3 or 7
    ∷ strictly (bytes "vset4.u32.u32.lt %r1, %r2, %r2, %r4;" ++ replicate 125 32) (refused 1)
    ∷ strictly (bytes "vset4.u32.u32.lt %r1, %r2, %r2, %r4") (refused_at 2 35)
    ∷ strictly (bytes "vset4.u32.u32.lt.max %r1, %r2, %r2, %r4;") (refused_at 4 17)
    ∷ strictly (bytes "vset4.u32.u32.lt %r1.b01, %r2, %r2, %r4;") (refused_at 5 17)
    ∷ strictly (bytes "vset4.u32.u32.lt %r1, %r2, %r2, %r64;") (refused_at 6 32)
    ∷ strictly (bytes "vset4.u32.u32.lt %r1, %r64, %r64, %r4;") (refused_at 6 22)
    ∷ strictly_at Sm20 (bytes "vset4.u32.u32.lt %r1, %r2, %r2, %r4;") (refused 12)
    ∷ []

-- ==== whole listings

pub record Listing : Type 0 where
  pub target : Target
  pub mode : Mode
  pub lines : List ℕ
  pub output : List ℕ

-- lines, each with its line feed
abbrev text : List String → List ℕ
text [] = []
text (l ∷ ls) = bytes l ++ (line_feed ∷ text ls)

-- T-07: what each target is too old for, and what it is not; 6 comes before 12 at the three that are too old for the second line
abbrev card_lines : List ℕ
card_lines =
    text
    ("vadd.u32.u32.u32 %r63, %r1, %r2;"
    ∷ "vset4.u32.u32.lt %r64, %r2, %r3, %r0;"
    ∷ "vset4.u32.u32.lt %r10, %r1, %r2, %r0;"
    ∷ "set.lt.u32.f64 %r1, %rd2, %rd3;"
    ∷ "selp.b64 %rd1, %rd2, %rd3, %p1;"
    ∷ [])

abbrev prints : Target → List ℕ → List String → Listing
prints t ls out = record { target = t; mode = Ordinary; lines = ls; output = text out }

-- T-09: an antenna compared with itself and counted as agreement, then two compared with each other
abbrev itself_lines : List ℕ
itself_lines = text ("vset4.u32.u32.eq.add %r10, %r1, %r1, %r0;" ∷ "vset4.u32.u32.eq.add %r11, %r1, %r2, %r0;" ∷ [])

abbrev prints_strictly : List ℕ → List String → Listing
prints_strictly ls out = record { target = Sm30; mode = Strict; lines = ls; output = text out }

unfoldable pub listings : List Listing
listings =
    -- document 01's, with the place that T-05 puts behind the number
    prints Sm30
    (text
    ("vset4.u32.u32.lt %r10, %r1, %r2, %r0;"
    ∷ "vset4.u32.u32.ne.max %r1, %r2, %r3, %r0;"
    ∷ "setp.lt.u32 %p1|_, %r1, %r2;"
    ∷ "@!%p1  selp.u32 %r11, %r1,%r2, %p1;"
    ∷ []))
    ("1 done vset4.u32.u32.lt %r10, %r1, %r2, %r0;"
    ∷ "2 refused 4 17"
    ∷ "3 done setp.lt.u32 %p1|_, %r1, %r2;"
    ∷ "4 skipped @!%p1 selp.u32 %r11, %r1, %r2, %p1;"
    ∷ "%r10 01010101"
    ∷ "%p1 1"
    ∷ [])
    ∷ prints Sm10 card_lines
    ("1 refused 12" ∷ "2 refused 6 17" ∷ "3 refused 12" ∷ "4 refused 12" ∷ "5 done selp.b64 %rd1, %rd2, %rd3, %p1;" ∷ "%rd1 0000000000000003" ∷ [])
    ∷ prints Sm13 card_lines
    ("1 refused 12"
    ∷ "2 refused 6 17"
    ∷ "3 refused 12"
    ∷ "4 done set.lt.u32.f64 %r1, %rd2, %rd3;"
    ∷ "5 done selp.b64 %rd1, %rd2, %rd3, %p1;"
    ∷ "%r1 FFFFFFFF"
    ∷ "%rd1 0000000000000003"
    ∷ [])
    ∷ prints Sm20 card_lines
    ("1 done vadd.u32.u32.u32 %r63, %r1, %r2;"
    ∷ "2 refused 6 17"
    ∷ "3 refused 12"
    ∷ "4 done set.lt.u32.f64 %r1, %rd2, %rd3;"
    ∷ "5 done selp.b64 %rd1, %rd2, %rd3, %p1;"
    ∷ "%r1 FFFFFFFF"
    ∷ "%r63 03030303"
    ∷ "%rd1 0000000000000003"
    ∷ [])
    ∷ prints Sm30 card_lines
    ("1 done vadd.u32.u32.u32 %r63, %r1, %r2;"
    ∷ "2 refused 6 17"
    ∷ "3 done vset4.u32.u32.lt %r10, %r1, %r2, %r0;"
    ∷ "4 done set.lt.u32.f64 %r1, %rd2, %rd3;"
    ∷ "5 done selp.b64 %rd1, %rd2, %rd3, %p1;"
    ∷ "%r1 FFFFFFFF"
    ∷ "%r10 01010101"
    ∷ "%r63 03030303"
    ∷ "%rd1 0000000000000003"
    ∷ [])
    ∷ prints Sm30 itself_lines
    ("1 done vset4.u32.u32.eq.add %r10, %r1, %r1, %r0;"
    ∷ "2 done vset4.u32.u32.eq.add %r11, %r1, %r2, %r0;"
    ∷ "%r10 00000004"
    ∷ "%r11 00000000"
    ∷ [])
    ∷ prints_strictly itself_lines ("1 refused 15" ∷ "2 done vset4.u32.u32.eq.add %r11, %r1, %r2, %r0;" ∷ "%r11 00000000" ∷ [])
    -- without a line nothing is printed; a line feed alone is an empty line; a last line without one counts
    ∷ prints Sm30 [] []
    ∷ prints Sm30 (line_feed ∷ []) ("1 refused 2 0" ∷ [])
    ∷ prints Sm10 (bytes "vavrg") ("1 refused 2 5" ∷ [])
    ∷ []

-- ==== T-11: who wrote it last

pub record Question : Type 0 where
  pub listing : List ℕ
  pub register : ℕ
  pub answer : last.Answer

abbrev asks : List ℕ → ℕ → last.Answer → Question
asks s n a = record { listing = s; register = n; answer = a }

-- examples/who-wrote.ptx: 216 bytes, the last two lines 38 and 32 of them. A comma is missing in the second line; the guard of the fifth is false
abbrev five_lines : List ℕ
five_lines =
    text
    ("vset4.u32.u32.ge.add %r51, %r40, %r32, %r0;"
    ∷ "vset4.u32.u32.ge.add %r51, %r41, %r32 %r51;"
    ∷ "setp.ge.u32 %p1, %r51, %r8;"
    ∷ "selp.u32 %r52, %r1, %r0, %p1;"
    ∷ "@%p1  slct.u32.s32 %r52,%r2,%r0,%r51;"
    ∷ [])

abbrev sixth_line : List ℕ
sixth_line = bytes "selp.b64 %rd8, %rd1, %rd2, %p1;"

abbrev who_wrote : List ℕ
who_wrote = five_lines ++ sixth_line ++ (line_feed ∷ [])

-- lines of 32, 31, 38, 30, 27, 32 and 42 bytes
abbrev kinds_of_lines : List ℕ
kinds_of_lines =
    text
    ("vadd.u32.u32.u32 %r1, %r2, %r3;"
    ∷ "vset.u32.u32.lt %r2, %r3, %r4;"
    ∷ "vadd4.u32.u32.u32 %r3, %r4, %r5, %r6;"
    ∷ "set.lt.u32.u32 %r4, %r5, %r6;"
    ∷ "setp.lt.u32 %p5, %r6, %r7;"
    ∷ "selp.b16 %rs6, %rs7, %rs8, %p1;"
    ∷ "  @!%p1 slct.s32.f32 %r7, %r8, %r9, %r10;"
    ∷ [])

unfoldable pub questions : List Question
questions =
    -- the refused line does not count, the skipped one does, and it is the last of two; without the last line feed it is a byte nearer to the end
    asks who_wrote 51 (last.distance 216)
    ∷ asks who_wrote 52 (last.distance 70)
    ∷ asks (five_lines ++ sixth_line) 52 (last.distance 69)
    -- a source is no destination, and `%rd8` is not `%r8`
    ∷ asks who_wrote 8 last.none_has
    -- d of each kind of line; leading blanks are part of the line; `%p5` and `%rs6` are not `%r5` and `%r6`
    ∷ asks kinds_of_lines 1 (last.distance 232)
    ∷ asks kinds_of_lines 2 (last.distance 200)
    ∷ asks kinds_of_lines 3 (last.distance 169)
    ∷ asks kinds_of_lines 4 (last.distance 131)
    ∷ asks kinds_of_lines 5 last.none_has
    ∷ asks kinds_of_lines 6 last.none_has
    ∷ asks kinds_of_lines 7 (last.distance 42)
    -- ordinary reading: an antenna compared with itself is accepted
    ∷ asks itself_lines 10 (last.distance 84)
    -- no line at all; `%r63` is a register, `%r64` is over 63
    ∷ asks [] 63 last.none_has
    ∷ asks [] 64 (last.refused_by 6)
    ∷ asks who_wrote 64 (last.refused_by 6)
    ∷ []

-- what is printed of some: number and standard line of the line found, `none`, a refusal
pub record Shown : Type 0 where
  pub listing : List ℕ
  pub register : ℕ
  pub text : List ℕ

abbrev shows : List ℕ → ℕ → String → Shown
shows s n t = record { listing = s; register = n; text = text (t ∷ []) }

unfoldable pub shown : List Shown
shown =
    shows who_wrote 51 "1 vset4.u32.u32.ge.add %r51, %r40, %r32, %r0;"
    ∷ shows who_wrote 52 "5 @%p1 slct.u32.s32 %r52, %r2, %r0, %r51;"
    ∷ shows who_wrote 8 "none"
    ∷ shows [] 64 "refused 6"
    ∷ []

-- ==== the claims

-- the reader's stages give each line its answer, and by them the listings are printed, the questions answered and their answers shown; together, so that the
-- stages are named once
pub answered_computed :
    (map (λ (x : Answered). read_of x.target x.mode x.line) answered ≡ map (λ (x : Answered). x.answer) answered)
    × (map (λ (x : Listing). computed x.target x.mode x.lines) listings ≡ map (λ (x : Listing). x.output) listings)
    × (map (λ (x : Listing). leb (length x.lines) listing_limit) listings ≡ map (λ (x : Listing). true) listings)
    × (map (λ (x : Question). last_of own_answer x.listing x.register) questions ≡ map (λ (x : Question). x.answer) questions)
    × (map (λ (x : Shown). lasttext.computed x.listing x.register) shown ≡ map (λ (x : Shown). x.text) shown)
unfolding questions shown last_of last_in length_to feeds_in listings lines_with printed_line turns_text turns_files registers_text changes_text change_text start_files hex decimal decimal_in standard run is_legal sizes_fit preds_fit guard_holds after writes arithmetic_of form_of selected_of exact_of lanes_of lane_holds holds_z combined_of test_of comparison_of value_of lt eq is_nan of_bits of_fields odd answered read_of allows passes lanes_against_itself refused_by verdict_of place_of parts_place_of modifier_place_of guard_place_of legal_place_of operand_index_of row_place_of row.guess_of begins_row row.tried row.completed row.entry is_row operand_place_of fill.guess_of begins_filled fill.tried fill.completed fill.entry is_filled turns_at searched shape_place_of wrong_from step register digits follow ends named head_at guard_end name_from operands_at operand_from next_at next_of next_by bar_at over_at candidate_of shape_of guard_of guard_by from_head head_of turns name_turn name_by pushed_name from_gap from_operands operands_scanned operand_turn operand_by operand_scanned inverted_by first_of after_by part_of second_of second_by divided_by divider_of divider_by pushed_tree from_end register_of register_by prefix_by register_from number_found number_by capped_sum code_of row_of row_by found_of read_head name_at whole_of sides_at sides_by head_compared compared_by typed_of typed_by ending_at ending_by arithmetic_row arithmetic_typed arithmetic_by vset_row vset_by vset_lanes_row vset_lanes_by lane_arithmetic_row lane_arithmetic_typed lane_arithmetic_by tested_of tested_by test_at set_row set_tested set_at set_by setp_row setp_tested setp_at setp_by selp_row selp_by slct_row slct_at slct_by slct_type_of opcode_of video_of set_type_of selector_of type_of six_of cmp_of bool_op_of op2_of mask_of falling digits_named digits_in filled_of tree_at scalar_from lanes_from comparison_from choice_from
answered_computed = (refl, refl, refl, refl, refl)

-- the grammar gives each line of a list the answer beside it
abbrev pub EachGets : List Answered → Type 0
EachGets [] = Unit {0}
EachGets (x ∷ xs) = Answers x.target x.mode x.line x.answer × EachGets xs

-- what is printed of each listing of a list is the output beside it
abbrev pub EachPrints : List Listing → Type 0
EachPrints [] = Unit {0}
EachPrints (x ∷ xs) = Output x.target x.mode x.lines x.output × EachPrints xs

-- a full reading from the front gives each question of a list the answer beside it
abbrev pub EachLast : List Question → Type 0
EachLast [] = Unit {0}
EachLast (x ∷ xs) = ByFullReading x.listing x.register x.answer × EachLast xs

-- and each is shown as the text beside it
abbrev pub EachShows : List Shown → Type 0
EachShows [] = Unit {0}
EachShows (x ∷ xs) = Printed x.listing x.register x.text × EachShows xs

-- 65,536 bytes are no longer listing
pub limit_in : (answer : List ℕ → Answer) → last_of answer (replicate 65536 line_feed) 64 ≡ last.refused_by 6
unfolding last_of
limit_in answer = refl

-- 22 for a longer one, before 6
pub long_first : (answer : List ℕ → Answer) → last_of answer (replicate 65537 line_feed) 64 ≡ last.refused_by 22
unfolding last_of
long_first answer = refl
