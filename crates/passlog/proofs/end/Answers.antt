use Rattle.std.proofs.Common.{◌≡◌, ◌≤◌, ◌∙◌, ℕ, List, length, take, sym, arith, length-take-le, take_all}
use Rattle.tally.specs.declared.Entry.{Entry}
use Rattle.tally.specs.CallLaws.{tally_small}
use Rattle.tally.proofs.Laws.{tally_full}
use Rattle.passlog.specs.StepLaws.{Listed, none_listed, one_listed, end_23, end_no_room, end_printed}
use Rattle.passlog.proofs.end.Goals as goal

-- the first n entries, each put, are the first n of all
all_listed : {l : List Entry} {start out : List ℕ} {used : ℕ} (n i : ℕ) → length (take n l) ≤ i → n ≡ i
    → Listed (take n l) start i used out → Listed l start n used out
all_listed {l} n i h e a =
    let k : take i (take n l) ≡ take n l = take_all i (take n l) h in
    let s = rw k at a.short in
    record { puts = rw k at a.puts; short = rw (← e) at s }

pub returns-then-not-is_tally : goal.returns-then-not-is_tally
returns-then-not-is_tally c =
    let full = tally_full c.args.t _ c.well_formed.0 in
    end_23 c.args.t full _ (sym c.is_tally.ensures ∙ c.if-not-is_tally.true)

pub returns-then-out-lt-END_ROOM : goal.returns-then-out-lt-END_ROOM
returns-then-out-lt-END_ROOM c =
    let full = tally_full c.args.t _ c.well_formed.0 in
    end_no_room c.args.t full _ (sym c.is_tally.ensures ∙ c.if-not-is_tally.false) c.if-out-lt-END_ROOM.true

pub shared_ref_as_front-e-items : goal.shared_ref_as_front-e-items
shared_ref_as_front-e-items c =
    let full = tally_full c.args.t _ c.well_formed.0 in
    omega (arith, full, tally_small c.args.t full (sym c.is_tally.ensures ∙ c.if-not-is_tally.false))

pub loop-e-init : goal.loop-e-init
loop-e-init c = none_listed _ _

pub loop-e-preserved : goal.loop-e-preserved
loop-e-preserved c = one_listed c.loop-e-test.true c.loop-e.invariant c.put_entry-used.ensures

pub returns : goal.returns
returns c =
    let full = tally_full c.args.t _ c.well_formed.0 in
    let tallied = sym c.is_tally.ensures ∙ c.if-not-is_tally.false in
    let small = tally_small c.args.t full tallied in
    let w = length-take-le c.args.t.len c.args.t.entries (omega (arith, full, small)) in
    end_printed c.args.t full _ tallied c.if-out-lt-END_ROOM.false
    (all_listed c.args.t.len c.loop-e.e-index c.loop-e-test.false (omega (arith, w)) c.loop-e.invariant)
