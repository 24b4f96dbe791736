use Rattle.std.specs.Prelude.{Result}
use Rattle.std.proofs.Common.{◌≡◌, ◌∙◌, ◌-◌, ℕ, List, length, take, drop, sym, ap, arith, eq-eqb, ne_eqb}
use Rattle.scan.specs.Registers.{register_of}
use Rattle.scan.specs.RunLaws.{part_rest}
use Rattle.tree.specs.declared.Place.{Place}
use Rattle.starts.specs.Over.{is_over, over_stops, over_goes, over_ends}
use Rattle.starts.proofs.first_over.Goals as goal
use Rattle.starts.proofs.first_over.Goals.{else-b-eq37-via-then-b-eq37+else-is_over, else-b-eq37-via-else-b-eq37}

-- the register is read from the slice of what is left
read_there : (l : List ℕ) (i : ℕ) (r : Result (Place × ℕ) ℕ) → r ≡ register_of (take (length l - i) (drop i l))
    → is_over (register_of (drop i l)) ≡ is_over r
read_there l i r e = ap is_over (ap register_of (sym (part_rest i l)) ∙ sym e)

pub returns-then-is_over : goal.returns-then-is_over
returns-then-is_over c =
    let x = c.loop-i in
    let l = c.args.line.now in
    let o = read_there l x.i _ c.read_register.ensures ∙ sym c.is_over.ensures ∙ c.if-is_over.true in
    sym (x.invariant ∙ over_stops l x.i (omega arith) (rw (eq-eqb _ _ c.if-b-eq37.true) o))

pub loop-i-preserved : goal.loop-i-preserved
loop-i-preserved c =
    let x = c.loop-i in
    let l = c.args.line.now in
    x.invariant
    ∙ over_goes l x.i (omega arith)
    (elim c.else-b-eq37.branch [
      | else-b-eq37-via-then-b-eq37+else-is_over w ↦
          rw (eq-eqb _ _ w.if-b-eq37.true)
          (read_there l x.i _ w.read_register.ensures ∙ sym w.is_over.ensures ∙ w.if-is_over.false)
      | else-b-eq37-via-else-b-eq37 w ↦ rw (ne_eqb _ _ w.if-b-eq37.false)
    ])

pub returns : goal.returns
returns c = let x = c.loop-i in omega (arith, x.invariant, over_ends c.args.line.now x.i (omega arith))
