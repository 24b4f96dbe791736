use Rattle.std.proofs.Common.{arith, eq-eqb, ne_eqb, take, ◌+◌, ◌∙◌, ◌≡◌}
use Rattle.base.specs.Pack.{code_of}
use Rattle.tree.specs.declared.Head.{Head}
use Rattle.shape.specs.Head.{pushed_name, kept_name, names_turn}
use Rattle.shape.proofs.read_head.Goals as goal

pub loop-n-preserved : goal.loop-n-preserved
loop-n-preserved c =
    let l = c.loop-n in
    let h : Head = record { n = l.n; at = l.at } in
    let m = c.run_len-m.result in
    let kept : pushed_name h (code_of (take m l.w.now)) ≡ record { n = l.n + 1; at = c.keep.new.at } =
    kept_name l.n l.at (code_of (take m l.w.now)) (omega arith) ∙ rw (c.keep.ensures, c.name_code.ensures) in
    l.invariant
    ∙ names_turn l.n l.w.now l.place h (omega arith)
    ∙ rw (← c.run_len-m.ensures, ne_eqb _ _ c.if-m-eq0.false, ← c.byte.ensures, eq-eqb _ _ c.if-byte-ne46.false, kept, c.rest-w.ensures, c.further.ensures, c.further-place.ensures, c.further-end.ensures)
