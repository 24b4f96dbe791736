use Rattle.std.proofs.Common.{length-take-le, rules, sym}
use Rattle.write.proofs.Laws.{fits, ends_short, ends_written}
use Rattle.write.proofs.copy_out.Goals as goal

pub returns-then-buf-n : goal.returns-then-buf-n
returns-then-buf-n c = ends_short (search rules) c.put_line-n.ensures _ c.if-buf-n.true

pub slice_bounds-line-end : goal.slice_bounds-line-end
slice_bounds-line-end c = fits (search rules) c.put_line-n.ensures

pub slice_bounds-put-end : goal.slice_bounds-put-end
slice_bounds-put-end c = sym (length-take-le _ _ (fits (search rules) c.put_line-n.ensures))

pub returns : goal.returns
returns c = ends_written (search rules) c.put_line-n.ensures _ c.if-buf-n.false c.put.ensures
