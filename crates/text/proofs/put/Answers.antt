use Rattle.std.proofs.Common.{add-one, arith, refl, length, rules, take-suc, take_all, ◌+◌, ◌≤◌, ◌≡◌, ℕ}
use Rattle.std.specs.Prelude.{List}
use Rattle.std.proofs.lemmas.Slice.{put_mid-paste}
use Rattle.text.specs.Buffer.{buffer, pasted, Puts, ◌then◌}
use borrow.Rule.Slice.PartMut.{put_mid}
use Rattle.text.proofs.put.Goals as goal

-- a text over the part of a buffer that has its length
laid : (at k e : ℕ) (p new out : List ℕ) → new ≡ p → length p ≡ k → e ≡ at + length p → at + length p ≤ length out
    → Puts (buffer out at) p (buffer (put_mid at k out new) e)
laid at k e p new out s n f h = rw (put_mid-paste at k out new p (length p) s n refl, f) (pasted p out at h)

pub returns-then-text-saturating_sub : goal.returns-then-text-saturating_sub
returns-then-text-saturating_sub c =
    laid _ _ _ _ _ _ c.copy_from_slice.ensures.after (omega arith) (omega arith)
    (omega (arith, c.if-text-saturating_sub.true, c.saturating_sub.ensures))

pub loop-b-preserved : goal.loop-b-preserved
loop-b-preserved c = (
  search rules,
  rw (add-one, take-suc {A = ℕ} _ _ 0 c.loop-b-test.true) (c.loop-b.invariant.1 then c.push-next.ensures),
)

pub returns : goal.returns
returns c = rw (take_all _ c.args.text.now c.loop-b-test.false) at c.loop-b.invariant.1
