-- What the proofs of this crate share: the pieces of a line's text, and how long they are. Assumes nothing.
use Rattle.std.proofs.Common.{◌≡◌, ℕ, ◌≤◌, Bool, true, false, cond, List, [], ◌∷◌, ◌++◌, length, take, drop, refl, ap, subst, arith, le-ltb}
use lib.Seq.{take-append_seam}
use Rattle.signs.specs.Text.{bytes}
use Rattle.record.specs.Refusals.{is_legal}
use Rattle.record.specs.declared.Record.{Record}
use Rattle.record.specs.declared.Target.{Target}
use Rattle.record.specs.declared.Mode.{Mode}
use Rattle.record.specs.Registers.{Files}
use Rattle.rules.specs.StandardLine.{standard}
use Rattle.laws.specs.LineLengths.{standard_fits}
use Rattle.rules.specs.Writing.{Answer, Outcome, written, refused, outcome, writing}
use Rattle.text.specs.Buffer.{Buffer, Puts, ◌then◌}
use Rattle.signs.specs.Digits.{decimal}
use Rattle.report.specs.Listing.{printed_line}
use Rattle.signs.specs.Bytes.{line_feed}
use Rattle.report.specs.Chunks.{line_text, PutsAnswer, PutsTurn}

-- ==== the standard line, written to 160 bytes

abbrev IsRefused : Answer → Type 0
IsRefused (written n) = ⊥
IsRefused (refused n) = Unit {0}

abbrev IsWritten : Answer → Type 0
IsWritten (written n) = Unit {0}
IsWritten (refused n) = ⊥

-- a legal record's line has room there
module _ (r : Record) (x y : List ℕ) (n : length x ≡ 160) where
  wrote : is_legal r ≡ true → (a : Answer) → outcome a y ≡ writing r x → outcome a y ≡ outcome (written (length (standard r))) (standard r ++ drop (length (standard r)) x)
  unfolding writing
  wrote h a e =
      let k : length (standard r) ≤ length x = omega (arith, standard_fits r h) in
      rw (h, le-ltb (length x) (length (standard r)) k) at e

  -- no other is written
  not_written : is_legal r ≡ false → (m : ℕ) → outcome (written m) y ≡ writing r x → ⊥
  unfolding writing
  not_written h m e = let q = rw h at e in subst IsWritten (ap (λ (o : Outcome). o.answer) q) tt

  pub wrote_within : (m : ℕ) → outcome (written m) y ≡ writing r x → m ≤ length x
  wrote_within m e = go (is_legal r) refl
    where
      go : (t : Bool) → is_legal r ≡ t → m ≤ length x
      go true h =
          let f = ap (λ (o : Outcome). o.answer) (wrote h (written m) e) in
          let k : m ≡ length (standard r) = cc in
          omega (arith, standard_fits r h)
      go false h = absurd (not_written h m e)

  pub wrote_text : (m : ℕ) → outcome (written m) y ≡ writing r x → take m y ≡ line_text r
  wrote_text m e = go (is_legal r) refl
    where
      go : (t : Bool) → is_legal r ≡ t → take m y ≡ cond t (standard r) []
      go true h =
          let f = ap (λ (o : Outcome). o.answer) (wrote h (written m) e) in
          let k : m ≡ length (standard r) = cc in
          rw (k, ap (λ (o : Outcome). o.buffer) (wrote h (written m) e)) (take-append_seam (standard r) (drop (length (standard r)) x))
      go false h = absurd (not_written h m e)

  pub refused_text_lem : (m : ℕ) → outcome (refused m) y ≡ writing r x → [] ≡ line_text r
  refused_text_lem m e = go (is_legal r) refl
    where
      go : (t : Bool) → is_legal r ≡ t → [] ≡ cond t (standard r) []
      go true h = absurd (subst IsRefused (ap (λ (o : Outcome). o.answer) (wrote h (refused m) e)) tt)
      go false h = refl

-- ==== a line

-- a line's text is made of its number, a space, its answer and a line feed
pub turn_put : {target : Target} {mode : Mode} {n : ℕ} {l : List ℕ} {f g : Files} {x y z w v : Buffer}
    → Puts x (decimal n) y → Puts y (bytes " ") z → PutsAnswer target mode l f g z w → Puts w (line_feed ∷ []) v → PutsTurn target mode n l f g x v
unfolding printed_line
turn_put {target} {mode} {n} {l} {f} {g} a b p d =
    record {
      text = printed_line target n p.answer f;
      turn = record { answer = p.answer; answers = p.answers; text = refl; files = p.files };
      puts = ((a then b) then p.puts) then d;
    }
