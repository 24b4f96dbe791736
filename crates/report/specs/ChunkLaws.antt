-- Laws of the code's way through a listing: what a turn of its loops needs. Assumes nothing.
use Rattle.std.specs.Prelude.{◌≡◌, ℕ, ◌+◌, ◌-◌, ◌^◌, ◌<◌, ◌≤◌, Bool, true, false, cond, ◌&&◌, ltb, List, [], ◌∷◌, ◌++◌, length, nat_le, nat_lt, refl}
use Rattle.std.proofs.Math.Nat.{sub-zero}
use Rattle.std.proofs.Common.{arith, sym, ◌∙◌, subst, append_assoc, append-nil, length-append, ltb-true, ltb-false, leb-true, leb-false}
use Rattle.record.specs.Refusals.{Legal}
use Rattle.record.specs.declared.Record.{Record}
use Rattle.record.specs.declared.Target.{Target}
use Rattle.record.specs.declared.Mode.{Mode}
use Rattle.record.specs.Registers.{Files}
use Rattle.rules.specs.Executing.{run, done, skipped}
use Rattle.rules.specs.Executing as executing
use Rattle.laws.specs.LineLengths.{longest_line, standard_length}
use Rattle.rules.specs.Reading.{reading_order, Answer, Answers, accepts, read, refused, refused_at}
use Rattle.signs.specs.Lists.{Listed}
use Rattle.base.specs.Values.{every}
use Rattle.laws.specs.PlaceLaws.{of_every}
use Rattle.laws.specs.OutcomeLaws.{execute_refused}
use Rattle.read.specs.Promises.{refused_listed, refused_at_listed, refused_at_within}
use Rattle.text.specs.Buffer.{buffer, Puts, ◌then◌, whole_front}
use Rattle.text.specs.DigitLaws.{decimal_short}
use Rattle.lines.specs.Lines.{listing_limit}
use Rattle.report.specs.Listing.{refused_text, executed_text, answer_text, printed_line, Turn, too_long_text}
use Rattle.report.specs.Chunks.{line_at, behind, next_place, next_number, line_room, PutsTurn, SomeLines, ended, no_room, too_long, one_more, Prints}

-- the next line begins further on
pub further_on : (size from end : ℕ) → from < size → from ≤ end → from < behind size end
further_on size from end h k = go (nat_lt end size) refl
  where
    go : (t : Bool) → nat_lt end size ≡ t → from < cond t (end + 1) end
    go true e = omega arith
    go false e = let m : size ≤ end = ltb-false end size e in omega arith

-- ==== how long a line's text is

pub legal_of : {target : Target} {mode : Mode} {l : List ℕ} {r : Record} → Answers target mode l (read r) → Legal r
legal_of (accepts m q h) = h.allowed.legal

-- the numbers of refusals have at most two digits
low_number : {n : ℕ} (ns : List ℕ) → every (λ k. ltb k 100) ns ≡ true → Listed n ns → length (refused_text n) ≤ 28
low_number {n} ns e h =
    let k = ltb-true n 100 (of_every (λ k. ltb k 100) ns e n h) in
    simp length-append (omega (arith, decimal_short n (omega arith)))

executed_short : (target : Target) (a : executing.Answer) (r : Record) (f : Files) → Legal r → (run target r f).answer ≡ a → length (executed_text a r) ≤ 8 + longest_line
executed_short target done r f h e = simp length-append (omega (arith, standard_length r h))
executed_short target skipped r f h e = simp length-append (omega (arith, standard_length r h))
executed_short target (executing.refused n) r f h e = let k = low_number (8 ∷ 12 ∷ 10 ∷ 11 ∷ []) refl (execute_refused target r f n e).0 in omega arith

answer_short : {target : Target} {mode : Mode} {l : List ℕ} (a : Answer) (f : Files) → Answers target mode l a → length (answer_text target a f) ≤ 8 + longest_line
answer_short {target} {mode} (read r) f q = executed_short target (run target r f).answer r f (legal_of q) refl
answer_short {target} {mode} {l} (refused n) f q = let k = low_number reading_order refl (refused_listed target mode l n q) in omega arith
answer_short {target} {mode} {l} (refused_at n p) f q =
    let k = low_number reading_order refl (refused_at_listed target mode l n p q) in
    simp length-append (omega (arith, decimal_short p (omega (arith, refused_at_within target mode l n p q))))

pub turn_short : {target : Target} {mode : Mode} {n : ℕ} {l t : List ℕ} {f g : Files} → n < 2 ^ 64 → Turn target mode n l f t g → length t ≤ line_room
unfolding printed_line
turn_short {target} {mode} {n} {l} {t} {f} {g} h u =
    rw u.text (simp length-append (omega (arith, decimal_short n h, answer_short u.answer f u.answers)))

-- ==== the loop over the lines

abbrev IsFalse : Bool → Type 0
IsFalse false = Unit {0}
IsFalse true = ⊥

-- a line is left, and room for it
pub room_there : (size at room : ℕ) {t : Bool} → t ≡ nat_lt at size && nat_le line_room room → t ≡ true → (at < size) × (line_room ≤ room)
room_there size at room {t} d h = go (nat_lt at size) (nat_le line_room room) refl refl (sym d ∙ h)
  where
    go : (p q : Bool) → nat_lt at size ≡ p → nat_le line_room room ≡ q → p && q ≡ true → (at < size) × (line_room ≤ room)
    go true true i j e = (ltb-true at size i, leb-true line_room room j)
    go true false i j e = absurd (subst IsFalse e tt)
    go false q i j e = absurd (subst IsFalse e tt)

-- so far: text is put, and what `some_lines` prints from here on goes behind it
pub record Going (target : Target) (mode : Mode) (s : List ℕ) (from first : ℕ) (f : Files) (start : List ℕ) (at n used : ℕ) (g : Files) (out : List ℕ) : Type 0 where
  pub text : List ℕ
  pub puts : Puts (buffer start 0) text (buffer out used)
  pub fits : length text ≤ length start
  pub rest : {u : List ℕ} {e m : ℕ} {h : Files} → SomeLines target mode s (length start - length text) at n g u e m h → SomeLines target mode s (length start) from first f (text ++ u) e m h

pub begins : (target : Target) (mode : Mode) (s : List ℕ) (from first : ℕ) (f : Files) (out : List ℕ) → Going target mode s from first f out from first 0 f out
begins target mode s from first f out = record { text = []; puts = record { text = refl }; fits = omega arith; rest = λ x. rw (sub-zero (length out)) at x }

module _ {target : Target} {mode : Mode} {s : List ℕ} {from first : ℕ} {f : Files} {start : List ℕ} {at n used : ℕ} {g : Files} {out : List ℕ} (a : Going target mode s from first f start at n used g out) where
  pub used_length : used ≡ length a.text
  used_length = (whole_front a.puts a.fits).0

  -- one line more
  pub goes_on_lem : {h : Files} {after : List ℕ} {next : ℕ} → n < 2 ^ 64 → at < length s → line_room ≤ length start - used → length s ≤ listing_limit
      → PutsTurn target mode n (line_at s at) g h (buffer out used) (buffer after next) → Going target mode s from first f start (next_place s at) (next_number n) next h after
  goes_on_lem {h} {after} {next} w i r l p =
      let b : length p.text ≤ line_room = turn_short w p.turn in
      let d : length start - length (a.text ++ p.text) ≡ length start - length a.text - length p.text = simp length-append (omega arith) in
      record {
        text = a.text ++ p.text;
        puts = a.puts then p.puts;
        fits = simp length-append (omega (arith, used_length));
        rest = λ {u} {e} {m} {h = k} x.
            rw (append_assoc a.text p.text u) (a.rest (one_more i (omega (arith, used_length)) l p.turn (rw d at x)));
      }

  -- no line left, or no room for one
  pub stops : ltb at (length s) && nat_le line_room (length start - used) ≡ false → Prints target mode s from first f start at n used g out
  stops e =
      record {
        text = a.text;
        some = rw (append-nil a.text) at (a.rest (none_more (nat_lt at (length s)) (nat_le line_room (length start - used)) refl refl e));
        length_of = used_length;
        buffer = (whole_front a.puts a.fits).1;
      }
    where
      none_more : (p q : Bool) → nat_lt at (length s) ≡ p → nat_le line_room (length start - used) ≡ q → p && q ≡ false → SomeLines target mode s (length start - length a.text) at n g [] at n g
      none_more false q i j e = ended (ltb-false at (length s) i)
      none_more true false i j e = no_room {room = length start - length a.text} (ltb-true at (length s) i) (omega (arith, used_length, leb-false line_room (length start - used) j))
      none_more true true i j e = absurd (subst IsFalse (sym e) tt)

-- ==== a call that prints no line

pub none_printed : (target : Target) (mode : Mode) (s : List ℕ) (from first : ℕ) (f : Files) (out : List ℕ) → nat_lt from (length s) && nat_le line_room (length out) ≡ false
    → Prints target mode s from first f out from first 0 f out
none_printed target mode s from first f out e = stops (begins target mode s from first f out) (rw (sub-zero (length out)) e)

pub over_limit : {target : Target} {mode : Mode} {s : List ℕ} {from first n : ℕ} {f : Files} {out after : List ℕ} → from < length s → line_room ≤ length out → listing_limit < length s
    → Puts (buffer out 0) too_long_text (buffer after n) → Prints target mode s from first f out (length s) first n f after
over_limit {target} {mode} {s} {from} {first} {n} {f} {out} {after} i r l p =
    let k : length too_long_text ≤ length out = omega arith in
    record {
      text = too_long_text;
      some = too_long {room = length out} i r l;
      length_of = (whole_front p k).0;
      buffer = (whole_front p k).1;
    }
