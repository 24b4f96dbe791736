-- Every input has one output, and calls of `log_line` until the input ends, followed by `end`, print it; the tally is then that of a history. Assumes nothing.
use Rattle.std.specs.Prelude.{◌≡◌, ℕ, suc, ◌+◌, ◌<◌, ◌≤◌, Bool, true, false, List, [], ◌∷◌, ◌++◌, length, take, drop, nat_le, nat_lt, refl}
use Rattle.std.proofs.Common.{mod-eq_of_lt, add-one, arith, sym, ap, ap₂, subst, ◌∙◌, append_assoc, append-nil, take_at, ltb-true, ltb-false, le-ltb}
use Rattle.std.proofs.Math.Option.{Option, none, some}
use Rattle.signs.specs.Bytes.{line_feed}
use Rattle.signs.specs.Text.{bytes}
use Rattle.rules.specs.Writing.{front}
use Rattle.lines.specs.Lines.{listing_limit, lines_of}
use Rattle.report.specs.Listing.{too_long_text}
use Rattle.report.specs.Chunks.{next_number}
use Rattle.tally.specs.declared.Read.{Read}
use Rattle.tally.specs.declared.Tally.{Tally}
use Rattle.tally.specs.Passes.{is_tally}
use Rattle.tally.specs.Lent.{entries_of, empty_tally}
use Rattle.tally.specs.History.{Call, after, counted_of, washed}
use Rattle.tally.specs.HistoryLaws.{Whole, whole_after, whole_empty, empty_is, washed_exactly}
use Rattle.passlog.specs.declared.Progress.{Progress}
use Rattle.passlog.specs.Log.{tally_after, logged_line, end_text, Turns, more, Output, printed}
use Rattle.passlog.specs.Log as log
use Rattle.lines.specs.LineLaws.{first_line, no_lines}
use Rattle.passlog.specs.Spelling.{read_of}
use Rattle.passlog.specs.SpellingLaws.{read_says, read_one}
use Rattle.passlog.specs.Steps.{next_place, line_room, Step, ended, no_room, too_long, one_line, Logs, Calls, no_more, one_more, end_room, end_outcome, printed_bytes, refused, ending}

-- ==== every input has an output, and none has two

-- what lines print and leave
abbrev pub turns_text : ℕ → ℕ → List (List ℕ) → Tally → List ℕ
turns_text floor n [] t = []
turns_text floor n (l ∷ ls) t = logged_line floor n t (read_of l) ++ turns_text floor (suc n) ls (tally_after floor t (read_of l))

abbrev pub turns_tally : ℕ → List (List ℕ) → Tally → Tally
turns_tally floor [] t = t
turns_tally floor (l ∷ ls) t = turns_tally floor ls (tally_after floor t (read_of l))

all_turns : (floor n : ℕ) (ls : List (List ℕ)) (t : Tally) → Turns floor n ls t (turns_text floor n ls t) (turns_tally floor ls t)
all_turns floor n [] t = log.ended
all_turns floor n (l ∷ ls) t = more (read_says l) (all_turns floor (suc n) ls (tally_after floor t (read_of l)))

-- and the output that they make up
abbrev pub computed : ℕ → List ℕ → List ℕ
computed floor s = turns_text floor 1 (lines_of s) empty_tally ++ end_text (entries_of (turns_tally floor (lines_of s) empty_tally))

-- (the limit stands here as README has it, so that it does not hang on a name)
pub computed_output : (floor : ℕ) (s : List ℕ) → length s ≤ 65536 → Output floor s (computed floor s)
computed_output floor s h = printed h (all_turns floor 1 (lines_of s) empty_tally)

pub every_input : (floor : ℕ) (s : List ℕ) → (t : List ℕ) × Output floor s t
every_input floor s = go (nat_lt listing_limit (length s)) refl
  where
    go : (b : Bool) → nat_lt listing_limit (length s) ≡ b → (t : List ℕ) × Output floor s t
    go true e = (too_long_text, log.too_long (ltb-true listing_limit (length s) e))
    go false e = (computed floor s, computed_output floor s (ltb-false listing_limit (length s) e))

pub turns_one : {floor n : ℕ} {ls : List (List ℕ)} {x y : List ℕ} {t g h : Tally} → Turns floor n ls t x g → Turns floor n ls t y h → (x ≡ y) × (g ≡ h)
turns_one log.ended log.ended = (refl, refl)
turns_one {floor} (more {n = n} {ls = ls} {t = t} {x = x} {u = u} a p) (more {g = h} {x = y} {u = v} b q) =
    let e = read_one a b in
    let r = turns_one p (subst (λ (z : Option Read). Turns floor (suc n) ls (tally_after floor t z) v h) (sym e) q) in
    (ap₂ (λ (z : Option Read) (w : List ℕ). logged_line floor n t z ++ w) e r.0, r.1)

pub one_output : {floor : ℕ} {s x y : List ℕ} → Output floor s x → Output floor s y → x ≡ y
one_output (log.too_long a) (log.too_long b) = refl
one_output (log.too_long a) (printed b q) = absurd (omega arith)
one_output (printed a p) (log.too_long b) = absurd (omega arith)
one_output (printed a p) (printed b q) = let e = turns_one p q in ap₂ (λ (x : List ℕ) (g : Tally). x ++ end_text (entries_of g)) e.0 e.1

-- a longer input has this output alone
pub too_long_output : (floor : ℕ) (s : List ℕ) → 65536 < length s → Output floor s (bytes "input too long" ++ (line_feed ∷ []))
too_long_output floor s h = log.too_long h

-- ==== one call

pub record Same (x y : List ℕ) (e d m k : ℕ) (g h : Tally) : Type 0 where
  pub text : x ≡ y
  pub place : e ≡ d
  pub number : m ≡ k
  pub tally : g ≡ h

pub step_one : {floor : ℕ} {s : List ℕ} {room from n : ℕ} {t : Tally} {x y : List ℕ} {e d m k : ℕ} {g h : Tally} → Step floor s room from n t x e m g → Step floor s room from n t y d k h → Same x y e d m k g h
step_one (ended a) (ended b) = record { text = refl; place = refl; number = refl; tally = refl }
step_one (ended a) (no_room b c) = absurd (omega arith)
step_one (ended a) (too_long b c d) = absurd (omega arith)
step_one (ended a) (one_line b c d p) = absurd (omega arith)
step_one (no_room a b) (ended c) = absurd (omega arith)
step_one (no_room a b) (no_room c d) = record { text = refl; place = refl; number = refl; tally = refl }
step_one (no_room a b) (too_long c d e) = absurd (omega arith)
step_one (no_room a b) (one_line c d e p) = absurd (omega arith)
step_one (too_long a b c) (ended d) = absurd (omega arith)
step_one (too_long a b c) (no_room d e) = absurd (omega arith)
step_one (too_long a b c) (too_long d e f) = record { text = refl; place = refl; number = refl; tally = refl }
step_one (too_long a b c) (one_line d e f p) = absurd (omega arith)
step_one (one_line a b c p) (ended d) = absurd (omega arith)
step_one (one_line a b c p) (no_room d e) = absurd (omega arith)
step_one (one_line a b c p) (too_long d e f) = absurd (omega arith)
step_one {floor} {n = n} {t = t} (one_line a b c p) (one_line d e f q) =
    let z = read_one p q in
    record {
      text = ap (logged_line floor n t) z;
      place = refl;
      number = refl;
      tally = ap (tally_after floor t) z;
    }

-- two answers to one call, with the buffers that they leave, are one
pub logs_one : {floor from n : ℕ} {s out a b : List ℕ} {t : Tally} (x y : Progress) → Logs floor s from n t out x.at x.number x.len x.tally a
    → Logs floor s from n t out y.at y.number y.len y.tally b → (x ≡ y) × (a ≡ b)
logs_one {out = out} x y p q =
    let i = step_one p.step q.step in
    let len = p.length_of ∙ ap length i.text ∙ sym q.length_of in
    (λ j. record { at = i.place j; number = i.number j; len = len j; tally = i.tally j }, p.buffer ∙ ap (λ (z : List ℕ). front z out) i.text ∙ sym q.buffer)

-- the text that a call answers the length of stands at the front of its buffer
pub logs_text : {floor from n e m len : ℕ} {s out after : List ℕ} {t g : Tally} (p : Logs floor s from n t out e m len g after) → take len after ≡ p.text
logs_text {out = out} p = rw (p.buffer, p.length_of) (take_at p.text (drop (length p.text) out) (length p.text) refl)

-- ==== calls until the input ends

-- as many lines as the place tells at most, so the numbers do not begin again
next_number_lem : (from n : ℕ) → from ≤ listing_limit → n ≤ from + 1 → next_number n ≡ suc n
next_number_lem from n h k = mod-eq_of_lt (omega arith) ∙ add-one n

calls_turns : {floor : ℕ} {s : List ℕ} {from n : ℕ} {t : Tally} {x : List ℕ} {g : Tally} → length s ≤ listing_limit → n ≤ from + 1 → Calls floor s from n t x g → Turns floor n (lines_of (drop from s)) t x g
calls_turns {floor} {s} {from} {n} {t} {x} {g} l k (no_more h) = rw (no_lines s from h) log.ended
calls_turns l k (one_more h r (ended a) c) = absurd (omega arith)
calls_turns l k (one_more h r (no_room a b) c) = absurd (omega arith)
calls_turns l k (one_more h r (too_long a b d) c) = absurd (omega arith)
calls_turns {floor} {s} {from} {n} {t} {x} {g} l k (one_more {u = u} h r (one_line {x = y} a b d p) c) =
    let e = next_number_lem from n (omega arith) k in
    let q = calls_turns l (rw e (omega arith)) c in
    rw (first_line s from h) (more p (subst (λ (m : ℕ). Turns floor m (lines_of (drop (next_place s from) s)) (tally_after floor t y) u g) e q))

none_left : {floor from n : ℕ} {s x : List ℕ} {t g : Tally} → length s ≤ from → Calls floor s from n t x g → (x ≡ []) × (t ≡ g)
none_left h (no_more a) = (refl, refl)
none_left h (one_more a r p c) = absurd (omega arith)

over : {floor : ℕ} {s : List ℕ} {from n : ℕ} {t : Tally} {x : List ℕ} {g : Tally} → listing_limit < length s → from < length s → Calls floor s from n t x g → (x ≡ too_long_text) × (t ≡ g)
over l h (no_more a) = absurd (omega arith)
over l h (one_more a r (ended b) c) = absurd (omega arith)
over l h (one_more a r (no_room b d) c) = absurd (omega arith)
over l h (one_more a r (too_long b d e) c) =
    let z = none_left (omega arith) c in
    (ap (λ (u : List ℕ). too_long_text ++ u) z.0 ∙ append-nil too_long_text, z.1)
over l h (one_more a r (one_line b d e p) c) = absurd (omega arith)

none_at_first : end_text (entries_of empty_tally) ≡ []
unfolding entries_of
none_at_first = refl

pub calls_output : (floor : ℕ) (s : List ℕ) {x : List ℕ} {g : Tally} → Calls floor s 0 1 empty_tally x g → Output floor s (x ++ end_text (entries_of g))
calls_output floor s {x} {g} c = go (nat_lt listing_limit (length s)) refl
  where
    go : (b : Bool) → nat_lt listing_limit (length s) ≡ b → Output floor s (x ++ end_text (entries_of g))
    go true e =
        let l = ltb-true listing_limit (length s) e in
        let z = over l (omega arith) c in
        rw (z.0, ← z.1, none_at_first, append-nil too_long_text) (log.too_long l)
    go false e = let l = ltb-false listing_limit (length s) e in printed l (calls_turns l (omega arith) c)

-- ==== what a caller's loop needs

pub call_goes_on : {floor : ℕ} {s : List ℕ} {room from n : ℕ} {t : Tally} {x : List ℕ} {e m : ℕ} {g : Tally} → from < length s → line_room ≤ room → Step floor s room from n t x e m g → from < e
call_goes_on h r (ended a) = absurd (omega arith)
call_goes_on h r (no_room a b) = absurd (omega arith)
call_goes_on h r (too_long a b c) = omega arith
call_goes_on h r (one_line a b c p) = omega arith

-- so far: calls printed text, and what is called from here on goes behind it
pub record Called (floor : ℕ) (s : List ℕ) (from n : ℕ) (g : Tally) : Type 0 where
  pub text : List ℕ
  pub rest : {u : List ℕ} {h : Tally} → Calls floor s from n g u h → Calls floor s 0 1 empty_tally (text ++ u) h

pub none_called : (floor : ℕ) (s : List ℕ) → Called floor s 0 1 empty_tally
none_called floor s = record { text = []; rest = λ x. x }

pub called : {floor from n e m len : ℕ} {s out after : List ℕ} {g h : Tally} → Called floor s from n g → from < length s → line_room ≤ length out
    → Logs floor s from n g out e m len h after → Called floor s e m h
called {out = out} c i r p = record {
  text = c.text ++ p.text;
  rest = λ {u = u} x. rw (append_assoc c.text p.text u) (c.rest (one_more {room = length out} i r p.step x));
}

-- calls until the input ends have left the tally g, and printed some text
pub record Told (floor : ℕ) (s : List ℕ) (g : Tally) : Type 0 where
  pub text : List ℕ
  pub calls : Calls floor s 0 1 empty_tally text g

pub told : {floor from n : ℕ} {s : List ℕ} {g : Tally} → Called floor s from n g → length s ≤ from → Told floor s g
told c h = record { text = c.text ++ []; calls = c.rest (no_more h) }

-- with the end behind it that is the input's output
pub told_output : {floor : ℕ} {s : List ℕ} {g : Tally} (a : Told floor s g) → Output floor s (a.text ++ end_text (entries_of g))
told_output {floor} {s} a = calls_output floor s a.calls

-- ==== the end, and what history the input is

whole_said : (floor : ℕ) (t : Tally) (x : Option Read) → Whole t → Whole (tally_after floor t x)
whole_said floor t none w = w
whole_said floor t (some r) w = whole_after t w (record { read = r; floor = floor })

calls_whole : {floor : ℕ} {s : List ℕ} {from n : ℕ} {t : Tally} {x : List ℕ} {g : Tally} → Whole t → Calls floor s from n t x g → Whole g
calls_whole w (no_more h) = w
calls_whole w (one_more h r (ended a) c) = calls_whole w c
calls_whole w (one_more h r (no_room a b) c) = calls_whole w c
calls_whole w (one_more h r (too_long a b d) c) = calls_whole w c
calls_whole {floor} {t = t} w (one_more h r (one_line {x = y} a b d p) c) = calls_whole (whole_said floor t y w) c

-- `end` prints it: it is not refused, and a buffer with room is enough
pub told_ends : {floor : ℕ} {s : List ℕ} {g : Tally} (out : List ℕ) → Told floor s g → end_room ≤ length out
    → ending g out ≡ end_outcome (printed_bytes (length (end_text (entries_of g)))) (front (end_text (entries_of g)) out)
unfolding ending
told_ends out a h = rw ((calls_whole (whole_empty empty_tally empty_is) a.calls).tally, le-ltb (length out) end_room h)

-- what is no tally has no end
pub no_tally_no_end : (t : Tally) (out : List ℕ) → is_tally (entries_of t) ≡ false → ending t out ≡ end_outcome (refused 23) out
unfolding ending
no_tally_no_end t out h = rw h

-- the calls that lines are (`read_of` is what a line says, by `read_says`)
abbrev pub with_call : ℕ → Option Read → List Call → List Call
with_call floor none h = h
with_call floor (some r) h = record { read = r; floor = floor } ∷ h

abbrev pub calls_of : ℕ → List (List ℕ) → List Call
calls_of floor [] = []
calls_of floor (l ∷ ls) = with_call floor (read_of l) (calls_of floor ls)

one_said : (floor : ℕ) (t : Tally) (x : Option Read) (h : List Call) → after (tally_after floor t x) h ≡ after t (with_call floor x h)
one_said floor t none h = refl
one_said floor t (some r) h = refl

-- the tally at the end is what that history leaves
pub turns_after : {floor n : ℕ} {ls : List (List ℕ)} {x : List ℕ} {t g : Tally} → Turns floor n ls t x g → g ≡ after t (calls_of floor ls)
turns_after log.ended = refl
turns_after {floor} (more {l = l} {ls = ls} {t = t} a p) =
    turns_after p ∙ ap (λ (y : Option Read). after (tally_after floor t y) (calls_of floor ls)) (read_one a (read_says l)) ∙ one_said floor t (read_of l) (calls_of floor ls)

-- so a tag is washed there exactly when at least three passes of it counted
pub turns_washed : {floor n : ℕ} {ls : List (List ℕ)} {x : List ℕ} {g : Tally} (tag : ℕ) → Turns floor n ls empty_tally x g
    → washed tag g ≡ nat_le 3 (counted_of tag empty_tally (calls_of floor ls))
turns_washed {floor} {ls = ls} tag p = ap (washed tag) (turns_after p) ∙ washed_exactly empty_tally empty_is tag (calls_of floor ls)
