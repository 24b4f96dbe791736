-- Every listing has one output, and calls of `some_lines` until the listing ends, followed by the registers, print it. Assumes nothing.
use Rattle.std.specs.Prelude.{◌≡◌, ℕ, suc, ◌+◌, ◌-◌, ◌^◌, ◌<◌, ◌≤◌, Bool, true, false, cond, List, [], ◌∷◌, ◌++◌, length, take, drop, nat_lt, refl}
use Rattle.std.proofs.Common.{mod-eq_of_lt, add-one, arith, sym, ap, ap₂, ◌∙◌, subst, append_assoc, append-nil, drop_of_length-le, take_at, ltb-true, ltb-false}
use Rattle.record.specs.declared.Target.{Target}
use Rattle.record.specs.declared.Mode.{Mode}
use Rattle.record.specs.Registers.{Files}
use Rattle.rules.specs.Reading.{Answer, read, refused, refused_at, Answers}
use Rattle.rules.specs.Executing.{done, skipped, run}
use Rattle.rules.specs.Executing as executing
use Rattle.rules.specs.StandardLine.{standard}
use Rattle.rules.specs.Writing.{front}
use Rattle.read.specs.Mirror.{read_of}
use Rattle.read.specs.Answering.{answers, answers_unique}
use Rattle.report.specs.declared.Progress.{Progress}
use Rattle.lines.specs.Until.{length_to}
use Rattle.lines.specs.LineLaws.{no_lines}
use Rattle.lines.specs.LineLaws as lines
use Rattle.lines.specs.Lines.{lines_of, listing_limit}
use Rattle.report.specs.Listing.{executed_text, printed_line, files_after, Turn, Turns, none, more, too_long_text, Output, too_long, printed}
use Rattle.signs.specs.Bytes.{line_feed}
use Rattle.signs.specs.Text.{bytes}
use Rattle.signs.specs.Digits.{decimal}
use Rattle.record.specs.declared.Record.{Record}
use Rattle.changes.specs.Changes.{start_files, change_text, changes_text, registers_text}
use Rattle.report.specs.Chunks.{line_at, behind, next_place, next_number, line_room, SomeLines, ended, no_room, one_more, Prints, Calls}
use Rattle.report.specs.Chunks as chunks
use Rattle.report.specs.ChunkLaws.{further_on}

-- ==== every listing has an output, and no listing has two

turn_of : (target : Target) (mode : Mode) (n : ℕ) (l : List ℕ) (f : Files) → Turn target mode n l f (printed_line target n (read_of target mode l) f) (files_after target (read_of target mode l) f)
turn_of target mode n l f = record { answer = read_of target mode l; answers = answers target mode l; text = refl; files = refl }

-- what a line prints and leaves in the files goes by its answer at the target and in the mode,
turn_answered : {target : Target} {mode : Mode} {n : ℕ} {l t : List ℕ} {f g : Files} {x : Answer} → Turn target mode n l f t g → Answers target mode l x
    → (t ≡ printed_line target n x f) × (g ≡ files_after target x f)
turn_answered {target} {mode} {n} {l} {t} {f} {g} {x} a h =
    let e : a.answer ≡ x = answers_unique target mode l a.answer x a.answers h in (
      a.text ∙ ap (λ (y : Answer). printed_line target n y f) e,
      a.files ∙ ap (λ (y : Answer). files_after target y f) e,
    )

-- and so is one thing
pub turn_one : {target : Target} {mode : Mode} {n : ℕ} {l t u : List ℕ} {f g h : Files} → Turn target mode n l f t g → Turn target mode n l f u h → (t ≡ u) × (g ≡ h)
turn_one a b = let e = turn_answered a b.answers in (e.0 ∙ sym b.text, e.1 ∙ sym b.files)

-- a line that is accepted at the target and in the mode is executed at the target
pub turn_runs : {target : Target} {mode : Mode} {n : ℕ} {l t : List ℕ} {f g : Files} {x : Record} → Turn target mode n l f t g → Answers target mode l (read x)
    → (t ≡ decimal n ++ bytes " " ++ executed_text (run target x f).answer x ++ (line_feed ∷ [])) × (g ≡ (run target x f).files)
unfolding printed_line
turn_runs a h = turn_answered a h

-- and says so: done, skipped, or executing's refusal
turn_said : {target : Target} {mode : Mode} {n : ℕ} {l t : List ℕ} {f g : Files} {x : Record} {y : executing.Answer} → Turn target mode n l f t g → Answers target mode l (read x)
    → (run target x f).answer ≡ y → t ≡ decimal n ++ bytes " " ++ executed_text y x ++ (line_feed ∷ [])
turn_said {n = n} {x = x} a h e = (turn_runs a h).0 ∙ ap (λ (y : executing.Answer). decimal n ++ bytes " " ++ executed_text y x ++ (line_feed ∷ [])) e

pub turn_done : {target : Target} {mode : Mode} {n : ℕ} {l t : List ℕ} {f g : Files} {x : Record} → Turn target mode n l f t g → Answers target mode l (read x) → (run target x f).answer ≡ done
    → t ≡ decimal n ++ bytes " " ++ (bytes "done " ++ standard x) ++ (line_feed ∷ [])
turn_done a h e = turn_said a h e

pub turn_skipped : {target : Target} {mode : Mode} {n : ℕ} {l t : List ℕ} {f g : Files} {x : Record} → Turn target mode n l f t g → Answers target mode l (read x) → (run target x f).answer ≡ skipped
    → t ≡ decimal n ++ bytes " " ++ (bytes "skipped " ++ standard x) ++ (line_feed ∷ [])
turn_skipped a h e = turn_said a h e

pub turn_not_executed : {target : Target} {mode : Mode} {n k : ℕ} {l t : List ℕ} {f g : Files} {x : Record} → Turn target mode n l f t g → Answers target mode l (read x) → (run target x f).answer ≡ executing.refused k
    → t ≡ decimal n ++ bytes " " ++ (bytes "refused " ++ decimal k) ++ (line_feed ∷ [])
turn_not_executed a h e = turn_said a h e

-- a line that is refused prints its number, and its place where it has one, and moves nothing
pub turn_refused : {target : Target} {mode : Mode} {n k : ℕ} {l t : List ℕ} {f g : Files} → Turn target mode n l f t g → Answers target mode l (refused k)
    → (t ≡ decimal n ++ bytes " " ++ (bytes "refused " ++ decimal k) ++ (line_feed ∷ [])) × (g ≡ f)
unfolding printed_line
turn_refused a h = turn_answered a h

pub turn_refused_at : {target : Target} {mode : Mode} {n k p : ℕ} {l t : List ℕ} {f g : Files} → Turn target mode n l f t g → Answers target mode l (refused_at k p)
    → (t ≡ decimal n ++ bytes " " ++ ((bytes "refused " ++ decimal k) ++ bytes " " ++ decimal p) ++ (line_feed ∷ [])) × (g ≡ f)
unfolding printed_line
turn_refused_at a h = turn_answered a h

-- each line of a listing has its turn at the listing's target and in its mode, with the number and on the files that the lines before it have left
pub record FirstTurn (target : Target) (mode : Mode) (n : ℕ) (l : List ℕ) (ls : List (List ℕ)) (f : Files) (t : List ℕ) (h : Files) : Type 0 where
  pub text : List ℕ
  pub rest : List ℕ
  pub files : Files
  pub turn : Turn target mode n l f text files
  pub turns : Turns target mode (suc n) ls files rest h
  pub whole : t ≡ text ++ rest

pub turns_first : {target : Target} {mode : Mode} {n : ℕ} {l t : List ℕ} {ls : List (List ℕ)} {f h : Files} → Turns target mode n (l ∷ ls) f t h → FirstTurn target mode n l ls f t h
turns_first (more {g = g} {t = t} {u = u} a x) = record { text = t; rest = u; files = g; turn = a; turns = x; whole = refl }

-- what lines print and leave, computed by the reader's stages
unfoldable pub turns_text : Target → Mode → ℕ → List (List ℕ) → Files → List ℕ
turns_text target mode n [] f = []
turns_text target mode n (l ∷ ls) f = printed_line target n (read_of target mode l) f ++ turns_text target mode (suc n) ls (files_after target (read_of target mode l) f)

unfoldable pub turns_files : Target → Mode → List (List ℕ) → Files → Files
turns_files target mode [] f = f
turns_files target mode (l ∷ ls) f = turns_files target mode ls (files_after target (read_of target mode l) f)

all_turns : (target : Target) (mode : Mode) (n : ℕ) (ls : List (List ℕ)) (f : Files) → Turns target mode n ls f (turns_text target mode n ls f) (turns_files target mode ls f)
unfolding turns_text turns_files
all_turns target mode n [] f = none
all_turns target mode n (l ∷ ls) f = more (turn_of target mode n l f) (all_turns target mode (suc n) ls (files_after target (read_of target mode l) f))

-- and the output that they make up
abbrev pub computed : Target → Mode → List ℕ → List ℕ
computed target mode s = turns_text target mode 1 (lines_of s) start_files ++ registers_text (turns_files target mode (lines_of s) start_files)

-- (the limit and the text stand here as document 01 has them, so that neither hangs on a name)
pub computed_output : (target : Target) (mode : Mode) (s : List ℕ) → length s ≤ 65536 → Output target mode s (computed target mode s)
computed_output target mode s h = printed h (all_turns target mode 1 (lines_of s) start_files)

-- a longer listing has this output alone
pub too_long_output : (target : Target) (mode : Mode) (s : List ℕ) → 65536 < length s → Output target mode s (bytes "input too long" ++ (line_feed ∷ []))
too_long_output target mode s h = too_long h

pub turns_one : {target : Target} {mode : Mode} {n : ℕ} {ls : List (List ℕ)} {t u : List ℕ} {f g h : Files} → Turns target mode n ls f t g → Turns target mode n ls f u h → (t ≡ u) × (g ≡ h)
turns_one none none = (refl, refl)
turns_one {target} {mode} (more {n = n} {ls = ls} {t = t} {u = u} a x) (more {h = h} {t = t'} {u = u'} b y) =
    let e = turn_one a b in
    let r = turns_one x (subst (λ (g : Files). Turns target mode (suc n) ls g u' h) (sym e.1) y) in
    (ap₂ (λ (p q : List ℕ). p ++ q) e.0 r.0, r.1)

pub every_listing : (target : Target) (mode : Mode) (s : List ℕ) → (t : List ℕ) × Output target mode s t
every_listing target mode s = go (nat_lt listing_limit (length s)) refl
  where
    go : (b : Bool) → nat_lt listing_limit (length s) ≡ b → (t : List ℕ) × Output target mode s t
    go true e = (too_long_text, too_long (ltb-true listing_limit (length s) e))
    go false e = (computed target mode s, computed_output target mode s (ltb-false listing_limit (length s) e))

pub one_output : {target : Target} {mode : Mode} {s t u : List ℕ} → Output target mode s t → Output target mode s u → t ≡ u
one_output (too_long a) (too_long b) = refl
one_output (too_long a) (printed b y) = absurd (omega arith)
one_output (printed a x) (too_long b) = absurd (omega arith)
one_output (printed a x) (printed b y) = let e = turns_one x y in ap₂ (λ (t : List ℕ) (g : Files). t ++ registers_text g) e.0 e.1

-- ==== the lines, one at a time

-- what stands behind the line's line feed begins at the next place
behind_line : (s : List ℕ) (end : ℕ) → drop (end + 1) s ≡ drop (behind (length s) end) s
behind_line s end = go (nat_lt end (length s)) refl
  where
    go : (t : Bool) → nat_lt end (length s) ≡ t → drop (end + 1) s ≡ drop (cond t (end + 1) end) s
    go true e = refl
    go false e =
        let h : length s ≤ end = ltb-false end (length s) e in
        drop_of_length-le s {i = end + 1} (omega arith) ∙ sym (drop_of_length-le s h)

first_line : (s : List ℕ) (from : ℕ) → from < length s → lines_of (drop from s) ≡ line_at s from ∷ lines_of (drop (next_place s from) s)
first_line s from h = lines.first_line s from h ∙ ap (λ (r : List ℕ). line_at s from ∷ lines_of r) (behind_line s (from + length_to line_feed (drop from s)))

-- ==== what calls of `some_lines` print

-- no line's number begins again at 0
abbrev Counted : List ℕ → ℕ → ℕ → Type 0
Counted s from n = n + (length s - from) < 2 ^ 64

next_counted : (s : List ℕ) (from n : ℕ) → from < length s → Counted s from n → (next_number n ≡ suc n) × Counted s (next_place s from) (suc n)
next_counted s from n h c =
    let k : from < next_place s from = further_on (length s) from (from + length_to line_feed (drop from s)) h (omega arith) in
    (mod-eq_of_lt (omega arith) ∙ add-one n, omega arith)

-- the lines that are printed from a place on are those printed by one call, and those from where it stopped
record Joined (target : Target) (mode : Mode) (s : List ℕ) (from n : ℕ) (f : Files) (t : List ℕ) (e m : ℕ) (g : Files) : Type 0 where
  counted : Counted s e m
  join : {u : List ℕ} {h : Files} → Turns target mode m (lines_of (drop e s)) g u h → Turns target mode n (lines_of (drop from s)) f (t ++ u) h

joined : {target : Target} {mode : Mode} {s t : List ℕ} {room from n e m : ℕ} {f g : Files} → length s ≤ listing_limit → Counted s from n → SomeLines target mode s room from n f t e m g → Joined target mode s from n f t e m g
joined l c (ended a) = record { counted = c; join = λ x. x }
joined l c (no_room a b) = record { counted = c; join = λ x. x }
joined l c (chunks.too_long a b d) = absurd (omega arith)
joined {target} {mode} {s} l c (one_more {from = from} {n = n} {e = e} {m = m} {f = f} {g = g} {h = h} {t = t} {u = u} a b d p x) =
    let k = next_counted s from n a c in
    let j = joined l (subst (Counted s (next_place s from)) (sym k.0) k.1) x in
    record {
      counted = j.counted;
      join = λ {u = v} {h = w} z.
          rw (first_line s from a, append_assoc t u v)
          (more p (subst (λ (i : ℕ). Turns target mode i (lines_of (drop (next_place s from) s)) g (u ++ v) w) k.0 (j.join z)));
    }

calls_turns : {target : Target} {mode : Mode} {s t : List ℕ} {from n : ℕ} {f g : Files} → length s ≤ listing_limit → Counted s from n → Calls target mode s from n f t g → Turns target mode n (lines_of (drop from s)) f t g
calls_turns {target} {mode} {s} {t} {from} l c (chunks.none a) = rw (no_lines s from a) none
calls_turns l c (chunks.more a b x y) = let j = joined l c x in j.join (calls_turns l j.counted y)

-- a listing over the limit
none_left : {target : Target} {mode : Mode} {s t : List ℕ} {from n : ℕ} {f g : Files} → length s ≤ from → Calls target mode s from n f t g → (t ≡ []) × (f ≡ g)
none_left h (chunks.none a) = (refl, refl)
none_left h (chunks.more a b x y) = absurd (omega arith)

over : {target : Target} {mode : Mode} {s t : List ℕ} {from n : ℕ} {f g : Files} → listing_limit < length s → from < length s → Calls target mode s from n f t g → (t ≡ too_long_text) × (f ≡ g)
over l h (chunks.none a) = absurd (omega arith)
over l h (chunks.more a b (ended c) y) = absurd (omega arith)
over l h (chunks.more a b (no_room c d) y) = absurd (omega arith)
over l h (chunks.more a b (chunks.too_long c d e) y) =
    let r = none_left (omega arith) y in
    (ap (λ (u : List ℕ). too_long_text ++ u) r.0 ∙ append-nil too_long_text, r.1)
over l h (chunks.more a b (one_more c d e p x) y) = absurd (omega arith)

none_changed : registers_text start_files ≡ []
unfolding registers_text changes_text change_text start_files
none_changed = refl

-- the listing program: calls of `some_lines` from the start, until the listing ends, and the registers then
pub calls_output : (target : Target) (mode : Mode) (s : List ℕ) {t : List ℕ} {g : Files} → Calls target mode s 0 1 start_files t g → Output target mode s (t ++ registers_text g)
calls_output target mode s {t} {g} x = go (nat_lt listing_limit (length s)) refl
  where
    go : (p : Bool) → nat_lt listing_limit (length s) ≡ p → Output target mode s (t ++ registers_text g)
    go true e =
        let l : listing_limit < length s = ltb-true listing_limit (length s) e in
        let r = over l (omega arith) x in
        subst (Output target mode s) (sym (ap₂ (λ (u : List ℕ) (h : Files). u ++ registers_text h) r.0 (sym r.1) ∙ ap (λ (u : List ℕ). too_long_text ++ u) none_changed ∙ append-nil too_long_text)) (too_long l)
    go false e =
        let l : length s ≤ listing_limit = ltb-false listing_limit (length s) e in
        printed l (calls_turns l (omega arith) x)

-- ==== no two outcomes of one call

pub record Same (t u : List ℕ) (e d m k : ℕ) (g h : Files) : Type 0 where
  pub text : t ≡ u
  pub place : e ≡ d
  pub number : m ≡ k
  pub files : g ≡ h

alike : {t : List ℕ} {e m : ℕ} {g : Files} → Same t t e e m m g g
alike = record { text = refl; place = refl; number = refl; files = refl }

pub some_one : {target : Target} {mode : Mode} {s t u : List ℕ} {room from n e d m k : ℕ} {f g h : Files} → SomeLines target mode s room from n f t e m g → SomeLines target mode s room from n f u d k h → Same t u e d m k g h
some_one (ended a) (ended b) = alike
some_one (no_room a b) (no_room c d) = alike
some_one (chunks.too_long a b c) (chunks.too_long d e f) = alike
some_one {target} {mode} {s} (one_more {room = room} {from = from} {n = n} {g = g} {t = t} a b c p x) (one_more {e = e} {m = m} {g = g'} {h = h} {t = t'} {u = u} a' b' c' q y) =
    let i = turn_one p q in
    let z : SomeLines target mode s (room - length t) (next_place s from) (next_number n) g u e m h =
    subst (λ (v : List ℕ). SomeLines target mode s (room - length v) (next_place s from) (next_number n) g u e m h) (sym i.0)
    (subst (λ (w : Files). SomeLines target mode s (room - length t') (next_place s from) (next_number n) w u e m h) (sym i.1) y) in
    let r = some_one x z in
    record { text = ap₂ (λ (v w : List ℕ). v ++ w) i.0 r.text; place = r.place; number = r.number; files = r.files }
some_one (ended a) (no_room b c) = absurd (omega arith)
some_one (ended a) (chunks.too_long b c d) = absurd (omega arith)
some_one (ended a) (one_more b c d p x) = absurd (omega arith)
some_one (no_room a b) (ended c) = absurd (omega arith)
some_one (no_room a b) (chunks.too_long c d e) = absurd (omega arith)
some_one (no_room a b) (one_more c d e p x) = absurd (omega arith)
some_one (chunks.too_long a b c) (ended d) = absurd (omega arith)
some_one (chunks.too_long a b c) (no_room d e) = absurd (omega arith)
some_one (chunks.too_long a b c) (one_more d e f p x) = absurd (omega arith)
some_one (one_more a b c p x) (ended d) = absurd (omega arith)
some_one (one_more a b c p x) (no_room d e) = absurd (omega arith)
some_one (one_more a b c p x) (chunks.too_long d e f) = absurd (omega arith)

pub record SameCall (x y : Progress) (g h : Files) (a b : List ℕ) : Type 0 where
  pub answer : x ≡ y
  pub files : g ≡ h
  pub buffer : a ≡ b

progress_one : (x y : Progress) → x.at ≡ y.at → x.number ≡ y.number → x.len ≡ y.len → x ≡ y
progress_one x y a n l =
    ap (λ (i : ℕ). progress i x.number x.len) a ∙ ap (λ (i : ℕ). progress y.at i x.len) n ∙ ap (λ (i : ℕ). progress y.at y.number i) l
  where
    progress : ℕ → ℕ → ℕ → Progress
    progress i j k = record { at = i; number = j; len = k }

pub prints_one : {target : Target} {mode : Mode} {s out a b : List ℕ} {from n : ℕ} {f g h : Files} (x y : Progress)
    → Prints target mode s from n f out x.at x.number x.len g a → Prints target mode s from n f out y.at y.number y.len h b → SameCall x y g h a b
prints_one {target} {mode} {s} {out} x y p q =
    let i = some_one p.some q.some in
    record {
      answer = progress_one x y i.place i.number (p.length_of ∙ ap length i.text ∙ sym q.length_of);
      files = i.files;
      buffer = p.buffer ∙ ap (λ (t : List ℕ). front t out) i.text ∙ sym q.buffer;
    }

-- the text that a call answers the length of stands at the front of its buffer
pub prints_text : {target : Target} {mode : Mode} {s out after : List ℕ} {from n e m len : ℕ} {f g : Files} (p : Prints target mode s from n f out e m len g after) → take len after ≡ p.text
prints_text {out = out} p = rw (p.buffer, p.length_of) (take_at p.text (drop (length p.text) out) (length p.text) refl)

-- ==== what a caller's loop needs

goes_forward : {target : Target} {mode : Mode} {s t : List ℕ} {room from n e m : ℕ} {f g : Files} → SomeLines target mode s room from n f t e m g → from ≤ e
goes_forward (ended a) = omega arith
goes_forward (no_room a b) = omega arith
goes_forward (chunks.too_long a b c) = omega arith
goes_forward {target} {mode} {s} (one_more {from = from} a b c p x) =
    let k = further_on (length s) from (from + length_to line_feed (drop from s)) a (omega arith) in
    omega (arith, goes_forward x)

-- a call with room for a line goes on
pub call_goes_on : {target : Target} {mode : Mode} {s t : List ℕ} {room from n e m : ℕ} {f g : Files} → from < length s → line_room ≤ room → SomeLines target mode s room from n f t e m g → from < e
call_goes_on h r (ended a) = absurd (omega arith)
call_goes_on h r (no_room a b) = absurd (omega arith)
call_goes_on h r (chunks.too_long a b c) = omega arith
call_goes_on {target} {mode} {s} h r (one_more {from = from} a b c p x) =
    let k = further_on (length s) from (from + length_to line_feed (drop from s)) a (omega arith) in
    omega (arith, goes_forward x)

-- so far: calls printed text, and what is called from here on goes behind it
pub record Called (target : Target) (mode : Mode) (s : List ℕ) (f : Files) (from n : ℕ) (g : Files) : Type 0 where
  pub text : List ℕ
  pub rest : {u : List ℕ} {h : Files} → Calls target mode s from n g u h → Calls target mode s 0 1 f (text ++ u) h

pub none_called : (target : Target) (mode : Mode) (s : List ℕ) (f : Files) → Called target mode s f 0 1 f
none_called target mode s f = record { text = []; rest = λ x. x }

pub called : {target : Target} {mode : Mode} {s out after : List ℕ} {from n e m len : ℕ} {f g h : Files} → Called target mode s f from n g → from < length s → line_room ≤ length out
    → Prints target mode s from n g out e m len h after → Called target mode s f e m h
called {target} {mode} {s} {out} c i r p =
    record {
      text = c.text ++ p.text;
      rest = λ {u = u} x. rw (append_assoc c.text p.text u) (c.rest (chunks.more {room = length out} i r p.some x));
    }

-- calls until the listing ends have left the files g, and printed some text
pub record Told (target : Target) (mode : Mode) (s : List ℕ) (f g : Files) : Type 0 where
  pub text : List ℕ
  pub calls : Calls target mode s 0 1 f text g

-- with the registers' text behind it that is the listing's output
pub told_output : {target : Target} {mode : Mode} {s : List ℕ} {g : Files} (a : Told target mode s start_files g) → Output target mode s (a.text ++ registers_text g)
told_output {target} {mode} {s} a = calls_output target mode s a.calls

pub told : {target : Target} {mode : Mode} {s : List ℕ} {from n : ℕ} {f g : Files} → Called target mode s f from n g → length s ≤ from → Told target mode s f g
told {target} {mode} {s} {from} {n} {f} {g} c h = record { text = c.text ++ []; calls = c.rest (chunks.none h) }
