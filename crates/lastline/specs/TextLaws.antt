-- Every word asks for one register or for none, every question has one text, and what the code puts is that. Assumes nothing.
use Rattle.std.specs.Prelude.{◌≡◌, ℕ, suc, ◌+◌, ◌-◌, ◌%◌, ◌^◌, ◌<◌, ◌≤◌, Bool, true, false, cond, List, [], ◌∷◌, ◌++◌, length, take, drop, ◌==◌, slice_index, slice_range, refl, Err, Result}
use Rattle.std.proofs.Common.{mod-eq_of_lt, add-one, arith, sym, ap, ap₂, ◌∙◌, subst, append-nil, length-append, drop_of_length-le, drop-cons, eq-eqb, eqb-true}
use Rattle.std.proofs.Math.Option.{Option, none, some}
use Rattle.signs.specs.Text.{bytes}
use Rattle.signs.specs.Digits.{decimal}
use Rattle.signs.specs.Bytes.{line_feed}
use Rattle.record.specs.Refusals.{Legal}
use Rattle.record.specs.Registers.{reg, word}
use Rattle.record.specs.Registers as files
use Rattle.record.specs.declared.File.TheVariants.{Words, Halves, Doubles, Preds}
use Rattle.record.specs.declared.Record.{Record}
use Rattle.record.specs.declared.Mode.TheVariants.{Ordinary}
use Rattle.record.specs.declared.Target.TheVariants.{Sm30}
use Rattle.rules.specs.Shape.{register_text}
use Rattle.rules.specs.Grammar.{GoodPlace}
use Rattle.rules.specs.Reading.{Answers, read}
use Rattle.rules.specs.Reading as reading
use Rattle.rules.specs.Writing.{front}
use Rattle.laws.specs.LineLengths.{longest_line, standard_length}
use Rattle.text.specs.Buffer.{Buffer, buffer, Puts, ◌then◌, whole_front}
use Rattle.text.specs.DigitLaws.{most_digits, decimal_short}
use Rattle.tree.specs.Seen.{seen_place}
use Rattle.scan.specs.Registers.{register_of}
use Rattle.scan.specs.RegisterLaws.{register_sound, register_complete}
use Rattle.read.specs.Answering.{answers_unique}
use Rattle.lines.specs.Lines.{lines_with, lines_of, Ended, feed, more, WholeLines, no_line, some_lines}
use Rattle.lines.specs.Until.{length_to, before}
use Rattle.lines.specs.LineLaws.{stands_sizes, stands_inside, stands_before, stands_line}
use Rattle.report.specs.Listing.{refused_text}
use Rattle.report.specs.Chunks.{line_text}
use Rattle.report.specs.ChunkLaws.{legal_of}
use Rattle.last.specs.Last.{Answer, distance, none_has, refused_by, last_of}
use Rattle.last.specs.Back.{own_answer}
use Rattle.last.specs.LastLaws.{read_of_full}
use Rattle.last.specs.LastIs.{LastIs, too_long, no_register, nowhere, at_distance}
use Rattle.last.specs.LastIsLaws.{last_is, as_relation, as_reading, one_last}
use Rattle.lastline.specs.LastText.{Asks, for_register, for_none, LineAt, found_text, TextOf, line_found, none_found, refused, Printed, printed}
use Rattle.lastline.specs.Steps.{word_in, asked_by, feed_in, feeds_in, PutsPrinted, answer_room, Lays, no_room, laid}
use Rattle.scan.specs.Registers.{register_got}
use Rattle.tree.specs.declared.Place.{Place}
use Rattle.std.specs.declared.option.Option.{Option as Maybe}
use Rattle.std.specs.declared.option.Option.TheVariants.{Some, None}
use Rattle.read.specs.Paper.{placed}

impossible : {A : Type 0} → ◌≡◌ {A = ℕ} 0 1 → A
impossible z = absurd (omega (arith, z))

-- ==== the word

-- a register's text asks for it
register_asked : (l : List ℕ) (n : ℕ) → GoodPlace (word n) → l ≡ register_text (word n) → asked_by (register_of l) l ≡ some n
register_asked l n g e =
    let q : register_of l ≡ register_got (seen_place (word n)) (length l) =
    ap register_of (e ∙ sym (append-nil (register_text (word n)))) ∙ register_complete (word n) [] g refl ∙ ap (λ (x : List ℕ). register_got (seen_place (word n)) (length x)) (sym e) in
    rw (q, eq-eqb (length l) (length l) refl)

-- and what asks for it is its text
word_of : (n : ℕ) (q : files.Place) (t : Bool) → word_in (seen_place q) t ≡ some n → (q ≡ word n) × (t ≡ true)
word_of n (reg Words v) true e = let z : v ≡ n = cc in (ap (reg Words) z, refl)
word_of n (reg Words v) false e = impossible cc
word_of n (reg Halves v) t e = impossible cc
word_of n (reg Doubles v) t e = impossible cc
word_of n (reg Preds v) t e = impossible cc

nothing_behind : (l w r : List ℕ) → l ≡ w ++ r → length w ≡ length l → l ≡ w
nothing_behind l w [] e h = e ∙ append-nil w
nothing_behind l w (b ∷ r) e h = absurd (omega (arith, ap length e, length-append w (b ∷ r), h))

asked_register : (l : List ℕ) (n : ℕ) → asked_by (register_of l) l ≡ some n → GoodPlace (word n) × (l ≡ register_text (word n))
asked_register l n e = go (register_of l) refl e
  where
    go : (r : Result (Place × ℕ) ℕ) → register_of l ≡ r → asked_by r l ≡ some n → GoodPlace (word n) × (l ≡ register_text (word n))
    go (Err k) q i = impossible cc
    go (register_got p k) q i =
        let x = register_sound l p k q in
        let w = word_of n x.place (k == length l) (rw x.sees i) in
        let h : length (register_text x.place) ≡ length l = sym x.taken ∙ eqb-true k (length l) w.1 in
        (subst GoodPlace w.0 x.good, nothing_behind l (register_text x.place) x.after x.whole h ∙ ap register_text w.0)

pub asks : (l : List ℕ) → Asks l (asked_by (register_of l) l)
asks l = go (asked_by (register_of l) l) refl
  where
    go : (x : Option ℕ) → asked_by (register_of l) l ≡ x → Asks l x
    go (some n) e = let r = asked_register l n e in for_register r.0 r.1
    go none e = for_none (λ n g q. impossible (let z : some n ≡ none = sym (register_asked l n g q) ∙ e in cc))

pub asks_one : {l : List ℕ} {x y : Option ℕ} → Asks l x → Asks l y → x ≡ y
asks_one {l} (for_register {n = n} g e) (for_register {n = m} h f) = sym (register_asked l n g e) ∙ register_asked l m h f
asks_one (for_register {n = n} g e) (for_none h) = absurd (h n g e)
asks_one (for_none h) (for_register {n = n} g e) = absurd (h n g e)
asks_one (for_none h) (for_none k) = refl

-- ==== the line's number

module _ (s : List ℕ) (i n total : ℕ) where
  pub feeds_next : i < length s → n + feeds_in (drop i s) ≡ total → n + feed_in (slice_index s i) + feeds_in (drop (i + 1) s) ≡ total
  unfolding feeds_in
  feeds_next h e =
      let k : feeds_in (drop i s) ≡ feed_in (slice_index s i) + feeds_in (drop (suc i) s) = rw (drop-cons s i 0 h) in
      rw (add-one i) (omega (arith, e, k))

  pub feeds_end : length s ≤ i → n + feeds_in (drop i s) ≡ total → n ≡ total
  unfolding feeds_in
  feeds_end h e = let k : feeds_in (drop i s) ≡ 0 = rw (drop_of_length-le s h) in omega (arith, e, k)

ended_feeds : {p : List ℕ} → Ended p → (l : List ℕ) → length (lines_with l p) ≡ feeds_in p
unfolding lines_with feeds_in
ended_feeds feed l = refl
ended_feeds (more {b = b} {p = p} q) l = go (b == line_feed) (ended_feeds q []) (ended_feeds q (l ++ (b ∷ [])))
  where
    go : (t : Bool) → length (lines_with [] p) ≡ feeds_in p → length (lines_with (l ++ (b ∷ [])) p) ≡ feeds_in p
        → length (cond t (l ∷ lines_with [] p) (lines_with (l ++ (b ∷ [])) p)) ≡ cond t 1 0 + feeds_in p
    go true i j = omega (arith, i)
    go false i j = omega (arith, j)

whole_feeds : {p : List ℕ} → WholeLines p → length (lines_of p) ≡ feeds_in p
unfolding lines_with feeds_in
whole_feeds no_line = refl
whole_feeds (some_lines e) = ended_feeds e []

feeds_le : (s : List ℕ) → feeds_in s ≤ length s
unfolding feeds_in
feeds_le [] = omega arith
feeds_le (b ∷ s) = go (b == line_feed) (feeds_le s)
  where
    go : (t : Bool) → feeds_in s ≤ length s → cond t 1 0 + feeds_in s ≤ suc (length s)
    go true h = omega (arith, h)
    go false h = omega (arith, h)

-- ==== the line that stands at a distance

module _ {s : List ℕ} {d number : ℕ} {m : Record} (x : LineAt s d number m) where
  pub accepted_there : Answers Sm30 Ordinary (before line_feed (drop (length s - d) s)) (read m)
  accepted_there = subst (λ (l : List ℕ). Answers Sm30 Ordinary l (read m)) (stands_line x.stands) x.accepted

  pub legal_there : Legal m
  legal_there = legal_of x.accepted

  -- it is counted by the line feeds before it
  number_feeds : number ≡ feeds_in (take (length s - d) s) + 1
  number_feeds = x.numbered ∙ ap (λ (k : ℕ). k + 1) (whole_feeds x.stands.whole ∙ ap feeds_in (sym (stands_before x.stands)))

  number_small : number ≤ length s
  number_small =
      omega (arith, number_feeds, feeds_le (take (length s - d) s), ap length (stands_before x.stands), stands_sizes x.stands, stands_inside x.stands)

  pub counted_there : length s < 2 ^ 64 → (feeds_in (take (length s - d) s) + 1) % 2 ^ 64 ≡ number
  counted_there h = mod-eq_of_lt (omega (arith, h, number_small, number_feeds)) ∙ sym number_feeds

record_one : {l : List ℕ} {m n : Record} → Answers Sm30 Ordinary l (read m) → Answers Sm30 Ordinary l (read n) → m ≡ n
record_one {l} {m} {n} h k = let e = answers_unique Sm30 Ordinary l (read m) (read n) h k in cc

-- ==== one text for each question

text_one : {s t u : List ℕ} {a : Answer} → TextOf s a t → TextOf s a u → t ≡ u
text_one (line_found x) (line_found y) = ap₂ found_text (number_feeds x ∙ sym (number_feeds y)) (record_one (accepted_there x) (accepted_there y))
text_one none_found none_found = refl
text_one refused refused = refl

pub printed_one : {s t u : List ℕ} {n : ℕ} → Printed s n t → Printed s n u → t ≡ u
printed_one {s} (printed {t = t} h x) (printed {t = u} k y) =
    let e = one_last (as_relation k) (as_relation h) in
    ap (λ (z : List ℕ). z ++ (line_feed ∷ [])) (text_one x (subst (λ (a : Answer). TextOf s a u) e y))

-- and there is one
pub text_there : {s : List ℕ} {n : ℕ} {a : Answer} → LastIs s n a → (t : List ℕ) × TextOf s a t
text_there (too_long i) = (refused_text 22, refused)
text_there (no_register i k) = (refused_text 6, refused)
text_there (nowhere i k z) = (bytes "none", none_found)
text_there (at_distance i k {p = p} {l = l} {ls = ls} y x z) = (
  found_text (length (lines_of p) + 1) x.spelled,
  line_found (record { before_it = p; line = l; behind_it = ls; stands = y; accepted = x.accepted; numbered = refl }),
)

-- it can be computed by the reader's own reading
abbrev found_by : List ℕ → ℕ → reading.Answer → List ℕ
found_by s d (read m) = found_text (feeds_in (take (length s - d) s) + 1) m
found_by s d (reading.refused k) = []
found_by s d (reading.refused_at k p) = []

abbrev text_by : List ℕ → Answer → List ℕ
text_by s (distance d) = found_by s d (own_answer (before line_feed (drop (length s - d) s)))
text_by s none_has = bytes "none"
text_by s (refused_by k) = refused_text k

abbrev pub computed : List ℕ → ℕ → List ℕ
computed s n = text_by s (last_of own_answer s n) ++ (line_feed ∷ [])

text_is : {s t : List ℕ} {a : Answer} → TextOf s a t → t ≡ text_by s a
text_is {s} (line_found {d = d} {m = m} x) =
    let e = answers_unique Sm30 Ordinary (before line_feed (drop (length s - d) s)) (read m) (own_answer (before line_feed (drop (length s - d) s))) (accepted_there x) (read_of_full (before line_feed (drop (length s - d) s))) in
    ap (λ (k : ℕ). found_text k m) (number_feeds x) ∙ ap (found_by s d) e
text_is none_found = refl
text_is refused = refl

-- every question has a text
pub every_question : (s : List ℕ) (n : ℕ) → Printed s n (computed s n)
every_question s n =
    let h = last_is own_answer read_of_full s n in
    let x = text_there h in
    subst (λ (t : List ℕ). Printed s n (t ++ (line_feed ∷ []))) (text_is x.1) (printed (as_reading h) x.1)

-- it has room
refused_short : (k : ℕ) → k < 2 ^ 64 → length (refused_text k) ≤ most_digits + 1 + longest_line
refused_short k h = simp length-append (omega (arith, decimal_short k h))

text_short : {s t : List ℕ} {n : ℕ} {a : Answer} → LastIs s n a → TextOf s a t → length t ≤ most_digits + 1 + longest_line
text_short (too_long i) refused = refused_short 22 (omega arith)
text_short (no_register i k) refused = refused_short 6 (omega arith)
text_short (nowhere i k z) none_found = omega arith
text_short (at_distance i k w x z) (line_found {number = number} {m = m} y) =
    simp length-append (omega (arith, decimal_short number (omega (arith, number_small y, i)), standard_length m (legal_there y)))

pub printed_short : {s t : List ℕ} {n : ℕ} → Printed s n t → length t ≤ answer_room
printed_short (printed {t = t} h x) = omega (arith, length-append t (line_feed ∷ []), text_short (as_relation h) x)

-- ==== no two outcomes of a call

pub lays_one : {s out b c : List ℕ} {n : ℕ} {x y : Option ℕ} → Lays s n out x b → Lays s n out y c → (x ≡ y) × (b ≡ c)
lays_one (no_room h) (no_room k) = (refl, refl)
lays_one (no_room h) (laid k q) = absurd (omega (arith, h, k))
lays_one (laid h p) (no_room k) = absurd (omega (arith, h, k))
lays_one {out = out} (laid h p) (laid k q) = let e = printed_one p q in (ap (λ (t : List ℕ). some (length t)) e, ap (λ (t : List ℕ). front t out) e)

-- ==== what the code puts

pub record_put : (number : ℕ) (r : Record) {x y z w : Buffer} → Puts x (decimal number) y → Puts y (bytes " ") z → Puts z (line_text r) w → Legal r → Puts x (found_text number r) w
record_put number r a b c h = (a then b) then rw h at c

-- the code's numbers: where the line begins and ends, and what number it has
module _ {s : List ℕ} {d number : ℕ} {m : Record} (x : LineAt s d number m) (at end : ℕ) (p : at ≡ length s - d) (q : end ≡ at + length_to line_feed (drop at s)) where
  pub answer_there : {a : reading.Answer} → Answers Sm30 Ordinary (slice_range s at end) a → read m ≡ a
  answer_there {a} h =
      let k : end - at ≡ length_to line_feed (drop at s) = omega (arith, q) in
      answers_unique Sm30 Ordinary (before line_feed (drop (length s - d) s)) (read m) a (accepted_there x) (rw (k, p) at h)

  pub not_refused : {k : ℕ} {A : Type 0} → Answers Sm30 Ordinary (slice_range s at end) (reading.refused k) → A
  not_refused h = impossible (let e = answer_there h in cc)

  pub not_refused_at : {k i : ℕ} {A : Type 0} → Answers Sm30 Ordinary (slice_range s at end) (reading.refused_at k i) → A
  not_refused_at h = impossible (let e = answer_there h in cc)

  -- a refusal, with a place or without
  pub not_placed : (k : ℕ) (p : Maybe ℕ) {A : Type 0} → Answers Sm30 Ordinary (slice_range s at end) (placed k p) → A
  not_placed k None h = not_refused h
  not_placed k (Some i) h = not_refused_at h

  pub found_put : (n : ℕ) → n ≡ (feeds_in (take at s) + 1) % 2 ^ 64 → length s < 2 ^ 64 → {r : Record} {y z : Buffer} → Answers Sm30 Ordinary (slice_range s at end) (read r)
      → (Legal r → Puts y (found_text n r) z) → Puts y (found_text number m) z
  found_put n e h {r} {y} {z} k f =
      let i : m ≡ r = (let j = answer_there k in cc) in
      let j : n ≡ number = (e ∙ ap (λ (w : ℕ). (feeds_in (take w s) + 1) % 2 ^ 64) p) ∙ counted_there x h in
      subst (λ (w : ℕ). Puts y (found_text w m) z) j (subst (λ (w : Record). Puts y (found_text n w) z) (sym i) (f (subst Legal i (legal_there x))))

pub put_by_line : {s t : List ℕ} {d : ℕ} {x y : Buffer} → ((number : ℕ) (m : Record) → LineAt s d number m → Puts x (found_text number m) y) → TextOf s (distance d) t → Puts x t y
put_by_line f (line_found z) = f _ _ z

pub put_by_none : {s t : List ℕ} {x y : Buffer} → Puts x (bytes "none") y → TextOf s none_has t → Puts x t y
put_by_none f none_found = f

pub put_by_number : {s : List ℕ} {k : ℕ} {t : List ℕ} {x y : Buffer} → Puts x (refused_text k) y → TextOf s (refused_by k) t → Puts x t y
put_by_number f refused = f

pub answer_put : {s : List ℕ} {n : ℕ} {a : Answer} {x y z : Buffer} → LastIs s n a → ((t : List ℕ) → TextOf s a t → Puts x t y) → Puts y (line_feed ∷ []) z → PutsPrinted s n x z
answer_put h f p =
    let u = text_there h in
    record { text = u.0 ++ (line_feed ∷ []); prints = printed (as_reading h) u.1; puts = f u.0 u.1 then p }

pub laid_by : {s out ys : List ℕ} {n k : ℕ} → PutsPrinted s n (buffer out 0) (buffer ys k) → answer_room ≤ length out → Lays s n out (some k) ys
laid_by {s} {out} {ys} {n} {k} p h =
    let w = whole_front p.puts (omega (arith, printed_short p.prints, h)) in
    rw (w.0, w.1) (laid h p.prints)
