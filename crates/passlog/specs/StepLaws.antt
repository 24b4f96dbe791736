-- What a turn of the code's loops needs, and how long the texts are. Assumes nothing.
use Rattle.std.specs.Prelude.{◌≡◌, ℕ, zero, suc, ◌+◌, ◌*◌, ◌/◌, ◌%◌, ◌^◌, ◌<◌, ◌≤◌, Bool, true, false, cond, not, List, [], ◌∷◌, ◌++◌, length, take, drop, ◌==◌, nat_lt, slice_index, slice_index_or, Result}
use Rattle.std.proofs.Common.{pow-suc, add-one, arith, ap, subst, ◌∙◌, append_assoc, append-nil, length-append, drop_of_length-le, drop-cons, take-suc}
use Rattle.std.proofs.Math.Decide.{dec_lt}
use Rattle.std.proofs.Math.Path.{refl, sym}
use Rattle.std.proofs.Math.Option.{Option, none, some}
use Rattle.std.proofs.Math.Seq.{take-append_seam}
use borrow.Author.Tests.{ltb-true, lt-ltb, le-ltb}
use Rattle.signs.specs.Text.{bytes}
use Rattle.signs.specs.Digits.{decimal}
use Rattle.signs.specs.Bytes.{line_feed}
use Rattle.rules.specs.Numbers.{word_size}
use Rattle.text.specs.Buffer.{Buffer, buffer, Puts, ◌then◌, same, whole_front}
use Rattle.text.specs.DigitLaws.{one_digit, more_digits, decimal_short, hex_length}
use Rattle.lines.specs.Lines.{listing_limit}
use Rattle.report.specs.Listing.{too_long_text}
use Rattle.report.specs.Chunks.{next_number}
use Rattle.tally.specs.declared.Entry.{Entry}
use Rattle.tally.specs.declared.Read.{Read}
use Rattle.tally.specs.declared.Tally.{Tally}
use Rattle.tally.specs.Votes.{vote_of}
use Rattle.tally.specs.VoteLaws.{vote_le}
use Rattle.tally.specs.Passes.{Answer, counted, duplicate, weak, refused, Outcome, gives, counts, most_tags, washed_count, enough_votes, next_count, standing, is_tally, judged, called}
use Rattle.tally.specs.Lent as lent
use Rattle.tally.specs.PlaceLaws.{entries_taken}
use Rattle.tally.specs.CallLaws.{tally_small}
use Rattle.tally.specs.declared.Passed.{Passed}
use Rattle.refusals.specs.declared.Refusal.{Refusal}
use Rattle.tally.specs.Lent.{no_entry, entries_of, call_of}
use Rattle.passlog.specs.Log.{floor_digits, floor_text, word_digits, read_text, ReadFits, SaysRead, answer_text, line_answer, logged_line, washed_text, entry_text, end_text}
use Rattle.passlog.specs.Spelling.{digit_of, number_from}
use Rattle.passlog.specs.Steps.{read_room, line_at, next_place, PutsAnswer, PutsLine, answer_room, line_room, ended, no_room, too_long, one_line, Logs, entry_room, end_room, end_outcome, printed_bytes, ending}
use Rattle.passlog.specs.Steps as steps

-- ==== a number, digit by digit

module _ (base v : ℕ) (s : List ℕ) (i at : ℕ) where
  pub number_next : i < length s → number_from base v (drop i s) ≡ at → number_from base ((v * base + digit_of (slice_index s i)) % word_size) (drop (i + 1) s) ≡ at
  unfolding number_from
  number_next h e = rw (add-one i) (sym (rw (drop-cons s i 0 h) refl) ∙ e)

  pub number_end : length s ≤ i → number_from base v (drop i s) ≡ at → v ≡ at
  unfolding number_from
  number_end h e = sym (rw (drop_of_length-le s h) refl) ∙ e

-- ==== how long the texts are

pub digits_short : (k n : ℕ) → n < 10 ^ suc k → length (decimal n) ≤ suc k
digits_short zero n h = rw (one_digit n (omega arith)) (omega arith)
digits_short (suc k) n h = go (dec_lt n 10) (digits_short k (n / 10))
  where
    e : 10 ^ suc (suc k) ≡ 10 ^ suc k * 10
    e = pow-suc 10 (suc k)

    go : Dec (n < 10) → (n / 10 < 10 ^ suc k → length (decimal (n / 10)) ≤ suc k) → length (decimal n) ≤ suc (suc k)
    go (yes a) less = rw (one_digit n a) (omega arith)
    go (no a) less =
        let r = less (omega (arith, e)) in
        rw (more_digits n (omega arith)) (simp length-append (omega arith))

-- an answer's number has a digit, a refusal's two
abbrev Short : Outcome → Type 0
Short o = length (answer_text o.answer) ≤ answer_room

one_digit_short : (n : ℕ) → n < 10 → length (decimal n) ≤ 1
one_digit_short n h = digits_short 0 n h

next_short : (c : ℕ) → next_count c < 10
next_short c = go (nat_lt c washed_count) refl
  where
    go : (t : Bool) → nat_lt c washed_count ≡ t → cond t (c + 1) washed_count < 10
    go true h = omega (arith, ltb-true c washed_count h)
    go false h = omega arith

counted_short : (c : ℕ) → c < 10 → length (answer_text (counted c)) ≤ answer_room
counted_short c h = simp length-append (omega (arith, one_digit_short c h))

refused_short : (n : ℕ) → n < 100 → length (answer_text (refused n)) ≤ answer_room
refused_short n h = simp length-append (omega (arith, digits_short 1 n h))

judged_short : (t : Tally) (r : Read) (s : Option Entry) → Short (judged (entries_of t) r s)
judged_short t r none = go (nat_lt (length (entries_of t)) most_tags)
  where
    go : (b : Bool) → Short (cond b (counts (entries_of t) r 1) (gives (refused 20) (entries_of t)))
    go true = counted_short 1 (omega arith)
    go false = refused_short 20 (omega arith)
judged_short t r (some e) = go (r.pass == e.last) (nat_lt r.pass e.last)
  where
    go : (b c : Bool) → Short (cond b (gives duplicate (entries_of t)) (cond c (gives (refused 19) (entries_of t)) (counts (entries_of t) r (next_count e.count))))
    go true c = omega arith
    go false true = refused_short 19 (omega arith)
    go false false = counted_short (next_count e.count) (next_short e.count)

call_short : (floor : ℕ) (t : Tally) (r : Read) → length (answer_text (call_of t r floor).answer) ≤ answer_room
unfolding call_of called
call_short floor t r = go (not (is_tally (entries_of t))) (nat_lt (vote_of floor r) enough_votes)
  where
    go : (b c : Bool) → Short (cond b (gives (refused 23) (entries_of t)) (cond c (gives (weak (vote_of floor r)) (entries_of t)) (judged (entries_of t) r (standing r.tag (entries_of t)))))
    go true c = refused_short 23 (omega arith)
    go false true = simp length-append (omega (arith, one_digit_short (vote_of floor r) (omega (arith, vote_le floor r))))
    go false false = judged_short t r (standing r.tag (entries_of t))

answer_short : (floor : ℕ) (t : Tally) (x : Option Read) → length (line_answer floor t x) ≤ answer_room
answer_short floor t none = omega arith
answer_short floor t (some r) = call_short floor t r

pub line_short : (floor n : ℕ) (t : Tally) (x : Option Read) → n < 2 ^ 64 → length (logged_line floor n t x) ≤ line_room
unfolding logged_line
line_short floor n t x h = simp length-append (omega (arith, decimal_short n h, answer_short floor t x))

pub read_short : (r : Read) → ReadFits r → length (read_text r) ≤ read_room
read_short r f =
    simp length-append
    (omega (arith, digits_short 9 r.tag (omega (arith, f.tag)), digits_short 9 r.pass (omega (arith, f.pass)), hex_length word_digits r.first, hex_length word_digits r.second))

pub floor_short : (x : ℕ) → length (floor_text x) ≤ floor_digits
floor_short x = omega (arith, hex_length floor_digits x)

washed_short : (c : ℕ) → length (washed_text c) ≤ 7
washed_short c = go (c == washed_count)
  where
    go : (t : Bool) → length (cond t (bytes " washed") []) ≤ 7
    go true = omega arith
    go false = omega arith

pub entry_short : (e : Entry) → e.tag < word_size → e.last < word_size → e.count < 256 → length (entry_text e) ≤ entry_room
entry_short e a b c =
    simp length-append
    (omega (arith, digits_short 9 e.tag (omega arith), digits_short 9 e.last (omega arith), digits_short 2 e.count (omega arith), washed_short e.count))

-- ==== a text put at the front of a buffer with room for it

module _ {bs ys p : List ℕ} {n : ℕ} (a : Puts (buffer bs 0) p (buffer ys n)) (room : length p ≤ length bs) where
  pub text_there : take n ys ≡ p
  text_there = let e = whole_front a room in rw (e.0, e.1) (take-append_seam p (drop (length p) bs))

  pub text_inside : n ≤ length ys
  text_inside = let e = whole_front a room in rw (e.0, e.1) (simp length-append (omega arith))

  pub text_count : n ≡ length (take n ys)
  text_count = rw text_there (whole_front a room).0

-- ==== the text of a line

pub said_read : {floor : ℕ} {t g : Tally} {l : List ℕ} {r : Read} {x y : Buffer} (a : Result Passed Refusal)
    → SaysRead l (some r) → lent.outcome (lent.answer_of a) g ≡ call_of t r floor → Puts x (answer_text (lent.answer_of a)) y → PutsAnswer floor t l g x y
said_read {floor} {t} {g} {l} {r} {x} {y} a s e p = record {
  said = some r;
  says = s;
  puts = subst (λ (b : Answer). Puts x (answer_text b) y) (ap (λ (o : lent.Outcome). o.answer) e) p;
  tally = ap (λ (o : lent.Outcome). o.tally) e;
}

pub said_other : {floor : ℕ} {t : Tally} {l : List ℕ} {x y : Buffer} → SaysRead l none → Puts x (bytes "not a read") y → PutsAnswer floor t l t x y
said_other s p = record { said = none; says = s; puts = p; tally = refl }

pub line_put : {floor : ℕ} {t g : Tally} {l : List ℕ} {x y z w v : Buffer} (n : ℕ)
    → Puts x (decimal n) y → Puts y (bytes " ") z → PutsAnswer floor t l g z w → Puts w (line_feed ∷ []) v → PutsLine floor n t l g x v
unfolding logged_line
line_put n a b p d = record { said = p.said; says = p.says; puts = ((a then b) then p.puts) then d; tally = p.tally }

-- ==== one call

module _ {floor from n : ℕ} {s out : List ℕ} {t : Tally} where
  pub none_left : length s ≤ from → Logs floor s from n t out from n 0 t out
  none_left h = record { text = []; step = ended h; length_of = refl; buffer = refl }

  pub no_room_there : from < length s → length out < line_room → Logs floor s from n t out from n 0 t out
  no_room_there h r = record { text = []; step = no_room h r; length_of = refl; buffer = refl }

  pub over_limit : {len : ℕ} {after : List ℕ} → from < length s → line_room ≤ length out → listing_limit < length s → Puts (buffer out 0) too_long_text (buffer after len)
      → Logs floor s from n t out (length s) n len t after
  over_limit h r l p =
      let e = whole_front p (omega arith) in
      record { text = too_long_text; step = too_long h r l; length_of = e.0; buffer = e.1 }

  pub line_logged : {len : ℕ} {g : Tally} {after : List ℕ} → from < length s → line_room ≤ length out → length s ≤ listing_limit → n < 2 ^ 64
      → PutsLine floor n t (line_at s from) g (buffer out 0) (buffer after len) → Logs floor s from n t out (next_place s from) (next_number n) len g after
  line_logged {len} {g} {after} h r l w p =
      let e = whole_front p.puts (omega (arith, line_short floor n t p.said w)) in
      subst (λ (k : Tally). Logs floor s from n t out (next_place s from) (next_number n) len k after) (sym p.tally)
      (record { text = logged_line floor n t p.said; step = one_line h r l p.says; length_of = e.0; buffer = e.1 })

-- ==== the end

end_append : (l : List Entry) (e : Entry) → end_text (l ++ (e ∷ [])) ≡ end_text l ++ entry_text e
end_append [] e = append-nil (entry_text e)
end_append (x ∷ l) e = rw (end_append l e, append_assoc (entry_text x) (end_text l) (entry_text e)) refl

-- so far: the texts of the first i entries are put, and have so much room
pub record Listed (l : List Entry) (start : List ℕ) (i used : ℕ) (out : List ℕ) : Type 0 where
  pub puts : Puts (buffer start 0) (end_text (take i l)) (buffer out used)
  pub short : length (end_text (take i l)) ≤ i * entry_room

pub none_listed : (l : List Entry) (start : List ℕ) → Listed l start 0 0 start
none_listed l start = record { puts = same (buffer start 0); short = omega arith }

pub one_listed : {l : List Entry} {start out ys : List ℕ} {i used m : ℕ} → i < length l → Listed l start i used out
    → Puts (buffer out used) (entry_text (slice_index_or l i no_entry)) (buffer ys m) × (length (entry_text (slice_index_or l i no_entry)) ≤ entry_room) → Listed l start (i + 1) m ys
one_listed {l} {start} {out} {ys} {i} {used} {m} h a p =
    let e : take (i + 1) l ≡ take i l ++ (slice_index_or l i no_entry ∷ []) = rw (add-one i) (take-suc l i no_entry h) in
    let f : end_text (take (i + 1) l) ≡ end_text (take i l) ++ entry_text (slice_index_or l i no_entry) = ap end_text e ∙ end_append (take i l) (slice_index_or l i no_entry) in
    record {
      puts = rw f (a.puts then p.0);
      short = rw (f, length-append (end_text (take i l)) (entry_text (slice_index_or l i no_entry))) (omega (arith, a.short, p.1));
    }

module _ (t : Tally) (full : length t.entries ≡ most_tags) (out : List ℕ) where
  pub end_23 : is_tally (entries_of t) ≡ false → end_outcome (steps.refused 23) out ≡ ending t out
  unfolding ending
  end_23 h = rw h refl

  module _ (ok : is_tally (entries_of t) ≡ true) where
    pub end_no_room : length out < end_room → end_outcome steps.no_buffer out ≡ ending t out
    unfolding ending
    end_no_room h = rw (ok, lt-ltb (length out) end_room h) refl

    pub end_printed : {used : ℕ} {ys : List ℕ} → end_room ≤ length out → Listed t.entries out t.len used ys → end_outcome (printed_bytes used) ys ≡ ending t out
    unfolding ending
    end_printed {used} {ys} h a =
        let small = tally_small t full ok in
        let taken : entries_of t ≡ take t.len t.entries = entries_taken t full small in
        let e = whole_front a.puts (omega (arith, a.short, small)) in
        rw (ok, le-ltb (length out) end_room h, taken, e.0, e.1) refl
