-- What a turn back needs: the line before a place, and what is found in the lines before it. Assumes nothing.
use Rattle.std.specs.Prelude.{ℕ, zero, suc, ◌+◌, ◌-◌, ◌≤◌, ◌<◌, Bool, not, take, drop, get_or, ltb}
use native.Mathlib.Omega.{arith}
use Rattle.std.proofs.Math.Path.{◌≡◌, refl}
use Rattle.std.proofs.Common.{sym, ap, ◌∙◌, length-append, take-suc, take-take, take_at, drop_at, take-add, length-take-le}
use Rattle.std.proofs.Math.Bool.{true, false, cond}
use mathlib.Core.List.{List, [], ◌∷◌, ◌++◌, append_assoc, append-nil}
use Rattle.std.proofs.Math.Option.{Option, none, some}
use Rattle.std.proofs.Math.ListN.{length}
use Rattle.std.proofs.Math.Dec.{eqb}
use borrow.Author.Tests.{eq-eqb, ne_eqb, eqb-true, eqb-false, lt-ltb, le-ltb, not-true, not-false}
use Rattle.signs.specs.Bytes.{line_feed, All}
use Rattle.signs.specs.Bytes as bytes
use Rattle.rules.specs.Reading as reading
use Rattle.lines.specs.Lines.{lines_with, lines_of, WholeLines, no_line}
use Rattle.lines.specs.LineLaws.{widths, no_feed, whole_by_lem, whole_lines, whole_widths, plain_by, one_line, last_line_lem}
use Rattle.last.specs.Last.{later, last_in}
use Rattle.last.specs.Back.{own_answer, own_has, line_end, line_start, part, end_before, start_before, line_before, line_back, goes_on, found_at, last_beyond}

-- ==== what is found in lines and more lines

pub later_none : (x : Option ℕ) → later x none ≡ x
later_none (some d) = refl
later_none none = refl

later_assoc : (x y z : Option ℕ) → later (later x y) z ≡ later x (later y z)
later_assoc (some d) y z = refl
later_assoc none y z = refl

module _ (answer : List ℕ → reading.Answer) (n size : ℕ) where
  pub last_append : (at : ℕ) (xs ys : List (List ℕ))
      → last_in answer n size at (xs ++ ys) ≡ later (last_in answer n size (at + widths xs) ys) (last_in answer n size at xs)
  unfolding last_in
  last_append at [] ys =
      let e : at + 0 ≡ at = omega arith in
      rw (e, later_none)
  last_append at (x ∷ xs) ys =
      let e : at + length x + 1 + widths xs ≡ at + (length x + 1 + widths xs) = omega arith in
      rw (last_append (at + length x + 1) xs ys, later_assoc, e)

-- ==== where a line begins

pub start_zero : (s : List ℕ) (i : ℕ) → i ≤ 0 → line_start s i ≡ 0
unfolding line_start
start_zero s zero h = refl
start_zero s (suc i) h = absurd (omega arith)

pub start_feed : (s : List ℕ) (i : ℕ) → 0 < i → get_or s (i - 1) 0 ≡ line_feed → line_start s i ≡ i
unfolding line_start
start_feed s zero h e = absurd (omega arith)
start_feed s (suc i) h e =
    let k : suc i - 1 ≡ i = omega arith in
    rw (eq-eqb (get_or s i 0) line_feed (rw k at e))

pub start_other : (s : List ℕ) (i : ℕ) → 0 < i → (get_or s (i - 1) 0 ≡ line_feed → ⊥) → line_start s i ≡ line_start s (i - 1)
unfolding line_start
start_other s zero h e = absurd (omega arith)
start_other s (suc i) h e =
    let k : suc i - 1 ≡ i = omega arith in
    rw (k, ne_eqb (get_or s i 0) line_feed (rw k at e))

pub start_in : (s : List ℕ) (e : ℕ) → line_start s e ≤ e
unfolding line_start
start_in s zero = omega arith
start_in s (suc k) = go (eqb (get_or s k 0) line_feed) (start_in s k)
  where
    go : (t : Bool) → line_start s k ≤ k → cond t (suc k) (line_start s k) ≤ suc k
    go true h = omega arith
    go false h = omega arith

pub end_in : (s : List ℕ) (at : ℕ) → line_end s at ≤ at
end_in s at = go (eqb (get_or s (at - 1) 0) line_feed)
  where
    go : (t : Bool) → cond t (at - 1) at ≤ at
    go true = omega arith
    go false = omega arith

-- ==== the bytes up to a place: whole lines, and a line without its line feed

record Split (s : List ℕ) (e : ℕ) : Type 0 where
  before : List ℕ
  line : List ℕ
  both : take e s ≡ before ++ line
  whole : WholeLines before
  plain : All no_feed line
  start : length before ≡ line_start s e

split : (s : List ℕ) (e : ℕ) → e ≤ length s → Split s e
unfolding line_start
split s zero h = record { before = []; line = []; both = refl; whole = no_line; plain = bytes.none; start = refl }
split s (suc k) h = go (eqb (get_or s k 0) line_feed) refl (split s k (omega arith))
  where
    go : (t : Bool) → eqb (get_or s k 0) line_feed ≡ t → Split s k → Split s (suc k)
    go true e x =
        record {
          before = take (suc k) s;
          line = [];
          both = sym (append-nil (take (suc k) s));
          whole = rw (take-suc s k 0 (omega arith)) (whole_by_lem (take k s) (get_or s k 0) (eqb-true (get_or s k 0) line_feed e));
          plain = bytes.none;
          start = rw e (length-take-le (suc k) s h);
        }
    go false e x =
        record {
          before = x.before;
          line = x.line ++ (get_or s k 0 ∷ []);
          both = take-suc s k 0 (omega arith) ∙ rw x.both (append_assoc x.before x.line (get_or s k 0 ∷ []));
          whole = x.whole;
          plain = plain_by x.plain (get_or s k 0) (ap not e);
          start = rw e x.start;
        }

part_at : (s b w : List ℕ) (r m : ℕ) → take (r + m) s ≡ b ++ w → length b ≡ r → r ≤ length s → take m (drop r s) ≡ w
part_at s b w r m h k l =
    sym (drop_at (take r s) (take m (drop r s)) r (length-take-le r s l))
    ∙ ap (drop r) (sym (take-add r m s) ∙ h)
    ∙ drop_at b w r k

module _ {s : List ℕ} {e : ℕ} (h : e ≤ length s) (x : Split s e) where
  sizes : e ≡ line_start s e + length x.line
  sizes = sym (length-take-le e s h) ∙ ap length x.both ∙ length-append x.before x.line ∙ ap (λ (k : ℕ). k + length x.line) x.start

  before_is : take (line_start s e) s ≡ x.before
  before_is =
      sym (take-take (line_start s e) e s (start_in s e))
      ∙ ap (take (line_start s e)) x.both
      ∙ take_at x.before x.line (line_start s e) x.start

  line_is : part s (line_start s e) e ≡ x.line
  line_is =
      let k : line_start s e + (e - line_start s e) ≡ e = omega (arith, start_in s e) in
      part_at s x.before x.line (line_start s e) (e - line_start s e) (ap (λ (i : ℕ). take i s) k ∙ x.both) x.start (omega (arith, start_in s e))

-- ==== a turn back, from a place to where the line before it begins

record Turn (s : List ℕ) (at end : ℕ) : Type 0 where
  further : line_start s end < at
  before : WholeLines (take (line_start s end) s)
  wide : length (take (line_start s end) s) ≡ line_start s end
  lines : lines_of (take at s) ≡ lines_of (take (line_start s end) s) ++ (part s (line_start s end) end ∷ [])

-- the line, with its line feed or without, is what stands behind
turn_by_lem : (s : List ℕ) (at end : ℕ) (h : end ≤ length s) (x : Split s end) (t : List ℕ) → line_start s end < at → take at s ≡ x.before ++ t → lines_of t ≡ x.line ∷ [] → Turn s at end
turn_by_lem s at end h x t f e l =
    record {
      further = f;
      before = rw (before_is h x) x.whole;
      wide = rw (before_is h x) x.start;
      lines = rw (before_is h x, line_is h x) (ap lines_of e ∙ whole_lines x.whole t ∙ ap (λ (y : List (List ℕ)). lines_of x.before ++ y) l);
    }

turn_feed : (s : List ℕ) (k : ℕ) → suc k ≤ length s → get_or s k 0 ≡ line_feed → Turn s (suc k) k
turn_feed s k h e =
    let g : k ≤ length s = omega arith in
    let x = split s k g in
    turn_by_lem s (suc k) k g x (x.line ++ (get_or s k 0 ∷ [])) (omega (arith, start_in s k))
    (take-suc s k 0 h ∙ rw x.both (append_assoc x.before x.line (get_or s k 0 ∷ [])))
    (one_line x.plain (get_or s k 0) e)

turn_other : (s : List ℕ) (k : ℕ) → suc k ≤ length s → (get_or s k 0 ≡ line_feed → ⊥) → Turn s (suc k) (suc k)
turn_other s k h e =
    let x = split s (suc k) h in
    let q : suc k - 1 ≡ k = omega arith in
    let f : line_start s (suc k) < suc k = omega (arith, rw q at (start_other s (suc k) (omega arith) (rw q e)), start_in s k) in
    turn_by_lem s (suc k) (suc k) h x x.line f x.both (last_line_lem x.line x.plain (omega (arith, sizes h x)))

turn : (s : List ℕ) (at : ℕ) → 0 < at → at ≤ length s → Turn s at (line_end s at)
turn s zero i h = absurd (omega arith)
turn s (suc k) i h =
    let e : suc k - 1 ≡ k = omega arith in
    rw e (go (eqb (get_or s k 0) line_feed) refl)
  where
    go : (t : Bool) → eqb (get_or s k 0) line_feed ≡ t → Turn s (suc k) (cond t k (suc k))
    go true e = turn_feed s k h (eqb-true (get_or s k 0) line_feed e)
    go false e = turn_other s k h (eqb-false (get_or s k 0) line_feed e)

-- ==== the reader's turns

none_left : (answer : List ℕ → reading.Answer) (n size : ℕ) (s : List ℕ) (at : ℕ) → at ≡ 0 → last_in answer n size 0 (lines_of (take at s)) ≡ none
unfolding last_in lines_with
none_left answer n size s at h = rw h

module _ (n : ℕ) (s : List ℕ) (gone : ℕ) where
  -- where a line stands before the last `gone` bytes: it, or what is found before it
  module _ (h : 0 < length s - gone) where
    there : Turn s (length s - gone) (end_before s gone)
    there = turn s (length s - gone) h (omega arith)

    found_there : last_beyond s gone n ≡ later (cond (own_has n (line_before s gone)) (some (line_back s gone)) none) (last_beyond s (line_back s gone) n)
    unfolding last_in own_has line_before line_back last_beyond
    found_there =
        let b = lines_of (take (start_before s gone) s) in
        let k : 0 + widths b ≡ start_before s gone = omega (arith, whole_widths there.before, there.wide) in
        let d : length s - (length s - start_before s gone) ≡ start_before s gone = omega (arith, there.further) in
        rw (there.lines, last_append own_answer n (length s) 0 b (part s (start_before s gone) (end_before s gone) ∷ []), k, d)

    further : length s - line_back s gone < length s - gone
    unfolding line_back
    further = omega (arith, there.further)

  -- the reader goes on where there is a line that has not the destination
  record Going : Type 0 where
    there_is : 0 < length s - gone
    has_not : own_has n (line_before s gone) ≡ false

  going : goes_on s gone n ≡ true → Going
  unfolding goes_on
  going h = go (eqb (length s - gone) 0) refl h
    where
      go : (t : Bool) → eqb (length s - gone) 0 ≡ t → cond t false (not (own_has n (line_before s gone))) ≡ true → Going
      go true e k = let z : ◌≡◌ {A = ℕ} 0 1 = cc in absurd (omega arith)
      go false e k = record { there_is = omega (arith, eqb-false (length s - gone) 0 e); has_not = not-true (own_has n (line_before s gone)) k }

  -- what is found before that line is what is found before the place
  pub passed : goes_on s gone n ≡ true → last_beyond s (line_back s gone) n ≡ last_beyond s gone n
  passed h = let g = going h in sym (rw g.has_not at (found_there g.there_is))

  pub nearer : goes_on s gone n ≡ true → length s - line_back s gone < length s - gone
  nearer h = further (going h).there_is

  -- where no line is left
  ended : length s - gone ≡ 0 → last_beyond s gone n ≡ none
  unfolding last_beyond
  ended z = none_left own_answer n (length s) s (length s - gone) z

  -- it stops where there is none, or one that has
  pub stopped : goes_on s gone n ≡ false → found_at s gone ≡ last_beyond s gone n
  unfolding goes_on found_at
  stopped h = go (eqb (length s - gone) 0) refl h
    where
      go : (t : Bool) → eqb (length s - gone) 0 ≡ t → cond t false (not (own_has n (line_before s gone))) ≡ false
          → cond (ltb gone (length s)) (some (line_back s gone)) none ≡ last_beyond s gone n
      go true e k =
          let z : length s - gone ≡ 0 = eqb-true (length s - gone) 0 e in
          rw (le-ltb gone (length s) (omega arith)) (sym (ended z))
      go false e k =
          let q : 0 < length s - gone = omega (arith, eqb-false (length s - gone) 0 e) in
          rw (lt-ltb gone (length s) (omega arith)) (sym (rw (not-false (own_has n (line_before s gone)) k) at (found_there q)))

-- at the front the listing begins
pub back_front : (s : List ℕ) (gone : ℕ) → length s - gone ≡ 0 → length s ≡ line_back s gone
unfolding line_back
back_front s gone h =
    let e : start_before s gone ≡ 0 = start_zero s (end_before s gone) (omega (arith, end_in s (length s - gone))) in
    rw e (omega arith)
