-- How a listing divides into lines: its first line, whole lines before others, one line more. Assumes nothing.
use Prim.Native.Nat.{ℕ, suc, ◌+◌, ◌-◌, ◌≤◌, ◌<◌}
use Rattle.std.proofs.Common.{add-one, sym, ap, ◌∙◌, append_assoc, append-nil, length-append, length-drop, drop_of_length-le, drop-drop, drop-cons, take_at, drop_at}
use native.Mathlib.Omega.{arith}
use Rattle.std.specs.Prelude.{◌≡◌, refl, Bool, true, false, not, cond, List, [], ◌∷◌, ◌++◌, eqb, length, take, drop, get_or}
use Rattle.std.proofs.Math.Seq.{append_snoc}
use borrow.Author.Tests.{eq-eqb, ne_eqb, eqb-true, not-true}
use Rattle.signs.specs.Bytes.{line_feed, All}
use Rattle.signs.specs.Bytes as bytes
use Rattle.lines.specs.Lines.{last_line, lines_with, lines_of, Ended, feed, more, WholeLines, no_line, some_lines, Stands}
use Rattle.lines.specs.Until.{length_to, before, behind}

-- ==== where a byte stands

module _ (b : ℕ) (s : List ℕ) (i at : ℕ) where
  pub to_end : length s ≤ i → i + length_to b (drop i s) ≡ at → i ≡ at
  unfolding length_to
  to_end h e = let k : length_to b (drop i s) ≡ 0 = rw (drop_of_length-le s h) in omega arith

  pub to_here : i < length s → get_or s i 0 ≡ b → i + length_to b (drop i s) ≡ at → i ≡ at
  unfolding length_to
  to_here h q e = let k : length_to b (drop i s) ≡ 0 = rw (drop-cons s i 0 h, eq-eqb (get_or s i 0) b q) in omega arith

  pub to_next : i < length s → (get_or s i 0 ≡ b → ⊥) → i + length_to b (drop i s) ≡ at → i + 1 + length_to b (drop (i + 1) s) ≡ at
  unfolding length_to
  to_next h q e =
      let k : length_to b (drop i s) ≡ suc (length_to b (drop (suc i) s)) = rw (drop-cons s i 0 h, ne_eqb (get_or s i 0) b q) in
      rw (add-one i) (omega arith)

-- ==== the first line

line_with : (l s : List ℕ) → 0 < length (l ++ s) → lines_with l s ≡ (l ++ before line_feed s) ∷ lines_of (behind line_feed s)
unfolding lines_with length_to
line_with [] [] h = absurd (omega arith)
line_with (b ∷ l) [] h = ap (λ (x : List ℕ). x ∷ []) (sym (append-nil (b ∷ l)))
line_with l (b ∷ s) h = go (eqb b line_feed) (line_with (l ++ (b ∷ [])) s (simp length-append (omega arith)))
  where
    go : (t : Bool) → lines_with (l ++ (b ∷ [])) s ≡ (l ++ (b ∷ []) ++ before line_feed s) ∷ lines_of (behind line_feed s)
        → cond t (l ∷ lines_with [] s) (lines_with (l ++ (b ∷ [])) s)
        ≡ (l ++ take (cond t 0 (suc (length_to line_feed s))) (b ∷ s)) ∷ lines_of (drop (suc (cond t 0 (suc (length_to line_feed s)))) (b ∷ s))
    go true e = ap (λ (x : List ℕ). x ∷ lines_of s) (sym (append-nil l))
    go false e = e ∙ ap (λ (x : List ℕ). x ∷ lines_of (behind line_feed s)) (append_snoc l b (before line_feed s))

-- from a place on: the line that begins there, and the lines from behind its line feed on
pub first_line : (s : List ℕ) (from : ℕ) → from < length s
    → lines_of (drop from s) ≡ before line_feed (drop from s) ∷ lines_of (drop (from + length_to line_feed (drop from s) + 1) s)
first_line s from h =
    let e : from + suc (length_to line_feed (drop from s)) ≡ from + length_to line_feed (drop from s) + 1 = omega arith in
    line_with [] (drop from s) (omega (arith, length-drop from s))
    ∙ ap (λ (x : List ℕ). before line_feed (drop from s) ∷ lines_of x) (drop-drop (suc (length_to line_feed (drop from s))) from s ∙ ap (λ (k : ℕ). drop k s) e)

pub no_lines : (s : List ℕ) (from : ℕ) → length s ≤ from → lines_of (drop from s) ≡ []
unfolding lines_with
no_lines s from h = rw (drop_of_length-le s h)

-- ==== whole lines before others

ended_lines : {p : List ℕ} → Ended p → (l t : List ℕ) → lines_with l (p ++ t) ≡ lines_with l p ++ lines_of t
unfolding lines_with
ended_lines feed l t = refl
ended_lines (more {b = b} {p = p} q) l t = go (eqb b line_feed) (ended_lines q [] t) (ended_lines q (l ++ (b ∷ [])) t)
  where
    go : (x : Bool) → lines_with [] (p ++ t) ≡ lines_with [] p ++ lines_of t
        → lines_with (l ++ (b ∷ [])) (p ++ t) ≡ lines_with (l ++ (b ∷ [])) p ++ lines_of t
        → cond x (l ∷ lines_with [] (p ++ t)) (lines_with (l ++ (b ∷ [])) (p ++ t)) ≡ cond x (l ∷ lines_with [] p) (lines_with (l ++ (b ∷ [])) p) ++ lines_of t
    go true i j = ap (◌∷◌ l) i
    go false i j = j

pub whole_lines : {p : List ℕ} → WholeLines p → (t : List ℕ) → lines_of (p ++ t) ≡ lines_of p ++ lines_of t
unfolding lines_with
whole_lines no_line t = refl
whole_lines (some_lines e) t = ended_lines e [] t

-- a line feed behind anything makes whole lines of it
ended_by : (q : List ℕ) → Ended (q ++ (line_feed ∷ []))
ended_by [] = feed
ended_by (b ∷ q) = more (ended_by q)

pub whole_by_lem : (q : List ℕ) (b : ℕ) → b ≡ line_feed → WholeLines (q ++ (b ∷ []))
whole_by_lem q b e = rw e (some_lines (ended_by q))

-- ==== how many bytes whole lines take: each has a line feed

abbrev pub widths : List (List ℕ) → ℕ
widths [] = 0
widths (l ∷ ls) = length l + 1 + widths ls

ended_widths : {p : List ℕ} → Ended p → (l : List ℕ) → widths (lines_with l p) ≡ length l + length p
unfolding lines_with
ended_widths feed l = omega arith
ended_widths (more {b = b} {p = p} q) l = go (eqb b line_feed) (ended_widths q []) (ended_widths q (l ++ (b ∷ [])))
  where
    go : (x : Bool) → widths (lines_with [] p) ≡ 0 + length p → widths (lines_with (l ++ (b ∷ [])) p) ≡ length (l ++ (b ∷ [])) + length p
        → widths (cond x (l ∷ lines_with [] p) (lines_with (l ++ (b ∷ [])) p)) ≡ length l + length (b ∷ p)
    go true i j = omega (arith, i)
    go false i j = omega (arith, j, length-append l (b ∷ []))

pub whole_widths : {p : List ℕ} → WholeLines p → widths (lines_of p) ≡ length p
unfolding lines_with
whole_widths no_line = refl
whole_widths (some_lines e) = omega (arith, ended_widths e [])

-- ==== one line

-- no byte of it is a line feed
abbrev pub no_feed : ℕ → Bool
no_feed b = not (eqb b line_feed)

pub plain_by : {w : List ℕ} → All no_feed w → (b : ℕ) → no_feed b ≡ true → All no_feed (w ++ (b ∷ []))
plain_by bytes.none b h = bytes.more h bytes.none
plain_by (bytes.more k p) b h = bytes.more k (plain_by p b h)

plain_line : {w : List ℕ} → All no_feed w → (l : List ℕ) → lines_with l (w ++ (line_feed ∷ [])) ≡ (l ++ w) ∷ []
unfolding lines_with
plain_line bytes.none l = rw (append-nil l)
plain_line (bytes.more {b = c} {w = w} h p) l =
    rw (not-true (eqb c line_feed) h) (plain_line p (l ++ (c ∷ [])) ∙ ap (λ (x : List ℕ). x ∷ []) (append_assoc l (c ∷ []) w))

pub one_line : {w : List ℕ} → All no_feed w → (b : ℕ) → b ≡ line_feed → lines_of (w ++ (b ∷ [])) ≡ w ∷ []
one_line p b e = rw e (plain_line p [])

plain_last : {w : List ℕ} → All no_feed w → (l : List ℕ) → lines_with l w ≡ last_line (l ++ w)
unfolding lines_with
plain_last bytes.none l = ap last_line (sym (append-nil l))
plain_last (bytes.more {b = c} {w = w} h p) l =
    rw (not-true (eqb c line_feed) h) (plain_last p (l ++ (c ∷ [])) ∙ ap last_line (append_assoc l (c ∷ []) w))

-- a last one without a line feed
pub last_line_lem : (w : List ℕ) → All no_feed w → 0 < length w → lines_of w ≡ w ∷ []
last_line_lem [] p h = absurd (omega arith)
last_line_lem (b ∷ w) p h = plain_last p []

-- ==== where a line stands

pub whole_append : {p q : List ℕ} → WholeLines p → WholeLines q → WholeLines (p ++ q)
whole_append no_line w = w
whole_append {p} {q} (some_lines e) no_line = rw (append-nil p) (some_lines e)
whole_append (some_lines e) (some_lines f) = some_lines (behind_ended e f)
  where
    behind_ended : {p q : List ℕ} → Ended p → Ended q → Ended (p ++ q)
    behind_ended feed f = more f
    behind_ended (more e) f = more (behind_ended e f)

-- a line with lines behind it ended at a line feed
record Cut (acc s x : List ℕ) (zs : List (List ℕ)) : Type 0 where
  line : List ℕ
  rest : List ℕ
  whole : s ≡ line ++ (line_feed ∷ rest)
  is : acc ++ line ≡ x
  behind_it : lines_of rest ≡ zs

cut : (acc s x : List ℕ) (zs : List (List ℕ)) → 0 < length zs → lines_with acc s ≡ x ∷ zs → Cut acc s x zs
unfolding lines_with
cut [] [] x zs h e = let z : ◌≡◌ {A = ℕ} 0 1 = cc in absurd (omega arith)
cut (b ∷ l) [] x zs h e =
    let z : [] ≡ zs = cc in
    absurd (omega (arith, ap length z))
cut acc (b ∷ s) x zs h e = go (eqb b line_feed) refl e (cut (acc ++ (b ∷ [])) s x zs h)
  where
    go : (t : Bool) → eqb b line_feed ≡ t → cond t (acc ∷ lines_with [] s) (lines_with (acc ++ (b ∷ [])) s) ≡ x ∷ zs
        → (lines_with (acc ++ (b ∷ [])) s ≡ x ∷ zs → Cut (acc ++ (b ∷ [])) s x zs) → Cut acc (b ∷ s) x zs
    go true q j k =
        let f : b ≡ line_feed = eqb-true b line_feed q in
        record { line = []; rest = s; whole = ap (λ (y : ℕ). y ∷ s) f; is = append-nil acc ∙ cc; behind_it = cc }
    go false q j k =
        let c = k j in
        record { line = b ∷ c.line; rest = c.rest; whole = ap (◌∷◌ b) c.whole; is = sym (append_assoc acc (b ∷ []) c.line) ∙ c.is; behind_it = c.behind_it }

-- whole lines, and behind them a listing that begins with the line
record Parted (s : List ℕ) (xs zs : List (List ℕ)) : Type 0 where
  before_it : List ℕ
  from_it : List ℕ
  both : s ≡ before_it ++ from_it
  whole : WholeLines before_it
  lines : lines_of from_it ≡ zs
  wide : length before_it ≡ widths xs

parted : (xs : List (List ℕ)) (s : List ℕ) (zs : List (List ℕ)) → 0 < length zs → lines_of s ≡ xs ++ zs → Parted s xs zs
parted [] s zs h e = record { before_it = []; from_it = s; both = refl; whole = no_line; lines = e; wide = refl }
parted (x ∷ xs) s zs h e =
    let c = cut [] s x (xs ++ zs) (rw (length-append xs zs) (omega arith)) e in
    let f = parted xs c.rest zs h c.behind_it in
    record {
      before_it = (c.line ++ (line_feed ∷ [])) ++ f.before_it;
      from_it = f.from_it;
      both =
          c.whole
          ∙ ap (λ (y : List ℕ). c.line ++ (line_feed ∷ y)) f.both
          ∙ sym (append_assoc c.line (line_feed ∷ []) (f.before_it ++ f.from_it))
          ∙ sym (append_assoc (c.line ++ (line_feed ∷ [])) f.before_it f.from_it);
      whole = whole_append (whole_by_lem c.line line_feed refl) f.whole;
      lines = f.lines;
      wide = length-append (c.line ++ (line_feed ∷ [])) f.before_it ∙ omega (arith, f.wide, length-append c.line (line_feed ∷ []), ap length c.is);
    }

-- each line of a listing stands somewhere in it
pub standing : (xs : List (List ℕ)) (s l : List ℕ) (ys : List (List ℕ)) → lines_of s ≡ xs ++ (l ∷ ys) → (p : List ℕ) × Stands s (length s - widths xs) p l ys
standing xs s l ys e =
    let f = parted xs s (l ∷ ys) (omega arith) e in
    let u = ap length f.both ∙ length-append f.before_it f.from_it in
    (f.before_it, record { from_it = f.from_it; both = f.both; whole = f.whole; lines = f.lines; far = omega (arith, u, f.wide) })

some_byte : (t l : List ℕ) (ls : List (List ℕ)) → lines_of t ≡ l ∷ ls → 0 < length t
unfolding lines_with
some_byte [] l ls e = let z : ◌≡◌ {A = ℕ} 0 1 = cc in absurd (omega arith)
some_byte (b ∷ t) l ls e = omega arith

-- where it stands the listing divides
module _ {s : List ℕ} {d : ℕ} {p l : List ℕ} {ls : List (List ℕ)} (x : Stands s d p l ls) where
  pub stands_sizes : length s ≡ length p + d
  stands_sizes = ap length x.both ∙ length-append p x.from_it ∙ ap (λ (k : ℕ). length p + k) x.far

  pub stands_inside : length s - d < length s
  stands_inside = omega (arith, stands_sizes, x.far, some_byte x.from_it l ls x.lines)

  pub stands_before : take (length s - d) s ≡ p
  stands_before = ap (take (length s - d)) x.both ∙ take_at p x.from_it (length s - d) (omega (arith, stands_sizes))

  pub stands_from : drop (length s - d) s ≡ x.from_it
  stands_from = ap (drop (length s - d)) x.both ∙ drop_at p x.from_it (length s - d) (omega (arith, stands_sizes))

  -- it is what stands there up to a line feed
  pub stands_line : l ≡ before line_feed (drop (length s - d) s)
  stands_line = let e = sym x.lines ∙ ap lines_of (sym stands_from) ∙ first_line s (length s - d) stands_inside in cc

  -- it stands there behind any other whole lines
  pub stands_behind : {r : List ℕ} → WholeLines r → Stands (r ++ x.from_it) d r l ls
  stands_behind w = record { from_it = x.from_it; both = refl; whole = w; lines = x.lines; far = x.far }
