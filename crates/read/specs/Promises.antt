-- Document 01's demand 3, and reading back of demand 2, as laws of the grammar and of `Answers`. Assumes nothing.
use Rattle.std.specs.Prelude.{◌≡◌, Bool, cond, List, [], ◌∷◌, length, ℕ, ◌≤◌}
use Rattle.std.proofs.Math.Path.{refl, subst}
use Rattle.std.proofs.Common.{sym, ap}
use Rattle.std.proofs.Math.Bool.{true, false}
use Rattle.record.specs.Refusals.{Legal}
use Rattle.record.specs.declared.Record.{Record}
use Rattle.record.specs.declared.Target.{Target}
use Rattle.record.specs.declared.Mode.{Mode}
use Rattle.record.specs.declared.Mode.TheVariants.{Ordinary, Strict}
use Rattle.rules.specs.StandardLine.{standard}
use Rattle.laws.specs.StandardTree.{standard_relates}
use Rattle.rules.specs.Targets.{generation, allows, Allowed}
use Rattle.rules.specs.Strict.{against_itself, passes, Readable}
use Rattle.laws.specs.PlaceLaws.{off}
use Rattle.laws.specs.TargetLaws.{disallowed_earlier}
use Rattle.rules.specs.Reading.{Relates, line_limit, Applies, reading_order, FirstOf, this, next, Placed, placeless, Answer, read, refused, refused_at, Answers, accepts, refuses, refuses_at}
use Rattle.signs.specs.Lists.{Listed}
use Rattle.signs.specs.Lists.Listed.{here, later}
use Rattle.read.specs.Answering.{answers, first_of, first_applies, of_first, accepted_none, short_line, placeless_unplaced}
use Rattle.places.specs.PlacedLaws.{placed_within}
use Rattle.read.specs.Mirror.{read_of}
use Rattle.read.specs.Laws.{one_record}
use Rattle.read.specs.Refuses.{Refuses, over_160, no_shape, no_opcode, no_row, no_fit, out_of_file, same_pair, old_target, same_part}

-- a line is accepted exactly when the grammar relates it to a legal record that the target allows and the mode passes
pub accepted_related : (target : Target) (mode : Mode) (l : List ℕ) (m : Record) → Answers target mode l (read m) → Relates l m × Readable target mode m
accepted_related target mode l m (accepts n r h) = (r, h)

pub related_accepted : (target : Target) (mode : Mode) (l : List ℕ) (m : Record) → Relates l m → Readable target mode m → Answers target mode l (read m)
related_accepted target mode l m r h = accepts m r h

-- a line that is not accepted gets the first refusal that applies, with its place
pub refused_first : (target : Target) (mode : Mode) (l : List ℕ) (n : ℕ) → Answers target mode l (refused n) → FirstOf target mode l n reading_order × Listed n placeless
refused_first target mode l n (refuses f i) = (f, i)

pub refused_at_first : (target : Target) (mode : Mode) (l : List ℕ) (n p : ℕ) → Answers target mode l (refused_at n p) → FirstOf target mode l n reading_order × Placed l n p
refused_at_first target mode l n p (refuses_at f i) = (f, i)

pub first_refused : (target : Target) (mode : Mode) (l : List ℕ) (n : ℕ) → FirstOf target mode l n reading_order → Listed n placeless → Answers target mode l (refused n)
first_refused target mode l n f i = refuses f i

pub first_refused_at : (target : Target) (mode : Mode) (l : List ℕ) (n p : ℕ) → FirstOf target mode l n reading_order → Placed l n p → Answers target mode l (refused_at n p)
first_refused_at target mode l n p f i = refuses_at f i

pub accepted_none_applies : (target : Target) (mode : Mode) (l : List ℕ) (m : Record) → Answers target mode l (read m) → (n : ℕ) → Applies target mode l n → ⊥
accepted_none_applies target mode l m (accepts k r h) n e = accepted_none target mode l m r h n e

first_listed : (target : Target) (mode : Mode) (l : List ℕ) (n : ℕ) (ns : List ℕ) → FirstOf target mode l n ns → Listed n ns
first_listed target mode l n [] x' = elim x' [ ]
first_listed target mode l n (k ∷ ns) (this a) = here refl
first_listed target mode l n (k ∷ ns) (next z f) = later (first_listed target mode l n ns f)

pub refused_listed : (target : Target) (mode : Mode) (l : List ℕ) (n : ℕ) → Answers target mode l (refused n) → Listed n reading_order
refused_listed target mode l n (refuses f i) = first_listed target mode l n reading_order f

pub refused_at_listed : (target : Target) (mode : Mode) (l : List ℕ) (n p : ℕ) → Answers target mode l (refused_at n p) → Listed n reading_order
refused_at_listed target mode l n p (refuses_at f i) = first_listed target mode l n reading_order f

-- a place is within the line, which has at most 160 bytes then
pub refused_at_within : (target : Target) (mode : Mode) (l : List ℕ) (n p : ℕ) → Answers target mode l (refused_at n p) → (p ≤ length l) × (length l ≤ line_limit)
refused_at_within target mode l n p (refuses_at f i) = let h = short_line target mode l n p f i in (placed_within l h n p i, h)

-- an answer that refuses, and its number: with a place or without
pub data Refusal : Answer → ℕ → Type 0 where
  plain : {n : ℕ} → Refusal (refused n) n
  placed : {n p : ℕ} → Refusal (refused_at n p) n

-- a line that is refused is related to no legal record that the target allows and the mode passes, and one that is related to none is refused
pub refused_unrelated : (target : Target) (mode : Mode) (l : List ℕ) (a : Answer) (n : ℕ) (m : Record) → Answers target mode l a → Refusal a n → Relates l m → Readable target mode m → ⊥
refused_unrelated target mode l _ n m (accepts _ _ _) x11 q k = elim x11 [ ]
refused_unrelated target mode l a n m (refuses f i) plain q k = accepted_none target mode l m q k n (first_applies target mode l n reading_order f)
refused_unrelated target mode l a n m (refuses_at f i) placed q k = accepted_none target mode l m q k n (first_applies target mode l n reading_order f)

pub unrelated_refused : (target : Target) (mode : Mode) (l : List ℕ) → ((m : Record) → Relates l m → Readable target mode m → ⊥) → (a : Answer) × Answers target mode l a × (n : ℕ) × Refusal a n
unrelated_refused target mode l h = go (read_of target mode l) (answers target mode l)
  where
    go : (a : Answer) → Answers target mode l a → (a : Answer) × Answers target mode l a × (n : ℕ) × Refusal a n
    go (read m) (accepts n r k) = absurd (h m r k)
    go (refused n) (refuses f i) = (refused n, refuses f i, n, plain)
    go (refused_at n p) (refuses_at f i) = (refused_at n p, refuses_at f i, n, placed)

-- every legal record has a line
pub has_line : (m : Record) → Legal m → (l : List ℕ) × Relates l m
has_line m h = (standard m, standard_relates m h)

-- reading the standard line gives the record again, at every target that allows it and in every mode that passes it
pub standard_reads : (target : Target) (mode : Mode) (m : Record) → Readable target mode m → Answers target mode (standard m) (read m)
standard_reads target mode m h = accepts m (standard_relates m h.allowed.legal) h

-- two legal records with equal standard lines are equal
pub standard_one : (m n : Record) → Legal m → Legal n → standard m ≡ standard n → m ≡ n
standard_one m n h k e = one_record (standard n) m n (subst (λ (l : List ℕ). Relates l m) e (standard_relates m h)) (standard_relates n k)

-- two accepted lines, each at a target and in a mode, have equal records exactly when their standard lines are equal
pub same_line : (target other : Target) (mode way : Mode) (l k : List ℕ) (m n : Record) → Answers target mode l (read m) → Answers other way k (read n) → standard m ≡ standard n → m ≡ n
same_line target other mode way l k m n a b e = standard_one m n (accepted_related target mode l m a).1.allowed.legal (accepted_related other way k n b).1.allowed.legal e

pub same_record : (m n : Record) → m ≡ n → standard m ≡ standard n
same_record m n e = ap standard e

-- ==== 12 and 15 of a line

-- 12 goes to the lines that spell a legal record which the target does not allow
pub legal_too_old : (target : Target) (mode : Mode) (l : List ℕ) (m : Record) → Relates l m → Legal m → allows target m ≡ false → Answers target mode l (refused 12)
legal_too_old target mode l m r h a = refuses (first_of target mode l 12 (old_target m r h a)) (later (here refl))

pub too_old_legal : (target : Target) (mode : Mode) (l : List ℕ) → Answers target mode l (refused 12) → (m : Record) × Relates l m × Legal m × (allows target m ≡ false)
too_old_legal target mode l (refuses f i) = go (of_first target mode l 12 f)
  where
    go : Refuses target mode l 12 → (m : Record) × Relates l m × Legal m × (allows target m ≡ false)
    go (old_target m r h a) = (m, r, h, a)

-- 15 to those that spell one which the target allows and the mode does not pass
pub allowed_not_passed : (target : Target) (mode : Mode) (l : List ℕ) (m : Record) → Relates l m → Allowed target m → passes mode m ≡ false → Answers target mode l (refused 15)
allowed_not_passed target mode l m r h b = refuses (first_of target mode l 15 (same_part m r h b)) (later (later (here refl)))

pub not_passed_allowed : (target : Target) (mode : Mode) (l : List ℕ) → Answers target mode l (refused 15) → (m : Record) × Relates l m × Allowed target m × (passes mode m ≡ false)
not_passed_allowed target mode l (refuses f i) = go (of_first target mode l 15 f)
  where
    go : Refuses target mode l 15 → (m : Record) × Relates l m × Allowed target m × (passes mode m ≡ false)
    go (same_part m r h b) = (m, r, h, b)

-- ==== one line at two targets, or in two modes

-- 1 to 7 know neither target nor mode: what is refused at u, in w, is refused with the same number at t, in v, if 12 and 15 are
module _ (t u : Target) (v w : Mode) (l : List ℕ) where
  abbrev Twelve : ℕ → Type 0
  Twelve n = n ≡ 12 → (m : Record) → Relates l m → Legal m → allows u m ≡ false → Refuses t v l n

  abbrev Fifteen : ℕ → Type 0
  Fifteen n = n ≡ 15 → (m : Record) → Relates l m → Allowed u m → passes w m ≡ false → Refuses t v l n

  moved : (n : ℕ) → Twelve n → Fifteen n → Refuses u w l n → Refuses t v l n
  moved n twelve fifteen (over_160 h) = over_160 h
  moved n twelve fifteen (no_shape h k) = no_shape h k
  moved n twelve fifteen (no_opcode h s q k) = no_opcode h s q k
  moved n twelve fifteen (no_row h s q i k) = no_row h s q i k
  moved n twelve fifteen (no_fit h s q i r k) = no_fit h s q i r k
  moved n twelve fifteen (out_of_file h s q m f e) = out_of_file h s q m f e
  moved n twelve fifteen (same_pair h s q m f e k) = same_pair h s q m f e k
  moved n twelve fifteen (old_target m r h a) = twelve refl m r h a
  moved n twelve fifteen (same_part m r h b) = fifteen refl m r h b

  first_moved : (n : ℕ) → Twelve n → Fifteen n → FirstOf u w l n reading_order → FirstOf t v l n reading_order
  first_moved n twelve fifteen f = first_of t v l n (moved n twelve fifteen (of_first u w l n f))

-- what an older target answers, by what a newer one does
abbrev pub older : Target → Answer → Answer
older t (read m) = cond (allows t m) (read m) (refused 12)
older t (refused n) = refused n
older t (refused_at n p) = refused_at n p

-- 15 aside, a line gets from an older target what a newer one gives it, or 12 where it is accepted and the older does not allow its record
module _ (t u : Target) (mode : Mode) (l : List ℕ) (earlier : generation t ≤ generation u) where
  first_earlier : (n : ℕ) → (n ≡ 15 → ⊥) → FirstOf u mode l n reading_order → FirstOf t mode l n reading_order
  first_earlier n z f =
      first_moved t u mode mode l n
      (λ e m r h a. subst (Refuses t mode l) (sym e) (old_target m r h (disallowed_earlier t u m earlier a)))
      (λ e m r h b. absurd (z e)) f

  pub answered_older : (a : Answer) → (a ≡ refused 15 → ⊥) → Answers u mode l a → Answers t mode l (older t a)
  answered_older (read m) z (accepts k r w) = go (allows t m) refl
    where
      go : (b : Bool) → allows t m ≡ b → Answers t mode l (cond b (read m) (refused 12))
      go true e = accepts m r (record { allowed = record { legal = w.allowed.legal; allowed = e }; passed = w.passed })
      go false e = legal_too_old t mode l m r w.allowed.legal e
  answered_older (refused n) z (refuses f i) = refuses (first_earlier n (λ e. z (ap refused e)) f) i
  answered_older (refused_at n p) z (refuses_at f i) = refuses_at (first_earlier n (λ e. placeless_unplaced l n p (later (later (here e))) i) f) i

-- what strict reading answers, by what ordinary reading does
abbrev pub stricter : Answer → Answer
stricter (read m) = cond (against_itself m) (refused 15) (read m)
stricter (refused n) = refused n
stricter (refused_at n p) = refused_at n p

-- a line gets in strict reading what it gets in ordinary reading, or 15 where it is accepted and its record is against itself
module _ (target : Target) (l : List ℕ) where
  first_stricter : (n : ℕ) → FirstOf target Ordinary l n reading_order → FirstOf target Strict l n reading_order
  unfolding passes
  first_stricter n f =
      first_moved target target Strict Ordinary l n (λ e m r h a. subst (Refuses target Strict l) (sym e) (old_target m r h a)) (λ e m r h b. absurd (off b)) f

  pub answered_strictly : (a : Answer) → Answers target Ordinary l a → Answers target Strict l (stricter a)
  unfolding passes
  answered_strictly (read m) (accepts k r w) = go (against_itself m) refl
    where
      go : (b : Bool) → against_itself m ≡ b → Answers target Strict l (cond b (refused 15) (read m))
      go true e = allowed_not_passed target Strict l m r w.allowed (rw e)
      go false e = accepts m r (record { allowed = w.allowed; passed = rw e })
  answered_strictly (refused n) (refuses f i) = refuses (first_stricter n f) i
  answered_strictly (refused_at n p) (refuses_at f i) = refuses_at (first_stricter n f) i
