-- Change request T-09, "No byte against itself", for someone who reads strictly: what strict reading refuses, and what it leaves as it is. Laws of `against_itself` and `origin`
-- (crates/rules/specs/Strict.antt), and of `Answers`, which `read` of src/lib.rt promises in each mode. Assumes nothing.
use Rattle.std.specs.Prelude.{ℕ, ◌+◌, ◌<◌, ◌≡◌, refl, Bool, true, false, ◌&&◌, List, [], ◌∷◌, ◌++◌}
use Rattle.std.proofs.Common.{sym, ap, subst, ◌∙◌, ltb-true}
use Rattle.std.proofs.Math.Bool.{and-eq-true_iff}
use Rattle.signs.specs.Lists.{Listed}
use Rattle.signs.specs.Lists.Listed.{here, later}
use Rattle.record.specs.Registers.{Files, r, at, word_count}
use Rattle.record.specs.Operands.{mask_fits, digits_fit, lanes_fit, instruction_operands_fit}
use Rattle.record.specs.Refusals.{lanes_in_range, instruction_in_range, Legal}
use Rattle.record.specs.declared.Mode.{Mode}
use Rattle.record.specs.declared.Mode.TheVariants.{Ordinary, Strict}
use Rattle.record.specs.declared.Target.{Target}
use Rattle.record.specs.declared.Target.TheVariants.{Sm10, Sm13, Sm20, Sm30}
use Rattle.record.specs.declared.Cmp6.{Cmp6}
use Rattle.record.specs.declared.Cmp6.TheVariants.{Eq}
use Rattle.record.specs.declared.VideoType.{VideoType}
use Rattle.record.specs.declared.Word.{Word}
use Rattle.record.specs.declared.Digits.{Digits}
use Rattle.record.specs.declared.Lanes.{Lanes}
use Rattle.record.specs.declared.Guard.{Guard}
use Rattle.record.specs.declared.Instruction.TheVariants.{VsetLanes}
use Rattle.record.specs.declared.Record.{Record}
use Rattle.rules.specs.Numbers.{lanes, holds_z}
use Rattle.rules.specs.Execution.{digit_at, numbered, lane_number, lane_holds}
use Rattle.rules.specs.Executing.{Admitted}
use Rattle.rules.specs.Targets.{allows, Allowed}
use Rattle.rules.specs.Strict.{origin, lanes_against_itself, against_itself, passes}
use Rattle.rules.specs.StandardLine.{standard}
use Rattle.rules.specs.Reading.{Relates, Applies, too_long, shapeless, unknown, rowless, unfit, outside, equal, too_old, against_self, reading_order, FirstOf, this, next, Placed, placeless, Answer, read, refused, refused_at, Answers, accepts, refuses, refuses_at}
use Rattle.laws.specs.PlaceLaws as places
use Rattle.laws.specs.PlaceLaws.{off}
use Rattle.laws.specs.LaneLaws.{digit_named}
use Rattle.strict.specs.OriginLaws as origins
use Rattle.strict.specs.OriginLaws.{AgainstItself, stands_at}
use Rattle.read.specs.Answering as answering
use Rattle.read.specs.Promises as promises
use Rattle.read.specs.Promises.{stricter}

-- ==== what is against itself

-- any vset2 or vset4 line where a masked lane's two selectors pick the same part of the same register, and no other
pub lane_there : (x : Record) → against_itself x ≡ true → AgainstItself x
lane_there x e = origins.lane_there x e

pub there_lane : (x : Record) → AgainstItself x → against_itself x ≡ true
there_lane x a = origins.there_lane x a

-- (no other line: T-01's arithmetic is not touched)
pub only_vset : (x : Record) → ((cmp : Cmp6) (l : Lanes) → x.instruction ≡ VsetLanes cmp l → ⊥) → against_itself x ≡ false
only_vset x h = go (against_itself x) refl
  where
    go : (b : Bool) → against_itself x ≡ b → b ≡ false
    go true e = let a = origins.lane_there x e in absurd (h a.cmp a.l a.vset)
    go false e = refl

-- Types don't matter; nor do guard, comparison, `add`, d and c
abbrev pub vset_line : Guard → Cmp6 → VideoType → VideoType → Bool → Word → Word → Lanes → Record
vset_line g cmp t u add d c l = record {
  guard = g;
  instruction = VsetLanes cmp (record {
    width = l.width;
    atype = t;
    btype = u;
    add = add;
    d = d;
    mask = l.mask;
    a = l.a;
    asel = l.asel;
    b = l.b;
    bsel = l.bsel;
    c = c;
  });
}

pub others_no_matter : (g h : Guard) (cmp e : Cmp6) (t u v w : VideoType) (add plus : Bool) (d c x y : Word) (l : Lanes) → against_itself (vset_line g cmp t u add d c l) ≡ against_itself (vset_line h e v w plus x y l)
unfolding lanes_against_itself
others_no_matter g h cmp e t u v w add plus d c x y l = refl

-- also when a and b are one register under two names of parts
pub two_names : (l : Lanes) (k : ℕ) → l.a.0 ≡ l.b.0 → k < lanes l.width → origin l k ≡ origin l (lanes l.width + k)
two_names l k e h = origins.two_names l k e h

-- ==== what that means: a lane's two selectors have one origin exactly where they pick the same, whatever the registers hold

module _ (l : Lanes) (i : ℕ) where
  -- the part that a selector picks for lane i
  abbrev pub picked_part : Files → Digits → ℕ
  picked_part f s = numbered l.width (at f (r l.a)) (at f (r l.b)) (digit_at s i)

  -- the same part of the same register
  abbrev pub OneOrigin : Type 0
  OneOrigin = origin l (digit_at l.asel i) ≡ origin l (digit_at l.bsel i)

  pub one_picks : OneOrigin → (f : Files) → picked_part f l.asel ≡ picked_part f l.bsel
  one_picks e f = origins.picks l f (digit_at l.asel i) ∙ ap (stands_at l.width f) e ∙ sym (origins.picks l f (digit_at l.bsel i))

  -- so that, with one type on both sides, `eq` holds there in all registers: an antenna compared with itself and counted as agreement
  pub always_equal : OneOrigin → l.atype ≡ l.btype → (f : Files) → lane_holds Eq l (at f (r l.a)) (at f (r l.b)) i ≡ true
  unfolding lane_holds holds_z
  always_equal e t f = rw (one_picks e f, t) (origins.equal_itself (lane_number l.width l.btype l.bsel (at f (r l.a)) (at f (r l.b)) i))

-- and, of a legal record, the other way
module _ (x : Record) (legal : Legal x) (cmp : Cmp6) (l : Lanes) (is : x.instruction ≡ VsetLanes cmp l) (i : ℕ) (inside : i < lanes l.width) where
  numbers : lanes_in_range l ≡ true
  numbers = let k = simp and-eq-true_iff at (places.legal_parts x legal).2 in ap instruction_in_range (sym is) ∙ k.1

  fits : lanes_fit l ≡ true
  fits = ap instruction_operands_fit (sym is) ∙ (places.legal_parts x legal).1

  there : (s : Digits) → digits_fit l.width s ≡ true → ((origin l (digit_at s i)).register < word_count) × ((origin l (digit_at s i)).part < lanes l.width)
  there s e =
      let k = simp and-eq-true_iff at numbers in
      origins.origin_inside l word_count (digit_at s i) (ltb-true l.a.0 word_count k.0.0.1) (ltb-true l.b.0 word_count k.0.1) (digit_named l.width s e i inside)

  pub picks_one : ((f : Files) → Admitted f → picked_part l i f l.asel ≡ picked_part l i f l.bsel) → OneOrigin l i
  picks_one h =
      let k = origins.both (mask_fits l.width l.mask && digits_fit l.width l.asel) (digits_fit l.width l.bsel) fits in
      let a = there l.asel (origins.both (mask_fits l.width l.mask) (digits_fit l.width l.asel) k.0).1 in
      let b = there l.bsel k.1 in
      origins.stands_one l.width (origin l (digit_at l.asel i)) (origin l (digit_at l.bsel i)) a.0 b.0 a.1 b.1
      (λ f e. sym (origins.picks l f (digit_at l.asel i)) ∙ h f e ∙ origins.picks l f (digit_at l.bsel i))

-- ==== strict reading: 15, without a place, after 12

-- a line gets 15 exactly where it spells a legal record that the target allows and that is against itself, in strict reading
pub against_itself_read : (target : Target) (l : List ℕ) (x : Record) → Relates l x → Allowed target x → against_itself x ≡ true → Answers target Strict l (refused 15)
unfolding passes
against_itself_read target l x q h e = promises.allowed_not_passed target Strict l x q h (rw e)

pub read_against_itself : (target : Target) (mode : Mode) (l : List ℕ) → Answers target mode l (refused 15) → (mode ≡ Strict) × (x : Record) × Relates l x × Allowed target x × (against_itself x ≡ true)
unfolding passes
read_against_itself target Ordinary l a = let k = promises.not_passed_allowed target Ordinary l a in off k.3
read_against_itself target Strict l a = let k = promises.not_passed_allowed target Strict l a in (refl, k.0, k.1, k.2, origins.not_off (against_itself k.0) k.3)

-- it accepts a line exactly where the grammar relates it to a legal record that the target allows and that is not against itself
pub strict_accepts : (target : Target) (l : List ℕ) (x : Record) → Relates l x → Allowed target x → against_itself x ≡ false → Answers target Strict l (read x)
unfolding passes
strict_accepts target l x q h e = accepts x q (record { allowed = h; passed = rw e })

pub strict_accepted : (target : Target) (l : List ℕ) (x : Record) → Answers target Strict l (read x) → Relates l x × Allowed target x × (against_itself x ≡ false)
unfolding passes
strict_accepted target l x (accepts m q h) = (q, h.allowed, origins.not_on (against_itself x) h.passed)

-- the standard line of such a record reads back
pub strict_reads_back : (target : Target) (x : Record) → Allowed target x → against_itself x ≡ false → Answers target Strict (standard x) (read x)
unfolding passes
strict_reads_back target x h e = promises.standard_reads target Strict x (record { allowed = h; passed = rw e })

-- it gives a line what ordinary reading gives it, or 15 where that accepts it and its record is against itself
pub strict_answers : (target : Target) (l : List ℕ) (a : Answer) → Answers target Ordinary l a → Answers target Strict l (stricter a)
strict_answers target l a h = promises.answered_strictly target l a h

-- it accepts nothing that ordinary reading does not, and with the same record
pub strict_then_ordinary : (target : Target) (l : List ℕ) (x : Record) → Answers target Strict l (read x) → Answers target Ordinary l (read x)
unfolding passes
strict_then_ordinary target l x (accepts m q h) = accepts x q (record { allowed = h.allowed; passed = refl })

-- ==== ordinary reading answers as before

-- a line is accepted exactly where the grammar relates it to a legal record that the target allows
pub ordinary_accepts : (target : Target) (l : List ℕ) (x : Record) → Relates l x → Allowed target x → Answers target Ordinary l (read x)
unfolding passes
ordinary_accepts target l x q h = accepts x q (record { allowed = h; passed = refl })

pub ordinary_accepted : (target : Target) (l : List ℕ) (x : Record) → Answers target Ordinary l (read x) → Relates l x × Allowed target x
ordinary_accepted target l x (accepts m q h) = (q, h.allowed)

-- 15 does not apply to any line, so that the order of refusals is the one before, 1 to 7 and 12
pub ordinary_without_15 : (target : Target) (l : List ℕ) → Applies target Ordinary l 15 → ⊥
unfolding passes
ordinary_without_15 target l (against_self x q e) = off e

abbrev pub order_before : List ℕ
order_before = 1 ∷ 2 ∷ 3 ∷ 4 ∷ 5 ∷ 6 ∷ 7 ∷ 12 ∷ []

module _ (target : Target) (l : List ℕ) where
  longer : (n : ℕ) (ns : List ℕ) → FirstOf target Ordinary l n ns → FirstOf target Ordinary l n (ns ++ (15 ∷ []))
  longer n [] x' = elim x' [ ]
  longer n (k ∷ ns) (this a) = this a
  longer n (k ∷ ns) (next z f) = next z (longer n ns f)

  shorter : (n : ℕ) (ns : List ℕ) → FirstOf target Ordinary l n (ns ++ (15 ∷ [])) → FirstOf target Ordinary l n ns
  shorter n [] (next z f) = elim f [ ]
  shorter n [] (this a) = absurd (ordinary_without_15 target l a)
  shorter n (k ∷ ns) (this a) = this a
  shorter n (k ∷ ns) (next z f) = next z (shorter n ns f)

  pub before_first : (n : ℕ) → FirstOf target Ordinary l n order_before → FirstOf target Ordinary l n reading_order
  before_first n f = longer n order_before f

  pub first_before : (n : ℕ) → FirstOf target Ordinary l n reading_order → FirstOf target Ordinary l n order_before
  first_before n f = shorter n order_before f

-- so a line that is refused gets the number that it got, with the place or without
abbrev pub placeless_before : List ℕ
placeless_before = 1 ∷ 12 ∷ []

pub ordinary_refused : (target : Target) (l : List ℕ) (n : ℕ) → Answers target Ordinary l (refused n) → FirstOf target Ordinary l n order_before × Listed n placeless_before
ordinary_refused target l n (refuses f i) = (first_before target l n f, go i)
  where
    go : Listed n placeless → Listed n placeless_before
    go (here e) = here e
    go (later (here e)) = later (here e)
    go (later (later (later x10))) = elim x10 [ ]
    go (later (later (here e))) = absurd (ordinary_without_15 target l (subst (Applies target Ordinary l) e (answering.first_applies target Ordinary l n reading_order f)))

pub refused_ordinary : (target : Target) (l : List ℕ) (n : ℕ) → FirstOf target Ordinary l n order_before → Listed n placeless_before → Answers target Ordinary l (refused n)
refused_ordinary target l n f i = refuses (before_first target l n f) (go i)
  where
    go : Listed n placeless_before → Listed n placeless
    go (here e) = here e
    go (later (later x6)) = elim x6 [ ]
    go (later (here e)) = later (here e)

pub ordinary_refused_at : (target : Target) (l : List ℕ) (n q : ℕ) → Answers target Ordinary l (refused_at n q) → FirstOf target Ordinary l n order_before × Placed l n q
ordinary_refused_at target l n q (refuses_at f i) = (first_before target l n f, i)

pub refused_at_ordinary : (target : Target) (l : List ℕ) (n q : ℕ) → FirstOf target Ordinary l n order_before → Placed l n q → Answers target Ordinary l (refused_at n q)
refused_at_ordinary target l n q f i = refuses_at (before_first target l n f) i

-- and each number of that order applies to a line in one mode where it does in the other
pub applies_alike : (target : Target) (mode way : Mode) (l : List ℕ) (n : ℕ) → (n ≡ 15 → ⊥) → Applies target mode l n → Applies target way l n
applies_alike target mode way l n z (too_long h) = too_long h
applies_alike target mode way l n z (shapeless h) = shapeless h
applies_alike target mode way l n z (unknown t s h) = unknown t s h
applies_alike target mode way l n z (rowless t s h) = rowless t s h
applies_alike target mode way l n z (unfit t s i w h) = unfit t s i w h
applies_alike target mode way l n z (outside t s k q a b) = outside t s k q a b
applies_alike target mode way l n z (equal t s k a) = equal t s k a
applies_alike target mode way l n z (too_old x q a) = too_old x q a
applies_alike target mode way l n z (against_self x q e) = absurd (z refl)

-- ==== 15 and the targets: only sm_30 allows a line that is against itself, so each older target gives it 12

not_allowed : (target : Target) (x : Record) → AgainstItself x → (target ≡ Sm30 → ⊥) → allows target x ≡ false
unfolding allows
not_allowed Sm10 x a z = rw a.vset
not_allowed Sm13 x a z = rw a.vset
not_allowed Sm20 x a z = rw a.vset
not_allowed Sm30 x a z = absurd (z refl)

pub older_gives_12 : (target : Target) (mode : Mode) (l : List ℕ) → (target ≡ Sm30 → ⊥) → Answers Sm30 mode l (refused 15) → Answers target mode l (refused 12)
older_gives_12 target mode l z a =
    let k = read_against_itself Sm30 mode l a in
    promises.legal_too_old target mode l k.1 k.2 k.3.legal (not_allowed target k.1 (origins.lane_there k.1 k.4) z)

pub older_without_15 : (target : Target) (mode : Mode) (l : List ℕ) → (target ≡ Sm30 → ⊥) → Answers target mode l (refused 15) → ⊥
older_without_15 target mode l z a =
    let k = read_against_itself target mode l a in
    off (sym k.3.allowed ∙ not_allowed target k.1 (origins.lane_there k.1 k.4) z)
