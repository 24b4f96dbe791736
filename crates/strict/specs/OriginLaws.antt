-- T-09: what it is to be against itself, lane by lane, and what that means for the registers: two digits that there are, of registers that there are,
-- have one origin exactly where they pick the same whatever the registers hold. Assumes nothing.
use Rattle.std.specs.Prelude.{ℕ, zero, suc, ◌+◌, ◌-◌, ◌<◌, ◌≡◌, Bool, true, false, not, ◌&&◌, ◌||◌, cond, get_or, eqb, ltb, ℤ, pos, negsuc}
use Rattle.std.proofs.Math.Nat.{zero-mod, zero-div}
use Rattle.std.proofs.Common.{arith, sym, ap, ap₂, ◌∙◌, eqb-true, eq-eqb, ltb-true, ltb-false, lt-ltb, le-ltb, le-leb}
use Rattle.std.proofs.Math.Path.{refl}
use Rattle.signs.specs.Lists.{tab}
use Rattle.record.specs.Registers.{Files, files, word, r, at, word_count, half_count, double_count, pred_count}
use Rattle.record.specs.declared.LaneWidth.{LaneWidth}
use Rattle.record.specs.declared.Cmp6.{Cmp6}
use Rattle.record.specs.declared.Lanes.{Lanes}
use Rattle.record.specs.declared.Instruction.{Instruction}
use Rattle.record.specs.declared.Instruction.TheVariants.{Arithmetic, Vset, VsetLanes, ArithmeticLanes, Set, Setp, Selp, Slct}
use Rattle.record.specs.declared.Record.{Record}
use Rattle.rules.specs.Numbers.{lane_size, lanes, part_at, joined, bit, eq_z}
use Rattle.rules.specs.Execution.{digit_at, mask_at, numbered}
use Rattle.rules.specs.Executing.{sizes_fit, preds_fit, Admitted}
use Rattle.rules.specs.Strict.{Origin, part_in, origin, same_origin, lane_against_itself, some_of, lanes_against_itself, instruction_against_itself, against_itself}
use Rattle.laws.specs.PlaceLaws.{off}
use Rattle.laws.specs.ExecutionLaws.{part_joined, size_pos, bit_lt}

-- ==== one of the first k

some_there : (k : ℕ) (f : ℕ → Bool) → some_of k f ≡ true → (i : ℕ) × (i < k) × (f i ≡ true)
some_there zero f e = off (sym e)
some_there (suc k) f e = go (f 0) refl e (some_there k (λ i. f (suc i)))
  where
    go : (b : Bool) → f 0 ≡ b → b || some_of k (λ i. f (suc i)) ≡ true → (some_of k (λ i. f (suc i)) ≡ true → (i : ℕ) × (i < k) × (f (suc i) ≡ true)) → (i : ℕ) × (i < suc k) × (f i ≡ true)
    go true h q rest = (0, omega arith, h)
    go false h q rest = let n = rest q in let z = n.1 in (suc n.0, omega arith, n.2)

there_some : (k : ℕ) (f : ℕ → Bool) (i : ℕ) → i < k → f i ≡ true → some_of k f ≡ true
there_some zero f i h e = absurd (omega arith)
there_some (suc k) f zero h e = rw e
there_some (suc k) f (suc i) h e = go (f 0) (there_some k (λ i. f (suc i)) i (omega arith) e)
  where
    go : (b : Bool) → some_of k (λ i. f (suc i)) ≡ true → b || some_of k (λ i. f (suc i)) ≡ true
    go true q = refl
    go false q = q

pub both : (a b : Bool) → a && b ≡ true → (a ≡ true) × (b ≡ true)
both true true e = (refl, refl)
both true false e = off (sym e)
both false b e = off (sym e)

pub not_off : (b : Bool) → not b ≡ false → b ≡ true
not_off true e = refl
not_off false e = off e

pub not_on : (b : Bool) → not b ≡ true → b ≡ false
not_on true e = off (sym e)
not_on false e = refl

-- ==== origins

pub same_one : (x y : Origin) → same_origin x y ≡ true → x ≡ y
same_one x y e =
    let h = both (eqb x.register y.register) (eqb x.part y.part) e in
    ap₂ (λ (n k : ℕ). record { register = n; part = k }) (eqb-true x.register y.register h.0) (eqb-true x.part y.part h.1)

pub one_same : (x y : Origin) → x ≡ y → same_origin x y ≡ true
one_same x y e = rw (eq-eqb x.register y.register (ap (λ (o : Origin). o.register) e), eq-eqb x.part y.part (ap (λ (o : Origin). o.part) e))

-- ==== a record against itself

-- a line of vset2 or vset4, and a lane of it that its mask names, whose two selectors pick the same part of the same register
pub record AgainstItself (x : Record) : Type 0 where
  pub cmp : Cmp6
  pub l : Lanes
  pub vset : x.instruction ≡ VsetLanes cmp l
  pub lane : ℕ
  pub inside : lane < lanes l.width
  pub masked : mask_at l.mask lane ≡ true
  pub same : origin l (digit_at l.asel lane) ≡ origin l (digit_at l.bsel lane)

pub lane_there : (x : Record) → against_itself x ≡ true → AgainstItself x
unfolding lanes_against_itself
lane_there x e = go x.instruction refl e
  where
    go : (i : Instruction) → x.instruction ≡ i → instruction_against_itself i ≡ true → AgainstItself x
    go (VsetLanes cmp l) h q =
        let n = some_there (lanes l.width) (λ i. mask_at l.mask i && lane_against_itself l i) q in
        let b = both (mask_at l.mask n.0) (lane_against_itself l n.0) n.2 in
        record { cmp = cmp; l = l; vset = h; lane = n.0; inside = n.1; masked = b.0; same = same_one (origin l (digit_at l.asel n.0)) (origin l (digit_at l.bsel n.0)) b.1 }
    go (Arithmetic op dtype sat s) h q = off (sym q)
    go (Vset cmp s) h q = off (sym q)
    go (ArithmeticLanes op dtype sat l) h q = off (sym q)
    go (Set dtype d s) h q = off (sym q)
    go (Setp d s) h q = off (sym q)
    go (Selp s c) h q = off (sym q)
    go (Slct ctype s c) h q = off (sym q)

pub there_lane : (x : Record) → AgainstItself x → against_itself x ≡ true
unfolding lanes_against_itself
there_lane x a =
    let l = a.l in
    let i = a.lane in
    rw a.vset
    (there_some (lanes l.width) (λ i. mask_at l.mask i && lane_against_itself l i) i a.inside
    (rw a.masked (one_same (origin l (digit_at l.asel i)) (origin l (digit_at l.bsel i)) a.same)))

-- ==== what stands at an origin

abbrev pub stands_at : LaneWidth → Files → Origin → ℕ
stands_at w f o = part_at (lane_size w) (at f (word o.register)) o.part

-- what a digit picks is what stands at its origin
pub picks : (l : Lanes) (f : Files) (k : ℕ) → numbered l.width (at f (r l.a)) (at f (r l.b)) k ≡ stands_at l.width f (origin l k)
picks l f k = go (ltb k (lanes l.width))
  where
    w : LaneWidth
    w = l.width

    go : (b : Bool) → cond b (part_at (lane_size w) (at f (r l.a)) k) (part_at (lane_size w) (at f (r l.b)) (k - lanes w)) ≡ stands_at w f (cond b (part_in l.a k) (part_in l.b (k - lanes w)))
    go true = refl
    go false = refl

-- the origin of a digit that there is: a register below any bound that a and b are below, and one of its parts
pub origin_inside : (l : Lanes) (n k : ℕ) → l.a.0 < n → l.b.0 < n → k < lanes l.width + lanes l.width → ((origin l k).register < n) × ((origin l k).part < lanes l.width)
origin_inside l n k a b h = go (ltb k (lanes l.width)) refl
  where
    go : (t : Bool) → ltb k (lanes l.width) ≡ t
        → ((cond t (part_in l.a k) (part_in l.b (k - lanes l.width))).register < n) × ((cond t (part_in l.a k) (part_in l.b (k - lanes l.width))).part < lanes l.width)
    go true e = (a, ltb-true k (lanes l.width) e)
    go false e = let z = ltb-false k (lanes l.width) e in (b, omega arith)

-- one register under two names of parts: 0 and 2, 1 and 3 of a form with 2; 0 and 4, .. of a form with 4
pub two_names : (l : Lanes) (k : ℕ) → l.a.0 ≡ l.b.0 → k < lanes l.width → origin l k ≡ origin l (lanes l.width + k)
two_names l k e h =
    let n = lanes l.width in
    let back : n + k - n ≡ k = omega arith in
    rw (lt-ltb k n h, le-ltb (n + k) n (omega arith), back) (ap (λ (m : ℕ). record { register = m; part = k }) e)

at_tab : (n : ℕ) (f : ℕ → ℕ) (i : ℕ) → i < n → get_or (tab n f) i 0 ≡ f i
at_tab zero f i h = absurd (omega arith)
at_tab (suc n) f zero h = refl
at_tab (suc n) f (suc i) h = at_tab n (λ k. f (suc k)) i (omega arith)

no_part : (n i : ℕ) → part_at n 0 i ≡ 0
no_part n zero = zero-mod n
no_part n (suc i) = rw (zero-div n) (no_part n i)

-- two origins, of registers and parts that there are, where the same stands whatever the registers hold are one
module _ (w : LaneWidth) (x y : Origin) (registered : x.register < word_count) (also : y.register < word_count) (parted : x.part < lanes w) (too : y.part < lanes w) where
  -- 1 at x, 0 in each other part of each register
  abbrev marked : ℕ
  marked = joined (lane_size w) (lanes w) (λ i. bit (eqb i x.part))

  abbrev marks : ℕ → ℕ
  marks n = cond (eqb n x.register) marked 0

  abbrev marking : Files
  marking = files (tab word_count marks) (tab half_count (λ i. 0)) (tab double_count (λ i. 0)) (tab pred_count (λ i. 0))

  admitted : Admitted marking
  unfolding sizes_fit preds_fit
  admitted = record { sizes = refl; bits = refl }

  part_of : (k : ℕ) → k < lanes w → part_at (lane_size w) marked k ≡ bit (eqb k x.part)
  part_of k h = part_joined (lane_size w) (lanes w) (λ i. bit (eqb i x.part)) k (size_pos w) (λ i. bit_lt w (eqb i x.part)) h

  at_x : stands_at w marking x ≡ 1
  at_x = rw (at_tab word_count marks x.register registered, eq-eqb x.register x.register refl, part_of x.part parted, eq-eqb x.part x.part refl)

  at_y : stands_at w marking y ≡ bit (same_origin y x)
  at_y = rw (at_tab word_count marks y.register also) (go (eqb y.register x.register))
    where
      go : (b : Bool) → part_at (lane_size w) (cond b marked 0) y.part ≡ bit (b && eqb y.part x.part)
      go true = part_of y.part too
      go false = no_part (lane_size w) y.part

  pub stands_one : ((f : Files) → Admitted f → stands_at w f x ≡ stands_at w f y) → x ≡ y
  stands_one h = go (same_origin y x) refl (sym at_x ∙ h marking admitted ∙ at_y)
    where
      go : (b : Bool) → same_origin y x ≡ b → 1 ≡ bit b → x ≡ y
      go true e q = sym (same_one y x e)
      go false e q = absurd (omega arith)

-- a number equals itself
pub equal_itself : (z : ℤ) → eq_z z z ≡ true
equal_itself (pos n) = rw (le-leb n n (omega arith))
equal_itself (negsuc n) = rw (le-leb n n (omega arith))
