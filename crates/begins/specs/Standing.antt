-- What stands in a line at each start: the pieces of BytePlaces.antt are where the line has their texts. Assumes nothing.
use Rattle.std.specs.Prelude.{ℕ, zero, suc, ◌+◌, ◌≤◌, ◌<◌, ◌≡◌, refl, Bool, true, false, List, [], ◌∷◌, ◌++◌, map, length, get_or}
use Rattle.std.proofs.Common.{arith, sym, ap, subst, ◌∙◌, append_assoc, append-nil, length-append}
use Rattle.signs.specs.Text.{bytes}
use Rattle.signs.specs.Lists.{Listed}
use Rattle.signs.specs.Lists.Listed.{here as listed_here, later as listed-later}
use Rattle.record.specs.declared.File.TheVariants.{Words, Halves, Doubles, Preds}
use Rattle.record.specs.Registers.{Place, reg, Inside, number_of, file_size}
use Rattle.rules.specs.Shape.{Name, dotted, head_text, register_text, Spot, at, nothing, spot_text, OperandTree, inverted, pair, bare, part, operand_text, guard_text}
use Rattle.rules.specs.Grammar.{LineTree, GuardTree, unguarded, guarded, guard_tree_text, Divided, divided_text, line_text, names_of, operands_of, Shaped}
use Rattle.rules.specs.BytePlaces.{guard_start, head_start, name_start, operands_start, to_next_operand, operand_start, Register, after, spot_registers, operand_registers, operands_registers, guard_registers, registers_of, FirstOutside, here, later}

-- the text s stands in the line at byte p
pub record Stands (l : List ℕ) (p : ℕ) (s : List ℕ) : Type 0 where
  pub before : List ℕ
  pub behind : List ℕ
  pub start : length before ≡ p
  pub text : before ++ (s ++ behind) ≡ l

-- in a longer text it stands further on
inside : (a b : List ℕ) {s t : List ℕ} {p : ℕ} → Stands s p t → Stands (a ++ (s ++ b)) (length a + p) t
inside a b {s} {t} {p} x = record {
  before = a ++ x.before;
  behind = x.behind ++ b;
  start = length-append a x.before ∙ ap (λ (n : ℕ). length a + n) x.start;
  text = simp append_assoc (ap (λ (v : List ℕ). a ++ v) (simp append_assoc at (ap (λ (v : List ℕ). v ++ b) x.text)));
}

moved : {l m : List ℕ} {p q : ℕ} {s : List ℕ} → l ≡ m → p ≡ q → Stands l p s → Stands m q s
moved {l} {m} {p} {q} {s} e f x = record { before = x.before; behind = x.behind; start = x.start ∙ f; text = x.text ∙ e }

-- a text stands at its own start, and before what follows it
whole : (s : List ℕ) → Stands s 0 s
whole s = record { before = []; behind = []; start = refl; text = append-nil s }

front : (s b : List ℕ) → Stands (s ++ b) 0 s
front s b = record { before = []; behind = b; start = refl; text = refl }

back : (a s : List ℕ) → Stands (a ++ s) (length a) s
back a s = record { before = a; behind = []; start = refl; text = ap (λ (v : List ℕ). a ++ v) (append-nil s) }

then : (b : List ℕ) {s t : List ℕ} {p : ℕ} → Stands s p t → Stands (s ++ b) p t
then b {s} {t} {p} x = moved refl (omega arith) (inside [] b x)

past : (a : List ℕ) {s t : List ℕ} {p : ℕ} → Stands s p t → Stands (a ++ s) (length a + p) t
past a {s} {t} {p} x = moved (ap (λ (v : List ℕ). a ++ v) (append-nil s)) refl (inside a [] x)

-- ==== names

name_stands : (ns : List Name) (k : ℕ) → k < length ns → Stands (head_text ns) (name_start ns k) (get_or ns k [])
name_stands [] k h = elim h [ ]
name_stands (n ∷ ns) zero h = front n (dotted ns)
name_stands (n ∷ []) (suc k) h = absurd (omega arith)
name_stands (n ∷ m ∷ ns) (suc k) h =
    moved (append_assoc n (bytes ".") (head_text (m ∷ ns))) refl (past (n ++ bytes ".") (name_stands (m ∷ ns) k (omega arith)))

pub names_end : (ns : List Name) → name_start ns (length ns) ≡ length (head_text ns)
names_end [] = refl
names_end (n ∷ []) = ap length (sym (append-nil n))
names_end (n ∷ m ∷ ns) =
    ap (λ (k : ℕ). length (n ++ bytes ".") + k) (names_end (m ∷ ns))
    ∙ sym (length-append (n ++ bytes ".") (head_text (m ∷ ns)))
    ∙ ap length (append_assoc n (bytes ".") (head_text (m ∷ ns)))

-- ==== operands

abbrev operands_text : OperandTree → List Divided → List ℕ
operands_text o ds = operand_text o ++ divided_text ds

abbrev operands_in : OperandTree → List Divided → List OperandTree
operands_in o ds = o ∷ map (λ (d : Divided). d.operand) ds

-- the first operand with the comma behind it, and the rest
divided : (o : OperandTree) (d : Divided) (ds : List Divided) → (operand_text o ++ d.before ++ bytes "," ++ d.after) ++ operands_text d.operand ds ≡ operands_text o (d ∷ ds)
divided o d ds = simp append_assoc

operand_stands : (o : OperandTree) (ds : List Divided) (k : ℕ) → k < length (operands_in o ds) → Stands (operands_text o ds) (operand_start o ds k) (operand_text (get_or (operands_in o ds) k o))
operand_stands o ds zero h = front (operand_text o) (divided_text ds)
operand_stands o [] (suc k) h = absurd (omega arith)
operand_stands o (d ∷ ds) (suc k) h =
    moved (divided o d ds) refl (past (operand_text o ++ d.before ++ bytes "," ++ d.after) (subst (λ (x : OperandTree). Stands (operands_text d.operand ds) (operand_start d.operand ds k) (operand_text x)) (same (operands_in d.operand ds) k (omega arith)) (operand_stands d.operand ds k (omega arith))))
  where
    same : (l : List OperandTree) (k : ℕ) → k < length l → get_or l k d.operand ≡ get_or l k o
    same [] k i = absurd (omega arith)
    same (x ∷ l) zero i = refl
    same (x ∷ l) (suc k) i = same l k (omega arith)

pub operands_end : (o : OperandTree) (ds : List Divided) → operand_start o ds (length (operands_in o ds)) ≡ length (operands_text o ds)
operands_end o [] = ap length (sym (append-nil (operand_text o)))
operands_end o (d ∷ ds) =
    ap (λ (k : ℕ). to_next_operand o d + k) (operands_end d.operand ds)
    ∙ sym (length-append (operand_text o ++ d.before ++ bytes "," ++ d.after) (operands_text d.operand ds))
    ∙ ap length (divided o d ds)

-- ==== registers

-- each register of a list stands where the list says
pub data EachStands (l : List ℕ) : List Register → Type 0 where
  none : EachStands l []
  more : {n : ℕ} {q : Place} {rs : List Register} → Stands l n (register_text q) → EachStands l rs → EachStands l ((n, q) ∷ rs)

each_inside : (a b : List ℕ) {s : List ℕ} {rs : List Register} → EachStands s rs → EachStands (a ++ (s ++ b)) (after (length a) rs)
each_inside a b none = none
each_inside a b (more x xs) = more (inside a b x) (each_inside a b xs)

each_then : (b : List ℕ) {s : List ℕ} {rs : List Register} → EachStands s rs → EachStands (s ++ b) rs
each_then b none = none
each_then b (more x xs) = more (then b x) (each_then b xs)

each_past : (a : List ℕ) {s : List ℕ} {rs : List Register} → EachStands s rs → EachStands (a ++ s) (after (length a) rs)
each_past a none = none
each_past a (more x xs) = more (past a x) (each_past a xs)

each_append : {l : List ℕ} {rs ss : List Register} → EachStands l rs → EachStands l ss → EachStands l (rs ++ ss)
each_append none y = y
each_append (more x xs) y = more x (each_append xs y)

one : (q : Place) → EachStands (register_text q) ((0, q) ∷ [])
one q = more (whole (register_text q)) none

spot_each : (u : Spot) → EachStands (spot_text u) (spot_registers u)
spot_each (at q) = one q
spot_each nothing = none

operand_each : (o : OperandTree) → EachStands (operand_text o) (operand_registers o)
operand_each (inverted q) = each_past (bytes "!") (one q)
operand_each (pair u v) = each_append (each_then (spot_text v) (each_then (bytes "|") (spot_each u))) (each_past (spot_text u ++ bytes "|") (spot_each v))
operand_each (bare q) = one q
operand_each (part q n) = each_then n (each_then (bytes ".") (one q))

operands_each : (o : OperandTree) (ds : List Divided) → EachStands (operands_text o ds) (operands_registers o ds)
operands_each o [] = each_then [] (operand_each o)
operands_each o (d ∷ ds) =
    each_append (each_then (divided_text (d ∷ ds)) (operand_each o))
    (subst (λ (l : List ℕ). EachStands l (after (to_next_operand o d) (operands_registers d.operand ds))) (divided o d ds)
    (each_past (operand_text o ++ d.before ++ bytes "," ++ d.after) (operands_each d.operand ds)))

guard_each : (g : GuardTree) → EachStands (guard_tree_text g) (guard_registers g)
guard_each unguarded = none
guard_each (guarded true q b) = each_then b (each_past (bytes "@!") (one q))
guard_each (guarded false q b) = each_then b (each_past (bytes "@") (one q))

-- ==== their places rise

-- the places of a list rise from n on, and stay below m
abbrev Rising : ℕ → ℕ → List Register → Type 0
Rising m n [] = n ≤ m
Rising m n (x ∷ rs) = (n ≤ x.0) × Rising m (suc x.0) rs

rising_from : (rs : List Register) (m n k : ℕ) → k ≤ n → Rising m n rs → Rising m k rs
rising_from [] m n k h x = omega arith
rising_from (r ∷ rs) m n k h x = (omega (arith, x.0), x.1)

rising_to : (rs : List Register) (m l n : ℕ) → m ≤ l → Rising m n rs → Rising l n rs
rising_to [] m l n h x = omega arith
rising_to (r ∷ rs) m l n h x = (x.0, rising_to rs m l (suc r.0) h x.1)

rising_append : (rs ss : List Register) (m n l : ℕ) → Rising m n rs → Rising l m ss → Rising l n (rs ++ ss)
rising_append [] ss m n l x y = rising_from ss l m n x y
rising_append (r ∷ rs) ss m n l x y = (x.0, rising_append rs ss m (suc r.0) l x.1 y)

rising_after : (a : ℕ) (rs : List Register) (m n : ℕ) → Rising m n rs → Rising (a + m) (a + n) (after a rs)
rising_after a [] m n x = omega arith
rising_after a (r ∷ rs) m n x = (omega (arith, x.0), rising_from (after a rs) (a + m) (a + suc r.0) (suc (a + r.0)) (omega arith) (rising_after a rs m (suc r.0) x.1))

-- a text with its registers, moved on by a and followed by others
within : (a : ℕ) (rs : List Register) (m k : ℕ) → a + m ≤ k → Rising m 0 rs → Rising k a (after a rs)
within a rs m k h x = rising_to (after a rs) (a + m) k a h (rising_from (after a rs) (a + m) (a + 0) a (omega arith) (rising_after a rs m 0 x))

some_text : (q : Place) → 0 < length (register_text q)
some_text (reg Words n) = omega arith
some_text (reg Halves n) = omega arith
some_text (reg Doubles n) = omega arith
some_text (reg Preds n) = omega arith

one_rising : (q : Place) → Rising (length (register_text q)) 0 ((0, q) ∷ [])
one_rising q = (omega arith, some_text q)

spot_rising : (u : Spot) → Rising (length (spot_text u)) 0 (spot_registers u)
spot_rising (at q) = one_rising q
spot_rising nothing = omega arith

operand_rising : (o : OperandTree) → Rising (length (operand_text o)) 0 (operand_registers o)
operand_rising (inverted q) =
    rising_from (after 1 ((0, q) ∷ [])) (suc (length (register_text q))) 1 0 (omega arith)
    (within 1 ((0, q) ∷ []) (length (register_text q)) (suc (length (register_text q))) (omega arith) (one_rising q))
operand_rising (pair u v) =
    let s : List ℕ = spot_text u ++ bytes "|" in
    let e : length (s ++ spot_text v) ≡ length s + length (spot_text v) = length-append s (spot_text v) in
    rising_append (spot_registers u) (after (length s) (spot_registers v)) (length s) 0 (length (s ++ spot_text v))
    (rising_to (spot_registers u) (length (spot_text u)) (length s) 0 (omega (arith, length-append (spot_text u) (bytes "|"))) (spot_rising u))
    (within (length s) (spot_registers v) (length (spot_text v)) (length (s ++ spot_text v)) (omega arith) (spot_rising v))
operand_rising (bare q) = one_rising q
operand_rising (part q n) =
    rising_to ((0, q) ∷ []) (length (register_text q)) (length (register_text q ++ bytes "." ++ n)) 0
    (omega (arith, length-append (register_text q ++ bytes ".") n, length-append (register_text q) (bytes "."))) (one_rising q)

operands_rising : (o : OperandTree) (ds : List Divided) → Rising (length (operands_text o ds)) 0 (operands_registers o ds)
operands_rising o [] = rising_to (operand_registers o) (length (operand_text o)) (length (operands_text o [])) 0 (omega (arith, length-append (operand_text o) [])) (operand_rising o)
operands_rising o (d ∷ ds) =
    let s : List ℕ = operand_text o ++ d.before ++ bytes "," ++ d.after in
    let t : List ℕ = operands_text d.operand ds in
    let n : length (operands_text o (d ∷ ds)) ≡ length s + length t = ap length (sym (divided o d ds)) ∙ length-append s t in
    let k : length s ≡ length (operand_text o) + (length d.before + 1 + length d.after) = simp length-append (omega arith) in
    rising_append (operand_registers o) (after (length s) (operands_registers d.operand ds)) (length s) 0 (length (operands_text o (d ∷ ds)))
    (rising_to (operand_registers o) (length (operand_text o)) (length s) 0 (omega arith) (operand_rising o))
    (within (length s) (operands_registers d.operand ds) (length t) (length (operands_text o (d ∷ ds))) (omega arith) (operands_rising d.operand ds))

guard_rising : (g : GuardTree) → Rising (length (guard_tree_text g)) 0 (guard_registers g)
guard_rising unguarded = omega arith
guard_rising (guarded true q b) =
    rising_from (after 2 ((0, q) ∷ [])) (length ((bytes "@!" ++ register_text q) ++ b)) 2 0 (omega arith)
    (within 2 ((0, q) ∷ []) (length (register_text q)) (length ((bytes "@!" ++ register_text q) ++ b)) (omega (arith, length-append (bytes "@!" ++ register_text q) b)) (one_rising q))
guard_rising (guarded false q b) =
    rising_from (after 1 ((0, q) ∷ [])) (length ((bytes "@" ++ register_text q) ++ b)) 1 0 (omega arith)
    (within 1 ((0, q) ∷ []) (length (register_text q)) (length ((bytes "@" ++ register_text q) ++ b)) (omega (arith, length-append (bytes "@" ++ register_text q) b)) (one_rising q))

line_rising : (t : LineTree) → Rising (operands_start t + length (operands_text t.first t.others)) 0 (registers_of t)
line_rising t =
    let g : ℕ = guard_start t in
    let s : ℕ = operands_start t in
    let os = operands_registers t.first t.others in
    let m : ℕ = length (operands_text t.first t.others) in
    rising_append (after g (guard_registers t.guard)) (after s os) s 0 (s + m)
    (rising_from (after g (guard_registers t.guard)) s g 0 (omega arith) (within g (guard_registers t.guard) (length (guard_tree_text t.guard)) s (omega arith) (guard_rising t.guard)))
    (within s os m (s + m) (omega arith) (operands_rising t.first t.others))

-- ==== the line

abbrev behind_operands : LineTree → List ℕ
behind_operands t = t.ending ++ bytes ";" ++ t.behind

abbrev behind_guard : LineTree → List ℕ
behind_guard t = head_text (names_of t) ++ t.gap ++ operands_text t.first t.others ++ behind_operands t

abbrev before_operands : LineTree → List ℕ
before_operands t = t.before ++ guard_tree_text t.guard ++ head_text (names_of t) ++ t.gap

line_guard : (t : LineTree) → t.before ++ (guard_tree_text t.guard ++ behind_guard t) ≡ line_text t
line_guard t = simp append_assoc

line_head : (t : LineTree) → (t.before ++ guard_tree_text t.guard) ++ (head_text (names_of t) ++ (t.gap ++ operands_text t.first t.others ++ behind_operands t)) ≡ line_text t
line_head t = simp append_assoc

line_operands : (t : LineTree) → before_operands t ++ (operands_text t.first t.others ++ behind_operands t) ≡ line_text t
line_operands t = simp append_assoc

before_operands_lem : (t : LineTree) → length (before_operands t) ≡ operands_start t
before_operands_lem t = simp length-append (omega arith)

before_operands_0 : (t : LineTree) → length (before_operands t) + 0 ≡ operands_start t
before_operands_0 t = omega (arith, before_operands_lem t)

module _ (l : List ℕ) (t : LineTree) (shaped : Shaped l t) where
  -- the guard, with its `@`
  pub guard_at_lem : (negated : Bool) (q : Place) (b : List ℕ) → t.guard ≡ guarded negated q b → Stands l (guard_start t) (guard_text negated q)
  guard_at_lem n q b e =
      moved (ap (λ (g : GuardTree). t.before ++ (guard_tree_text g ++ behind_guard t)) (sym e) ∙ line_guard t ∙ shaped.text) (omega arith)
      (inside t.before (behind_guard t) (front (guard_text n q) b))

  -- the k-th name of the head
  pub name_at_lem : (k : ℕ) → k < length (names_of t) → Stands l (head_start t + name_start (names_of t) k) (get_or (names_of t) k [])
  name_at_lem k h =
      moved (line_head t ∙ shaped.text) (ap (λ (n : ℕ). n + name_start (names_of t) k) (length-append t.before (guard_tree_text t.guard)))
      (inside (t.before ++ guard_tree_text t.guard) (t.gap ++ operands_text t.first t.others ++ behind_operands t) (name_stands (names_of t) k h))

  -- the k-th operand
  pub operand_at : (k : ℕ) → k < length (operands_of t) → Stands l (operands_start t + operand_start t.first t.others k) (operand_text (get_or (operands_of t) k t.first))
  operand_at k h =
      moved (line_operands t ∙ shaped.text) (ap (λ (n : ℕ). n + operand_start t.first t.others k) (before_operands_lem t))
      (inside (before_operands t) (behind_operands t) (operand_stands t.first t.others k h))

  -- the registers
  pub registers_at : EachStands l (registers_of t)
  registers_at =
      subst (λ (k : List ℕ). EachStands k (registers_of t)) shaped.text
      (each_append
      (subst (λ (k : List ℕ). EachStands k (after (guard_start t) (guard_registers t.guard))) (line_guard t) (each_inside t.before (behind_guard t) (guard_each t.guard)))
      (subst (λ (k : List ℕ). EachStands k (after (operands_start t) (operands_registers t.first t.others))) (line_operands t)
      (subst (λ (n : ℕ). EachStands (before_operands t ++ (operands_text t.first t.others ++ behind_operands t)) (after n (operands_registers t.first t.others))) (before_operands_lem t)
      (each_inside (before_operands t) (behind_operands t) (operands_each t.first t.others)))))

  -- the first register outside its file
  pub outside_at : (p : ℕ) → FirstOutside (registers_of t) p → (q : Place) × (file_size q ≤ number_of q) × Stands l p (register_text q)
  outside_at p o = go registers_at o
    where
      go : {rs : List Register} → EachStands l rs → FirstOutside rs p → (q : Place) × (file_size q ≤ number_of q) × Stands l p (register_text q)
      go none x3 = elim x3 [ ]
      go (more {q = q} x xs) (here h) = (q, h, x)
      go (more x xs) (later i o) = go xs o

  -- every register that stands before it is in its file
  pub before_outside : (p : ℕ) → FirstOutside (registers_of t) p → (n : ℕ) (q : Place) → Listed (n, q) (registers_of t) → n < p → Inside q
  before_outside p o n q h i = go (registers_of t) _ 0 (line_rising t) o h
    where
      not_below : (rs : List Register) (m k : ℕ) → Rising m k rs → Listed (n, q) rs → k ≤ n
      not_below [] m k x x3 = elim x3 [ ]
      not_below (r ∷ rs) m k x (listed_here e) = let d : n ≡ r.0 = ap (λ (y : Register). y.0) e in omega (arith, x.0)
      not_below (r ∷ rs) m k x (listed-later l) = let d = not_below rs m (suc r.0) x.1 l in omega (arith, x.0)

      go : (rs : List Register) (m k : ℕ) → Rising m k rs → FirstOutside rs p → Listed (n, q) rs → Inside q
      go [] m k x x4 _ = elim x4 [ ]
      go ((j, r) ∷ rs) m k x (here e) (listed_here f) = let d : n ≡ p = ap (λ (y : Register). y.0) f in absurd (omega arith)
      go ((j, r) ∷ rs) m k x (here e) (listed-later l) = let d = not_below rs m (suc p) x.1 l in absurd (omega arith)
      go ((j, r) ∷ rs) m k x (later e o) (listed_here f) = subst Inside (sym (ap (λ (y : Register). y.1) f)) e
      go ((j, r) ∷ rs) m k x (later e o) (listed-later l) = go rs m (suc j) x.1 o l

  -- the second place of d, behind the first and `|`
  pub second_at : (q : Place) → t.first ≡ pair (at q) (at q) → Stands l (operands_start t) (register_text q ++ bytes "|") × Stands l (operands_start t + length (register_text q ++ bytes "|")) (register_text q)
  second_at q e =
      let s : Stands (operand_text t.first) 0 (register_text q ++ bytes "|") = moved (ap operand_text (sym e)) refl (front (register_text q ++ bytes "|") (register_text q)) in
      let u : Stands (operand_text t.first) (length (register_text q ++ bytes "|")) (register_text q) = moved (ap operand_text (sym e)) refl (back (register_text q ++ bytes "|") (register_text q)) in (
        moved (line_operands t ∙ shaped.text) (before_operands_0 t) (inside (before_operands t) (behind_operands t) (then (divided_text t.others) s)),
        moved (line_operands t ∙ shaped.text) (ap (λ (n : ℕ). n + length (register_text q ++ bytes "|")) (before_operands_lem t)) (inside (before_operands t) (behind_operands t) (then (divided_text t.others) u)),
      )
