-- The pieces of a line, kept as numbers, and the texts that they put together. Assumes nothing.
use Rattle.std.specs.Prelude.{ℕ, ◌+◌, ◌*◌, ◌≡◌, refl, Bool, true, false, cond, List, [], ◌∷◌, ◌++◌}
use Rattle.std.proofs.Common.{arith, sym, ap, ◌∙◌, append_assoc, append-nil}
use Rattle.signs.specs.Text.{bytes}
use Rattle.base.specs.Pack.{radix, unpacked, spelled, NumberSpells}
use Rattle.base.specs.PackLaws.{unpacked_none, text_of_lem, text_more, spells_more, spells_written}
use Rattle.record.specs.declared.Choice.{Choice}
use Rattle.record.specs.declared.Cmp6.{Cmp6}
use Rattle.record.specs.declared.Comparison.{Comparison}
use Rattle.record.specs.declared.Condition.{Condition}
use Rattle.record.specs.declared.File.{File}
use Rattle.record.specs.declared.File.TheVariants.{Words, Halves, Doubles, Preds}
use Rattle.record.specs.declared.Guard.TheVariants.{When}
use Rattle.record.specs.declared.VideoType.{VideoType}
use Rattle.record.specs.Registers.{operand_place, p}
use Rattle.rules.specs.Shape.{Name, dotted, head_text, register_text, spot_text, OperandTree, inverted, pair, bare, part, operand_text, guard_text}
use Rattle.rules.specs.Names.{video_type_name, type_name, six_name, cmp_name, combination_names, braced}
use Rattle.rules.specs.Spelling.{condition_tree}
use Rattle.rules.specs.StandardLine.{guard_part, further}
use Rattle.write.specs.declared.Piece.{Piece}

-- ==== registers

-- the most bytes that a register of the file has in a line: `%` and its letters, and three digits
abbrev pub text_size : File → ℕ
text_size Words = 5
text_size Halves = 6
text_size Doubles = 6
text_size Preds = 5

-- ==== guards

pub guard_spelled : {x : ℕ} (c : Condition) → NumberSpells 6 x (operand_text (condition_tree c)) → spelled ((64 + radix * x) ∷ 32 ∷ []) ≡ guard_part (When c)
guard_spelled {x} c s = rw (text_more 64 refl s, text_of_lem (spells_written 1 (bytes " ") refl)) (ap (λ (l : List ℕ). l ++ bytes " ") (same c.inverted))
  where
    same : (t : Bool) → bytes "@" ++ operand_text (cond t (inverted (p c.pred)) (bare (p c.pred))) ≡ guard_text t (p c.pred)
    same true = refl
    same false = refl

-- ==== heads

-- a name with its `.`
abbrev pub with_dot : ℕ → ℕ
with_dot x = 46 + radix * x

-- the numbers l put the names ns, each with its `.`
pub record Puts-names (l : List ℕ) (ns : List Name) : Type 0 where
  pub text : spelled l ≡ dotted ns

dotted_append : (ms ns : List Name) → dotted (ms ++ ns) ≡ dotted ms ++ dotted ns
dotted_append [] ns = refl
dotted_append (m ∷ ms) ns = rw (dotted_append ms ns) (sym (append_assoc (46 ∷ m) (dotted ms) (dotted ns)))

-- none
pub end : Puts-names [] []
end = record { text = refl }

-- none, where a name may stand
pub skip : {l : List ℕ} {ns : List Name} → Puts-names l ns → Puts-names (0 ∷ l) ns
skip a = record { text = rw unpacked_none a.text }

-- a name
pub name : {k x y : ℕ} {w : Name} {l : List ℕ} {ns : List Name} → y ≡ with_dot x → NumberSpells k x w → Puts-names l ns → Puts-names (y ∷ l) (w ∷ ns)
name {k} {x} {y} {w} {l} {ns} e s a = record { text = rw (e, text_more 46 refl s, a.text) refl }

-- what may be left out
pub record Optional (y : ℕ) (ms : List Name) : Type 0 where
  pub text : unpacked y ≡ dotted ms

pub maybe : {y : ℕ} {l : List ℕ} {ms ns : List Name} → Optional y ms → Puts-names l ns → Puts-names (y ∷ l) (ms ++ ns)
maybe {y} {l} {ms} {ns} e a = record { text = rw (e.text, a.text, dotted_append ms ns) refl }

pub maybe_both : {y z : ℕ} {l : List ℕ} {ms ks ns : List Name} → Optional y ms → Optional z ks → Puts-names l ns → Puts-names (y ∷ z ∷ l) (ms ++ ks ++ ns)
maybe_both {y} {z} {l} {ms} {ks} {ns} e f a = rw (append_assoc ms ks ns) (maybe e (maybe f a))

pub maybe_last : {y : ℕ} {l : List ℕ} {ms : List Name} → Optional y ms → Puts-names l [] → Puts-names (y ∷ l) ms
maybe_last {y} {l} {ms} e a = rw (append-nil ms) at (maybe e a)

-- the opcode
pub opcode : {k x : ℕ} {w : Name} {l : List ℕ} {ns : List Name} → NumberSpells k x w → Puts-names l ns → spelled (x ∷ l) ≡ head_text (w ∷ ns)
opcode s a = rw (text_of_lem s, a.text) refl

-- no name, one name, and one if it is wanted
pub no_name : Optional 0 []
no_name = record { text = unpacked_none }

pub one_name : {k x y : ℕ} {w : Name} → y ≡ with_dot x → NumberSpells k x w → Optional y (w ∷ [])
one_name {k} {x} {y} {w} e s = record { text = rw (e, text_more 46 refl s, append-nil w) refl }

pub record DotIf (t : Bool) (x y : ℕ) : Type 0 where
  pub number : y ≡ cond t (with_dot x) 0

pub if_name : {k x y : ℕ} {w : Name} {t : Bool} → DotIf t x y → NumberSpells k x w → Optional y (braced t w)
if_name {k} {x} {y} {w} {t} e s = go t e.number
  where
    go : (t : Bool) → y ≡ cond t (with_dot x) 0 → Optional y (braced t w)
    go true e = one_name e s
    go false e = rw e no_name

-- T(d) T(a) T(b) {sat} behind the opcode x, and a last name that may be left out
pub record ThreeTypes (x : ℕ) (dtype atype btype : VideoType) (sat : Bool) (last : ℕ) (m : List ℕ) : Type 0 where
  pub head : {k : ℕ} {w : Name} {ms : List Name} → NumberSpells k x w → Optional last ms
      → spelled m ≡ head_text (w ∷ video_type_name dtype ∷ video_type_name atype ∷ video_type_name btype ∷ (braced sat (bytes "sat") ++ ms))

-- T T CMP6 behind the opcode x, and a last name that may be left out
pub record TwoTypes (x : ℕ) (atype btype : VideoType) (cmp : Cmp6) (last : ℕ) (m : List ℕ) : Type 0 where
  pub head : {k : ℕ} {w : Name} {ms : List Name} → NumberSpells k x w → Optional last ms
      → spelled m ≡ head_text (w ∷ video_type_name atype ∷ video_type_name btype ∷ six_name cmp ∷ ms)

-- CmpOp {BoolOp} {ftz} and stype behind the opcode x, and before stype a dtype that may be left out
pub record ComparisonHead (x dtype : ℕ) (s : Comparison) (m : List ℕ) : Type 0 where
  pub head : {k : ℕ} {w : Name} {ms : List Name} → NumberSpells k x w → Optional dtype ms
      → spelled m
      ≡ head_text
      (w ∷ cmp_name s.cmp ∷ (combination_names s.combination ++ braced s.ftz (bytes "ftz") ++ (ms ++ type_name s.stype ∷ [])))

-- ==== operands

-- an operand up to its register, and what stands behind it
abbrev pub front_text : OperandTree → List ℕ
front_text (inverted p) = bytes "!" ++ register_text p
front_text (pair p q) = spot_text p
front_text (bare p) = register_text p
front_text (part p n) = register_text p

abbrev pub back_text : OperandTree → List ℕ
back_text (inverted p) = []
back_text (pair p q) = bytes "|" ++ spot_text q
back_text (bare p) = []
back_text (part p n) = bytes "." ++ n

pub record Shows (m : Piece) (o : OperandTree) : Type 0 where
  pub first : NumberSpells 6 m.front (front_text o)
  pub second : NumberSpells 6 m.back (back_text o)

abbrev pub text_of : Piece → List ℕ
text_of m = unpacked m.front ++ unpacked m.back

abbrev pub further_of : Piece → Piece
further_of m = record { front = 44 + radix * (32 + radix * m.front); back = m.back }

abbrev pub eight : Piece → Piece → Piece → Piece → List ℕ
eight d a b c = d.front ∷ d.back ∷ a.front ∷ a.back ∷ b.front ∷ b.back ∷ c.front ∷ c.back ∷ []

-- d, a and b, and the rest
abbrev pub choice_text : Choice → List ℕ → List ℕ
choice_text s l =
    register_text (operand_place s.d) ++ (bytes ", " ++ register_text (operand_place s.a) ++ (bytes ", " ++ register_text (operand_place s.b) ++ l))

halves : (o : OperandTree) → front_text o ++ back_text o ≡ operand_text o
halves (inverted p) = append-nil (bytes "!" ++ register_text p)
halves (pair p q) = sym (append_assoc (spot_text p) (bytes "|") (spot_text q))
halves (bare p) = append-nil (register_text p)
halves (part p n) = sym (append_assoc (register_text p) (bytes ".") n)

pub first_text : {m : Piece} {o : OperandTree} → Shows m o → text_of m ≡ operand_text o
first_text {m} {o} s = rw (text_of_lem s.first, text_of_lem s.second) (halves o)

-- with its comma
pub further_text : {m : Piece} {o : OperandTree} → Shows m o → text_of (further_of m) ≡ bytes ", " ++ operand_text o
further_text {m} {o} s = rw (text_two s.first, text_of_lem s.second) (ap (λ (l : List ℕ). 44 ∷ 32 ∷ l) (halves o))
  where
    text_two : {x : ℕ} {w : List ℕ} → NumberSpells 6 x w → unpacked (44 + radix * (32 + radix * x)) ≡ 44 ∷ 32 ∷ w
    text_two s = text_more 44 refl (spells_more 32 refl (omega arith) s)

-- as the last one
pub last_text : {m : Piece} {o : OperandTree} → Shows m o → text_of (further_of m) ≡ further (o ∷ [])
last_text {m} {o} s = further_text s ∙ sym (append-nil (bytes ", " ++ operand_text o))

-- four operands, the second and the third with their commas
pub behind : (d c : Piece) {a b : Piece} {q r : OperandTree} → Shows a q → Shows b r
    → spelled (eight d (further_of a) (further_of b) c) ≡ text_of d ++ (bytes ", " ++ operand_text q ++ (bytes ", " ++ operand_text r ++ text_of c))
behind d c {a} {b} {q} {r} s t = four d (further_of a) (further_of b) c ∙ rw (further_text s, further_text t) refl
  where
    two : (m : Piece) (l : List ℕ) → unpacked m.front ++ (unpacked m.back ++ l) ≡ text_of m ++ l
    two m l = sym (append_assoc (unpacked m.front) (unpacked m.back) l)

    four : (d a b c : Piece) → spelled (eight d a b c) ≡ text_of d ++ (text_of a ++ (text_of b ++ text_of c))
    four d a b c =
        two d (spelled (a.front ∷ a.back ∷ b.front ∷ b.back ∷ c.front ∷ c.back ∷ []))
        ∙ ap (λ (l : List ℕ). text_of d ++ l) (two a (spelled (b.front ∷ b.back ∷ c.front ∷ c.back ∷ []))
        ∙ ap (λ (l : List ℕ). text_of a ++ l) (two b (spelled (c.front ∷ c.back ∷ []))
        ∙ ap (λ (l : List ℕ). text_of b ++ l) (two c [] ∙ append-nil (text_of c))))

pub blank_text : text_of (record { front = 0; back = 0 }) ≡ []
blank_text = rw unpacked_none refl

-- a condition has nothing behind it
pub condition_shows : {x : ℕ} (c : Condition) → NumberSpells 6 x (operand_text (condition_tree c)) → Shows (record { front = x; back = 0 }) (condition_tree c)
condition_shows {x} c s = go c.inverted s
  where
    go : (t : Bool) → NumberSpells 6 x (operand_text (cond t (inverted (p c.pred)) (bare (p c.pred)))) → Shows (record { front = x; back = 0 }) (cond t (inverted (p c.pred)) (bare (p c.pred)))
    go true s = record { first = s; second = spells_written 6 [] refl }
    go false s = record { first = s; second = spells_written 6 [] refl }
