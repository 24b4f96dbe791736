-- From the number of a name back to what it names: said once, over any choice and its list of values; then each choice. Assumes nothing.
use Rattle.std.specs.Prelude.{ℕ, zero, suc, ◌≡◌, refl, Bool, true, false, not, ◌&&◌, cond, List, [], ◌∷◌, ◌++◌, map, eqb, None, Option, Some}
use Rattle.std.proofs.Common.{sym, ap, ◌∙◌, eq-eqb, ne_eqb, eqb-true}
use Rattle.std.proofs.Math.Bool.{and-eq-true_iff}
use Rattle.std.proofs.lemmas.Bool.{not-true}
use Rattle.std.proofs.lemmas.Option.{none-some, same_Some}
use Rattle.base.specs.Pack.{pack, code_of, is_short_name, CodeOf}
use Rattle.base.specs.PackLaws.{short_code}
use Rattle.signs.specs.Text.{bytes}
use Rattle.base.specs.Values.{every, StandsAt, Values, at_place, each}
use Rattle.rules.specs.Shape.{Name}
use Rattle.rules.specs.Names.{video_type_name, set_type_name, type_name, six_name, cmp_name, bool_name, op2_name, arith_name, lanes_name, lane_arith_name, selector_name}
use Rattle.laws.specs.Choices.{video_types, set_types, types, sixes, cmps, bool_ops, op2s, lane_ariths, selectors}
use Rattle.record.specs.declared.VideoType.{VideoType}
use Rattle.record.specs.declared.SetType.{SetType}
use Rattle.record.specs.declared.DataType.{DataType}
use Rattle.record.specs.declared.Cmp6.{Cmp6}
use Rattle.record.specs.declared.CmpOp.{CmpOp}
use Rattle.record.specs.declared.BoolOp.{BoolOp}
use Rattle.record.specs.declared.Op2.{Op2}
use Rattle.record.specs.declared.Arith.TheVariants.{Vadd, Vsub, Vabsdiff, Vmin, Vmax}
use Rattle.record.specs.declared.LaneArith.{LaneArith}
use Rattle.record.specs.declared.LaneWidth.{LaneWidth}
use Rattle.record.specs.declared.LaneWidth.TheVariants.{Half, Byte}
use Rattle.record.specs.declared.Selector.{Selector}
use Rattle.names.specs.declared.Opcode.{Opcode}

-- ==== any choice

-- a relation of a number and what it means, so that both are seen in its type
pub record Means {R : Type 0} (P : ℕ → R → Type 0) (x : ℕ) (r : R) : Type 0 where
  pub means : P x r

-- x is the number of no name of the list
abbrev pub NoName : {A : Type 0} → (A → Name) → List A → ℕ → Type 0
NoName name [] x = Unit {0}
NoName name (a ∷ l) x = (x ≡ pack (name a) → ⊥) × NoName name l x

-- the numbers of the names are all different
abbrev pub apart : {A : Type 0} → (A → Name) → List A → Bool
apart name [] = true
apart name (a ∷ l) = every (λ b. not (eqb (pack (name b)) (pack (name a)))) l && apart name l

-- every value of a choice has a short name and a number of its own
pub record Naming {A : Type 0} (name : A → Name) : Type 0 where
  pub values : Values A
  pub short : every (λ t. is_short_name (name t)) values.list ≡ true
  pub apart : apart name values.list ≡ true

-- the first whose name has the number x, if there is one
abbrev pub named : {A : Type 0} → (A → Name) → List A → ℕ → Option A
named name [] x = None
named name (a ∷ l) x = cond (eqb x (pack (name a))) (Some a) (named name l x)

-- a number is that of what it means, or else that of no name of the list
abbrev pub Back : {A : Type 0} → (A → Name) → List A → ℕ → Option A → Type 0
Back name l x (Some t) = x ≡ pack (name t)
Back name l x None = NoName name l x

module _ {A : Type 0} (name : A → Name) where
  named_none : (l : List A) (x : ℕ) → NoName name l x → named name l x ≡ None
  named_none [] x h = refl
  named_none (a ∷ l) x h = rw (ne_eqb x (pack (name a)) h.0) (named_none l x h.1)

  named_back : (l : List A) → apart name l ≡ true → (i : ℕ) (t : A) → StandsAt i l t → named name l (pack (name t)) ≡ Some t
  named_back [] e i t h = absurd h
  named_back (a ∷ l) e zero t h = rw (h, eq-eqb (pack (name t)) (pack (name t)) refl) refl
  named_back (a ∷ l) e (suc i) t h =
      let k = simp and-eq-true_iff at e in
      rw (not-true (eqb (pack (name t)) (pack (name a))) (at_place (λ b. not (eqb (pack (name b)) (pack (name a)))) l k.0 i t h)) (named_back l k.1 i t h)

  named_found : (l : List A) (x : ℕ) (t : A) → named name l x ≡ Some t → x ≡ pack (name t)
  named_found [] x t e = absurd (none-some t e)
  named_found (a ∷ l) x t e = go (eqb x (pack (name a))) refl e (named_found l x t)
    where
      go : (s : Bool) → eqb x (pack (name a)) ≡ s → cond s (Some a) (named name l x) ≡ Some t → (named name l x ≡ Some t → x ≡ pack (name t)) → x ≡ pack (name t)
      go true p e later = eqb-true x (pack (name a)) p ∙ ap (λ (b : A). pack (name b)) (same_Some a t e)
      go false p e later = later e

  module _ (n : Naming name) where
    pub back : (t : A) → named name n.values.list (pack (name t)) ≡ Some t
    back t = named_back n.values.list n.apart (n.values.listed t).0 t (n.values.listed t).1

    -- what is found has that number
    pub sound : (x : ℕ) (t : A) → named name n.values.list x ≡ Some t → CodeOf x (name t)
    sound x t e =
        let s = each (λ t. is_short_name (name t)) n.values n.short t in
        record { code = named_found n.values.list x t e ∙ sym (short_code (name t) s); short = s }

    -- and each name is found
    pub complete : (t : A) → named name n.values.list (code_of (name t)) ≡ Some t
    complete t = rw (short_code (name t) (each (λ t. is_short_name (name t)) n.values n.short t)) (back t)

    pub unknown : (x : ℕ) → NoName name n.values.list x → named name n.values.list x ≡ None
    unknown x h = named_none n.values.list x h

    -- the answer is what was found
    pub is_named : {x : ℕ} {r : Option A} → Means (Back name n.values.list) x r → r ≡ named name n.values.list x
    is_named {x} {r} m = go r m.means
      where
        go : (r : Option A) → Back name n.values.list x r → r ≡ named name n.values.list x
        go (Some t) e = rw e (sym (back t))
        go None h = sym (unknown x h)

-- ==== opcodes

abbrev pub opcode_name : Opcode → Name
opcode_name (Opcode.Scalar op) = arith_name op
opcode_name Opcode.Vset = bytes "vset"
opcode_name (Opcode.Lanes w) = lanes_name w
opcode_name (Opcode.LaneArithmetic op w) = lane_arith_name op w
opcode_name Opcode.Set = bytes "set"
opcode_name Opcode.Setp = bytes "setp"
opcode_name Opcode.Selp = bytes "selp"
opcode_name Opcode.Slct = bytes "slct"

-- the six of one width
abbrev six : LaneWidth → List Opcode
six w = map (λ op. Opcode.LaneArithmetic op w) lane_ariths.list

abbrev opcode_list : List Opcode
opcode_list =
    Opcode.Scalar Vadd ∷ Opcode.Scalar Vsub ∷ Opcode.Scalar Vabsdiff ∷ Opcode.Scalar Vmin ∷ Opcode.Scalar Vmax
    ∷ Opcode.Vset ∷ Opcode.Lanes Half ∷ Opcode.Lanes Byte
    ∷ (six Half ++ six Byte ++ Opcode.Set ∷ Opcode.Setp ∷ Opcode.Selp ∷ Opcode.Slct ∷ [])

abbrev pub known_opcodes : Values Opcode
known_opcodes = record { list = opcode_list; listed = place }
  where
    place : (t : Opcode) → (i : ℕ) × StandsAt i opcode_list t
    place (Opcode.Scalar Vadd) = (0, refl)
    place (Opcode.Scalar Vsub) = (1, refl)
    place (Opcode.Scalar Vabsdiff) = (2, refl)
    place (Opcode.Scalar Vmin) = (3, refl)
    place (Opcode.Scalar Vmax) = (4, refl)
    place Opcode.Vset = (5, refl)
    place (Opcode.Lanes Half) = (6, refl)
    place (Opcode.Lanes Byte) = (7, refl)
    place (Opcode.LaneArithmetic (LaneArith.Scalar Vadd) Half) = (8, refl)
    place (Opcode.LaneArithmetic (LaneArith.Scalar Vsub) Half) = (9, refl)
    place (Opcode.LaneArithmetic LaneArith.Vavrg Half) = (10, refl)
    place (Opcode.LaneArithmetic (LaneArith.Scalar Vabsdiff) Half) = (11, refl)
    place (Opcode.LaneArithmetic (LaneArith.Scalar Vmin) Half) = (12, refl)
    place (Opcode.LaneArithmetic (LaneArith.Scalar Vmax) Half) = (13, refl)
    place (Opcode.LaneArithmetic (LaneArith.Scalar Vadd) Byte) = (14, refl)
    place (Opcode.LaneArithmetic (LaneArith.Scalar Vsub) Byte) = (15, refl)
    place (Opcode.LaneArithmetic LaneArith.Vavrg Byte) = (16, refl)
    place (Opcode.LaneArithmetic (LaneArith.Scalar Vabsdiff) Byte) = (17, refl)
    place (Opcode.LaneArithmetic (LaneArith.Scalar Vmin) Byte) = (18, refl)
    place (Opcode.LaneArithmetic (LaneArith.Scalar Vmax) Byte) = (19, refl)
    place Opcode.Set = (20, refl)
    place Opcode.Setp = (21, refl)
    place Opcode.Selp = (22, refl)
    place Opcode.Slct = (23, refl)

-- ==== each choice

abbrev pub OpcodeBack : ℕ → Option Opcode → Type 0
OpcodeBack = Back opcode_name known_opcodes.list

opcode_naming : Naming opcode_name
opcode_naming = record { values = known_opcodes; short = refl; apart = refl }

unfoldable pub opcode_of : ℕ → Option Opcode
opcode_of x = named opcode_name known_opcodes.list x

pub opcode_sound : (x : ℕ) (t : Opcode) → opcode_of x ≡ Some t → CodeOf x (opcode_name t)
unfolding opcode_of opcode_naming
opcode_sound = sound opcode_name opcode_naming

pub opcode_complete : (t : Opcode) → opcode_of (code_of (opcode_name t)) ≡ Some t
unfolding opcode_of opcode_naming
opcode_complete = complete opcode_name opcode_naming

pub opcode_is_lem : {x : ℕ} {r : Option Opcode} → Means OpcodeBack x r → r ≡ opcode_of x
unfolding opcode_of opcode_naming
opcode_is_lem = is_named opcode_name opcode_naming

abbrev pub VideoBack : ℕ → Option VideoType → Type 0
VideoBack = Back video_type_name video_types.list

video_naming : Naming video_type_name
video_naming = record { values = video_types; short = refl; apart = refl }

unfoldable pub video_of : ℕ → Option VideoType
video_of x = named video_type_name video_types.list x

pub video_sound : (x : ℕ) (t : VideoType) → video_of x ≡ Some t → CodeOf x (video_type_name t)
unfolding video_of video_naming
video_sound = sound video_type_name video_naming

pub video_complete : (t : VideoType) → video_of (code_of (video_type_name t)) ≡ Some t
unfolding video_of video_naming
video_complete = complete video_type_name video_naming

pub video_is : {x : ℕ} {r : Option VideoType} → Means VideoBack x r → r ≡ video_of x
unfolding video_of video_naming
video_is = is_named video_type_name video_naming

abbrev pub SetTypeBack : ℕ → Option SetType → Type 0
SetTypeBack = Back set_type_name set_types.list

set_type_naming : Naming set_type_name
set_type_naming = record { values = set_types; short = refl; apart = refl }

unfoldable pub set_type_of : ℕ → Option SetType
set_type_of x = named set_type_name set_types.list x

pub set_type_sound : (x : ℕ) (t : SetType) → set_type_of x ≡ Some t → CodeOf x (set_type_name t)
unfolding set_type_of set_type_naming
set_type_sound = sound set_type_name set_type_naming

pub set_type_complete : (t : SetType) → set_type_of (code_of (set_type_name t)) ≡ Some t
unfolding set_type_of set_type_naming
set_type_complete = complete set_type_name set_type_naming

pub set_type_is : {x : ℕ} {r : Option SetType} → Means SetTypeBack x r → r ≡ set_type_of x
unfolding set_type_of set_type_naming
set_type_is = is_named set_type_name set_type_naming

abbrev pub TypeBack : ℕ → Option DataType → Type 0
TypeBack = Back type_name types.list

type_naming : Naming type_name
type_naming = record { values = types; short = refl; apart = refl }

unfoldable pub type_of : ℕ → Option DataType
type_of x = named type_name types.list x

pub type_sound : (x : ℕ) (t : DataType) → type_of x ≡ Some t → CodeOf x (type_name t)
unfolding type_of type_naming
type_sound = sound type_name type_naming

pub type_complete : (t : DataType) → type_of (code_of (type_name t)) ≡ Some t
unfolding type_of type_naming
type_complete = complete type_name type_naming

pub type_is : {x : ℕ} {r : Option DataType} → Means TypeBack x r → r ≡ type_of x
unfolding type_of type_naming
type_is = is_named type_name type_naming

abbrev pub SixBack : ℕ → Option Cmp6 → Type 0
SixBack = Back six_name sixes.list

six_naming : Naming six_name
six_naming = record { values = sixes; short = refl; apart = refl }

unfoldable pub six_of : ℕ → Option Cmp6
six_of x = named six_name sixes.list x

pub six_sound : (x : ℕ) (t : Cmp6) → six_of x ≡ Some t → CodeOf x (six_name t)
unfolding six_of six_naming
six_sound = sound six_name six_naming

pub six_complete : (t : Cmp6) → six_of (code_of (six_name t)) ≡ Some t
unfolding six_of six_naming
six_complete = complete six_name six_naming

pub six_is : {x : ℕ} {r : Option Cmp6} → Means SixBack x r → r ≡ six_of x
unfolding six_of six_naming
six_is = is_named six_name six_naming

abbrev pub CmpBack : ℕ → Option CmpOp → Type 0
CmpBack = Back cmp_name cmps.list

cmp_naming : Naming cmp_name
cmp_naming = record { values = cmps; short = refl; apart = refl }

unfoldable pub cmp_of : ℕ → Option CmpOp
cmp_of x = named cmp_name cmps.list x

pub cmp_sound : (x : ℕ) (t : CmpOp) → cmp_of x ≡ Some t → CodeOf x (cmp_name t)
unfolding cmp_of cmp_naming
cmp_sound = sound cmp_name cmp_naming

pub cmp_complete : (t : CmpOp) → cmp_of (code_of (cmp_name t)) ≡ Some t
unfolding cmp_of cmp_naming
cmp_complete = complete cmp_name cmp_naming

pub cmp_is : {x : ℕ} {r : Option CmpOp} → Means CmpBack x r → r ≡ cmp_of x
unfolding cmp_of cmp_naming
cmp_is = is_named cmp_name cmp_naming

abbrev pub BoolBack : ℕ → Option BoolOp → Type 0
BoolBack = Back bool_name bool_ops.list

bool_naming : Naming bool_name
bool_naming = record { values = bool_ops; short = refl; apart = refl }

unfoldable pub bool_op_of : ℕ → Option BoolOp
bool_op_of x = named bool_name bool_ops.list x

pub bool_sound : (x : ℕ) (t : BoolOp) → bool_op_of x ≡ Some t → CodeOf x (bool_name t)
unfolding bool_op_of bool_naming
bool_sound = sound bool_name bool_naming

pub bool_complete : (t : BoolOp) → bool_op_of (code_of (bool_name t)) ≡ Some t
unfolding bool_op_of bool_naming
bool_complete = complete bool_name bool_naming

pub bool_is : {x : ℕ} {r : Option BoolOp} → Means BoolBack x r → r ≡ bool_op_of x
unfolding bool_op_of bool_naming
bool_is = is_named bool_name bool_naming

abbrev pub Op2Back : ℕ → Option Op2 → Type 0
Op2Back = Back op2_name op2s.list

op2_naming : Naming op2_name
op2_naming = record { values = op2s; short = refl; apart = refl }

unfoldable pub op2_of : ℕ → Option Op2
op2_of x = named op2_name op2s.list x

pub op2_sound : (x : ℕ) (t : Op2) → op2_of x ≡ Some t → CodeOf x (op2_name t)
unfolding op2_of op2_naming
op2_sound = sound op2_name op2_naming

pub op2_complete : (t : Op2) → op2_of (code_of (op2_name t)) ≡ Some t
unfolding op2_of op2_naming
op2_complete = complete op2_name op2_naming

pub op2_is : {x : ℕ} {r : Option Op2} → Means Op2Back x r → r ≡ op2_of x
unfolding op2_of op2_naming
op2_is = is_named op2_name op2_naming

abbrev pub SelectorBack : ℕ → Option Selector → Type 0
SelectorBack = Back selector_name selectors.list

selector_naming : Naming selector_name
selector_naming = record { values = selectors; short = refl; apart = refl }

unfoldable pub selector_of : ℕ → Option Selector
selector_of x = named selector_name selectors.list x

pub selector_sound : (x : ℕ) (t : Selector) → selector_of x ≡ Some t → CodeOf x (selector_name t)
unfolding selector_of selector_naming
selector_sound = sound selector_name selector_naming

pub selector_complete : (t : Selector) → selector_of (code_of (selector_name t)) ≡ Some t
unfolding selector_of selector_naming
selector_complete = complete selector_name selector_naming

pub selector_is : {x : ℕ} {r : Option Selector} → Means SelectorBack x r → r ≡ selector_of x
unfolding selector_of selector_naming
selector_is = is_named selector_name selector_naming
