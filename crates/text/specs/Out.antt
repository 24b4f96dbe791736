-- A lent buffer with the place of the next byte, as `Out` keeps them. Assumes nothing.
use Rattle.std.specs.Prelude.{ℕ, ◌≤◌, ◌≡◌, refl, List, [], ◌++◌, length, take, drop}
use Rattle.std.proofs.Common.{arith, ap, length-append, sym, ◌∙◌}
use Rattle.std.proofs.Math.Seq.{take-append_seam}
use Rattle.text.specs.Buffer.{Buffer, buffer, Puts, puts_one, filled_long, whole_front, ◌then◌ as ◌put_then◌, same}
use Rattle.text.specs.declared.Out.{Out}

-- what stands in it, and where the next byte goes
abbrev pub buffer_of : Out → Buffer
buffer_of o = buffer o.bytes.now o.at

-- y is the same lent bytes as x, with the text p put into them
pub record Writes (x : Out) (p : List ℕ) (y : Out) : Type 0 where
  pub lent : y.bytes.ghost_name ≡ x.bytes.ghost_name
  pub text : Puts (buffer_of x) p (buffer_of y)

-- one text after another is one text
infixl 20 ◌then◌
pub ◌then◌ : {x y z : Out} {p q : List ℕ} → Writes x p y → Writes y q z → Writes x (p ++ q) z
◌then◌ a b = record { lent = b.lent ∙ a.lent; text = a.text put_then b.text }

-- nothing was put
pub nothing : (x : Out) → Writes x [] x
nothing x = record { lent = refl; text = same (buffer_of x) }

-- what a text put by way of x left in the lent bytes, and the next place
pub stands : {x y : Out} {p bs after : List ℕ} {n m : ℕ} → buffer_of x ≡ buffer bs n → Writes x p y → after ≡ y.bytes.now → m ≡ y.at
    → Puts (buffer bs n) p (buffer after m)
stands {x} {y} {p} e w a b = rw (a, b, ← e) w.text

-- what a text leaves there, and the next place, is one thing
pub writes_one : {x y z : Out} {p : List ℕ} → Writes x p y → Writes x p z → (y.at ≡ z.at) × (y.bytes.now ≡ z.bytes.now)
writes_one a b = puts_one a.text b.text

-- so is what a lent buffer starts as
pub starts_one : (x y : Out) {n : ℕ} {b : Buffer}
    → (x.bytes.ghost_name ≡ n) × (buffer_of x ≡ b) → (y.bytes.ghost_name ≡ n) × (buffer_of y ≡ b)
    → (x.bytes.ghost_name ≡ y.bytes.ghost_name) × (x.at ≡ y.at) × (x.bytes.now ≡ y.bytes.now)
starts_one x y p q =
    let e = p.1 ∙ sym q.1 in (p.0 ∙ sym q.0, ap (λ (z : Buffer). z.next) e, ap (λ (z : Buffer). z.bytes) e)

-- the lent bytes stay as many
pub long : {x y : Out} {p : List ℕ} → Writes x p y → length y.bytes.now ≡ length x.bytes.now
long {x} {y} {p} w = ap (λ (z : Buffer). length z.bytes) w.text.text ∙ filled_long (buffer_of x) p

-- a text that has room, put into a buffer of the caller's own from its front on: how far it goes, and what stands there
module _ {x y : Out} {p bs after : List ℕ} {n : ℕ} (start : buffer_of x ≡ buffer bs 0) (w : Writes x p y) (room : length p ≤ length bs) (a : after ≡ y.bytes.now) (b : n ≡ y.at) where
  both : (n ≡ length p) × (after ≡ p ++ drop (length p) bs)
  both = whole_front (stands start w a b) room

  pub ends_within : n ≤ length after
  ends_within = rw (both.0, both.1, length-append) (omega arith)

  pub front_is : take n after ≡ p
  front_is = rw (both.0, both.1) (take-append_seam p (drop (length p) bs))

  pub front_long : n ≡ length (take n after)
  front_long = rw front_is both.0
