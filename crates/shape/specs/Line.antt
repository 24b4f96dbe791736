-- The parts of a line, as the scanner finds them.
use Rattle.std.specs.Prelude.{ℕ, ◌≡◌, refl, List, Bool, true, false, cond, eqb, ltb, length, drop, Err, Ok, Result}
use Rattle.signs.specs.Bytes.{is_blank}
use Rattle.tree.specs.declared.Guarding.{Guarding}
use Rattle.tree.specs.declared.Guarding.TheVariants.{Unguarded}
use Rattle.tree.specs.declared.Head.{Head}
use Rattle.tree.specs.declared.Operands.{Operands}
use Rattle.tree.specs.declared.Parts.{Parts}
use Rattle.scan.specs.Runs.{run_length, capped_sum}
use Rattle.shape.specs.Head.{no_head, head_read, head_of}
use Rattle.shape.specs.Operands.{no_operands, operands_read, operands_scanned}
use Rattle.shape.specs.Guard.{guard_of}

abbrev pub no_parts : Parts
no_parts = record { guard = Unguarded; head = no_head; operands = no_operands }

-- the parts of a line that has the shape, and how far it was read; or how far it has the shape
abbrev pub Scanned : Type 0
Scanned = Result (Parts × ℕ) ℕ

-- the parts, none of a line that has not the shape
abbrev pub parts_of : Scanned → Parts
parts_of (Ok (x, n)) = x
parts_of (Err p) = no_parts

abbrev pub stopped_at : ℕ → Scanned
stopped_at place = Err place

unfoldable pub from_end : ℕ → Parts → List ℕ → Scanned
from_end p parts w =
    let n = run_length is_blank w in
    let end = capped_sum p n in
    cond (ltb n (length w)) (stopped_at end) (Ok (parts, end))

unfoldable pub from_operands : ℕ → Guarding → Head → List ℕ → Scanned
from_operands p guard head w =
    let read = operands_scanned w in
    let end = capped_sum p read.place in
    cond read.good (from_end end (record { guard = guard; head = head; operands = read.operands }) (drop read.place w)) (stopped_at end)

unfoldable pub from_gap : ℕ → Guarding → Head → List ℕ → Scanned
from_gap p guard head w = let n = run_length is_blank w in cond (eqb n 0) (stopped_at p) (from_operands (capped_sum p n) guard head (drop n w))

unfoldable pub from_head : ℕ → Guarding → List ℕ → Scanned
from_head p guard w =
    let read = head_of w in
    let end = capped_sum p read.place in
    cond read.good (from_gap end guard read.head (drop read.place w)) (stopped_at end)

abbrev pub guarded_by : ℕ → Result (Guarding × ℕ) ℕ → List ℕ → Scanned
guarded_by p (Ok (guard, n)) w = from_head (capped_sum p n) guard (drop n w)
guarded_by p (Err q) w = stopped_at (capped_sum p q)

-- how far a line has the shape, and its parts
unfoldable pub shape_of : List ℕ → Scanned
shape_of s = let n = run_length is_blank s in guarded_by n (guard_of (drop n s)) (drop n s)

-- ==== by what was read of the head, and of the operands

abbrev pub headed : ℕ → Guarding → List ℕ → Result (Head × ℕ) ℕ → Scanned
headed p guard w (Ok (head, n)) =
    let k = run_length is_blank (drop n w) in
    cond (eqb k 0) (Err (capped_sum p n)) (from_operands (capped_sum (capped_sum p n) k) guard head (drop k (drop n w)))
headed p guard w (Err q) = Err (capped_sum p q)

pub head_found : (p : ℕ) (guard : Guarding) (w : List ℕ) → from_head p guard w ≡ headed p guard w (head_read (head_of w))
unfolding from_head from_gap
head_found p guard w = go (head_of w).good (head_of w).place (head_of w).head
  where
    go : (t : Bool) (n : ℕ) (h : Head) → cond t (from_gap (capped_sum p n) guard h (drop n w)) (stopped_at (capped_sum p n)) ≡ headed p guard w (cond t (Ok (h, n)) (Err n))
    go true n h = refl
    go false n h = refl

abbrev pub listed : ℕ → Guarding → Head → List ℕ → Result (Operands × ℕ) ℕ → Scanned
listed p guard head w (Ok (operands, n)) = from_end (capped_sum p n) (record { guard = guard; head = head; operands = operands }) (drop n w)
listed p guard head w (Err q) = Err (capped_sum p q)

pub operands_found : (p : ℕ) (guard : Guarding) (head : Head) (w : List ℕ) → from_operands p guard head w ≡ listed p guard head w (operands_read (operands_scanned w))
unfolding from_operands
operands_found p guard head w = go (operands_scanned w).good (operands_scanned w).place (operands_scanned w).operands
  where
    go : (t : Bool) (n : ℕ) (o : Operands)
        → cond t (from_end (capped_sum p n) (record { guard = guard; head = head; operands = o }) (drop n w)) (stopped_at (capped_sum p n)) ≡ listed p guard head w (cond t (Ok (o, n)) (Err n))
    go true n o = refl
    go false n o = refl
