-- No two outcomes satisfy a contract as it stands in src/lib.rt.
use Rattle.text.specs.Buffer.{puts_one}
use Rattle.text.specs.Out.{writes_one, starts_one}
use Rattle.text.specs.declared.Out.{Out}
use contract.Lifetimes.{Lfts}
use denote.Triple.Clauses.{AtExit}
use mathlib.Core.Path.{◌≡◌}
use Prim.Native.Nat.{ℕ}
use borrow.Fn.Kinds.{Dens, ended_of}
use mathlib.Core.Bool.{Bool}
use Rattle.base.specs.Promise.{one_outcome}
use Rattle.text.proofs.Out.from_place.Kinds as out-from-place-kinds
use Rattle.text.proofs.Out.from_place.Reads as out-from-place
use Rattle.text.proofs.Out.new.Kinds as out-new-kinds
use Rattle.text.proofs.Out.new.Reads as out-new
use Rattle.text.proofs.Out.place.Kinds as out-place-kinds
use Rattle.text.proofs.Out.place.Reads as out-place
use Rattle.text.proofs.Out.push.Kinds as out-push-kinds
use Rattle.text.proofs.Out.push.Reads as out-push
use Rattle.text.proofs.Out.put.Kinds as out-put-kinds
use Rattle.text.proofs.Out.put.Reads as out-put
use Rattle.text.proofs.Out.put_all.Kinds as out-put-all-kinds
use Rattle.text.proofs.Out.put_all.Reads as out-put-all
use Rattle.text.proofs.Out.put_decimal.Kinds as out-put-decimal-kinds
use Rattle.text.proofs.Out.put_decimal.Reads as out-put-decimal
use Rattle.text.proofs.Out.put_hex.Kinds as out-put-hex-kinds
use Rattle.text.proofs.Out.put_hex.Reads as out-put-hex
use Rattle.text.proofs.Out.room.Kinds as out-room-kinds
use Rattle.text.proofs.Out.room.Reads as out-room
use Rattle.text.proofs.digit.Kinds as digit-kinds
use Rattle.text.proofs.digit.Reads as digit
use Rattle.text.proofs.push.Kinds as push-kinds
use Rattle.text.proofs.push.Reads as push
use Rattle.text.proofs.put.Kinds as put-kinds
use Rattle.text.proofs.put.Reads as put
use Rattle.text.proofs.put_all.Kinds as put-all-kinds
use Rattle.text.proofs.put_all.Reads as put-all
use Rattle.text.proofs.put_decimal.Kinds as put-decimal-kinds
use Rattle.text.proofs.put_decimal.Reads as put-decimal
use Rattle.text.proofs.put_hex.Kinds as put-hex-kinds
use Rattle.text.proofs.put_hex.Reads as put-hex
use Rattle.text.proofs.same.Kinds as same-kinds
use Rattle.text.proofs.same.Reads as same

pub digit_one_outcome : (κs : Lfts 0) (a : Dens κs digit-kinds.ps) (x y : ℕ) (s t : AtExit (ended_of 0 digit-kinds.ps digit-kinds.r) κs) → digit.Post κs a x s → digit.Post κs a y t → x ≡ y
digit_one_outcome κs a x y s t p q = one_outcome p q

pub same_one_outcome : (κs : Lfts 2) (a : Dens κs same-kinds.ps) (x y : Bool) (s t : AtExit (ended_of 2 same-kinds.ps same-kinds.r) κs) → same.Post κs a x s → same.Post κs a y t → x ≡ y
same_one_outcome κs a x y s t p q = one_outcome p q

pub put_decimal_one_outcome :
    (κs : Lfts 1) (a : Dens κs put-decimal-kinds.ps) (x y : ℕ) (s t : AtExit (ended_of 1 put-decimal-kinds.ps put-decimal-kinds.r) κs)
    → put-decimal.Post κs a x s → put-decimal.Post κs a y t
    → (x ≡ y) × (s.0.now ≡ t.0.now)
put_decimal_one_outcome κs a x y s t p q = puts_one p q

pub put_hex_one_outcome :
    (κs : Lfts 1) (a : Dens κs put-hex-kinds.ps) (x y : ℕ) (s t : AtExit (ended_of 1 put-hex-kinds.ps put-hex-kinds.r) κs)
    → put-hex.Post κs a x s → put-hex.Post κs a y t
    → (x ≡ y) × (s.0.now ≡ t.0.now)
put_hex_one_outcome κs a x y s t p q = puts_one p q

pub push_one_outcome :
    (κs : Lfts 1) (a : Dens κs push-kinds.ps) (x y : ℕ) (s t : AtExit (ended_of 1 push-kinds.ps push-kinds.r) κs)
    → push.Post κs a x s → push.Post κs a y t
    → (x ≡ y) × (s.0.now ≡ t.0.now)
push_one_outcome κs a x y s t p q = puts_one p q

pub put_one_outcome :
    (κs : Lfts 2) (a : Dens κs put-kinds.ps) (x y : ℕ) (s t : AtExit (ended_of 2 put-kinds.ps put-kinds.r) κs)
    → put.Post κs a x s → put.Post κs a y t
    → (x ≡ y) × (s.0.now ≡ t.0.now)
put_one_outcome κs a x y s t p q = puts_one p q

pub put_all_one_outcome :
    (κs : Lfts 2) (a : Dens κs put-all-kinds.ps) (x y : ℕ) (s t : AtExit (ended_of 2 put-all-kinds.ps put-all-kinds.r) κs)
    → put-all.Post κs a x s → put-all.Post κs a y t
    → (x ≡ y) × (s.0.now ≡ t.0.now)
put_all_one_outcome κs a x y s t p q = puts_one p q

pub out_new_one_outcome :
    (κs : Lfts 1) (a : Dens κs out-new-kinds.ps) (x y : Out)
    (s t : AtExit (ended_of 1 out-new-kinds.ps out-new-kinds.r) κs)
    → out-new.Post κs a x s → out-new.Post κs a y t
    → (x.bytes.ghost_name ≡ y.bytes.ghost_name) × (x.at ≡ y.at) × (x.bytes.now ≡ y.bytes.now)
out_new_one_outcome κs a x y s t p q = starts_one x y p q

pub out_from_place_one_outcome :
    (κs : Lfts 1) (a : Dens κs out-from-place-kinds.ps) (x y : Out)
    (s t : AtExit (ended_of 1 out-from-place-kinds.ps out-from-place-kinds.r) κs)
    → out-from-place.Post κs a x s → out-from-place.Post κs a y t
    → (x.bytes.ghost_name ≡ y.bytes.ghost_name) × (x.at ≡ y.at) × (x.bytes.now ≡ y.bytes.now)
out_from_place_one_outcome κs a x y s t p q = starts_one x y p q

pub out_place_one_outcome :
    (κs : Lfts 2) (a : Dens κs out-place-kinds.ps) (x y : ℕ)
    (s t : AtExit (ended_of 2 out-place-kinds.ps out-place-kinds.r) κs)
    → out-place.Post κs a x s → out-place.Post κs a y t → x ≡ y
out_place_one_outcome κs a x y s t p q = one_outcome p q

pub out_room_one_outcome :
    (κs : Lfts 2) (a : Dens κs out-room-kinds.ps) (x y : ℕ)
    (s t : AtExit (ended_of 2 out-room-kinds.ps out-room-kinds.r) κs)
    → out-room.Post κs a x s → out-room.Post κs a y t → x ≡ y
out_room_one_outcome κs a x y s t p q = one_outcome p q

pub out_push_one_outcome :
    (κs : Lfts 2) (a : Dens κs out-push-kinds.ps) (x y : Unit) (s t : AtExit (ended_of 2 out-push-kinds.ps out-push-kinds.r) κs)
    → out-push.Post κs a x s → out-push.Post κs a y t
    → (s.0.now.at ≡ t.0.now.at) × (s.0.now.bytes.now ≡ t.0.now.bytes.now)
out_push_one_outcome κs a x y s t p q = writes_one p q

pub out_put_one_outcome :
    (κs : Lfts 3) (a : Dens κs out-put-kinds.ps) (x y : Unit) (s t : AtExit (ended_of 3 out-put-kinds.ps out-put-kinds.r) κs)
    → out-put.Post κs a x s → out-put.Post κs a y t
    → (s.0.now.at ≡ t.0.now.at) × (s.0.now.bytes.now ≡ t.0.now.bytes.now)
out_put_one_outcome κs a x y s t p q = writes_one p q

pub out_put_all_one_outcome :
    (κs : Lfts 3) (a : Dens κs out-put-all-kinds.ps) (x y : Unit) (s t : AtExit (ended_of 3 out-put-all-kinds.ps out-put-all-kinds.r) κs)
    → out-put-all.Post κs a x s → out-put-all.Post κs a y t
    → (s.0.now.at ≡ t.0.now.at) × (s.0.now.bytes.now ≡ t.0.now.bytes.now)
out_put_all_one_outcome κs a x y s t p q = writes_one p q

pub out_put_decimal_one_outcome :
    (κs : Lfts 2) (a : Dens κs out-put-decimal-kinds.ps) (x y : Unit) (s t : AtExit (ended_of 2 out-put-decimal-kinds.ps out-put-decimal-kinds.r) κs)
    → out-put-decimal.Post κs a x s → out-put-decimal.Post κs a y t
    → (s.0.now.at ≡ t.0.now.at) × (s.0.now.bytes.now ≡ t.0.now.bytes.now)
out_put_decimal_one_outcome κs a x y s t p q = writes_one p q

pub out_put_hex_one_outcome :
    (κs : Lfts 2) (a : Dens κs out-put-hex-kinds.ps) (x y : Unit) (s t : AtExit (ended_of 2 out-put-hex-kinds.ps out-put-hex-kinds.r) κs)
    → out-put-hex.Post κs a x s → out-put-hex.Post κs a y t
    → (s.0.now.at ≡ t.0.now.at) × (s.0.now.bytes.now ≡ t.0.now.bytes.now)
out_put_hex_one_outcome κs a x y s t p q = writes_one p q
