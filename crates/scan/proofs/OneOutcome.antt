-- No two outcomes satisfy a contract as it stands in src/lib.rt.
use Rattle.std.specs.Prelude.{Result}
use mathlib.Core.Path.{◌≡◌}
use contract.Lifetimes.{Lfts}
use borrow.Fn.Kinds.{Dens, ended_of}
use denote.Triple.Clauses.{AtExit}
use Rattle.base.specs.Promise.{one_outcome}
use Prim.Native.Nat.{ℕ}
use borrow.Fn.World.{ResD}
use Rattle.scan.specs.contracts.rest.{signature}
use mathlib.Core.Bool.{Bool}
use Rattle.scan.proofs.byte.Kinds as byte-kinds
use Rattle.scan.proofs.byte.Reads as byte
use Rattle.scan.proofs.further.Kinds as further-kinds
use Rattle.scan.proofs.further.Reads as further
use Rattle.scan.proofs.is_blank.Kinds as is-blank-kinds
use Rattle.scan.proofs.is_blank.Reads as is-blank
use Rattle.scan.proofs.is_digit.Kinds as is-digit-kinds
use Rattle.scan.proofs.is_digit.Reads as is_digit
use Rattle.scan.proofs.is_name_byte.Kinds as is-name-byte-kinds
use Rattle.scan.proofs.is_name_byte.Reads as is-name-byte
use Rattle.scan.proofs.name_code.Kinds as name-code-kinds
use Rattle.scan.proofs.name_code.Reads as name-code
use Rattle.scan.proofs.read_register.Kinds as read-register-kinds
use Rattle.scan.proofs.read_register.Reads as read-register
use Rattle.scan.proofs.rest.Kinds as rest-kinds
use Rattle.scan.proofs.rest.Reads as rest
use Rattle.scan.proofs.run_len.Kinds as run-len-kinds
use Rattle.scan.proofs.run_len.Reads as run-len
use Rattle.tree.specs.declared.Place.{Place}

pub is_blank_one_outcome :
    (κs : Lfts 0) (a : Dens κs is-blank-kinds.ps) (x y : Bool) (s t : AtExit (ended_of 0 is-blank-kinds.ps is-blank-kinds.r) κs)
    → is-blank.Post κs a x s → is-blank.Post κs a y t → x ≡ y
is_blank_one_outcome κs a x y s t p q = one_outcome p q

pub is_digit_one_outcome :
    (κs : Lfts 0) (a : Dens κs is-digit-kinds.ps) (x y : Bool) (s t : AtExit (ended_of 0 is-digit-kinds.ps is-digit-kinds.r) κs)
    → is_digit.Post κs a x s → is_digit.Post κs a y t → x ≡ y
is_digit_one_outcome κs a x y s t p q = one_outcome p q

pub is_name_byte_one_outcome :
    (κs : Lfts 0) (a : Dens κs is-name-byte-kinds.ps) (x y : Bool) (s t : AtExit (ended_of 0 is-name-byte-kinds.ps is-name-byte-kinds.r) κs)
    → is-name-byte.Post κs a x s → is-name-byte.Post κs a y t → x ≡ y
is_name_byte_one_outcome κs a x y s t p q = one_outcome p q

pub further_one_outcome :
    (κs : Lfts 0) (a : Dens κs further-kinds.ps) (x y : ℕ) (s t : AtExit (ended_of 0 further-kinds.ps further-kinds.r) κs)
    → further.Post κs a x s → further.Post κs a y t → x ≡ y
further_one_outcome κs a x y s t p q = one_outcome p q

pub name_code_one_outcome :
    (κs : Lfts 1) (a : Dens κs name-code-kinds.ps) (x y : ℕ) (s t : AtExit (ended_of 1 name-code-kinds.ps name-code-kinds.r) κs)
    → name-code.Post κs a x s → name-code.Post κs a y t → x ≡ y
name_code_one_outcome κs a x y s t p q = one_outcome p q

pub read_register_one_outcome :
    (κs : Lfts 1) (a : Dens κs read-register-kinds.ps) (x y : Result (Place × ℕ) ℕ) (s t : AtExit (ended_of 1 read-register-kinds.ps read-register-kinds.r) κs)
    → read-register.Post κs a x s → read-register.Post κs a y t → x ≡ y
read_register_one_outcome κs a x y s t p q = one_outcome p q

pub rest_one_outcome :
    (κs : Lfts 1) (a : Dens κs rest-kinds.ps) (x y : ResD signature κs) (s t : AtExit (ended_of 1 rest-kinds.ps rest-kinds.r) κs)
    → rest.Post κs a x s → rest.Post κs a y t → x.now ≡ y.now
rest_one_outcome κs a x y s t p q = one_outcome p q

pub run_len_one_outcome :
    (κs : Lfts 1) (a : Dens κs run-len-kinds.ps) (x y : ℕ) (s t : AtExit (ended_of 1 run-len-kinds.ps run-len-kinds.r) κs)
    → run-len.Post κs a x s → run-len.Post κs a y t → x ≡ y
run_len_one_outcome κs a x y s t p q = one_outcome p q

pub byte_one_outcome :
    (κs : Lfts 1) (a : Dens κs byte-kinds.ps) (x y : ℕ) (s t : AtExit (ended_of 1 byte-kinds.ps byte-kinds.r) κs)
    → byte.Post κs a x s → byte.Post κs a y t → x ≡ y
byte_one_outcome κs a x y s t p q = one_outcome p q
