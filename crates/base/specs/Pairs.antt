-- Equal answers that hold a pair or three values hold equal values. Assumes nothing.
use Rattle.std.specs.Prelude.{◌≡◌, Result, Ok, Err}
use Rattle.std.proofs.Common.{ap}

-- what an answer holds, and x where it is an error
held : {A E : Type 0} → A → Result A E → A
held x (Ok y) = y
held x (Err e) = x

pub ok_pair : {A B E : Type 0} {a c : A} {b d : B} → (e : ◌≡◌ {A = Result (A × B) E} (Ok (a, b)) (Ok (c, d))) → (a ≡ c) × (b ≡ d)
unfolding held
ok_pair {A} {B} {E} {a} {c} {b} {d} e = (ap (λ (r : Result (A × B) E). (held (a, b) r).0) e, ap (λ (r : Result (A × B) E). (held (a, b) r).1) e)

pub ok_three : {A B C E : Type 0} {a d : A} {b f : B} {c g : C} → (e : ◌≡◌ {A = Result (A × B × C) E} (Ok (a, b, c)) (Ok (d, f, g))) → (a ≡ d) × (b ≡ f) × (c ≡ g)
unfolding held
ok_three {A} {B} {C} {E} {a} {d} {b} {f} {c} {g} e = (
  ap (λ (r : Result (A × B × C) E). (held (a, b, c) r).0) e,
  ap (λ (r : Result (A × B × C) E). (held (a, b, c) r).1) e,
  ap (λ (r : Result (A × B × C) E). (held (a, b, c) r).2) e,
)
