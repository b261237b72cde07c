-- What stands where a rule refused nothing.
use Rattle.std.proofs.Common.{◌≡◌, ℕ, Bool, true, false, Option, Some, None, Result, Ok, Err, refl, ap}
use Rattle.std.specs.Option.{ok_or, option_map}
use Rattle.std.proofs.lemmas.Option.{same_Some}
use Rattle.workload.specs.declared.cause.WorkloadNo.{WorkloadNo}
use Rattle.workload.specs.Checks.{◌>>=◌, checked}
use Rattle.workload.specs.Grammar.{at_line}

pub same_Ok : {A E : Type 0} (x y : A) → ◌≡◌ {A = Result A E} (Ok x) (Ok y) → x ≡ y
same_Ok x y e = cc

pub bind_ok : {A B E : Type 0} (r : Result A E) (f : A → Result B E) (y : B) → (r >>= f) ≡ Ok y → (x : A) × (r ≡ Ok x) × (f x ≡ Ok y)
bind_ok (Ok x) f y e = (x, refl, e)
bind_ok (Err d) f y e = absurd (cc)

pub checked_ok : {A : Type 0} (b : Bool) (cause : WorkloadNo) (rest : Result A WorkloadNo) (y : A) → checked b cause rest ≡ Ok y
    → (b ≡ true) × (rest ≡ Ok y)
checked_ok true cause rest y e = (refl, e)
checked_ok false cause rest y e = absurd (cc)

pub ok_or_some : {A E : Type 0} (o : Option A) (d : E) (x : A) → ok_or o d ≡ Ok x → o ≡ Some x
ok_or_some {A} {E} None d x e = absurd (cc)
ok_or_some {A} {E} (Some y) d x e = ap Some (same_Ok {E = E} y x e)

pub map_some : {A B : Type 0} (f : A → B) (o : Option A) (y : B) → option_map f o ≡ Some y → (x : A) × (o ≡ Some x) × (f x ≡ y)
map_some f None y e = absurd (cc)
map_some f (Some x) y e = (x, refl, same_Some (f x) y e)

pub at_line_ok : {A : Type 0} (at : ℕ) (r : Result A WorkloadNo) (x : A) → at_line at r ≡ Ok x → r ≡ Ok x
at_line_ok at (Ok y) x e = ap Ok (same_Ok {E = ℕ × WorkloadNo} y x e)
at_line_ok at (Err d) x e = absurd (cc)
