-- What follows of what a call gave.
use Rattle.std.proofs.Common.{Err, Ok, Result}
use Rattle.std.specs.Prelude.{IfOk, OnErr, OnOk}

-- from a fact of what is done
pub if_ok_then : {T E : Type 0} (r : Result T E) {P Q : T → Type 0} → IfOk r P → ((x : T) → P x → Q x) → IfOk r Q
if_ok_then (Ok x) p follows = follows x p
if_ok_then (Err e) p follows = tt

-- from two facts of what is done
pub both_ok : {T E : Type 0} (r : Result T E) {P Q R : T → Type 0} → IfOk r P → IfOk r Q → ((x : T) → P x → Q x → R x) → IfOk r R
both_ok (Ok x) p q follows = follows x p q
both_ok (Err e) p q follows = tt

-- what holds in any case
pub on_ok_of : {T E : Type 0} (r : Result T E) {P : Type 0} → P → OnOk r P
on_ok_of (Ok x) p = p
on_ok_of (Err e) p = tt

pub on_err_of : {T E : Type 0} (r : Result T E) {P : Type 0} → P → OnErr r P
on_err_of (Ok x) p = tt
on_err_of (Err e) p = p
