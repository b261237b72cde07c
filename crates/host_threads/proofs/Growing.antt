-- Values that follow one another.
use Rattle.std.proofs.Common.{List, [], ◌++◌, refl, sym, ap, ◌∙◌, append_assoc, append-nil}
use Rattle.vol_base.specs.Grows.{BeginsWith}
use Rattle.turn_lock.specs.Follows.{Follows}

pub begins_on : {E : Type 0} (xs ys zs : List E) → BeginsWith xs ys → BeginsWith ys zs → BeginsWith xs zs
begins_on xs ys zs first next = (first.0 ++ next.0, next.1 ∙ (ap (λ l. l ++ next.0) first.1 ∙ append_assoc xs first.0 next.0))

module _ {T O E : Type 0} (began : T → O) (listed : T → List E) where
  pub follows_same : (x : T) → Follows began listed x x
  follows_same x = record { start = refl; entries = ([], sym (append-nil (listed x))) }

  pub follows_on : (x y z : T) → Follows began listed x y → Follows began listed y z → Follows began listed x z
  follows_on x y z first next = record { start = next.start ∙ first.start; entries = begins_on (listed x) (listed y) (listed z) first.entries next.entries }
