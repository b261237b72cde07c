use Rattle.std.specs.Prelude.{◌≡◌, List}
use Rattle.vol_base.specs.Grows.{BeginsWith}

-- a value that began where an older one did, and whose list begins with the older one's
pub record Follows {T O E : Type 0} (began : T → O) (listed : T → List E) (old new : T) : Type 0 where
  pub start : began new ≡ began old
  pub entries : BeginsWith (listed old) (listed new)
