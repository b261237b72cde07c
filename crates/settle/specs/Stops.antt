-- Why a volume was not settled.
use Rattle.std.specs.Prelude.{◌≡◌, Option, Some}
use Rattle.settle.specs.declared.lone.LoneNo.{LoneNo}
use Rattle.settle.specs.declared.lone.LoneNo.TheVariants as stops

-- the host stopped for exactly this; a full volume and a key that was refused are no cause, since nothing is written and no host joins
abbrev pub IsStopped : Option LoneNo → LoneNo → Type 0
IsStopped stopped stops.Full = ⊥
IsStopped stopped stops.NoKeys = ⊥
IsStopped stopped why = stopped ≡ Some why

-- or the list of blocks found no memory, and the host goes on
abbrev pub IsRefused : Option LoneNo → LoneNo → Type 0
IsRefused stopped stops.NoMemory = Unit {0}
IsRefused stopped why = IsStopped stopped why
