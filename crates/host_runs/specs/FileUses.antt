-- How a command uses a file, and which hold it tries for.
use Rattle.std.specs.Prelude.{ℕ, Bool, true, false, Option, Some, None}
use Rattle.vol_base.specs.declared.command.Command.{Command}
use Rattle.vol_base.specs.declared.command.Command.TheVariants.{Close, Create, Punch, Read, Remove, Scan, Size, Write}
use Rattle.vol_layout.specs.declared.geometry.Geometry.{Geometry}
use Rattle.vol_layout.specs.declared.kind.Kind.{Kind}
use Rattle.vol_layout.specs.declared.kind.Kind.TheVariants as kinds
use Rattle.vol_layout.specs.Places.{kind_at}

-- the file that a file command or a scan is on
abbrev pub file_used : Command → Option ℕ
file_used (Create f) = Some f
file_used (Size f n) = Some f
file_used (Write f i n) = Some f
file_used (Read f i) = Some f
file_used (Punch f i) = Some f
file_used (Remove f) = Some f
file_used (Scan f i) = Some f
file_used _ = None

-- the file whose lock a command tries
abbrev pub file_tried : Command → Option ℕ
file_tried (Close f) = Some f
file_tried command = file_used command

-- what a test-and-set of a file's lock is for: to read the file, to have it alone, or to give a read hold back
pub data Try : Type 0 where
  ToRead : Try
  ToWrite : Try
  ToRelease : Try

abbrev pub try_of : Command → Option Try
try_of (Read f i) = Some ToRead
try_of (Create f) = Some ToWrite
try_of (Size f n) = Some ToWrite
try_of (Write f i n) = Some ToWrite
try_of (Punch f i) = Some ToWrite
try_of (Remove f) = Some ToWrite
try_of (Scan f i) = Some ToWrite
try_of (Close f) = Some ToRelease
try_of _ = None

-- a log, a block of the index, or a block of requests
abbrev pub is_hint_kind : Option Kind → Bool
is_hint_kind (Some (kinds.Log h l)) = true
is_hint_kind (Some (kinds.Shard s)) = true
is_hint_kind (Some (kinds.Request f)) = true
is_hint_kind _ = false

abbrev pub is_hint_place : Geometry → ℕ → Bool
is_hint_place g place = is_hint_kind (kind_at g place)
