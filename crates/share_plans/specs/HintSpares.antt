-- A device call that is at no block of hints.
use Rattle.std.specs.Prelude.{◌≡◌, false}
use Rattle.vol_layout.specs.declared.geometry.Geometry.{Geometry}
use Rattle.shared_disk.specs.Events.{Call, Fences, Reads, Registers, Tests, Writes}
use Rattle.host_runs.specs.FileUses.{is_hint_place}

-- its place, where it has one, is that of a table, a journal, a lock, a slot or a data block
abbrev pub SparesHints : Geometry → Call → Type 0
SparesHints g (Reads place) = is_hint_place g place ≡ false
SparesHints g (Writes place block) = is_hint_place g place ≡ false
SparesHints g (Tests place old new) = is_hint_place g place ≡ false
SparesHints g (Registers host) = Unit {0}
SparesHints g (Fences target) = Unit {0}
