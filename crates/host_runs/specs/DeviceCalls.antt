-- The device call of a turn, if it makes one.
use Rattle.std.specs.Prelude.{◌≡◌, ◌≢◌, ℕ, List, Option, Some, None, IfSome, IsSomeAnd}
use Rattle.shared_disk.specs.Events.{Acts, Call, Event, Reply, Done, Reads, Refuses, Shows, Tests}
use Rattle.shared_disk.specs.Seen.{DiskSeen}
use Rattle.shared_disk.specs.State.{State}
use Rattle.shared_disk.specs.declared.answers.DiskNo.{DiskNo}
use Rattle.shared_disk.specs.declared.answers.DiskNo.TheVariants.{NoMemory}
use Rattle.image_view.specs.Images.{Image}

-- no call, by which nothing changes; or one call, which was not refused for want of memory
abbrev pub ActsOnce : Option Event → DiskSeen → DiskSeen → Type 0
ActsOnce None old new = new ≡ old
ActsOnce (Some e) old new = Acts e old new × (e.reply ≢ Refuses NoMemory)

-- the call was refused, for this cause
abbrev pub IsRefused : DiskNo → Option Event → Type 0
IsRefused cause made = IsSomeAnd made (λ e. e.reply ≡ Refuses cause)

-- this call was made, and done
abbrev pub HasDone : Call → Option Event → Type 0
HasDone call made = IsSomeAnd made (λ e. (e.call ≡ call) × (e.reply ≡ Done))

-- a block that a call read or found, and the place where it stands
abbrev pub shown_at : Call → Reply → Option (ℕ × List ℕ)
shown_at (Reads place) (Shows block) = Some (place, block)
shown_at (Tests place old new) (Shows block) = Some (place, block)
shown_at call reply = None

-- the call read or found this block at this place
abbrev pub HasShown : ℕ → List ℕ → Option Event → Type 0
HasShown place block made = IsSomeAnd made (λ e. shown_at e.call e.reply ≡ Some (place, block))

-- a fact of the image, where the device tells it
abbrev pub OnImage : State → (Image → Type 0) → Type 0
OnImage state P = IfSome state.told (λ told. P told.image)
