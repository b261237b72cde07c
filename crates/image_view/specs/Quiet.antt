-- Images on which nothing of a host is under way.
use Rattle.std.specs.Prelude.{◌≡◌, ◌≢◌, ◌<◌, ℕ, []}
use Rattle.vol_layout.specs.declared.geometry.Geometry.{Geometry}
use Rattle.vol_layout.specs.declared.kind.Resource.{Resource}
use Rattle.vol_layout.specs.declared.field.Field.{Field}
use Rattle.vol_layout.specs.Ranges.{HasResource}
use Rattle.image_view.specs.Images.{Image}
use Rattle.image_view.specs.HostKeys.{lock_state_at, slot_state_at}
use Rattle.image_view.specs.Numbers.{field, journal, logical}

-- each host's slot is free
abbrev pub AreSlotsFree : Geometry → Image → Type 0
AreSlotsFree g image = (h : ℕ) → h < g.hosts → slot_state_at g image h ≡ 0

-- no lock is held, no record stands in a journal, and each field's number stands in its table. A lock may be read: a key of a reader whose
-- slot is free has ended
pub record IsQuiet (g : Geometry) (image : Image) : Type 0 where
  pub locks : (r : Resource) → HasResource g r → lock_state_at g image r ≢ 1
  pub journals : (h : ℕ) → h < g.hosts → journal g image h ≡ []
  pub numbers : (x : Field) → logical g image x ≡ field g image x
