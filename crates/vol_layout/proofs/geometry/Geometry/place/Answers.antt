use Rattle.vol_layout.specs.laws.PlaceLaws.{place_of-inside, kind_at-place}
use Rattle.vol_layout.proofs.geometry.Geometry.place.Goals as goal

pub returns-clause-inside : goal.returns-clause-inside
returns-clause-inside c = rw c.seat.ensures (place_of-inside _ _ c.requires.kind)

pub returns-clause-back : goal.returns-clause-back
returns-clause-back c = rw c.seat.ensures (kind_at-place _ _ c.requires.kind)
