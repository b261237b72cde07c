use Rattle.vol_layout.specs.laws.PlaceLaws.{found_kind, found_none}
use Rattle.vol_layout.proofs.geometry.Geometry.kind.Goals as goal

pub returns-clause-kind : goal.returns-clause-kind
returns-clause-kind c = found_kind _ _ _ c.seated.ensures.some c.seated.ensures.none

pub returns-clause-none : goal.returns-clause-none
returns-clause-none c = found_none _ _ _ c.seated.ensures.some c.seated.ensures.none
