use Rattle.std.proofs.Common.{rules, ◌≡◌, ap}
use Rattle.std.specs.Option.{is_some}
use Rattle.vol_layout.specs.Places.{kind_at}
use Rattle.meta_world.proofs.HintPlaces.{hint_is, hint_kind}
use Rattle.meta_world.proofs.world.MetaWorld.hint.Goals as goal

pub unwrap-requires : goal.unwrap-requires
unwrap-requires g c =
    let at : c.kind.result ≡ kind_at c.args.self.now.locks.geometry c.args.place = search rules in
    ap is_some (hint_kind c.args.self.now.locks.geometry c.args.place c.kind.result c.requires at)

pub returns-clause-hint : goal.returns-clause-hint
returns-clause-hint g c =
    let at : c.kind.result ≡ kind_at c.args.self.now.locks.geometry c.args.place = search rules in
    hint_is c.args.self.now.locks.geometry c.args.place c.kind.result c.unwrap.result c.requires at c.unwrap.ensures
