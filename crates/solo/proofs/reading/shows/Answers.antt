use Rattle.std.proofs.Common.{subst}
use Rattle.disk_locks.specs.Consistent.{Consistent}
use Rattle.plan_parts.specs.laws.BlockLaws.{cut_block}
use Rattle.solo.specs.laws.AloneLaws.{cut_off}
use Rattle.solo.specs.laws.ReadLaws.{shown_looking, shown_named, shown_seen}
use Rattle.solo.proofs.reading.shows.Goals as goal

pub read_number-requires-clause-named : goal.read_number-requires-clause-named
read_number-requires-clause-named g c =
    shown_named c.args.world.now c.args.cache.now c.args.file c.args.index c.args.number
    (subst Consistent c.locks.ensures c.geometry-geometry.ensures.consistent) c.requires.alone c.requires.cached c.requires.file
    c.requires.sight

pub returns-in-Ok-clause-looking : goal.returns-in-Ok-clause-looking
returns-in-Ok-clause-looking g c =
    shown_looking c.args.world.now c.args.cache.now c.args.file c.args.index c.args.number
    (subst Consistent c.locks.ensures c.geometry-geometry.ensures.consistent) c.requires.alone c.requires.cached c.requires.file
    c.requires.sight c.read_number.new.self c.in-Ok.block
    (subst Consistent c.locks-in-Ok.ensures c.geometry-geometry-in-Ok.ensures.consistent) c.in-Ok.ensures.did c.in-Ok.ensures.looked
    c.in-Ok.ensures.block

pub returns-in-Ok-clause-seen : goal.returns-in-Ok-clause-seen
returns-in-Ok-clause-seen g c =
    shown_seen c.args.world.now c.args.cache.now c.args.file c.args.index c.args.number
    (subst Consistent c.locks.ensures c.geometry-geometry.ensures.consistent) c.requires.alone c.requires.cached c.requires.file
    c.requires.sight c.read_number.new.self c.in-Ok.block
    (subst Consistent c.locks-in-Ok.ensures c.geometry-geometry-in-Ok.ensures.consistent) c.in-Ok.ensures.did c.in-Ok.ensures.looked
    c.in-Ok.ensures.block

pub returns-in-Err-clause-cut : goal.returns-in-Err-clause-cut
returns-in-Err-clause-cut g c =
    cut_off c.args.world.now c.read_number.new.self 0 (subst Consistent c.locks.ensures c.geometry-geometry.ensures.consistent)
    c.requires.alone.ready.joined c.requires.alone.notes c.requires.alone.registered c.in-Err.why
    (cut_block c.args.world.now c.read_number.new.self 0 c.args.number c.in-Err.why c.in-Err.ensures.others c.in-Err.ensures.did)
