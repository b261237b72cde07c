use Rattle.std.proofs.Common.{ap, subst}
use Rattle.std.specs.Prelude.{Err}
use Rattle.lock_store.specs.declared.answers.StepNo.{StepNo}
use Rattle.disk_locks.specs.Consistent.{Consistent}
use Rattle.plan_parts.specs.laws.FetchLaws.{fetch_cut}
use Rattle.solo.specs.laws.AloneLaws.{cut_off}
use Rattle.solo.specs.laws.ReadLaws.{kept_looking, kept_seen}
use Rattle.solo.proofs.reading.needs.Goals as goal

pub returns-in-Ok-clause-looking : goal.returns-in-Ok-clause-looking
returns-in-Ok-clause-looking g c =
    kept_looking c.args.world.now c.read_table.new.self c.args.cache.now c.keep.new.self c.args.file c.args.index c.args.which c.in-Ok.table
    (subst Consistent c.locks.ensures c.geometry-geometry.ensures.consistent) c.requires.alone c.requires.cached c.requires.file
    c.requires.sight c.in-Ok.ensures.did c.in-Ok.ensures.looked c.in-Ok.ensures.table c.keep.ensures

pub returns-in-Ok-clause-seen : goal.returns-in-Ok-clause-seen
returns-in-Ok-clause-seen g c =
    kept_seen c.args.world.now c.read_table.new.self c.args.cache.now c.keep.new.self c.args.file c.args.index c.args.which c.in-Ok.table
    (subst Consistent c.locks.ensures c.geometry-geometry.ensures.consistent) c.requires.alone c.requires.cached c.requires.file
    c.requires.sight c.in-Ok.ensures.did c.in-Ok.ensures.looked c.in-Ok.ensures.table c.keep.ensures

pub returns-in-Err-clause-cut : goal.returns-in-Err-clause-cut
returns-in-Err-clause-cut g c =
    cut_off c.args.world.now c.read_table.new.self 0 (subst Consistent c.locks.ensures c.geometry-geometry.ensures.consistent)
    c.requires.alone.ready.joined c.requires.alone.notes c.requires.alone.registered c.in-Err.why
    (fetch_cut c.args.world.now c.read_table.new.self 0 c.args.which c.in-Err.why c.in-Err.ensures.others c.in-Err.ensures.did
    (λ at is. c.in-Err.ensures.sound at (ap (λ (w : StepNo). Err w) is)))
