use Rattle.std.proofs.Common.{ap, refl, subst}
use Rattle.std.specs.Prelude.{Err}
use Rattle.disk_locks.specs.Consistent.{Consistent}
use Rattle.lock_store.specs.declared.answers.StepNo.{StepNo}
use Rattle.plan_parts.specs.laws.FetchLaws.{fetch_cut, table_fetched}
use Rattle.plan_parts.specs.laws.MadeCallLaws.{read_so}
use Rattle.plan_parts.proofs.fetching.fetch.Goals as goal

pub returns-in-Ok-clause-went : goal.returns-in-Ok-clause-went
returns-in-Ok-clause-went g c =
    table_fetched c.args.world.now c.read_table.new.self c.args.host c.args.which c.in-Ok.table _
    (subst Consistent c.locks.ensures c.geometry-geometry.ensures.consistent) c.requires.table c.requires.held c.in-Ok.ensures.did
    c.in-Ok.ensures.others c.in-Ok.ensures.looked c.in-Ok.ensures.table refl

pub returns-in-Err-clause-cut : goal.returns-in-Err-clause-cut
returns-in-Err-clause-cut g c =
    fetch_cut c.args.world.now c.read_table.new.self c.args.host c.args.which c.in-Err.why c.in-Err.ensures.others c.in-Err.ensures.did
    (λ at same. c.in-Err.ensures.sound at (ap (λ (x : StepNo). Err x) same))

pub returns-in-Ok-clause-so : goal.returns-in-Ok-clause-so
returns-in-Ok-clause-so g c =
    read_so c.args.world.now c.read_table.new.self c.args.host c.args.which c.in-Ok.table _
    (subst Consistent c.locks.ensures c.geometry-geometry.ensures.consistent) c.requires.table c.in-Ok.ensures.did c.in-Ok.ensures.others
    refl
