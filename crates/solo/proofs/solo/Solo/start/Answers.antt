use Rattle.std.proofs.Common.{◌∙◌, ap, subst}
use Rattle.disk_locks.specs.Consistent.{Consistent}
use Rattle.host_facts.specs.Views.{WorldView}
use Rattle.lock_store.specs.Views.{LocksView}
use Rattle.shared_disk.specs.Seen.{seen_by}
use Rattle.settle.specs.declared.lone.LoneNo.TheVariants as refusals
use Rattle.solo.specs.laws.BeginLaws.{refused_begun, refused_unwritten}
use Rattle.solo.proofs.solo.Solo.start.Goals as goal

pub returns-in-Err-clause-refused : goal.returns-in-Err-clause-refused
returns-in-Err-clause-refused g c =
    refused_unwritten (seen_by g.D.Device c.args.disk) (seen_by g.D.Device c.open.new.disk) c.in-Err.no c.in-Err.ensures.told
    c.in-Err.ensures.volume c.in-Err.ensures.given c.in-Err.ensures.cause

pub returns-in-Err-new-clause-refused : goal.returns-in-Err-new-clause-refused
returns-in-Err-new-clause-refused g c =
    refused_unwritten (seen_by g.D.Device c.args.disk) (seen_by g.D.Device c.open.new.disk) refusals.NoMemory c.open.ensures.told
    c.open.ensures.volume c.open.ensures.given tt

pub returns-in-Err-begun-clause-refused : goal.returns-in-Err-begun-clause-refused
returns-in-Err-begun-clause-refused g c =
    refused_begun (seen_by g.D.Device c.args.disk) (seen_by g.D.Device c.open.new.disk) c.new-world.result c.begins-begun.new.world
    (ap (λ (x : WorldView). x.locks.disk) c.new-world.ensures ∙ ap (λ (l : LocksView). l.disk) c.new-2.ensures) c.open.ensures.later
    c.open.ensures.told c.open.ensures.given (subst Consistent c.locks.ensures c.geometry-geometry.ensures.consistent) c.begins-begun.ensures.later
    (seen_by g.D.Device c.close.result) c.in-Err-begun.no c.close.ensures c.in-Err-begun.ensures.cause
