use Rattle.volume_opening.proofs.OpeningSteps.{refused_entry, unchanged_images}
use Rattle.shared_disk.specs.laws.VisitLaws.{visit}
use Rattle.vol_base.specs.laws.ResultLaws.{on_ok_of}
use Rattle.volume_opening.proofs.VisitSteps.{entered_key, fence_failed, is_visited, left_after, rose_since, still_entered}
use Rattle.volume_opening.proofs.opening.«open».Goals as goal

pub returns-in-Err-clause-refused : goal.returns-in-Err-clause-refused
returns-in-Err-clause-refused g c = refused_entry _ _ _ c.in-Err.refusal c.from.result c.from.ensures c.in-Err.ensures.same

pub returns-in-Err-clause-images : goal.returns-in-Err-clause-images
returns-in-Err-clause-images g c = unchanged_images _ _ _ c.in-Err.ensures.same

pub open_under-opened-requires-clause-key : goal.open_under-opened-requires-clause-key
open_under-opened-requires-clause-key g c = entered_key _ _ c.in-Ok.key.0 c.in-Ok.ensures.key c.in-Ok.ensures.done

pub returns-in-Ok-fence-clause-visited : goal.returns-in-Ok-fence-clause-visited
returns-in-Ok-fence-clause-visited g c =
    let before = g.D.Device.state c.args.disk.now in
    let entered = g.D.Device.state c.register.new.self in
    let used = g.D.Device.state c.open_under-opened.new.disk in
    let left = g.D.Device.state c.fence.new.self in
    on_ok_of c.open_under-opened.result
    (is_visited before used left (visit before entered used left c.in-Ok.key.0 c.in-Ok.ensures.key (g.met.D.Device.keys_reached c.args.disk.now) c.in-Ok.ensures.done c.open_under-opened.ensures.only c.in-Ok-fence.ensures.done))

pub returns-in-Ok-fence-clause-left : goal.returns-in-Ok-fence-clause-left
returns-in-Ok-fence-clause-left g c =
    let before = g.D.Device.state c.args.disk.now in
    let entered = g.D.Device.state c.register.new.self in
    let used = g.D.Device.state c.open_under-opened.new.disk in
    let left = g.D.Device.state c.fence.new.self in
    left_after before entered used left c.open_under-opened.result (λ e. let yes_failed = c.is_failure.ensures.1 e in let no_failed = c.if-is_failure.false in cc) c.open_under-opened.ensures.no_keys c.open_under-opened.ensures.kept c.in-Ok.ensures.done
    (visit before entered used left c.in-Ok.key.0 c.in-Ok.ensures.key (g.met.D.Device.keys_reached c.args.disk.now) c.in-Ok.ensures.done c.open_under-opened.ensures.only c.in-Ok-fence.ensures.done)

pub returns-in-Err-fence-clause-failed : goal.returns-in-Err-fence-clause-failed
returns-in-Err-fence-clause-failed g c = λ e.
    rose_since _ _ _ _ c.in-Ok.ensures.later c.open_under-opened.ensures.later
    (fence_failed c.fence.result c.in-Err-fence.field-0 _ _ _ _ c.in-Err-fence.is (still_entered _ _ _ c.in-Ok.key.0 c.in-Ok.ensures.key c.in-Ok.ensures.done c.open_under-opened.ensures.only) c.fence.ensures.fenced c.fence.ensures.no_keys c.fence.ensures.memory c.fence.ensures.failed)
