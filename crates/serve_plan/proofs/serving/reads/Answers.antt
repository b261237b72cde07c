use Rattle.std.proofs.Common.{◌≡◌, ◌∙◌, ℕ, ap, subst}
use Rattle.vol_layout.specs.declared.geometry.Geometry.{Geometry}
use Rattle.vol_layout.specs.declared.kind.Kind.TheVariants.{Request}
use Rattle.vol_layout.specs.Places.{place_of}
use Rattle.shared_disk.specs.Events.{Reads, Shows}
use Rattle.disk_locks.specs.Consistent.{Consistent}
use Rattle.lock_store.specs.Events.{Did}
use Rattle.lock_store.specs.Views.{LocksView, host_at}
use Rattle.hint_plans.specs.laws.HintCuts.{read_cut}
use Rattle.serve_plan.specs.Requests.{IsReadOf}
use Rattle.serve_plan.specs.laws.ServeLaws.{read_went}
use Rattle.serve_plan.proofs.serving.reads.Goals as goal

pub returns-in-Ok-clause-went : goal.returns-in-Ok-clause-went
returns-in-Ok-clause-went g c =
    let v = c.args.world.now in
    let h = c.args.host in
    let w = c.read_hint-read.new.self in
    let same : c.geometry.result.now ≡ v.locks.geometry = c.geometry.ensures.geometry ∙ ap (λ (l : LocksView). l.geometry) c.locks.ensures in
    let here : c.place.result ≡ place_of v.locks.geometry (Request c.args.file) =
    c.place.ensures.place ∙ ap (λ (x : Geometry). place_of x (Request c.args.file)) same in
    read_went v w h c.args.file c.args.counts c.in-Ok.block (subst Consistent c.locks.ensures c.geometry.ensures.consistent)
    (subst Consistent c.locks-2.ensures c.geometry-geometry.ensures.consistent) c.requires.stands
    (subst (λ (p : ℕ). Did v.locks h (Reads p) (Shows c.in-Ok.block.0) (host_at v.locks h) w.locks) here c.in-Ok.ensures.did)
    c.in-Ok.ensures.looked c.in-Ok.ensures.others c.next_held-next.result c.next_held-next.ensures c.behind_read.result
    (subst (λ (x : Geometry). IsReadOf x h c.args.file c.in-Ok.block c.next_held-next.result c.args.counts c.behind_read.result) same
    c.behind_read.ensures)

pub returns-in-Err-clause-cut : goal.returns-in-Err-clause-cut
returns-in-Err-clause-cut g c =
    let v = c.args.world.now in
    let same : c.geometry.result.now ≡ v.locks.geometry = c.geometry.ensures.geometry ∙ ap (λ (l : LocksView). l.geometry) c.locks.ensures in
    read_cut v c.read_hint-read.new.self c.args.host c.place.result (Request c.args.file) c.in-Err.why
    (c.place.ensures.place ∙ ap (λ (x : Geometry). place_of x (Request c.args.file)) same) c.in-Err.ensures.others c.in-Err.ensures.did
