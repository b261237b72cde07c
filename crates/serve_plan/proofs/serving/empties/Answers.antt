use Rattle.std.proofs.Common.{◌≡◌, ◌∙◌, ℕ, List, ap, subst, sym}
use Rattle.std.specs.Prelude.{Err, Ok}
use Rattle.vol_layout.specs.declared.geometry.Geometry.{Geometry}
use Rattle.vol_layout.specs.declared.kind.Kind.TheVariants.{Request}
use Rattle.vol_layout.specs.Places.{place_of}
use Rattle.disk_locks.specs.Consistent.{Consistent}
use Rattle.host_facts.specs.Calls.{SwapsPlace}
use Rattle.host_facts.specs.Hints.{WroteHint}
use Rattle.lock_store.specs.Views.{LocksView}
use Rattle.serve_plan.specs.Steps.{Went}
use Rattle.serve_plan.specs.declared.plan.Doing.TheVariants.{Empties}
use Rattle.serve_plan.specs.laws.ServeLaws.{empty_cut, empty_done}
use Rattle.serve_plan.proofs.serving.empties.Goals as goal

pub returns-in-Ok-clause-went : goal.returns-in-Ok-clause-went
returns-in-Ok-clause-went g c =
    let v = c.args.world.now in
    let h = c.args.host in
    let w = c.swap_hint-swapped.new.self in
    let old = c.args.block.0 in
    let same : c.geometry.result.now ≡ v.locks.geometry = c.geometry.ensures.geometry ∙ ap (λ (l : LocksView). l.geometry) c.locks.ensures in
    let here : c.place.result ≡ place_of v.locks.geometry (Request c.args.file) =
    c.place.ensures.place ∙ ap (λ (x : Geometry). place_of x (Request c.args.file)) same in
    let empty = c.no_requests-empty.ensures in
    subst (Went h v w c.args.counts c.args.counts (Empties c.args.file c.args.block)) (sym c.behind_file.ensures)
    (empty_done v w h c.args.file c.args.counts c.args.block (subst Consistent c.locks.ensures c.geometry.ensures.consistent)
    (subst Consistent c.locks-2.ensures c.geometry-geometry.ensures.consistent) c.requires.stands c.in-Ok.ensures.others c.in-Ok._swapped
    (λ done.
    subst (λ (b : List ℕ). WroteHint h (place_of v.locks.geometry (Request c.args.file)) b v w) empty
    (subst (λ (p : ℕ). WroteHint h p c.no_requests-empty.result.0 v w) here (c.in-Ok.ensures.swapped (ap Ok done))))
    (λ found. c.in-Ok.ensures.kept (ap Ok found))
    (subst (λ (b : List ℕ). SwapsPlace v.locks h (place_of v.locks.geometry (Request c.args.file)) old b (Ok c.in-Ok._swapped) w.locks) empty
    (subst (λ (p : ℕ). SwapsPlace v.locks h p old c.no_requests-empty.result.0 (Ok c.in-Ok._swapped) w.locks) here c.in-Ok.ensures.did))
    c.in-Ok.ensures.valid c.in-Ok.ensures.files c.next_held-next.result c.next_held-next.ensures)

pub returns-in-Err-clause-cut : goal.returns-in-Err-clause-cut
returns-in-Err-clause-cut g c =
    let v = c.args.world.now in
    let h = c.args.host in
    let w = c.swap_hint-swapped.new.self in
    let old = c.args.block.0 in
    let same : c.geometry.result.now ≡ v.locks.geometry = c.geometry.ensures.geometry ∙ ap (λ (l : LocksView). l.geometry) c.locks.ensures in
    let here : c.place.result ≡ place_of v.locks.geometry (Request c.args.file) =
    c.place.ensures.place ∙ ap (λ (x : Geometry). place_of x (Request c.args.file)) same in
    empty_cut v w h c.args.file c.args.counts c.args.block (subst Consistent c.locks.ensures c.geometry.ensures.consistent)
    (subst Consistent c.locks-2.ensures c.geometry-geometry.ensures.consistent) c.requires.stands c.in-Err.ensures.others c.in-Err.why
    (subst (λ (b : List ℕ). SwapsPlace v.locks h (place_of v.locks.geometry (Request c.args.file)) old b (Err c.in-Err.why) w.locks)
    c.no_requests-empty.ensures
    (subst (λ (p : ℕ). SwapsPlace v.locks h p old c.no_requests-empty.result.0 (Err c.in-Err.why) w.locks) here c.in-Err.ensures.did))
