use Rattle.std.proofs.Common.{◌≡◌, ◌∙◌, ℕ, ap, subst}
use Rattle.vol_layout.specs.declared.geometry.Geometry.{Geometry}
use Rattle.vol_layout.specs.Places.{place_of}
use Rattle.lock_store.specs.Views.{LocksView}
use Rattle.disk_locks.specs.Consistent.{Consistent}
use Rattle.host_facts.specs.Calls.{SwapsPlace}
use Rattle.host_facts.specs.Hints.{WroteHint}
use Rattle.merge_steps.specs.laws.CallLaws.{swap_cuts, swap_went}
use Rattle.merge_steps.proofs.calls.swaps_index.Goals as goal

pub returns-clause-went : goal.returns-clause-went
returns-clause-went g c =
    let v = c.args.world.now in
    let w = c.swap_hint.new.self in
    let h = c.args.host in
    let same : c.geometry.result.now ≡ v.locks.geometry = c.geometry.ensures.geometry ∙ ap (λ (l : LocksView). l.geometry) c.locks.ensures in
    let here : c.place.result ≡ place_of v.locks.geometry c.args.kind =
    c.place.ensures.place ∙ ap (λ (x : Geometry). place_of x c.args.kind) same in
    swap_went v w h (subst Consistent c.locks.ensures c.geometry.ensures.consistent) c.requires.stands c.swap_hint.ensures.others
    c.args.kind c.args.old.now.0 c.args.new.now.0 c.requires.kind c.requires.has c.swap_hint.ensures.valid c.swap_hint.ensures.files c.swap_hint.result
    (subst (λ (p : ℕ). SwapsPlace v.locks h p c.args.old.now.0 c.args.new.now.0 c.swap_hint.result w.locks) here c.swap_hint.ensures.did)
    (λ is. subst (λ (p : ℕ). WroteHint h p c.args.new.now.0 v w) here (c.swap_hint.ensures.swapped is)) c.swap_hint.ensures.kept

pub returns-clause-cut : goal.returns-clause-cut
returns-clause-cut g c =
    let v = c.args.world.now in
    let same : c.geometry.result.now ≡ v.locks.geometry = c.geometry.ensures.geometry ∙ ap (λ (l : LocksView). l.geometry) c.locks.ensures in
    swap_cuts v c.swap_hint.new.self c.args.host c.place.result c.args.kind c.args.old.now.0 c.args.new.now.0 c.swap_hint.result
    (c.place.ensures.place ∙ ap (λ (x : Geometry). place_of x c.args.kind) same) c.requires.kind c.requires.has c.swap_hint.ensures.others c.swap_hint.ensures.did
