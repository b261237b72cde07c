use Rattle.std.proofs.Common.{◌≡◌, ◌∙◌, ℕ, List, ap, subst}
use Rattle.std.specs.Prelude.{OnOk}
use Rattle.vol_layout.specs.declared.geometry.Geometry.{Geometry}
use Rattle.vol_layout.specs.declared.kind.Kind.TheVariants.{Log}
use Rattle.vol_layout.specs.Places.{place_of}
use Rattle.lock_store.specs.Views.{LocksView}
use Rattle.disk_locks.specs.Consistent.{Consistent}
use Rattle.host_facts.specs.Calls.{WritesPlace}
use Rattle.host_facts.specs.Hints.{WroteHint}
use Rattle.merge_steps.specs.laws.CallLaws.{empty_cut, empty_went}
use Rattle.merge_steps.proofs.calls.empties_log.Goals as goal

pub returns-clause-went : goal.returns-clause-went
returns-clause-went g c =
    let v = c.args.world.now in
    let w = c.write_hint.new.self in
    let h = c.args.host in
    let same : c.geometry.result.now ≡ v.locks.geometry = c.geometry.ensures.geometry ∙ ap (λ (l : LocksView). l.geometry) c.locks.ensures in
    let here : c.place.result ≡ place_of v.locks.geometry (Log h c.args.log) =
    c.place.ensures.place ∙ ap (λ (x : Geometry). place_of x (Log h c.args.log)) same in
    empty_went v w h (subst Consistent c.locks.ensures c.geometry.ensures.consistent) c.requires.stands c.write_hint.ensures.others
    c.args.log c.write_hint.result c.requires.log c.write_hint.ensures.valid c.write_hint.ensures.files
    (subst (λ (b : List ℕ). WritesPlace v.locks h (place_of v.locks.geometry (Log h c.args.log)) b c.write_hint.result w.locks) c.empty_block-block.ensures
    (subst (λ (p : ℕ). WritesPlace v.locks h p c.empty_block-block.result.0 c.write_hint.result w.locks) here c.write_hint.ensures.did))
    (subst (λ (b : List ℕ). OnOk c.write_hint.result (WroteHint h (place_of v.locks.geometry (Log h c.args.log)) b v w)) c.empty_block-block.ensures
    (subst (λ (p : ℕ). OnOk c.write_hint.result (WroteHint h p c.empty_block-block.result.0 v w)) here c.write_hint.ensures.wrote))

pub returns-clause-cut : goal.returns-clause-cut
returns-clause-cut g c =
    let v = c.args.world.now in
    let same : c.geometry.result.now ≡ v.locks.geometry = c.geometry.ensures.geometry ∙ ap (λ (l : LocksView). l.geometry) c.locks.ensures in
    empty_cut v c.write_hint.new.self c.args.host c.place.result (Log c.args.host c.args.log) c.empty_block-block.result.0 c.write_hint.result
    (c.place.ensures.place ∙ ap (λ (x : Geometry). place_of x (Log c.args.host c.args.log)) same) tt (c.requires.stands.host, c.requires.log)
    c.write_hint.ensures.others c.write_hint.ensures.did
