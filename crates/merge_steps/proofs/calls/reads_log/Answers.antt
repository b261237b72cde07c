use Rattle.std.proofs.Common.{◌≡◌, ◌∙◌, ℕ, ap, subst}
use Rattle.vol_layout.specs.declared.geometry.Geometry.{Geometry}
use Rattle.vol_layout.specs.declared.kind.Kind.TheVariants.{Log}
use Rattle.vol_layout.specs.Places.{place_of}
use Rattle.lock_store.specs.Views.{LocksView}
use Rattle.disk_locks.specs.Consistent.{Consistent}
use Rattle.host_facts.specs.Calls.{ReadsPlace}
use Rattle.merge_steps.specs.laws.CallLaws.{log_cut, log_went}
use Rattle.merge_steps.proofs.calls.reads_log.Goals as goal

pub returns-clause-went : goal.returns-clause-went
returns-clause-went g c =
    let v = c.args.world.now in
    let h = c.args.host in
    let same : c.geometry.result.now ≡ v.locks.geometry = c.geometry.ensures.geometry ∙ ap (λ (l : LocksView). l.geometry) c.locks.ensures in
    let here : c.place.result ≡ place_of v.locks.geometry (Log h c.args.log) =
    c.place.ensures.place ∙ ap (λ (x : Geometry). place_of x (Log h c.args.log)) same in
    let consistent = subst Consistent c.locks.ensures c.geometry.ensures.consistent in
    log_went v c.read_hint.new.self h consistent c.requires.stands c.read_hint.ensures.others c.args.log c.read_hint.result c.requires.log
    consistent.geometry.logs.1
    (subst (λ (p : ℕ). ReadsPlace v.locks h p c.read_hint.result c.read_hint.new.self.locks) here c.read_hint.ensures.did) c.read_hint.ensures.looked

pub returns-clause-cut : goal.returns-clause-cut
returns-clause-cut g c =
    let v = c.args.world.now in
    let same : c.geometry.result.now ≡ v.locks.geometry = c.geometry.ensures.geometry ∙ ap (λ (l : LocksView). l.geometry) c.locks.ensures in
    log_cut v c.read_hint.new.self c.args.host c.place.result (Log c.args.host c.args.log) c.read_hint.result
    (c.place.ensures.place ∙ ap (λ (x : Geometry). place_of x (Log c.args.host c.args.log)) same) c.read_hint.ensures.others c.read_hint.ensures.did
