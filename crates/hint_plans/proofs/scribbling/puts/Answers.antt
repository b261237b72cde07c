use Rattle.std.proofs.Common.{◌≡◌, ◌∙◌, ap, subst, sym}
use Rattle.disk_locks.specs.Consistent.{Consistent}
use Rattle.host_runs.specs.FileUses.{is_hint_kind}
use Rattle.lock_store.specs.Views.{LocksView}
use Rattle.hint_plans.specs.Plans.{Agrees, command_of}
use Rattle.hint_plans.specs.declared.plan.Doing.TheVariants.{Puts}
use Rattle.plan_parts.specs.laws.CutCallLaws.{cut_weaker}
use Rattle.hint_plans.specs.laws.HintCuts.{write_cut}
use Rattle.hint_plans.specs.laws.ScribbleLaws.{PlaceIs, hint_of, place_found, put_came}
use Rattle.hint_plans.proofs.scribbling.puts.Goals as goal

pub returns-in-Ok-clause-came : goal.returns-in-Ok-clause-came
returns-in-Ok-clause-came g c =
    let v = c.args.world.now in
    let same : c.geometry.result.now ≡ v.locks.geometry = c.geometry.ensures.geometry ∙ ap (λ (l : LocksView). l.geometry) c.locks.ensures in
    let found : PlaceIs v.locks.geometry c.args.scribble.place c.unwrap-kind.result =
    place_found v.locks.geometry c.geometry.result.now c.args.scribble.place c.kind.result c.unwrap-kind.result same c.kind.ensures.kind
    c.kind.ensures.place c.unwrap-kind.ensures in
    put_came v c.write_hint-wrote.new.self c.args.host c.args.scribble c.args.digest c.args.pending.now c.unwrap-kind.result
    c.scribbled-block.result.0 c.in-Ok.field-0 (subst Consistent c.locks.ensures c.geometry.ensures.consistent)
    (subst Consistent c.locks-2.ensures c.geometry-geometry.ensures.consistent) c.requires.stands found c.scribbled-block.ensures
    c.in-Ok.ensures.wrote c.in-Ok.ensures.did c.in-Ok.ensures.others c.in-Ok.ensures.valid c.in-Ok.ensures.files

pub returns-in-Err-clause-cut : goal.returns-in-Err-clause-cut
returns-in-Err-clause-cut g c =
    let v = c.args.world.now in
    let same : c.geometry.result.now ≡ v.locks.geometry = c.geometry.ensures.geometry ∙ ap (λ (l : LocksView). l.geometry) c.locks.ensures in
    let found : PlaceIs v.locks.geometry c.args.scribble.place c.unwrap-kind.result =
    place_found v.locks.geometry c.geometry.result.now c.args.scribble.place c.kind.result c.unwrap-kind.result same c.kind.ensures.kind
    c.kind.ensures.place c.unwrap-kind.ensures in
    cut_weaker (command_of (Puts c.args.scribble c.args.digest)) v c.write_hint-wrote.new.self c.args.host c.in-Err.why
    (Agrees c.args.host v c.args.pending.now.entries (Puts c.args.scribble c.args.digest))
    (write_cut v c.write_hint-wrote.new.self c.args.host c.args.scribble.place c.unwrap-kind.result c.scribbled-block.result.0 c.in-Err.why
    (sym found.here) (hint_of c.unwrap-kind.result (ap is_hint_kind (sym found.at) ∙ c.requires.stands.at)) found.has c.in-Err.ensures.others
    c.in-Err.ensures.did (command_of (Puts c.args.scribble c.args.digest)))
