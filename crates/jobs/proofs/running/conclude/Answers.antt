use Rattle.std.proofs.Common.{ap, refl, ◌∙◌}
use Rattle.std.specs.Prelude.{Err}
use Rattle.std.proofs.lemmas.Option.{IfSome_then}
use Rattle.volume_faults.specs.laws.ReadableLaws.{IsReadable-valid, IsReadableVolume-readable}
use Rattle.jobs.proofs.Conclusions.{has_keys, reported, reported_without}
use Rattle.jobs.proofs.running.conclude.Goals as goal

pub survey-requires-clause-readable : goal.survey-requires-clause-readable
survey-requires-clause-readable g c =
    let s = g.D.Device.state c.args.disk.now in
    let volume = c.args.workload.now.geometry in
    IfSome_then s.told c.requires.volume
    (λ t valid. IsReadableVolume-readable volume s.counter t.image (IsReadable-valid volume s.counter t.image valid))

pub survey-requires-clause-expected : goal.survey-requires-clause-expected
survey-requires-clause-expected g c = IfSome_then (g.D.Device.state c.args.disk.now).told c.requires.volume (λ t valid. valid.geometry)

pub returns-in-Ok-clause-concluded : goal.returns-in-Ok-clause-concluded
returns-in-Ok-clause-concluded g c =
    reported _ _ _ _ _ _ _ c.survey.ensures.visiting c.report_with.ensures c.in-Ok.ensures.usage
    (λ at. let no = c.survey.ensures.no_keys.1 at in let is = c.in-Ok.is in cc) c.in-Ok.ensures.done

pub returns-in-Err-Failed-clause-concluded : goal.returns-in-Err-Failed-clause-concluded
returns-in-Err-Failed-clause-concluded g c =
    let is = c.in-Err-Failed.is ∙ ap (λ no. Err no) c.in-Err-Failed.field-0-is in
    reported_without _ _ _ _ _ _ _ c.survey.ensures.visiting c.report_without.ensures
    (has_keys _ _ _ is (λ e. cc) c.survey.ensures.no_keys, c.survey.ensures.failed is)

pub returns-in-Err-NoKeys-clause-concluded : goal.returns-in-Err-NoKeys-clause-concluded
returns-in-Err-NoKeys-clause-concluded g c =
    let is = c.in-Err-NoKeys.is ∙ ap (λ no. Err no) c.in-Err-NoKeys.field-0-is in
    reported_without _ _ _ _ _ _ _ c.survey.ensures.visiting c.report_without-in-Err-NoKeys.ensures
    (record { last = refl; met = c.survey.ensures.no_keys.0 is })

pub returns-in-Err-Bad-clause-concluded : goal.returns-in-Err-Bad-clause-concluded
returns-in-Err-Bad-clause-concluded g c =
    let is = c.in-Err-Bad.is ∙ ap (λ no. Err no) c.in-Err-Bad.field-0-is in
    let place = c.in-Err-Bad.place in
    reported_without _ _ _ _ _ _ _ c.survey.ensures.visiting c.report_without-in-Err-Bad.ensures (
      has_keys _ _ _ is (λ e. cc) c.survey.ensures.no_keys,
      record { untold = c.survey.ensures.bad place is; read = c.survey.ensures.place place is; left = c.survey.ensures.left place is },
    )
