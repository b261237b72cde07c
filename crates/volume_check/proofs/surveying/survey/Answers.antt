use Rattle.std.proofs.Common.{inl, inr, ◌∙◌, ap}
use Rattle.shared_disk.specs.Calls.{after_fence}
use Rattle.shared_disk.specs.State.{State}
use Rattle.vol_base.specs.laws.ResultLaws.{on_ok_of}
use Rattle.shared_disk.specs.laws.VisitLaws.{next_registered, visited}
use Rattle.volume_check.proofs.surveying.survey.Goals as goal

pub end-requires : goal.end-requires
end-requires g c =
    rw (c.survey_under-found.ensures.same, c.in-Ok.ensures.done) (next_registered (g.D.Device.state c.args.disk.now) c.in-Ok.key.0 c.in-Ok.ensures.key)

pub returns-in-Ok-end-clause-done : goal.returns-in-Ok-end-clause-done
returns-in-Ok-end-clause-done g c =
    on_ok_of c.survey_under-found.result
    (c.in-Ok-end.ensures.done ∙ ap (λ (t : State). after_fence c.in-Ok.key.0 t) (c.survey_under-found.ensures.same ∙ c.in-Ok.ensures.done)
    ∙ visited (g.D.Device.state c.args.disk.now) c.in-Ok.key.0 c.in-Ok.ensures.key (g.met.D.Device.keys_reached c.args.disk.now))

pub returns-in-Ok-end-clause-left : goal.returns-in-Ok-end-clause-left
returns-in-Ok-end-clause-left g c place bad =
    c.in-Ok-end.ensures.done ∙ ap (λ (t : State). after_fence c.in-Ok.key.0 t) (c.survey_under-found.ensures.same ∙ c.in-Ok.ensures.done)
    ∙ visited (g.D.Device.state c.args.disk.now) c.in-Ok.key.0 c.in-Ok.ensures.key (g.met.D.Device.keys_reached c.args.disk.now)

pub returns-in-Ok-end-clause-visiting : goal.returns-in-Ok-end-clause-visiting
returns-in-Ok-end-clause-visiting g c =
    inr (inr (c.in-Ok-end.ensures.done ∙ ap (λ (t : State). after_fence c.in-Ok.key.0 t) (c.survey_under-found.ensures.same ∙ c.in-Ok.ensures.done)
    ∙ visited (g.D.Device.state c.args.disk.now) c.in-Ok.key.0 c.in-Ok.ensures.key (g.met.D.Device.keys_reached c.args.disk.now)))

pub returns-in-Err-end-clause-visiting : goal.returns-in-Err-end-clause-visiting
returns-in-Err-end-clause-visiting g c = inr (inl (c.in-Err-end.ensures.same ∙ c.survey_under-found.ensures.same ∙ c.in-Ok.ensures.done))
