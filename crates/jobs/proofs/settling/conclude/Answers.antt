use Rattle.std.proofs.lemmas.Option.{IfSome_then}
use Rattle.image_view.specs.Images.{geometry_of}
use Rattle.volume_faults.specs.laws.ReadableLaws.{IsReadable-valid}
use Rattle.jobs.proofs.settling.conclude.Goals as goal

pub survey-requires-clause-readable : goal.survey-requires-clause-readable
survey-requires-clause-readable g c =
    let s = g.D.Device.state c.args.disk.now in
    IfSome_then s.told c.requires.volume (λ t valid. IsReadable-valid (geometry_of t.image) s.counter t.image valid)
