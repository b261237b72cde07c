use Rattle.std.proofs.Common.{subst, sym}
use Rattle.cluster.specs.Agreements.{IsSound}
use Rattle.cluster.specs.laws.SeatedSoundLaws.{seat_sound}
use Rattle.cluster.proofs.parts.Parts.step.Goals as goal

pub returns-clause-sound : goal.returns-clause-sound
returns-clause-sound g c =
    seat_sound _ c.from.result c.turn.new.self c.turn.new.world c.turn.new.cache (subst IsSound (sym c.self.view_is) c.requires.sound)
    c.turn.ensures.others.locks.lasts.geometry
