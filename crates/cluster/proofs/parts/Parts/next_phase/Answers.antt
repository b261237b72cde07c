use Rattle.std.proofs.Common.{sym, subst}
use Rattle.cluster.specs.Agreements.{IsSound}
use Rattle.cluster.specs.Runs.{IsIdle}
use Rattle.cluster.specs.laws.PhaseLaws.{sound_next}
use Rattle.cluster.proofs.parts.Parts.next_phase.Goals as goal

pub returns-then-self-clause-sound : goal.returns-then-self-clause-sound
returns-then-self-clause-sound g c =
    sound_next _ (subst IsSound (sym c.self.view_is) c.requires.sound) (subst IsIdle (sym c.self.view_is) c.requires.idle) c.if-self.true
