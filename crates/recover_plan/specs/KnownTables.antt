-- What a host knows of the tables of its files, over the steps of its own plan.
use Rattle.std.specs.Prelude.{◌≢◌, ℕ}
use Rattle.vol_base.specs.Packing.{Packing}
use Rattle.vol_base.specs.declared.answer.Answer.TheVariants.{Cut}
use Rattle.vol_base.specs.declared.answer.CutBy.{CutBy}
use Rattle.vol_base.specs.declared.answer.Next.TheVariants.{Answered}
use Rattle.vol_base.specs.declared.answer.Step.{Step}
use Rattle.vol_base.specs.declared.command.Command.{Command}
use Rattle.vol_base.specs.declared.command.Command.TheVariants.{Beat, Look, Recover}
use Rattle.vol_layout.specs.declared.kind.Table.{Table}
use Rattle.host_facts.specs.Facts.Fact.{TableIs}
use Rattle.host_facts.specs.Knows.{Knows}
use Rattle.host_facts.specs.Views.{WorldView}

-- it stays
abbrev pub KeepsTables : ℕ → WorldView → WorldView → Type 0
KeepsTables h v w = (t : Table) (p : Packing) → Knows v h (TableIs t p) → Knows w h (TableIs t p)

-- a command of a host that is joined before and behind it: the host keeps its files
abbrev pub KeepsHolds : Command → Type 0
KeepsHolds Beat = Unit {0}
KeepsHolds (Look of) = Unit {0}
KeepsHolds (Recover of) = Unit {0}
KeepsHolds command = ⊥

-- over a step of such a command, but one that cuts it: so a table that is kept for the host is what the device has still. A host that
-- joins has no table, one that leaves gives its files up, and one that is cut is dropped
abbrev pub TablesStay : ℕ → WorldView → WorldView → Command → Step → Type 0
TablesStay h v w command step = KeepsHolds command → ((by : CutBy) → step.next ≢ Answered (Cut by)) → KeepsTables h v w
