-- A host that waits for a digest, and the digest that is handed in.
use Rattle.std.proofs.Common.{◌≡◌, ℕ, Some, refl, ap, sym, ◌∙◌}
use Rattle.vol_base.specs.declared.block.Block.{Block}
use Rattle.vol_base.specs.declared.command.Command.{Command}
use Rattle.host_runs.specs.Awaited.{awaited}
use Rattle.host_runs.specs.NextLines.{next_line}
use Rattle.host_runs.specs.Notes.{Notes}
use Rattle.cluster.specs.Agreements.{Agree, IsSound, IsStanding, IsSteady, Turned}
use Rattle.cluster.specs.Parts.{IsCommandAt, asked_by}
use Rattle.cluster.specs.Views.{PartsView, state_of}
use Rattle.cluster.specs.laws.AwaitLaws.{awaits_line}
use Rattle.vol_base.specs.declared.answer.Turn.TheVariants.{Work}

module _ (v : PartsView) (h position : ℕ) (sound : IsSound v) (standing : IsStanding v) (steady : IsSteady v)
    (next : next_line v.workload.lines v.ledger.answers v.phase h ≡ Some position) (command : Command) (at : IsCommandAt v position command) where
  -- the block that the run says is the one that is asked for
  pub awaits : (notes : ℕ → Notes) → Agree v notes → awaited v.workload (state_of v notes) h ≡ asked_by v h command
  awaits notes agree =
      awaits_line v h position at.line sound standing steady next at.is notes agree ∙ ap (asked_by v h) (sym at.command_is)

  pub waits_turn : (block : Block) → asked_by v h command ≡ Some block → Turned v h (Work block) v
  waits_turn block asks notes agree = (notes, (awaits notes agree ∙ asks, refl), agree)
