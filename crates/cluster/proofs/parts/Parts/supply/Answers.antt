use Rattle.std.proofs.Common.{sym, ◌∙◌}
use Rattle.cluster.specs.laws.SoonerLaws.{idle_turns}
use Rattle.cluster.specs.laws.SupplyLaws.{idle_supplied}
use Rattle.cluster.proofs.parts.Parts.supply.Goals as goal

pub returns-in_default-clause-supplied : goal.returns-in_default-clause-supplied
returns-in_default-clause-supplied g c =
    idle_supplied c.args.self.now c.args.host c.args.digest (sym c.next_line.ensures ∙ c.in_default.is)

pub returns-in_default-clause-turns : goal.returns-in_default-clause-turns
returns-in_default-clause-turns g c = idle_turns c.args.self.now c.args.host (sym c.next_line.ensures ∙ c.in_default.is)
