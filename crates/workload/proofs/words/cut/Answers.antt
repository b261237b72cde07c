use Rattle.std.proofs.Common.{sym, ◌∙◌}
use Rattle.workload.proofs.Parts.{cut_at, uncut}
use Rattle.workload.proofs.words.cut.Goals as goal

pub returns-in-Some-clause-parts : goal.returns-in-Some-clause-parts
returns-in-Some-clause-parts c = (cut_at _ _ _ (sym c.find.ensures ∙ c.in-Some.is)).1

pub returns-in-None-clause-parts : goal.returns-in-None-clause-parts
returns-in-None-clause-parts c = uncut _ _ (sym c.find.ensures ∙ c.in-None.is)
