use Rattle.volume_check.proofs.RunLaws.{further_fit}
use Rattle.volume_check.proofs.metadata.runs.further_start.Goals as goal

pub overflow_sub-result : goal.overflow_sub-result
overflow_sub-result c = (further_fit c.args.geometry.now c.from.result c.from-2.result c.total.result c.from.ensures c.from-2.ensures c.total.ensures.blocks).0

pub returns-clause-long : goal.returns-clause-long
returns-clause-long c = (further_fit c.args.geometry.now c.from.result c.from-2.result c.total.result c.from.ensures c.from-2.ensures c.total.ensures.blocks).1
