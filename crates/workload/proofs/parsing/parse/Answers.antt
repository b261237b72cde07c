use Rattle.workload.proofs.ParseLaws.{read-complete, read-in_range, read-written}
use Rattle.workload.proofs.parsing.parse.Goals as goal

pub returns-clause-written : goal.returns-clause-written
returns-clause-written c = read-written c.args.text.now c.read.result c.read.ensures

pub returns-clause-in_range : goal.returns-clause-in_range
returns-clause-in_range c = read-in_range c.args.text.now c.read.result c.read.ensures

pub returns-clause-complete : goal.returns-clause-complete
returns-clause-complete c = read-complete c.args.text.now c.read.result c.read.ensures
