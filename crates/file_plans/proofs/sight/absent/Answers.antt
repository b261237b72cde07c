use Rattle.file_plans.specs.laws.SightLaws.{settled_none}
use Rattle.file_plans.proofs.sight.absent.Goals as goal

pub returns-in_default : goal.returns-in_default
returns-in_default c g known below head = settled_none g known c.args.call.now below c.in_default.not-Create head
