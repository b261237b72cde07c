use Rattle.settle.proofs.CandidateLaws.{adds-inserted}
use Rattle.settle.proofs.candidates.Candidates.add.Goals as goal

pub returns-in-Ok-clause-added : goal.returns-in-Ok-clause-added
returns-in-Ok-clause-added c =
    adds-inserted c.args.self.now.spots c.insert.new.self c.args.digest c.args.number c.args.spot c.in-Ok.ensures.updates.0 c.requires.free
