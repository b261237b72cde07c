use Rattle.plan_parts.specs.laws.HoldWords.{lowest_unread}
use Rattle.plan_parts.proofs.readers.lowest_key.Goals as goal

pub returns-in-Free : goal.returns-in-Free
returns-in-Free c = lowest_unread c.args.own.0 c.args.word.now c.in-Free.is

pub returns-in-Free-2 : goal.returns-in-Free-2
returns-in-Free-2 c = lowest_unread c.args.own.0 c.args.word.now c.in-Free.is
