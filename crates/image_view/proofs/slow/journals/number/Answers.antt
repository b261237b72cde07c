use Rattle.std.proofs.Common.{sym, arith}
use Rattle.image_view.proofs.SlowLaws.{number_past}
use Rattle.image_view.proofs.slow.journals.number.Goals as goal

pub returns-else-at-lt4096 : goal.returns-else-at-lt4096
returns-else-at-lt4096 c = sym (number_past c.args.block.now.0 c.args.at (omega arith))
