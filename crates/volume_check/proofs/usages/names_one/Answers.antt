use Rattle.std.proofs.Common.{sym}
use Rattle.image_view.specs.laws.UseLaws.{names_none, names_some}
use Rattle.volume_check.proofs.usages.names_one.Goals as goal

pub returns-then-number-eq0-clause-names : goal.returns-then-number-eq0-clause-names
returns-then-number-eq0-clause-names c = sym (names_none c.args.number c.if-number-eq0.true)

pub returns-else-number-eq0-clause-names : goal.returns-else-number-eq0-clause-names
returns-else-number-eq0-clause-names c = sym (names_some c.args.number c.if-number-eq0.false)
