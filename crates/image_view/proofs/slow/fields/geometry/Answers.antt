use Rattle.std.proofs.Common.{sym, ap, ◌∙◌}
use Rattle.std.specs.Option.{option_copied}
use Rattle.image_view.proofs.SlowLaws.{no_first}
use Rattle.image_view.proofs.slow.fields.geometry.Goals as goal

pub returns-in_err-first-clause-none : goal.returns-in_err-first-clause-none
returns-in_err-first-clause-none c = rw c.from_residual.ensures (no_first c.args.image.now (sym c.first.ensures.value ∙ ap option_copied c.in_err-first.was))
