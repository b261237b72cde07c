use Rattle.std.proofs.Common.{sym, ◌∙◌}
use Rattle.image_view.specs.Blocks.{image_of}
use Rattle.image_view.specs.laws.UseLaws.{uses-sum_by}
use Rattle.image_view.proofs.slow.counting.uses.Goals as goal

pub returns : goal.returns
returns c = c.mapped.ensures ∙ sym (uses-sum_by c.args.geometry.now (image_of c.args.image.now) c.args.number)
