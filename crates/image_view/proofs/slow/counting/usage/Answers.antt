use Rattle.std.proofs.Common.{refl}
use Rattle.image_view.specs.Blocks.{image_of}
use Rattle.image_view.specs.laws.UseLaws.{length-mappings}
use Rattle.image_view.proofs.slow.counting.usage.Goals as goal

pub returns : goal.returns
returns c = rw (c.used.ensures, c.mapped.ensures, length-mappings c.args.geometry.now (image_of c.args.image.now)) refl
