use Rattle.std.proofs.Common.{refl}
use Rattle.image_view.specs.laws.UseLaws.{length-mappings}
use Rattle.volume_check.proofs.usages.usage.Goals as goal

pub returns : goal.returns
returns c = rw (c.used.ensures, c.mapped.ensures, length-mappings c.args.metadata.now.geometry c.args.metadata.now.image) refl
