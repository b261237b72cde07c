use Rattle.image_view.specs.Blocks.{image_of}
use Rattle.image_view.proofs.SlowLaws.{hole_shown}
use Rattle.image_view.proofs.slow.files.shown.Goals as goal

pub returns-in-Hole : goal.returns-in-Hole
returns-in-Hole c = hole_shown c.args.geometry.now (image_of c.args.image.now) c.args.pointer c.zeros.result c.in-Hole.ensures.says c.zeros.ensures
