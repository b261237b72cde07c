use Rattle.image_view.proofs.SlowLaws.{block_in_memory}
use Rattle.image_view.proofs.slow.fields.block.Goals as goal

pub returns : goal.returns
returns c = block_in_memory c.args.geometry.now c.args.image.now c.args.kind c.place.result _ c.place.ensures.place c.place.ensures.inside c.requires.volume.long
