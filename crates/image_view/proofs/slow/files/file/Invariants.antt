use Rattle.std.proofs.Common.{◌≡◌, map}
use Rattle.std.specs.List.{range_with_len}
use Rattle.image_view.specs.Blocks.{image_of}
use Rattle.image_view.specs.laws.FileLaws.{shown}
use Rattle.image_view.proofs.slow.files.file.Given as goal

abbrev pub invariant-loop-index : goal.invariant-loop-index
invariant-loop-index l = l.blocks.items ≡ map (shown l.geometry (image_of l.image) l.file) (range_with_len 0 l.index)
