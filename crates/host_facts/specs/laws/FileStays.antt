-- What the files of an image do where a step changes no logical number.
use Rattle.std.proofs.Common.{◌≡◌, ℕ, List, [], None, Some, sym, ◌∙◌, subst}
use Rattle.vol_base.specs.declared.block.Block.{Block}
use Rattle.vol_base.specs.declared.plain.PlainCall.TheVariants.{Write}
use Rattle.vol_base.specs.declared.plain.PlainReply.TheVariants.{Done}
use Rattle.vol_layout.specs.declared.geometry.Geometry.{Geometry}
use Rattle.vol_layout.specs.declared.field.Field.TheVariants.{Count, Pointer}
use Rattle.vol_layout.specs.Edits.{IsEdit}
use Rattle.vol_layout.specs.Fields.{HasField}
use Rattle.image_view.specs.Images.{Image}
use Rattle.image_view.specs.Numbers.{logical}
use Rattle.image_view.specs.Pointers.{IsUnmarked}
use Rattle.image_view.specs.Valid.{IsValid}
use Rattle.call_effects.specs.Changes.{Changes}
use Rattle.call_effects.specs.Places.{IsPlaced, KeepsFiles}
use Rattle.call_effects.specs.Shares.{LeavesShown}
use Rattle.call_effects.specs.laws.EachEdit.{all-none}
use Rattle.call_effects.specs.laws.InPlaceLaws.{placed-in-place}
use Rattle.call_effects.specs.laws.PointerLaws.{fresh-unmarked}
use Rattle.call_effects.specs.laws.StayLaws.{stays-edited, stays-fresh}
use Rattle.host_facts.specs.OwnBlocks.{IsOwnBlock}

-- a step that edits nothing and writes no data block
pub quiet_files : (g : Geometry) (counter : ℕ) (old new : Image) → IsValid g counter old → Changes g [] None old new → KeepsFiles old new
quiet_files g counter old new valid step =
    stays-edited g counter [] old new valid (all-none (IsEdit g)) (all-none (λ e. LeavesShown g old e.field e.number)) step

-- the write of a free data block
pub fresh_files : (g : Geometry) (counter : ℕ) (old new : Image) (d : ℕ) (bytes : List ℕ) → IsValid g counter old → HasField g (Count d)
    → logical g old (Count d) ≡ 0 → Changes g [] (Some (d, bytes)) old new → KeepsFiles old new
fresh_files g counter old new d bytes valid has free step =
    stays-fresh g counter old new d bytes valid (sym (valid.counted.counts d has) ∙ free) step

-- the write of a block that a file shows and nothing else names is the place of the write of that block of the file
pub own_files : (g : Geometry) (counter : ℕ) (old new : Image) (f i d : ℕ) (block : Block) → IsValid g counter old
    → HasField g (Pointer f i) → HasField g (Count d) → IsOwnBlock g f i d old → Changes g [] (Some (d, block.0)) old new
    → IsPlaced g (Write f i block) Done old new
own_files g counter old new f i d block valid has there own step =
    let lone : IsUnmarked (logical g old (Pointer f i)) = subst IsUnmarked (sym own.pointer) (fresh-unmarked g d valid.geometry.0 there) in
    placed-in-place g counter old new f i d block valid has there own.inside own.pointer lone step
