-- An opening keeps all files, and leaves each image blank or valid where the one handed in is.
use Rattle.std.proofs.Common.{◌≡◌, ◌∙◌, ℕ, Some, None, sym, ap, subst, inl, inr}
use Rattle.std.proofs.lemmas.Bool.{cases_lt}
use Rattle.vol_layout.specs.declared.geometry.Geometry.{Geometry}
use Rattle.vol_layout.specs.Superblock.{SpellsGeometry}
use Rattle.image_view.specs.Files.{image_file}
use Rattle.image_view.specs.laws.FormatLaws.{formatted_has_no_file, formatted_is_valid}
use Rattle.image_view.specs.Formatted.{IsFormatted}
use Rattle.image_view.specs.laws.GeometryLaws.{IsVolume-valid, image_file-blank, image_file-past, image_file-volume}
use Rattle.image_view.specs.Images.{Image, first_block}
use Rattle.image_view.specs.Valid.{IsBlankOrValid}
use Rattle.shared_disk.specs.State.{Told}
use Rattle.volume_opening.specs.Openings.{IsOnTheWay}

-- a formatted image has the files of a blank one
formatted_file : (g : Geometry) (image : Image) (f : ℕ) → IsFormatted g image → image_file image f ≡ None
formatted_file g image f formatted =
    let spelled : SpellsGeometry (first_block image) g = (formatted.geometry, formatted.superblock) in
    elim (cases_lt f g.files) [
      | inl below ↦ image_file-volume g image f spelled below ∙ formatted_has_no_file g image f formatted below
      | inr past ↦ image_file-past g image f spelled past
    ]

-- each image on the way has the files of the one handed in
pub opening_keeps_files : (g : Geometry) (t : Told) (image : Image) (f : ℕ) → IsOnTheWay g (Some t) image
    → image_file image f ≡ image_file t.image f
opening_keeps_files g t image f (inl same) = ap (λ (i : Image). image_file i f) same
opening_keeps_files g t image f (inr (blank, inl still)) = image_file-blank image f still ∙ sym (image_file-blank t.image f blank)
opening_keeps_files g t image f (inr (blank, inr formatted)) = formatted_file g image f formatted ∙ sym (image_file-blank t.image f blank)

-- and is blank or valid where that one is
pub opening_keeps_valid : (g : Geometry) (counter : ℕ) (t : Told) (image : Image) → IsBlankOrValid counter t.image
    → IsOnTheWay g (Some t) image → IsBlankOrValid counter image
opening_keeps_valid g counter t image was (inl same) = subst (λ (i : Image). IsBlankOrValid counter i) (sym same) was
opening_keeps_valid g counter t image was (inr (blank, inl still)) = inl still
opening_keeps_valid g counter t image was (inr (blank, inr formatted)) = inr (IsVolume-valid g counter image (formatted_is_valid g counter image formatted))
