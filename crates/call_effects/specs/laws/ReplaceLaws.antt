-- A pointer below a file's end gets another number: that block of the file is replaced, and no other.
use Rattle.std.proofs.Common.{◌≡◌, ◌<◌, ◌+◌, ℕ, false, List, ◌∷◌, None, refl, sym, ap, ◌∙◌}
use Rattle.std.proofs.lemmas.List.Elements.{All-cons}
use Rattle.vol_base.specs.declared.block.Block.{Block}
use Rattle.vol_layout.specs.declared.geometry.Geometry.{Geometry}
use Rattle.vol_layout.specs.declared.field.Field.{Field}
use Rattle.vol_layout.specs.declared.field.Field.TheVariants.{Count, Head, Pointer, Slot}
use Rattle.vol_layout.specs.declared.field.Edit.{Edit}
use Rattle.vol_layout.specs.Edits.{touches}
use Rattle.vol_layout.specs.Fields.{HasField}
use Rattle.vol_layout.specs.laws.EditLaws.{other_field-is, same_field-refl}
use Rattle.image_view.specs.Balances.{edit}
use Rattle.image_view.specs.Files.{content}
use Rattle.image_view.specs.Images.{Image}
use Rattle.image_view.specs.Numbers.{logical}
use Rattle.image_view.specs.Valid.{IsValid}
use Rattle.image_view.specs.laws.BalanceLaws.{AreCounts, IsCountEdit}
use Rattle.image_view.specs.laws.EditLaws.{edited_untouched}
use Rattle.image_view.specs.laws.FileLaws.{logical_in_range}
use Rattle.call_effects.specs.Changes.{Changes}
use Rattle.call_effects.specs.Shares.{IsOfFile, LeavesShown}
use Rattle.call_effects.specs.laws.CountLaws.{counts-each, counts-untouched}
use Rattle.call_effects.specs.laws.PlaceLaws.{Replaces}
use Rattle.call_effects.specs.laws.StayLaws.{LeavesFile, content-changed}

-- an edit of a count leaves what files show
count_leaves : (g : Geometry) (image : Image) (h : ℕ) (x : Field) (n : ℕ) → IsCountEdit x → IsOfFile h x → LeavesShown g image x n
count_leaves g image h (Count d) n is of = tt
count_leaves g image h (Head f) n is of = absurd is
count_leaves g image h (Pointer f i) n is of = absurd is
count_leaves g image h (Slot s) n is of = absurd is

pub replaces-pointer : (g : Geometry) (counter : ℕ) (old new : Image) (f i n : ℕ) (counts : List Edit) (block : Block)
    → IsValid g counter old → AreCounts counts → HasField g (Pointer f i) → i + 1 < logical g old (Head f)
    → Changes g (edit (Pointer f i) n ∷ counts) None old new → content g new n ≡ block
    → Replaces g (edit (Pointer f i) n ∷ counts) None old new f i block
replaces-pointer g counter old new f i n counts block valid are has inside step is =
    let es = edit (Pointer f i) n ∷ counts in
    record {
      has = has;
      inside = inside;
      head = rw (other_field-is (Pointer f i) (Head f) (λ e. cc)) (counts-untouched counts (Head f) are (λ d e. cc));
      here = ap (content g new) (step.numbers (Pointer f i) has ∙ (let same = same_field-refl (Pointer f i) in rw same refl)) ∙ is;
      kept = λ k there other.
          let kept : touches es (Pointer f k) ≡ false =
          rw (other_field-is (Pointer f i) (Pointer f k) (λ e. other cc)) (counts-untouched counts (Pointer f k) are (λ d e. cc)) in
          ap (content g new) (step.numbers (Pointer f k) there ∙ edited_untouched es (Pointer f k) (logical g old (Pointer f k)) kept)
          ∙ content-changed g es None old new (logical g old (Pointer f k)) step (logical_in_range g counter old (Pointer f k) valid there) (λ d e. refl);
      leaves = λ h other.
          All-cons (LeavesFile g old h) (edit (Pointer f i) n) counts (λ same. absurd (other (sym same)))
          (counts-each (LeavesFile g old h) counts are (λ e is of. count_leaves g old h e.field e.number is of));
      spares = λ h k there other below d e. refl;
    }
