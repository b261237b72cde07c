-- A write to the data block that a pointer names without the mark is the place of the write.
use Rattle.std.proofs.Common.{◌≡◌, ◌≢◌, ◌<◌, ◌≤◌, ◌+◌, ◌-◌, ℕ, List, [], Some, refl, sym, ap, ◌∙◌, subst, arith}
use Rattle.std.proofs.lemmas.Bool.{eq-eqb, ne_eqb}
use Rattle.vol_base.specs.declared.block.Block.{Block}
use Rattle.vol_base.specs.declared.plain.PlainCall.TheVariants.{Write}
use Rattle.vol_base.specs.declared.plain.PlainReply.TheVariants.{Done}
use Rattle.vol_layout.specs.declared.geometry.Geometry.{Geometry}
use Rattle.vol_layout.specs.declared.field.Field.TheVariants.{Count, Head, Pointer}
use Rattle.vol_layout.specs.Edits.{IsEdit}
use Rattle.vol_layout.specs.Fields.{HasField}
use Rattle.vol_layout.specs.Ranges.{limit}
use Rattle.image_view.specs.Files.{content}
use Rattle.image_view.specs.Images.{Image}
use Rattle.image_view.specs.Mappings.{uses}
use Rattle.image_view.specs.Numbers.{logical}
use Rattle.image_view.specs.Pointers.{IsUnmarked, named}
use Rattle.image_view.specs.Valid.{IsValid}
use Rattle.image_view.specs.laws.FileLaws.{logical_in_range}
use Rattle.call_effects.specs.Changes.{Changes, Data}
use Rattle.call_effects.specs.Places.{IsPlaced}
use Rattle.call_effects.specs.laws.EachEdit.{all-none}
use Rattle.call_effects.specs.laws.MarkLaws.{named-alone}
use Rattle.call_effects.specs.laws.PlaceLaws.{placed-write}
use Rattle.call_effects.specs.laws.PointerLaws.{content-named, named-unmarked}
use Rattle.call_effects.specs.laws.StayLaws.{LeavesFile, Spares, content-changed}

-- a data block that a pointer names without the mark is named by no other pointer
pub named-once : (g : Geometry) (counter : ℕ) (image : Image) (f i h j d : ℕ) → IsValid g counter image → HasField g (Pointer f i)
    → HasField g (Pointer h j) → Pointer h j ≢ Pointer f i → logical g image (Pointer f i) ≡ d + 1
    → IsUnmarked (logical g image (Pointer f i)) → named (logical g image (Pointer h j)) ≢ Some d
named-once g counter image f i h j d valid has there apart names lone too =
    let less : logical g image (Pointer f i) - 1 ≡ d = omega (arith, names) in
    let once : uses g image d ≡ 1 = ap (uses g image) (sym less) ∙ valid.counted.unmarked f i has lone in
    named-alone g image f i h j d has there apart (named-unmarked (logical g image (Pointer f i)) d names lone) once too

-- so its write leaves what every other pointer shows
spares_other : (g : Geometry) (counter : ℕ) (image : Image) (f i h j d : ℕ) (bytes : List ℕ) → IsValid g counter image
    → HasField g (Pointer f i) → HasField g (Pointer h j) → Pointer h j ≢ Pointer f i → logical g image (Pointer f i) ≡ d + 1
    → IsUnmarked (logical g image (Pointer f i)) → Spares g image (Some (d, bytes)) (logical g image (Pointer h j))
spares_other g counter image f i h j d bytes valid has there apart names lone e is =
    let other : d ≢ e = λ same. named-once g counter image f i h j d valid has there apart names lone (is ∙ ap (λ (k : ℕ). Some k) (sym same)) in
    let test = ne_eqb d e other in
    rw test refl

pub placed-in-place : (g : Geometry) (counter : ℕ) (old new : Image) (f i d : ℕ) (block : Block) → IsValid g counter old
    → HasField g (Pointer f i) → HasField g (Count d) → i + 1 < logical g old (Head f) → logical g old (Pointer f i) ≡ d + 1
    → IsUnmarked (logical g old (Pointer f i)) → Changes g [] (Some (d, block.0)) old new → IsPlaced g (Write f i block) Done old new
placed-in-place g counter old new f i d block valid has there inside names lone step =
    let put : Data = Some (d, block.0) in
    let kept = λ (h j : ℕ) (other : HasField g (Pointer h j)). step.numbers (Pointer h j) other in
    placed-write g counter [] put old new f i block valid (all-none (IsEdit g)) step
    (record {
      has = has;
      inside = inside;
      head = refl;
      here =
          ap (content g new) (kept f i has)
          ∙ content-named g new (logical g old (Pointer f i)) d (named-unmarked (logical g old (Pointer f i)) d names lone)
          ∙ ap (λ (bs : List ℕ). let b : Block = record { 0 = bs } in b) (step.blocks d there ∙ (let same = eq-eqb d d refl in rw same refl));
      kept = λ k other apart.
          ap (content g new) (kept f k other)
          ∙ content-changed g [] put old new (logical g old (Pointer f k)) step (logical_in_range g counter old (Pointer f k) valid other)
          (spares_other g counter old f i f k d block.0 valid has other (λ e. apart cc) names lone);
      leaves = λ h other. all-none (LeavesFile g old h);
      spares = λ h j below other short.
          let range : logical g old (Head h) ≤ limit g + 1 = logical_in_range g counter old (Head h) valid below in
          let field : HasField g (Pointer h j) = (below, omega (arith, range, short)) in
          subst (Spares g old put) (sym (kept h j field)) (spares_other g counter old f i h j d block.0 valid has field (λ e. other cc) names lone);
    })
