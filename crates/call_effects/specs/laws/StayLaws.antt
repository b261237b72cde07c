-- Files that a step leaves.
use Rattle.std.proofs.Common.{◌≡◌, ◌≢◌, ◌<◌, ◌≤◌, ◌+◌, ℕ, zero, suc, List, [], None, Some, refl, sym, ap, ◌∙◌, subst, inl, inr, arith}
use Rattle.std.specs.Prelude.{All}
use Rattle.std.proofs.lemmas.Bool.{cases_Bool, ne_eqb}
use Rattle.vol_layout.specs.declared.geometry.Geometry.{Geometry}
use Rattle.vol_layout.specs.declared.kind.Kind.TheVariants as kinds
use Rattle.vol_layout.specs.declared.field.Field.{Field}
use Rattle.vol_layout.specs.declared.field.Field.TheVariants.{Head, Pointer}
use Rattle.vol_layout.specs.declared.field.Edit.{Edit}
use Rattle.vol_layout.specs.Edits.{IsEdit, touches}
use Rattle.vol_layout.specs.Fields.{HasField, IsInRange, IsPointer}
use Rattle.vol_layout.specs.Ranges.{limit}
use Rattle.image_view.specs.Files.{content, volume_file}
use Rattle.image_view.specs.Images.{Image, block_at}
use Rattle.image_view.specs.Mappings.{uses}
use Rattle.image_view.specs.Numbers.{logical}
use Rattle.image_view.specs.Pointers.{named}
use Rattle.image_view.specs.Valid.{IsValid}
use Rattle.image_view.specs.laws.EditLaws.{edited_untouched}
use Rattle.image_view.specs.laws.FileLaws.{content_kept, edited_in_range, logical_in_range, map_range_same, named_below, shown, used_once, volume_file_none, volume_file_some}
use Rattle.image_view.specs.laws.GeometryLaws.{image_file_kept}
use Rattle.call_effects.specs.Changes.{Changes, Data, stored}
use Rattle.call_effects.specs.Places.{KeepsFiles}
use Rattle.call_effects.specs.Shares.{IsOfFile, LeavesShown}
use Rattle.call_effects.specs.laws.EachEdit.{all-none, all-weaker, the-edit}

-- the write of a data block leaves what a number names
abbrev pub Spares : Geometry → Image → Data → ℕ → Type 0
Spares g image put n = (d : ℕ) → named n ≡ Some d → stored put d (block_at g image (kinds.Number d)) ≡ block_at g image (kinds.Number d)

-- a number in range then shows what it showed
pub content-changed : (g : Geometry) (es : List Edit) (put : Data) (old new : Image) (n : ℕ) → Changes g es put old new → IsPointer g n
    → Spares g old put n → content g new n ≡ content g old n
content-changed g es put old new n step range spares =
    content_kept g old new n (λ d is. step.blocks d (named_below g n d range is) ∙ spares d is)

-- a file's head stays, and each block below its end
pub volume_file-same : (g : Geometry) (old new : Image) (f h : ℕ) → logical g new (Head f) ≡ h → logical g old (Head f) ≡ h
    → ((k : ℕ) → k + 1 < h → shown g new f k ≡ shown g old f k) → volume_file g new f ≡ volume_file g old f
volume_file-same g old new f zero is was same = volume_file_none g new f is ∙ sym (volume_file_none g old f was)
volume_file-same g old new f (suc n) is was same =
    let head : suc n ≡ n + 1 = omega arith in
    volume_file_some g new f n (is ∙ head)
    ∙ ap (λ bs. Some bs) (map_range_same (shown g old f) (shown g new f) 0 n n (omega arith) (λ k lt. same k (omega (arith, lt))))
    ∙ sym (volume_file_some g old f n (was ∙ head))

-- the logical numbers behind a step are in range
pub range-after : (g : Geometry) (counter : ℕ) (es : List Edit) (put : Data) (old new : Image) (x : Field) → IsValid g counter old
    → All (IsEdit g) es → Changes g es put old new → HasField g x → IsInRange g x (logical g new x)
range-after g counter es put old new x valid each step has =
    subst (IsInRange g x) (sym (step.numbers x has)) (edited_in_range g es x (logical g old x) each (logical_in_range g counter old x valid has))

-- the edit leaves what a file shows
abbrev pub LeavesFile : Geometry → Image → ℕ → Edit → Type 0
LeavesFile g image f e = IsOfFile f e.field → LeavesShown g image e.field e.number

-- the number that a pointer below the end gets shows the same
same_shown : (g : Geometry) (es : List Edit) (put : Data) (old new : Image) (f i : ℕ) → Changes g es put old new → HasField g (Pointer f i)
    → All (LeavesFile g old f) es → i + 1 < logical g old (Head f)
    → content g old (logical g new (Pointer f i)) ≡ content g old (logical g old (Pointer f i))
same_shown g es put old new f i step has leaves inside =
    let is = step.numbers (Pointer f i) has in
    elim (cases_Bool (touches es (Pointer f i))) [
      | inl touched ↦
          let the = the-edit (LeavesFile g old f) es (Pointer f i) leaves touched in
          let of : IsOfFile f the.edit.field = subst (IsOfFile f) (sym the.of) refl in
          elim (subst (λ (x : Field). LeavesShown g old x the.edit.number) the.of (the.holds of)) [
            | inl past ↦ absurd (omega (arith, inside, past))
            | inr same ↦ ap (content g old) (is ∙ the.gives (logical g old (Pointer f i))) ∙ same
          ]
      | inr kept ↦ ap (content g old) (is ∙ edited_untouched es (Pointer f i) (logical g old (Pointer f i)) kept)
    ]

head_stays : (g : Geometry) (es : List Edit) (put : Data) (old new : Image) (f : ℕ) → Changes g es put old new → f < g.files
    → All (LeavesFile g old f) es → logical g new (Head f) ≡ logical g old (Head f)
head_stays g es put old new f step has leaves =
    step.numbers (Head f) has
    ∙ elim (cases_Bool (touches es (Head f))) [
      | inl touched ↦
          let the = the-edit (LeavesFile g old f) es (Head f) leaves touched in
          let of : IsOfFile f the.edit.field = subst (IsOfFile f) (sym the.of) refl in
          absurd (subst (λ (x : Field). LeavesShown g old x the.edit.number) the.of (the.holds of))
      | inr kept ↦ edited_untouched es (Head f) (logical g old (Head f)) kept
    ]

-- a file stays where each edit leaves what it shows, and the data block that is written is none of its own
pub file-stays : (g : Geometry) (counter : ℕ) (es : List Edit) (put : Data) (old new : Image) (f : ℕ) → IsValid g counter old
    → All (IsEdit g) es → Changes g es put old new → f < g.files → All (LeavesFile g old f) es
    → ((i : ℕ) → i + 1 < logical g old (Head f) → Spares g old put (logical g new (Pointer f i)))
    → volume_file g new f ≡ volume_file g old f
file-stays g counter es put old new f valid each step has leaves spares =
    let short : logical g old (Head f) ≤ limit g + 1 = logical_in_range g counter old (Head f) valid has in
    volume_file-same g old new f (logical g old (Head f)) (head_stays g es put old new f step has leaves) refl
    (λ k inside.
    let there : HasField g (Pointer f k) = (has, omega (arith, short, inside)) in
    content-changed g es put old new (logical g new (Pointer f k)) step (range-after g counter es put old new (Pointer f k) valid each step there) (spares k inside)
    ∙ same_shown g es put old new f k step there leaves inside)

-- all files stay where each edit leaves what files show, and no data block is written
pub stays-edited : (g : Geometry) (counter : ℕ) (es : List Edit) (old new : Image) → IsValid g counter old → All (IsEdit g) es
    → All (λ e. LeavesShown g old e.field e.number) es → Changes g es None old new → KeepsFiles old new
stays-edited g counter es old new valid each leaves step =
    image_file_kept g old new valid.geometry step.super
    (λ f has.
    file-stays g counter es None old new f valid each step has
    (all-weaker (λ (e : Edit). LeavesShown g old e.field e.number) (LeavesFile g old f) es (λ e holds of. holds) leaves)
    (λ i inside d is. refl))

-- a data block that nothing names is written: all files stay
pub stays-fresh : (g : Geometry) (counter : ℕ) (old new : Image) (d : ℕ) (bytes : List ℕ) → IsValid g counter old → uses g old d ≡ 0
    → Changes g [] (Some (d, bytes)) old new → KeepsFiles old new
stays-fresh g counter old new d bytes valid none step =
    image_file_kept g old new valid.geometry step.super
    (λ f has.
    let short : logical g old (Head f) ≤ limit g + 1 = logical_in_range g counter old (Head f) valid has in
    file-stays g counter [] (Some (d, bytes)) old new f valid (all-none (IsEdit g)) step has (all-none (LeavesFile g old f))
    (λ i inside e is.
    let there : HasField g (Pointer f i) = (has, omega (arith, short, inside)) in
    let used = used_once g old f i e there (ap named (sym (step.numbers (Pointer f i) there)) ∙ is) in
    let apart : d ≢ e = λ same. absurd (let as_none : uses g old e ≡ 0 = ap (uses g old) (sym same) ∙ none in omega (arith, used, as_none)) in
    let test = ne_eqb d e apart in
    rw test refl))
