-- Steps that are the place of a call in the history.
use Rattle.std.proofs.Common.{◌≡◌, ◌≢◌, ◌<◌, ◌≤◌, ◌+◌, ◌-◌, ltb, false, true, ℕ, List, map, length, set, Option, Some, None, refl, sym, ap, ◌∙◌, inl, inr, arith}
use Rattle.std.specs.Prelude.{All, slice_set}
use Rattle.std.specs.List.{range_with_len}
use Rattle.std.proofs.lemmas.Bool.{cases_lt, lt-ltb}
use Rattle.std.proofs.lemmas.List.FromFn.{length-map-range_with_len}
use Rattle.vol_base.specs.declared.block.Block.{Block}
use Rattle.vol_base.specs.declared.plain.PlainCall.{PlainCall}
use Rattle.vol_base.specs.declared.plain.PlainCall.TheVariants.{Punch, Write}
use Rattle.vol_base.specs.declared.plain.PlainReply.TheVariants.{Done}
use Rattle.vol_layout.specs.declared.geometry.Geometry.{Geometry}
use Rattle.vol_layout.specs.declared.field.Field.TheVariants.{Head, Pointer}
use Rattle.vol_layout.specs.declared.field.Edit.{Edit}
use Rattle.vol_layout.specs.Edits.{IsEdit, touches}
use Rattle.vol_layout.specs.Fields.{HasField}
use Rattle.vol_layout.specs.Ranges.{limit}
use Rattle.vol_layout.specs.Superblock.{SpellsGeometry}
use Rattle.plain_files.specs.Block.{zero_block}
use Rattle.plain_files.specs.Calls.{file_no, outcome}
use Rattle.image_view.specs.Files.{image_file, volume_file}
use Rattle.image_view.specs.Images.{Image, first_block}
use Rattle.image_view.specs.Numbers.{logical}
use Rattle.image_view.specs.Valid.{IsValid}
use Rattle.image_view.specs.laws.EditLaws.{edited_untouched}
use Rattle.image_view.specs.laws.FileLaws.{logical_in_range, shown, volume_file_none, volume_file_set, volume_file_some}
use Rattle.image_view.specs.laws.GeometryLaws.{image_file-past, image_file-volume}
use Rattle.call_effects.specs.Changes.{Changes, Data}
use Rattle.call_effects.specs.Places.{IsAfterCall, IsPlaced}
use Rattle.call_effects.specs.laws.StayLaws.{LeavesFile, Spares, file-stays}

-- a file is there, with one block less than its head says
pub file-there : (g : Geometry) (image : Image) (f n : ℕ) → SpellsGeometry (first_block image) g → f < g.files
    → logical g image (Head f) ≡ n + 1 → image_file image f ≡ Some (map (shown g image f) (range_with_len 0 n))
file-there g image f n is below head = image_file-volume g image f is below ∙ volume_file_some g image f n head

-- or it is not there, where its head is 0
pub file-absent : (g : Geometry) (image : Image) (f : ℕ) → SpellsGeometry (first_block image) g → f < g.files → logical g image (Head f) ≡ 0
    → image_file image f ≡ None
file-absent g image f is below head = image_file-volume g image f is below ∙ volume_file_none g image f head

-- each edit leaves what every other file shows
abbrev pub LeavesOthers : Geometry → Image → ℕ → List Edit → Type 0
LeavesOthers g image f es = (h : ℕ) → h ≢ f → All (LeavesFile g image h) es

-- and so does the write of a data block
abbrev pub SparesOthers : Geometry → Image → Image → ℕ → Data → Type 0
SparesOthers g old new f put = (h i : ℕ) → h < g.files → h ≢ f → i + 1 < logical g old (Head h) → Spares g old put (logical g new (Pointer h i))

-- a file of an image stays where the step leaves it
pub other-file : (g : Geometry) (counter : ℕ) (es : List Edit) (put : Data) (old new : Image) (f : ℕ) → IsValid g counter old
    → All (IsEdit g) es → Changes g es put old new → All (LeavesFile g old f) es
    → ((i : ℕ) → f < g.files → i + 1 < logical g old (Head f) → Spares g old put (logical g new (Pointer f i)))
    → image_file new f ≡ image_file old f
other-file g counter es put old new f valid each step leaves spares =
    let is = valid.geometry in
    let is' : SpellsGeometry (first_block new) g = (is.0, step.super ∙ is.1) in
    elim (cases_lt f g.files) [
      | inl there ↦
          image_file-volume g new f is' there
          ∙ file-stays g counter es put old new f valid each step there leaves (λ i inside. spares i there inside)
          ∙ sym (image_file-volume g old f is there)
      | inr past ↦ image_file-past g new f is' past ∙ sym (image_file-past g old f is past)
    ]

-- a step that leaves of its own file what the plain call leaves, and every other file
pub after-call : (g : Geometry) (counter : ℕ) (es : List Edit) (put : Data) (old new : Image) (call : PlainCall) (file : Option (List Block))
    → IsValid g counter old → All (IsEdit g) es → Changes g es put old new → file_no call < g.files → image_file old (file_no call) ≡ file
    → volume_file g new (file_no call) ≡ (outcome (limit g) call file).1 → LeavesOthers g old (file_no call) es
    → SparesOthers g old new (file_no call) put → IsAfterCall g call old new
after-call g counter es put old new call file valid each step below was own leaves spares =
    let is = valid.geometry in
    let is' : SpellsGeometry (first_block new) g = (is.0, step.super ∙ is.1) in
    record {
      named =
          image_file-volume g new (file_no call) is' below ∙ own
          ∙ sym (ap (λ (blocks : Option (List Block)). (outcome (limit g) call blocks).1) was);
      others = λ f other. other-file g counter es put old new f valid each step (leaves f other) (λ i there inside. spares f i there other inside);
    }

-- a block of a file that is there is replaced: the other blocks of the file stay, and so do other files
pub record Replaces (g : Geometry) (es : List Edit) (put : Data) (old new : Image) (f i : ℕ) (block : Block) : Type 0 where
  pub has : HasField g (Pointer f i)
  pub inside : i + 1 < logical g old (Head f)
  pub head : touches es (Head f) ≡ false
  pub here : shown g new f i ≡ block
  pub kept : (k : ℕ) → HasField g (Pointer f k) → k ≢ i → shown g new f k ≡ shown g old f k
  pub leaves : LeavesOthers g old f es
  pub spares : SparesOthers g old new f put

-- the file behind the replacement
replaced : (g : Geometry) (counter : ℕ) (es : List Edit) (put : Data) (old new : Image) (f i : ℕ) (block : Block) (n : ℕ)
    → IsValid g counter old → Changes g es put old new → Replaces g es put old new f i block → logical g old (Head f) ≡ n + 1
    → volume_file g new f ≡ Some (set (map (shown g old f) (range_with_len 0 n)) i block)
replaced g counter es put old new f i block n valid step is head =
    let short : logical g old (Head f) ≤ limit g + 1 = logical_in_range g counter old (Head f) valid is.has.0 in
    let head' : logical g new (Head f) ≡ n + 1 = step.numbers (Head f) is.has.0 ∙ edited_untouched es (Head f) (logical g old (Head f)) is.head ∙ head in
    volume_file_set g old new f i n (omega (arith, head, is.inside)) head head'
    (λ k lt other. is.kept k (is.has.0, omega (arith, short, head, lt)) other)
    ∙ ap (λ (b : Block). Some (set (map (shown g old f) (range_with_len 0 n)) i b)) is.here

-- a call that sets one block of a file that is long enough
abbrev pub SetsBlock : ℕ → PlainCall → ℕ → Block → Type 0
SetsBlock limit call i block =
    (blocks : List Block) → i < length blocks → outcome limit call (Some blocks) ≡ (Done, Some (slice_set blocks i block))

-- such a call is done by a step that replaces the block
placed_block : (g : Geometry) (counter : ℕ) (es : List Edit) (put : Data) (old new : Image) (call : PlainCall) (i : ℕ) (block : Block)
    → SetsBlock (limit g) call i block → IsValid g counter old → All (IsEdit g) es → Changes g es put old new
    → Replaces g es put old new (file_no call) i block → IsPlaced g call Done old new
placed_block g counter es put old new call i block sets valid each step is =
    let f = file_no call in
    let n = logical g old (Head f) - 1 in
    let head : logical g old (Head f) ≡ n + 1 = omega (arith, is.inside) in
    let blocks = map (shown g old f) (range_with_len 0 n) in
    let there = file-there g old f n valid.geometry is.has.0 head in
    let long = length-map-range_with_len (shown g old f) 0 n in
    let out = sets blocks (omega (arith, is.inside, long)) in (
      sym (ap (λ (file : Option (List Block)). (outcome (limit g) call file).0) there ∙ ap (λ o. o.0) out),
      after-call g counter es put old new call (Some blocks) valid each step is.has.0 there
          (replaced g counter es put old new f i block n valid step is head ∙ sym (ap (λ o. o.1) out)) is.leaves is.spares,
    )

-- a write that replaces the block
pub placed-write : (g : Geometry) (counter : ℕ) (es : List Edit) (put : Data) (old new : Image) (f i : ℕ) (block : Block)
    → IsValid g counter old → All (IsEdit g) es → Changes g es put old new → Replaces g es put old new f i block
    → IsPlaced g (Write f i block) Done old new
placed-write g counter es put old new f i block =
    placed_block g counter es put old new (Write f i block) i block
    (λ blocks inside. let test : ltb i (length blocks) ≡ true = lt-ltb i (length blocks) inside in rw test refl)

-- a punch that replaces it by zeros
pub placed-punch : (g : Geometry) (counter : ℕ) (es : List Edit) (put : Data) (old new : Image) (f i : ℕ) → IsValid g counter old
    → All (IsEdit g) es → Changes g es put old new → Replaces g es put old new f i zero_block → IsPlaced g (Punch f i) Done old new
placed-punch g counter es put old new f i =
    placed_block g counter es put old new (Punch f i) i zero_block
    (λ blocks inside. let test : ltb i (length blocks) ≡ true = lt-ltb i (length blocks) inside in rw test refl)
