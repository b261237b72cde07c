-- Records and writes that are wrong, and are refused.
use Rattle.std.proofs.Common.{◌≡◌, ◌≢◌, ◌≤◌, ◌<◌, ◌+◌, ◌-◌, ◌^◌, ℕ, false, List, [], ◌∷◌, map, None, Some, refl, sym, ap, ◌∙◌, subst, arith}
use Rattle.std.specs.List.{range_with_len}
use Rattle.std.proofs.lemmas.Bool.{eq-eqb}
use Rattle.std.proofs.lemmas.List.Sums.{sum_by-cons}
use Rattle.std.proofs.lemmas.List.FromFn.{get_or-map-range_with_len}
use Rattle.std.specs.Prelude.{slice_index_or}
use Rattle.vol_base.specs.declared.block.Block.{Block}
use Rattle.vol_base.specs.declared.plain.PlainCall.TheVariants.{Write}
use Rattle.vol_layout.specs.declared.geometry.Geometry.{Geometry}
use Rattle.vol_layout.specs.declared.kind.Kind.TheVariants as kinds
use Rattle.vol_layout.specs.declared.field.Field.{Field}
use Rattle.vol_layout.specs.declared.field.Field.TheVariants.{Count, Head, Pointer, Slot}
use Rattle.vol_layout.specs.declared.field.Edit.{Edit}
use Rattle.vol_layout.specs.Edits.{edited, touches}
use Rattle.vol_layout.specs.Fields.{HasField}
use Rattle.vol_layout.specs.Ranges.{limit}
use Rattle.vol_layout.specs.laws.EditLaws.{other_field-is, same_field-refl}
use Rattle.plain_files.specs.Block.{zero_block}
use Rattle.image_view.specs.Balances.{edit, gained, lost, share, share_of}
use Rattle.image_view.specs.Files.{content}
use Rattle.image_view.specs.Images.{Image, block_at}
use Rattle.image_view.specs.Links.{marked}
use Rattle.image_view.specs.Numbers.{logical}
use Rattle.image_view.specs.Pointers.{IsUnmarked, named}
use Rattle.image_view.specs.Records.{IsRecord}
use Rattle.image_view.specs.Valid.{IsValid}
use Rattle.image_view.specs.laws.BalanceLaws.{share_named, share_none}
use Rattle.image_view.specs.laws.FileLaws.{logical_in_range, shown}
use Rattle.call_effects.specs.Changes.{Changes}
use Rattle.call_effects.specs.Places.{IsAfterCall}
use Rattle.call_effects.specs.laws.PlaceLaws.{file-there}
use Rattle.call_effects.specs.laws.PointerLaws.{content-named, named-marked, named-unmarked}

-- what one edit and one count give and take
one_gained : (x : Field) (n c m d : ℕ) → gained (edit x n ∷ edit (Count c) m ∷ []) d ≡ share_of x n d
one_gained x n c m d =
    let a = sum_by-cons (λ (e : Edit). share_of e.field e.number d) (edit x n) (edit (Count c) m ∷ []) in
    let b = sum_by-cons (λ (e : Edit). share_of e.field e.number d) (edit (Count c) m) [] in
    omega (arith, a, b)

one_lost : (numbers : Field → ℕ) (x : Field) (n c m d : ℕ) → lost numbers (edit x n ∷ edit (Count c) m ∷ []) d ≡ share_of x (numbers x) d
one_lost numbers x n c m d =
    let a = sum_by-cons (λ (e : Edit). share_of e.field (numbers e.field) d) (edit x n) (edit (Count c) m ∷ []) in
    let b = sum_by-cons (λ (e : Edit). share_of e.field (numbers e.field) d) (edit (Count c) m) [] in
    omega (arith, a, b)

-- one field that is no count gets a number, and the count follows by exactly what it takes and gives
balance_of : (g : Geometry) (image : Image) (key : ℕ) (x : Field) (n d m : ℕ) → x ≢ Count d → HasField g (Count d)
    → IsRecord g image key (edit x n ∷ edit (Count d) m ∷ [])
    → m + share_of x (logical g image x) d ≡ logical g image (Count d) + share_of x n d
balance_of g image key x n d m other has is =
    let balance = is.balances d has in
    let given = one_gained x n d m d in
    let taken = one_lost (λ y. logical g image y) x n d m d in
    let apart = other_field-is x (Count d) other in
    let here = same_field-refl (Count d) in
    let count : edited (edit x n ∷ edit (Count d) m ∷ []) (Count d) (logical g image (Count d)) ≡ m = rw (apart, here) refl in
    omega (arith, balance, given, taken, count)

-- a fresh write whose count is off by one
pub wrong-count : (g : Geometry) (image : Image) (key f i d : ℕ) → d + 1 < 2 ^ 31 → HasField g (Count d)
    → named (logical g image (Pointer f i)) ≡ None → logical g image (Count d) ≡ 0
    → IsRecord g image key (edit (Pointer f i) (d + 1) ∷ edit (Count d) 2 ∷ []) → ⊥
wrong-count g image key f i d small has hole free is =
    let balance = balance_of g image key (Pointer f i) (d + 1) d 2 (λ e. cc) has is in
    let none = share_none (logical g image (Pointer f i)) d hole in
    let same = eq-eqb d d refl in
    let one : share (d + 1) d ≡ 1 = share_named (d + 1) d d (named-unmarked (d + 1) d refl (omega arith, small)) ∙ rw same refl in
    absurd (omega (arith, balance, none, one, free))

-- a purge of one remain that lowers the count of a shared block twice
pub wrong-purge : (g : Geometry) (image : Image) (key f i d n : ℕ) → HasField g (Count d) → named (logical g image (Pointer f i)) ≡ Some d
    → logical g image (Count d) ≡ n + 2 → IsRecord g image key (edit (Pointer f i) 0 ∷ edit (Count d) n ∷ []) → ⊥
wrong-purge g image key f i d n has names count is =
    let balance = balance_of g image key (Pointer f i) 0 d n (λ e. cc) has is in
    let none = share_none 0 d refl in
    let same = eq-eqb d d refl in
    let one : share (logical g image (Pointer f i)) d ≡ 1 = share_named (logical g image (Pointer f i)) d d names ∙ rw same refl in
    absurd (omega (arith, balance, none, one, count))

-- a collection of a slot whose block has the count 2
pub wrong-collect : (g : Geometry) (image : Image) (key t d : ℕ) → HasField g (Count d) → named (logical g image (Slot t)) ≡ Some d
    → logical g image (Count d) ≡ 2 → IsRecord g image key (edit (Slot t) 0 ∷ edit (Count d) 0 ∷ []) → ⊥
wrong-collect g image key t d has names count is =
    let balance = balance_of g image key (Slot t) 0 d 0 (λ e. cc) has is in
    let none = share_none 0 d refl in
    let same = eq-eqb d d refl in
    let one : share (logical g image (Slot t)) d ≡ 1 = share_named (logical g image (Slot t)) d d names ∙ rw same refl in
    absurd (omega (arith, balance, none, one, count))

-- a link to another file's pointer that keeps no mark
pub wrong-link : (g : Geometry) (image : Image) (key f i h j to : ℕ) (counts : List Edit) → to + 1 < 2 ^ 31 → HasField g (Pointer h j)
    → Pointer f i ≢ Pointer h j → logical g image (Pointer h j) ≡ to + 1 → touches counts (Pointer h j) ≡ false
    → IsRecord g image key (edit (Pointer f i) (marked to) ∷ counts) → ⊥
wrong-link g image key f i h j to counts small has other names kept is =
    let un : IsUnmarked (logical g image (Pointer h j)) = let e = names in subst IsUnmarked (sym e) (omega arith, small) in
    let apart = other_field-is (Pointer f i) (Pointer h j) other in
    let none = is.marks.others h j has (rw apart kept) un in
    let less : logical g image (Pointer h j) - 1 ≡ to = omega (arith, names) in
    let none' : gained (edit (Pointer f i) (marked to) ∷ counts) to ≡ 0 = ap (gained (edit (Pointer f i) (marked to) ∷ counts)) (sym less) ∙ none in
    let sum = sum_by-cons (λ (e : Edit). share_of e.field e.number to) (edit (Pointer f i) (marked to)) counts in
    let same = eq-eqb to to refl in
    let one : share (marked to) to ≡ 1 = share_named (marked to) to to (named-marked to small) ∙ rw same refl in
    absurd (omega (arith, none', sum, one))

-- a write in place of a block that another file shows too
pub wrong-in-place : (g : Geometry) (counter : ℕ) (old new : Image) (f i h j n d : ℕ) (block : Block) → IsValid g counter old
    → IsValid g counter new → h < g.files → h ≢ f → logical g old (Head h) ≡ n + 1 → j < n → HasField g (Count d)
    → named (logical g old (Pointer h j)) ≡ Some d → block_at g old (kinds.Number d) ≢ block.0 → Changes g [] (Some (d, block.0)) old new
    → IsAfterCall g (Write f i block) old new → ⊥
wrong-in-place g counter old new f i h j n d block valid later below other head inside there names differs step is =
    let range : logical g old (Head h) ≤ limit g + 1 = logical_in_range g counter old (Head h) valid below in
    let has : HasField g (Pointer h j) = (below, omega (arith, range, head, inside)) in
    let same : Some (map (shown g new h) (range_with_len 0 n)) ≡ Some (map (shown g old h) (range_with_len 0 n)) =
    sym (file-there g new h n later.geometry below (step.numbers (Head h) below ∙ head)) ∙ is.others h other ∙ file-there g old h n valid.geometry below head in
    let lists : map (shown g new h) (range_with_len 0 n) ≡ map (shown g old h) (range_with_len 0 n) = cc in
    let shows : shown g new h j ≡ shown g old h j =
    sym (get_or-map-range_with_len (shown g new h) 0 n j j zero_block inside (omega arith))
    ∙ ap (λ (bs : List Block). slice_index_or bs j zero_block) lists
    ∙ get_or-map-range_with_len (shown g old h) 0 n j j zero_block inside (omega arith) in
    let after : shown g new h j ≡ block =
    ap (content g new) (step.numbers (Pointer h j) has) ∙ content-named g new (logical g old (Pointer h j)) d names
    ∙ ap (λ (bs : List ℕ). let b : Block = record { 0 = bs } in b) (step.blocks d there ∙ (let here = eq-eqb d d refl in rw here refl)) in
    let before = content-named g old (logical g old (Pointer h j)) d names in
    differs (ap (λ (b : Block). b.0) (sym before ∙ sym shows ∙ after))
