-- What a change of logical numbers does to the files of an image.
use Rattle.std.proofs.Common.{◌≡◌, ◌≢◌, ◌<◌, ◌≤◌, ◌+◌, ◌-◌, ◌%◌, ◌^◌, ◌==◌, ℕ, zero, suc, List, [], ◌∷◌, ◌++◌, map, length, Option, Some, None, if◌then◌else◌, refl, sym, ap, ◌∙◌, inl, inr, arith, append-nil, get_or-set_other, get_or-set_same, length-set, replicate, set, subst, take}
use Rattle.std.specs.List.{flat_map, range_with_len}
use Rattle.std.specs.Option.{option_map_or}
use Rattle.std.proofs.lemmas.Bool.{cases_Bool, cases_eq, cases_lt, eq-eqb, eqb-false, ne_eqb}
use Rattle.std.proofs.lemmas.List.{same_lists, take_all}
use Rattle.std.proofs.lemmas.List.FromFn.{get_or-map-range_with_len, length-map-range_with_len, take-map-range_with_len}
use Rattle.std.proofs.lemmas.List.Elements.{All-head, All-tail}
use Rattle.std.specs.Prelude.{All}
use Rattle.vol_base.specs.declared.block.Block.{Block}
use Rattle.vol_layout.specs.declared.geometry.Geometry.{Geometry}
use Rattle.vol_layout.specs.declared.kind.Kind.TheVariants as kinds
use Rattle.vol_layout.specs.declared.field.Field.{Field}
use Rattle.vol_layout.specs.declared.field.Field.TheVariants.{Head, Pointer}
use Rattle.vol_layout.specs.declared.field.Edit.{Edit}
use Rattle.vol_layout.specs.Edits.{IsEdit, edited, same_field}
use Rattle.vol_layout.specs.Fields.{HasField, IsInRange, IsPointer}
use Rattle.vol_layout.specs.Ranges.{data_blocks, limit}
use Rattle.plain_files.specs.Block.{zero_block}
use Rattle.plain_files.specs.Calls.{sized}
use Rattle.image_view.specs.Images.{Image, OnlyChanges, block_at}
use Rattle.image_view.specs.Numbers.{field, journal, logical, standing}
use Rattle.image_view.specs.Pointers.{named}
use Rattle.image_view.specs.Files.{content, data_block, volume_file}
use Rattle.image_view.specs.Mappings.{uses}
use Rattle.image_view.specs.Balances.{share}
use Rattle.image_view.specs.laws.BalanceLaws.{share_named}
use Rattle.image_view.specs.Valid.{IsValid}
use Rattle.vol_layout.specs.laws.EditLaws.{same_field-is}
use Rattle.image_view.specs.laws.EditLaws.{edited-append}
use Rattle.image_view.specs.laws.FrameLaws.{logical_kept}
use Rattle.image_view.specs.laws.UseLaws.{share-le-uses}

-- a map over a range of functions that are equal there
pub map_range_same : {X : Type 0} (f f' : ℕ → X) (a n m : ℕ) → a + n ≤ m → ((k : ℕ) → k < m → f' k ≡ f k)
    → map f' (range_with_len a n) ≡ map f (range_with_len a n)
map_range_same f f' a zero m le same = refl
map_range_same f f' a (suc n) m le same =
    let first = same a (omega arith) in
    let rest = map_range_same f f' (a + 1) n m (omega arith) same in
    cc

map_range_set : (f f' : ℕ → Block) (n i : ℕ) → i < n → ((k : ℕ) → k < n → k ≢ i → f' k ≡ f k)
    → map f' (range_with_len 0 n) ≡ set (map f (range_with_len 0 n)) i (f' i)
map_range_set f f' n i below same =
    let long = length-map-range_with_len f 0 n in
    let long' = length-map-range_with_len f' 0 n in
    same_lists (map f' (range_with_len 0 n)) (set (map f (range_with_len 0 n)) i (f' i)) (long' ∙ sym (length-set (map f (range_with_len 0 n)) i (f' i) ∙ long))
    (λ k d lt.
    let in_range : k < n = omega arith in
    get_or-map-range_with_len f' 0 n k k d in_range (omega arith)
    ∙ elim (cases_eq k i) [
      | inl here ↦ rw here (sym (get_or-set_same (map f (range_with_len 0 n)) i (f' i) d (omega arith)))
      | inr other ↦ same k in_range other ∙ sym (get_or-set_other (map f (range_with_len 0 n)) i k (f' i) d other ∙ get_or-map-range_with_len f 0 n k k d in_range (omega arith))
    ])

map_range_constant : (f : ℕ → Block) (z : Block) (a c : ℕ) → ((k : ℕ) → a ≤ k → k < a + c → f k ≡ z)
    → map f (range_with_len a c) ≡ replicate c z
map_range_constant f z a zero same = refl
map_range_constant f z a (suc c) same =
    let first = same a (omega arith) (omega arith) in
    let rest = map_range_constant f z (a + 1) c (λ k ge lt. same k (omega arith) (omega arith)) in
    cc

map_range_grown : (f : ℕ → Block) (z : Block) (a n c m : ℕ) → m ≡ n + c → ((k : ℕ) → a + n ≤ k → k < a + m → f k ≡ z)
    → map f (range_with_len a m) ≡ map f (range_with_len a n) ++ replicate c z
map_range_grown f z a zero c m e same = let is : m ≡ c = omega arith in rw is (map_range_constant f z a c (λ k ge lt. same k (omega arith) (omega arith)))
map_range_grown f z a (suc n) c zero e same = absurd (omega arith)
map_range_grown f z a (suc n) c (suc m) e same = ap (λ bs. f a ∷ bs) (map_range_grown f z (a + 1) n c m (omega arith) (λ k ge lt. same k (omega arith) (omega arith)))

map_range_sized : (f : ℕ → Block) (z : Block) (n m : ℕ) → ((k : ℕ) → n ≤ k → k < m → f k ≡ z)
    → map f (range_with_len 0 m) ≡ take m (map f (range_with_len 0 n)) ++ replicate (m - length (map f (range_with_len 0 n))) z
map_range_sized f z n m same =
    let long = length-map-range_with_len f 0 n in
    rw long
    (elim (cases_lt n m) [
      | inl more ↦ map_range_grown f z 0 n (m - n) m (omega arith) (λ k ge lt. same k (omega arith) (omega arith)) ∙ ap (λ bs. bs ++ replicate (m - n) z) (sym (take_all m (map f (range_with_len 0 n)) (omega arith)))
      | inr fewer ↦
          let none : m - n ≡ 0 = omega arith in
          rw none (sym (append-nil (take m (map f (range_with_len 0 n))) ∙ take-map-range_with_len f 0 n m fewer))
    ])

-- a data number that a pointer names is used
pub used_once : (g : Geometry) (image : Image) (f i d : ℕ) → HasField g (Pointer f i) → named (logical g image (Pointer f i)) ≡ Some d
    → 1 ≤ uses g image d
used_once g image f i d has is =
    let within = share-le-uses g image (Pointer f i) d has in
    let here : share (logical g image (Pointer f i)) d ≡ 1 = share_named (logical g image (Pointer f i)) d d is ∙ rw (eq-eqb d d refl) refl in
    omega arith

-- edits in range leave a number in range
pub edited_in_range : (g : Geometry) (es : List Edit) (x : Field) (n : ℕ) → All (IsEdit g) es → IsInRange g x n
    → IsInRange g x (edited es x n)
edited_in_range g [] x n each is = is
edited_in_range g (e ∷ es) x n each is =
    elim (cases_Bool (same_field e.field x)) [
      | inl here ↦ let P : Field → Type 0 = λ y. IsInRange g y e.number in rw here (subst P (same_field-is e.field x here) (All-head (IsEdit g) e es each).1)
      | inr other ↦ rw other (edited_in_range g es x n (All-tail (IsEdit g) e es each) is)
    ]

-- and so do those that stand in the journals
pub each_in_range : (g : Geometry) (j : ℕ → List Edit) (x : Field) (n a c m : ℕ) → a + c ≤ m → ((k : ℕ) → k < m → All (IsEdit g) (j k))
    → IsInRange g x n → IsInRange g x (edited (flat_map j (range_with_len a c)) x n)
each_in_range g j x n a zero m le each is = is
each_in_range g j x n a (suc c) m le each is =
    rw (edited-append (j a) (flat_map j (range_with_len (a + 1) c)) x n)
    (edited_in_range g (j a) x (edited (flat_map j (range_with_len (a + 1) c)) x n) (each a (omega arith)) (each_in_range g j x n (a + 1) c m (omega arith) each is))

-- the logical numbers of a valid image are in range
pub logical_in_range : (g : Geometry) (counter : ℕ) (image : Image) (x : Field) → IsValid g counter image → HasField g x
    → IsInRange g x (logical g image x)
unfolding logical standing journal
logical_in_range g counter image x valid has =
    each_in_range g (λ h. journal g image h) x (field g image x) 0 g.hosts g.hosts (omega arith) (λ h below. (valid.journals h below).spelled.edits.each) (valid.numbers x has)

-- a data number that a pointer in range names is one of the volume's
pub named_below : (g : Geometry) (n d : ℕ) → IsPointer g n → named n ≡ Some d → d < data_blocks g
named_below g n d is e =
    elim (cases_Bool (n % 2 ^ 31 == 0)) [
      | inl zero' ↦ let e' : named n ≡ None = rw zero' refl in cc
      | inr some ↦
          let e' : named n ≡ Some (n % 2 ^ 31 - 1) = rw some refl in
          let d_is : d ≡ n % 2 ^ 31 - 1 = cc in
          let more = eqb-false (n % 2 ^ 31) 0 some in
          omega (arith, is.names)
    ]

block_kept : (g : Geometry) (old new : Image) (o : Option ℕ)
    → ((d : ℕ) → o ≡ Some d → block_at g new (kinds.Number d) ≡ block_at g old (kinds.Number d))
    → option_map_or (data_block g new) o zero_block ≡ option_map_or (data_block g old) o zero_block
block_kept g old new None blocks = refl
block_kept g old new (Some d) blocks = ap (λ (bytes : List ℕ). let block : Block = record { 0 = bytes } in block) (blocks d refl)

-- a pointer shows the same while the block that it names stays
pub content_kept : (g : Geometry) (old new : Image) (n : ℕ)
    → ((d : ℕ) → named n ≡ Some d → block_at g new (kinds.Number d) ≡ block_at g old (kinds.Number d))
    → content g new n ≡ content g old n
content_kept g old new n blocks = block_kept g old new (named n) blocks

shown_kept : (g : Geometry) (counter : ℕ) (old new : Image) (f : ℕ) → IsValid g counter old → f < g.files
    → ((i : ℕ) → i < limit g → logical g new (Pointer f i) ≡ logical g old (Pointer f i))
    → ((d : ℕ) → d < data_blocks g → 1 ≤ uses g old d → block_at g new (kinds.Number d) ≡ block_at g old (kinds.Number d))
    → (i : ℕ) → i < limit g → content g new (logical g new (Pointer f i)) ≡ content g old (logical g old (Pointer f i))
shown_kept g counter old new f valid below pointers blocks i lt =
    ap (content g new) (pointers i lt)
    ∙ content_kept g old new (logical g old (Pointer f i))
    (λ d is. blocks d (named_below g (logical g old (Pointer f i)) d (logical_in_range g counter old (Pointer f i) valid (below, lt)) is) (used_once g old f i d (below, lt) is))

-- a file of a valid image whose head and pointers keep their numbers, and whose data blocks stay, stays
pub volume_file_kept : (g : Geometry) (counter : ℕ) (old new : Image) (f : ℕ) → IsValid g counter old → f < g.files
    → logical g new (Head f) ≡ logical g old (Head f)
    → ((i : ℕ) → i < limit g → logical g new (Pointer f i) ≡ logical g old (Pointer f i))
    → ((d : ℕ) → d < data_blocks g → 1 ≤ uses g old d → block_at g new (kinds.Number d) ≡ block_at g old (kinds.Number d))
    → volume_file g new f ≡ volume_file g old f
unfolding volume_file
volume_file_kept g counter old new f valid below head pointers blocks =
    let short : logical g old (Head f) ≤ limit g + 1 = logical_in_range g counter old (Head f) valid below in
    let shown = shown_kept g counter old new f valid below pointers blocks in
    ap (λ n. if n == 0 then None else Some (map (λ i. content g new (logical g new (Pointer f i))) (range_with_len 0 (n - 1)))) head
    ∙ ap (λ bs. if logical g old (Head f) == 0 then None else Some bs)
    (map_range_same (λ i. content g old (logical g old (Pointer f i))) (λ i. content g new (logical g new (Pointer f i))) 0 (logical g old (Head f) - 1) (limit g) (omega arith) shown)

-- writing a data block that nothing maps leaves all files
pub unmapped_write : (g : Geometry) (counter : ℕ) (old new : Image) (d f : ℕ) → IsValid g counter old
    → OnlyChanges g old new (kinds.Number d) → uses g old d ≡ 0 → f < g.files
    → volume_file g new f ≡ volume_file g old f
unmapped_write g counter old new d f valid only none below =
    volume_file_kept g counter old new f valid below
    (logical_kept g old new (kinds.Number d) (Head f) only (λ h e. cc) (λ t e. cc) below)
    (λ i lt. logical_kept g old new (kinds.Number d) (Pointer f i) only (λ h e. cc) (λ t e. cc) (below, lt))
    (λ e has used. only (kinds.Number e) has (λ same. let is : e ≡ d = cc in let u : uses g old e ≡ 0 = rw is none in absurd (omega arith)))

-- what head and pointers say of a file
pub volume_file_none : (g : Geometry) (image : Image) (f : ℕ) → logical g image (Head f) ≡ 0 → volume_file g image f ≡ None
unfolding volume_file
volume_file_none g image f e = rw e refl

-- block i of a file
abbrev pub shown : Geometry → Image → ℕ → ℕ → Block
shown g image f i = content g image (logical g image (Pointer f i))

pub volume_file_some : (g : Geometry) (image : Image) (f n : ℕ) → logical g image (Head f) ≡ n + 1
    → volume_file g image f ≡ Some (map (shown g image f) (range_with_len 0 n))
unfolding volume_file
volume_file_some g image f n e =
    let less : n + 1 - 1 ≡ n = omega arith in
    rw (e, ne_eqb (n + 1) 0 (λ h. absurd (omega (arith, h))), less) refl

-- a pointer below the length gets another number: that block of the file is replaced
pub volume_file_set : (g : Geometry) (old new : Image) (f i n : ℕ) → i < n → logical g old (Head f) ≡ n + 1 → logical g new (Head f) ≡ n + 1
    → ((k : ℕ) → k < n → k ≢ i → shown g new f k ≡ shown g old f k)
    → volume_file g new f ≡ Some (set (map (shown g old f) (range_with_len 0 n)) i (shown g new f i))
volume_file_set g old new f i n below was is others =
    volume_file_some g new f n is ∙ ap (λ bs. Some bs) (map_range_set (shown g old f) (shown g new f) n i below others)

-- the head gets another length: the file is cut, or grows by blocks of zeros, where no remain is in the way
pub volume_file_sized : (g : Geometry) (old new : Image) (f n m : ℕ) → logical g new (Head f) ≡ m + 1
    → ((k : ℕ) → k < n → shown g new f k ≡ shown g old f k)
    → ((k : ℕ) → n ≤ k → k < m → shown g new f k ≡ zero_block)
    → volume_file g new f ≡ Some (sized m (map (shown g old f) (range_with_len 0 n)))
volume_file_sized g old new f n m is same none =
    volume_file_some g new f m is ∙ ap (λ bs. Some bs)
    (map_range_sized (shown g new f) zero_block n m none ∙ ap (λ bs. sized m bs) (map_range_same (shown g old f) (shown g new f) 0 n n (omega arith) same))
