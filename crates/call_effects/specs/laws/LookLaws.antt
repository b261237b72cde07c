-- Replies that leave the volume as it is: reads, the refusals of plain files, a punch of a hole, and a size to the same length.
use Rattle.std.proofs.Common.{◌≡◌, ◌<◌, ◌≤◌, ◌+◌, ◌-◌, ltb, true, false, ℕ, List, map, length, Option, Some, None, refl, sym, ap, ◌∙◌, inl, inr, take, get_or-set_other, get_or-set_same, arith}
use Rattle.std.specs.Prelude.{slice_index_or, slice_set}
use Rattle.std.specs.List.{range_with_len}
use Rattle.std.proofs.lemmas.Bool.{cases_eq, le-ltb, lt-ltb}
use Rattle.std.proofs.lemmas.List.{append-nil, get_or_default, length-set, same_lists, take_all}
use Rattle.std.proofs.lemmas.List.FromFn.{get_or-map-range_with_len, length-map-range_with_len}
use Rattle.vol_base.specs.declared.block.Block.{Block}
use Rattle.vol_base.specs.declared.plain.PlainCall.{PlainCall}
use Rattle.vol_base.specs.declared.plain.PlainCall.TheVariants.{Create, Punch, Read, Size, Write}
use Rattle.vol_base.specs.declared.plain.PlainReply.{PlainReply}
use Rattle.vol_base.specs.declared.plain.PlainReply.TheVariants.{Beyond, Done, Exists, Holds, NoFile, TooLong}
use Rattle.vol_layout.specs.declared.geometry.Geometry.{Geometry}
use Rattle.vol_layout.specs.declared.field.Field.TheVariants.{Head, Pointer}
use Rattle.vol_layout.specs.Ranges.{limit}
use Rattle.vol_layout.specs.Superblock.{SpellsGeometry}
use Rattle.plain_files.specs.Block.{zero_block}
use Rattle.plain_files.specs.Calls.{file_no, outcome, sized}
use Rattle.image_view.specs.Files.{image_file}
use Rattle.image_view.specs.laws.FileLaws.{shown}
use Rattle.image_view.specs.Images.{Image, first_block}
use Rattle.image_view.specs.Numbers.{logical}
use Rattle.image_view.specs.Pointers.{named}
use Rattle.call_effects.specs.Places.{IsPlaced}
use Rattle.call_effects.specs.laws.PlaceLaws.{file-absent, file-there}
use Rattle.call_effects.specs.laws.PointerLaws.{content-hole}

-- the reply is that of plain files, and the call leaves its file
abbrev pub IsLook : Geometry → PlainCall → PlainReply → Image → Type 0
IsLook g call reply image = outcome (limit g) call (image_file image (file_no call)) ≡ (reply, image_file image (file_no call))

-- a file that is not there is not resized, written or read
pub look-absent : (g : Geometry) (image : Image) (call : PlainCall) → outcome (limit g) call None ≡ (NoFile, None)
    → SpellsGeometry (first_block image) g → file_no call < g.files → logical g image (Head (file_no call)) ≡ 0 → IsLook g call NoFile image
look-absent g image call is super below head =
    ap (λ (file : Option (List Block)). outcome (limit g) call file) (file-absent g image (file_no call) super below head)
    ∙ is ∙ sym (ap (λ (file : Option (List Block)). let pair : PlainReply × Option (List Block) = (NoFile, file) in pair) (file-absent g image (file_no call) super below head))

-- the reply for a file that is there, by the blocks that it shows
pub look-there : (g : Geometry) (image : Image) (call : PlainCall) (reply : PlainReply) (n : ℕ) → SpellsGeometry (first_block image) g
    → file_no call < g.files → logical g image (Head (file_no call)) ≡ n + 1
    → (let blocks : List Block = map (shown g image (file_no call)) (range_with_len 0 n) in outcome (limit g) call (Some blocks) ≡ (reply, Some blocks))
    → IsLook g call reply image
look-there g image call reply n super below head is =
    let there = file-there g image (file_no call) n super below head in
    ap (λ (file : Option (List Block)). outcome (limit g) call file) there
    ∙ is ∙ sym (ap (λ (file : Option (List Block)). let pair : PlainReply × Option (List Block) = (reply, file) in pair) there)

pub look-exists : (g : Geometry) (image : Image) (f n : ℕ) → SpellsGeometry (first_block image) g → f < g.files
    → logical g image (Head f) ≡ n + 1 → IsLook g (Create f) Exists image
look-exists g image f n super below head = look-there g image (Create f) Exists n super below head refl

-- a file does not grow past the greatest length
pub look-too_long : (g : Geometry) (image : Image) (f n m : ℕ) → SpellsGeometry (first_block image) g → f < g.files
    → logical g image (Head f) ≡ n + 1 → limit g < m → IsLook g (Size f m) TooLong image
look-too_long g image f n m super below head past =
    look-there g image (Size f m) TooLong n super below head (let test = lt-ltb (limit g) m past in rw test refl)

-- no block past a file's end is read, written or punched
abbrev pub BlockCall : PlainCall → ℕ → Type 0
BlockCall (Write f i block) index = i ≡ index
BlockCall (Read f i) index = i ≡ index
BlockCall (Punch f i) index = i ≡ index
BlockCall call index = ⊥

past_end : (limit : ℕ) (call : PlainCall) (i n : ℕ) (blocks : List Block) → BlockCall call i → n ≤ i → length blocks ≡ n
    → outcome limit call (Some blocks) ≡ (Beyond n, Some blocks)
past_end limit (Write f j block) i n blocks is past long = let test : ltb j (length blocks) ≡ false = le-ltb j (length blocks) (omega arith) in rw (test, long) refl
past_end limit (Read f j) i n blocks is past long = let test : ltb j (length blocks) ≡ false = le-ltb j (length blocks) (omega arith) in rw (test, long) refl
past_end limit (Punch f j) i n blocks is past long = let test : ltb j (length blocks) ≡ false = le-ltb j (length blocks) (omega arith) in rw (test, long) refl
past_end limit call i n blocks is past long = absurd is

pub look-beyond : (g : Geometry) (image : Image) (call : PlainCall) (i n : ℕ) → BlockCall call i → SpellsGeometry (first_block image) g
    → file_no call < g.files → logical g image (Head (file_no call)) ≡ n + 1 → n ≤ i → IsLook g call (Beyond n) image
look-beyond g image call i n is super below head past =
    look-there g image call (Beyond n) n super below head
    (past_end (limit g) call i n (map (shown g image (file_no call)) (range_with_len 0 n)) is past (length-map-range_with_len (shown g image (file_no call)) 0 n))

-- a block below a file's end is the one that its pointer shows
pub look-read : (g : Geometry) (image : Image) (f i n : ℕ) (block : Block) → SpellsGeometry (first_block image) g → f < g.files
    → logical g image (Head f) ≡ n + 1 → i < n → block ≡ shown g image f i → IsLook g (Read f i) (Holds block) image
look-read g image f i n block super below head inside is =
    let blocks = map (shown g image f) (range_with_len 0 n) in
    let long : length blocks ≡ n = length-map-range_with_len (shown g image f) 0 n in
    let test : ltb i (length blocks) ≡ true = lt-ltb i (length blocks) (omega arith) in
    let at : slice_index_or blocks i zero_block ≡ block = get_or-map-range_with_len (shown g image f) 0 n i i zero_block inside (omega arith) ∙ sym is in
    look-there g image (Read f i) (Holds block) n super below head (rw (test, at) refl)

-- a block that is a hole is punched: it is zeros already
set_same : (blocks : List Block) (i : ℕ) (b : Block) → i < length blocks → slice_index_or blocks i b ≡ b → slice_set blocks i b ≡ blocks
set_same blocks i b inside is =
    same_lists (slice_set blocks i b) blocks (length-set blocks i b)
    (λ k d lt.
    let long = length-set blocks i b in
    elim (cases_eq k i) [
      | inl here ↦ rw here (get_or-set_same blocks i b d inside ∙ sym is ∙ get_or_default blocks i b d inside)
      | inr other ↦ get_or-set_other blocks i k b d other
    ])

pub look-hole : (g : Geometry) (image : Image) (f i n : ℕ) → SpellsGeometry (first_block image) g → f < g.files
    → logical g image (Head f) ≡ n + 1 → i < n → named (logical g image (Pointer f i)) ≡ None → IsLook g (Punch f i) Done image
look-hole g image f i n super below head inside hole =
    let blocks = map (shown g image f) (range_with_len 0 n) in
    let long : length blocks ≡ n = length-map-range_with_len (shown g image f) 0 n in
    let within : i < length blocks = omega (arith, long, inside) in
    let test : ltb i (length blocks) ≡ true = lt-ltb i (length blocks) within in
    let zero' : slice_index_or blocks i zero_block ≡ zero_block =
    get_or-map-range_with_len (shown g image f) 0 n i i zero_block inside (omega arith) ∙ content-hole g image (logical g image (Pointer f i)) hole in
    let same = set_same blocks i zero_block within zero' in
    look-there g image (Punch f i) Done n super below head (rw (test, same) refl)

-- a file gets the length that it has
pub look-same_size : (g : Geometry) (image : Image) (f n : ℕ) → SpellsGeometry (first_block image) g → f < g.files
    → logical g image (Head f) ≡ n + 1 → n ≤ limit g → IsLook g (Size f n) Done image
look-same_size g image f n super below head short =
    let blocks = map (shown g image f) (range_with_len 0 n) in
    let long : length blocks ≡ n = length-map-range_with_len (shown g image f) 0 n in
    let test : ltb (limit g) n ≡ false = le-ltb (limit g) n short in
    let whole : take n blocks ≡ blocks = take_all n blocks (omega (arith, long)) in
    let none : n - length blocks ≡ 0 = omega (arith, long) in
    let same : sized n blocks ≡ blocks = rw (whole, none) (append-nil blocks) in
    look-there g image (Size f n) Done n super below head (rw (test, same) refl)

-- a call that only looks has its place there
pub placed-look : (g : Geometry) (image : Image) (call : PlainCall) (reply : PlainReply) → IsLook g call reply image
    → IsPlaced g call reply image image
placed-look g image call reply is = (sym (ap (λ o. o.0) is), record { named = sym (ap (λ o. o.1) is); others = λ f other. refl })
