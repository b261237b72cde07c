-- What the slow program finds in an image.
use Rattle.std.proofs.Common.{◌≡◌, ◌≢◌, ◌<◌, ◌≤◌, ◌+◌, ◌-◌, ◌*◌, ◌%◌, ◌^◌, ◌==◌, ◌&&◌, ℕ, zero, suc, true, false, List, [], ◌∷◌, map, length, get_or, sum_by, Option, Some, None, if◌then◌else◌, refl, sym, ap, ◌∙◌, inl, inr, arith}
use Rattle.std.specs.Prelude.{nat_lt, slice_get}
use Rattle.image_view.specs.Files.{content}
use Rattle.std.specs.List.{flat_map, range_with_len}
use Rattle.std.proofs.Math.Bool.{and-true}
use Rattle.std.proofs.lemmas.Bool.{cases_Bool, cases_eq, lt-ltb, ne_eqb}
use Rattle.std.proofs.lemmas.List.{drop_all, get_or-map, length-map}
use Rattle.vol_base.specs.declared.block.Block.{Block}
use Rattle.vol_base.specs.Bytes.{number_at, u32_at, zeros}
use Rattle.vol_base.specs.laws.BytesLaws.{number_at-drop, number_at-zeros}
use Rattle.vol_layout.specs.declared.field.Field.{Field}
use Rattle.vol_layout.specs.declared.field.Field.TheVariants.{Head, Pointer, Slot, Count}
use Rattle.vol_layout.specs.declared.field.Edit.{Edit}
use Rattle.vol_layout.specs.Edits.{edited, same_field}
use Rattle.vol_layout.specs.Fields.{byte_of, entry_of, table_of}
use Rattle.vol_layout.specs.Journal.{edit_at, edits_of, field_from}
use Rattle.vol_layout.specs.declared.kind.Kind.{Kind}
use Rattle.vol_layout.specs.declared.kind.Kind.TheVariants as kinds
use Rattle.vol_layout.specs.declared.kind.Table.{Table}
use Rattle.vol_layout.specs.Places.{place_of}
use Rattle.vol_layout.specs.Regions.{total}
use Rattle.vol_layout.specs.Ranges.{arena_slots, limit}
use Rattle.vol_layout.specs.laws.PlaceLaws.{place_of-inside}
use Rattle.image_view.specs.Blocks.{IsVolumeOf, hits, image_of}
use Rattle.image_view.specs.Mappings.{reference_fields}
use Rattle.image_view.specs.Balances.{share}
use Rattle.image_view.specs.laws.UseLaws.{names_one, sum_by-reference_fields}
use Rattle.image_view.specs.Images.{Image, block_at}
use Rattle.image_view.specs.Numbers.{field, journal, logical, standing}
use Rattle.image_view.specs.laws.EditLaws.{edited-append}
use Rattle.image_view.specs.Found.{found}
use Rattle.vol_layout.specs.declared.geometry.Geometry.{Geometry}

-- which field the three numbers of an edit say
pub same_head : (t a b f : ℕ) → same_field (field_from t a b) (Head f) ≡ ((t == 0) && (a == f))
unfolding same_field
same_head zero a b f = and-true (a == f)
same_head (suc zero) a b f = refl
same_head (suc (suc zero)) a b f = refl
same_head (suc (suc (suc t))) a b f = ap (λ x. x && (a == f)) (sym (ne_eqb (suc (suc (suc t))) 0 (λ e. absurd (omega arith))))

pub same_pointer : (t a b f i : ℕ) → same_field (field_from t a b) (Pointer f i) ≡ ((t == 1) && (a == f) && (b == i))
unfolding same_field
same_pointer zero a b f i = refl
same_pointer (suc zero) a b f i = refl
same_pointer (suc (suc zero)) a b f i = refl
same_pointer (suc (suc (suc t))) a b f i = ap (λ x. x && (a == f) && (b == i)) (sym (ne_eqb (suc (suc (suc t))) 1 (λ e. absurd (omega arith))))

pub same_slot : (t a b s : ℕ) → same_field (field_from t a b) (Slot s) ≡ ((t == 2) && (a == s))
unfolding same_field
same_slot zero a b s = refl
same_slot (suc zero) a b s = refl
same_slot (suc (suc zero)) a b s = and-true (a == s)
same_slot (suc (suc (suc t))) a b s = ap (λ x. x && (a == s)) (sym (ne_eqb (suc (suc (suc t))) 2 (λ e. absurd (omega arith))))

pub same_count : (t a b d : ℕ) → same_field (field_from t a b) (Count d) ≡ ((nat_lt 2 t) && (a == d))
unfolding same_field
same_count zero a b d = refl
same_count (suc zero) a b d = refl
same_count (suc (suc zero)) a b d = refl
same_count (suc (suc (suc t))) a b d = and-true (a == d) ∙ ap (λ x. x && (a == d)) (sym (lt-ltb 2 (suc (suc (suc t))) (omega arith)))

pub ruleset from_numbers = (same_head, same_pointer, same_slot, same_count)

no_bytes : [] ≡ zeros 0
unfolding zeros
no_bytes = refl

-- past a block's end every number is 0
pub number_past : (xs : List ℕ) (at : ℕ) → length xs ≤ at → u32_at xs at ≡ 0
number_past xs at past =
    let e : at ≡ at + 0 = omega arith in
    ap (λ n. number_at 4 xs n) e ∙ sym (number_at-drop 4 0 at xs) ∙ ap (λ (ys : List ℕ). number_at 4 ys 0) (drop_all at xs past ∙ no_bytes) ∙ number_at-zeros 4 0 0

-- the first edit of a field in a list that is made from a range
found_here : (f : ℕ → Edit) (x : Field) (a n k : ℕ) → a ≤ k → k < a + n → ((j : ℕ) → j < k → same_field (f j).field x ≡ false) → same_field (f k).field x ≡ true
    → found (map f (range_with_len a n)) x ≡ Some (f k).number
found_here f x a zero k low high none here = absurd (omega arith)
found_here f x a (suc n) k low high none here =
    elim (cases_eq a k) [
      | inl e ↦ rw (e, here) refl
      | inr other ↦ rw (none a (omega arith)) (found_here f x (a + 1) n k (omega arith) (omega arith) none here)
    ]

found_nowhere : (f : ℕ → Edit) (x : Field) (a n m : ℕ) → a + n ≤ m → ((j : ℕ) → j < m → same_field (f j).field x ≡ false) → found (map f (range_with_len a n)) x ≡ None
found_nowhere f x a zero m le none = refl
found_nowhere f x a (suc n) m le none = rw (none a (omega arith)) (found_nowhere f x (a + 1) n m (omega arith) none)

-- the edits before byte 64 + 16 k of a journal are of other fields
abbrev pub NoneBefore : List ℕ → Field → ℕ → Type 0
NoneBefore block x k = (j : ℕ) → j < k → same_field (edit_at block (64 + 16 * j)).field x ≡ false

pub edits_found : (block : List ℕ) (x : Field) (k n : ℕ) → n ≡ u32_at block 8 → k < n → NoneBefore block x k → same_field (edit_at block (64 + 16 * k)).field x ≡ true
    → found (edits_of block) x ≡ Some (u32_at block (64 + 16 * k + 12))
unfolding edits_of
edits_found block x k n e below none here =
    ap (λ n. found (map (λ k. edit_at block (64 + 16 * k)) (range_with_len 0 n)) x) (sym e) ∙ found_here (λ k. edit_at block (64 + 16 * k)) x 0 n k (omega arith) (omega arith) none here

pub edits_none : (block : List ℕ) (x : Field) (n : ℕ) → n ≡ u32_at block 8 → NoneBefore block x n → found (edits_of block) x ≡ None
unfolding edits_of
edits_none block x n e none =
    ap (λ n. found (map (λ k. edit_at block (64 + 16 * k)) (range_with_len 0 n)) x) (sym e) ∙ found_nowhere (λ k. edit_at block (64 + 16 * k)) x 0 n n (omega arith) none

-- what was found is what the edits leave
edited_some : (es : List Edit) (x : Field) (n m : ℕ) → found es x ≡ Some m → edited es x n ≡ m
edited_some [] x n m h = cc
edited_some (e ∷ es) x n m h =
    elim (cases_Bool (same_field e.field x)) [
      | inl here ↦ let h' : Some e.number ≡ Some m = rw here at h in rw here cc
      | inr other ↦ rw other (edited_some es x n m (rw other at h))
    ]

edited_none : (es : List Edit) (x : Field) (n : ℕ) → found es x ≡ None → edited es x n ≡ n
edited_none [] x n h = refl
edited_none (e ∷ es) x n h =
    elim (cases_Bool (same_field e.field x)) [
      | inl here ↦ let h' : Some e.number ≡ None = rw here at h in cc
      | inr other ↦ rw other (edited_none es x n (rw other at h))
    ]

each_some : (j : ℕ → List Edit) (x : Field) (n a c h m : ℕ) → a ≤ h → h < a + c → ((k : ℕ) → k < h → found (j k) x ≡ None) → found (j h) x ≡ Some m → edited (flat_map j (range_with_len a c)) x n ≡ m
each_some j x n a zero h m low high none here = absurd (omega arith)
each_some j x n a (suc c) h m low high none here =
    edited-append (j a) (flat_map j (range_with_len (a + 1) c)) x n
    ∙ elim (cases_eq a h) [
      | inl e ↦ edited_some (j a) x (edited (flat_map j (range_with_len (a + 1) c)) x n) m (rw e here)
      | inr other ↦ edited_none (j a) x (edited (flat_map j (range_with_len (a + 1) c)) x n) (none a (omega arith)) ∙ each_some j x n (a + 1) c h m (omega arith) (omega arith) none here
    ]

each_none : (j : ℕ → List Edit) (x : Field) (n a c m : ℕ) → a + c ≤ m → ((k : ℕ) → k < m → found (j k) x ≡ None) → edited (flat_map j (range_with_len a c)) x n ≡ n
each_none j x n a zero m le none = refl
each_none j x n a (suc c) m le none =
    edited-append (j a) (flat_map j (range_with_len (a + 1) c)) x n
    ∙ edited_none (j a) x (edited (flat_map j (range_with_len (a + 1) c)) x n) (none a (omega arith))
    ∙ each_none j x n (a + 1) c m (omega arith) none

pub logical_found : (g : Geometry) (image : Image) (x : Field) (h m : ℕ) → h < g.hosts → ((k : ℕ) → k < h → found (journal g image k) x ≡ None) → found (journal g image h) x ≡ Some m → logical g image x ≡ m
unfolding logical standing
logical_found g image x h m below none here = each_some (λ h. journal g image h) x (field g image x) 0 g.hosts h m (omega arith) (omega arith) none here

pub logical_none : (g : Geometry) (image : Image) (x : Field) → ((k : ℕ) → k < g.hosts → found (journal g image k) x ≡ None) → logical g image x ≡ field g image x
unfolding logical standing
logical_none g image x none = each_none (λ h. journal g image h) x (field g image x) 0 g.hosts g.hosts (omega arith) none

-- where a field stands in its table
pub byte-head : (x : Field) → entry_of x ≡ None → byte_of x ≡ 12
byte-head (Head f) e = refl
byte-head (Pointer f i) e = cc
byte-head (Slot s) e = cc
byte-head (Count d) e = cc

pub byte-entry : (x : Field) (k : ℕ) → entry_of x ≡ Some k → byte_of x ≡ 64 + 4 * k
byte-entry (Head f) k e = cc
byte-entry (Pointer f i) k e = cc
byte-entry (Slot s) k e = cc
byte-entry (Count d) k e = cc

-- which numbers hit
pub hits_zero : (wanted : Option ℕ) (n : ℕ) → n % 2 ^ 31 ≡ 0 → hits wanted n ≡ 0
unfolding names_one share
hits_zero None n h = rw h refl
hits_zero (Some d) n h = rw h refl

pub hits_any : (n : ℕ) → n % 2 ^ 31 ≢ 0 → hits None n ≡ 1
unfolding names_one
hits_any n h = rw (ne_eqb (n % 2 ^ 31) 0 h) refl

pub hits_one : (n d : ℕ) → n % 2 ^ 31 ≢ 0 → hits (Some d) n ≡ (if n % 2 ^ 31 - 1 == d then 1 else 0)
unfolding share
hits_one n d h = rw (ne_eqb (n % 2 ^ 31) 0 h) refl

-- a block in memory is the block of its kind
pub block_in_memory : (g : Geometry) (blocks : List Block) (kind : Kind) (p : ℕ) (d : Block) → p ≡ place_of g kind → p < total g → total g ≤ length (image_of blocks) → (get_or blocks p d).0 ≡ block_at g (image_of blocks) kind
unfolding block_at
block_in_memory g blocks kind p d is inside long =
    let below : p < length blocks = omega (arith, length-map blocks (λ (b : Block). b.0)) in
    rw (sym is) (sym (get_or-map (λ (b : Block). b.0) blocks p d [] below))

-- what was read in a journal and in a table
pub journal_read : (g : Geometry) (image : Image) (h : ℕ) (block : List ℕ) → block ≡ block_at g image (kinds.Journal h) → edits_of block ≡ journal g image h
unfolding journal
journal_read g image h block is = ap edits_of is

pub field_read : (g : Geometry) (image : Image) (x : Field) (t : Table) (block : List ℕ) (at : ℕ) → block ≡ block_at g image (kinds.Table t) → t ≡ table_of x → byte_of x ≡ at → u32_at block at ≡ field g image x
unfolding field
field_read g image x t block at is table here = rw (is, table, here) refl

-- a volume has a block
pub volume_has_block : (g : Geometry) (blocks : List Block) → IsVolumeOf g (image_of blocks) → 0 < length blocks
volume_has_block g blocks volume = let inside = place_of-inside g kinds.Super tt in omega (arith, volume.long, length-map blocks (λ (b : Block). b.0))

-- mappings and uses, as sums of hits
pub mapped_sum : (g : Geometry) (image : Image) (wanted : Option ℕ) (f s : ℕ)
    → f ≡ sum_by (λ f. sum_by (λ i. hits wanted (logical g image (Pointer f i))) (range_with_len 0 (limit g))) (range_with_len 0 g.files)
    → s ≡ sum_by (λ s. hits wanted (logical g image (Slot s))) (range_with_len 0 (arena_slots g))
    → f + s ≡ sum_by (λ x. hits wanted (logical g image x)) (reference_fields g)
mapped_sum g image wanted f s ef es = rw (sum_by-reference_fields g (λ x. hits wanted (logical g image x)), ef, es) refl

-- an image of no block is no volume
pub no_first : (blocks : List Block) → slice_get blocks 0 ≡ None → (g : Geometry) → IsVolumeOf g (image_of blocks) → ⊥
no_first [] h g volume = let some = volume_has_block g [] volume in omega arith
no_first (b ∷ bs) h g volume = cc

-- a hole shows zeros
pub hole_shown : (g : Geometry) (image : Image) (pointer : ℕ) (block : Block) → 0 ≡ pointer → block.0 ≡ zeros 4096 → block ≡ content g image pointer
hole_shown g image pointer block hole is = rw (sym hole) (ap (λ (bytes : List ℕ). let b : Block = record { 0 = bytes } in b) is)
