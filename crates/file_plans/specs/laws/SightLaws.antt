-- What is to be done by known tables: replies that settle a call, and what blocks and remains are there.
use Rattle.std.proofs.Common.{◌≡◌, ◌<◌, ◌≤◌, ◌+◌, ℕ, None, Option, Some, refl, sym, subst}
use Rattle.vol_base.specs.declared.block.Block.{Block}
use Rattle.image_view.specs.declared.pointer.Number.{Number}
use Rattle.file_plans.specs.declared.sight.Sight.{Sight}
use Rattle.vol_base.specs.declared.plain.PlainCall.{PlainCall}
use Rattle.vol_base.specs.declared.plain.PlainCall.TheVariants.{Create, Punch, Read, Remove, Size, Write}
use Rattle.vol_base.specs.declared.plain.PlainReply.TheVariants.{Beyond, Done, Exists, Holds, NoFile, TooLong}
use Rattle.vol_layout.specs.declared.field.Field.TheVariants.{Head, Pointer}
use Rattle.vol_layout.specs.declared.geometry.Geometry.{Geometry}
use Rattle.vol_layout.specs.Ranges.{limit}
use Rattle.plain_files.specs.Block.{zero_block}
use Rattle.plain_files.specs.Calls.{file_no, outcome}
use Rattle.image_view.specs.declared.pointer.Number.TheVariants.{Hole}
use Rattle.image_view.specs.Numbers.{logical}
use Rattle.image_view.specs.Pointers.{named}
use Rattle.call_effects.specs.laws.LookLaws.{BlockCall, look-absent, look-beyond, look-exists, look-hole, look-read, look-same_size, look-too_long}
use Rattle.call_effects.specs.laws.PointerLaws.{content-hole}
use Rattle.file_plans.specs.Says.{HasBlock, Known, Says}
use Rattle.file_plans.specs.Sights.{IsSight, MayReply}
use Rattle.file_plans.specs.declared.call.FileCall.{FileCall}
use Rattle.file_plans.specs.declared.call.FileCall.TheVariants.{Close, Plain}
use Rattle.file_plans.specs.declared.sight.Sight.TheVariants.{Fresh, Heads, Settled}

module _ (g : Geometry) (known : Known) where
  -- a file that is not there is not resized, written, read or removed
  pub settled_absent : (call : PlainCall) → file_no call < g.files → outcome (limit g) call None ≡ (NoFile, None)
      → Says known (Head (file_no call)) 0 → IsSight g known (Plain call) (Settled NoFile)
  settled_absent call below is head =
      (tt, λ image super reads. look-absent g image call is super below (reads (Head (file_no call)) 0 below head))

  pub settled_none : (call : PlainCall) → file_no call < g.files → ((f : ℕ) → call ≡ Create f → ⊥) → Says known (Head (file_no call)) 0
      → IsSight g known (Plain call) (Settled NoFile)
  settled_none (Create f) below other head = absurd (other f refl)
  settled_none (Size f n) below other head = settled_absent (Size f n) below refl head
  settled_none (Write f i block) below other head = settled_absent (Write f i block) below refl head
  settled_none (Read f i) below other head = settled_absent (Read f i) below refl head
  settled_none (Punch f i) below other head = settled_absent (Punch f i) below refl head
  settled_none (Remove f) below other head = settled_absent (Remove f) below refl head

  pub settled_exists : (f n : ℕ) → f < g.files → Says known (Head f) (n + 1) → IsSight g known (Plain (Create f)) (Settled Exists)
  settled_exists f n below head =
      (tt, λ image super reads. look-exists g image f n super below (reads (Head f) (n + 1) below head))

  pub settled_long : (f n m : ℕ) → f < g.files → Says known (Head f) (n + 1) → limit g < m
      → IsSight g known (Plain (Size f m)) (Settled TooLong)
  settled_long f n m below head past =
      (tt, λ image super reads. look-too_long g image f n m super below (reads (Head f) (n + 1) below head) past)

  pub settled_same : (f n : ℕ) → f < g.files → Says known (Head f) (n + 1) → n ≤ limit g
      → IsSight g known (Plain (Size f n)) (Settled Done)
  settled_same f n below head short =
      (tt, λ image super reads. look-same_size g image f n super below (reads (Head f) (n + 1) below head) short)

  pub settled_beyond : (call : PlainCall) (i n : ℕ) → BlockCall call i → file_no call < g.files
      → Says known (Head (file_no call)) (n + 1) → n ≤ i → IsSight g known (Plain call) (Settled (Beyond n))
  settled_beyond call i n is below head past =
      (tt, λ image super reads. look-beyond g image call i n is super below (reads (Head (file_no call)) (n + 1) below head) past)

  -- a hole reads as zeros, and is punched already
  pub settled_zeros : (f i : ℕ) → HasBlock g known f i Hole → IsSight g known (Plain (Read f i)) (Settled (Holds zero_block))
  settled_zeros f i block = (
    tt,
    λ image super reads.
        let pointer = block.pointer in
        let hole : named (logical g image (Pointer f i)) ≡ None = rw (reads (Pointer f i) 0 pointer.has pointer.says) refl in
        look-read g image f i block.length zero_block super pointer.has.0 (reads (Head f) (block.length + 1) pointer.has.0 block.head)
        block.below (sym (content-hole g image (logical g image (Pointer f i)) hole)),
  )

  pub settled_hole : (f i : ℕ) → HasBlock g known f i Hole → IsSight g known (Plain (Punch f i)) (Settled Done)
  settled_hole f i block = (
    tt,
    λ image super reads.
        let pointer = block.pointer in
        let hole : named (logical g image (Pointer f i)) ≡ None = rw (reads (Pointer f i) 0 pointer.has pointer.says) refl in
        look-hole g image f i block.length super pointer.has.0 (reads (Head f) (block.length + 1) pointer.has.0 block.head) block.below hole,
  )

  -- a write that is done at its record, and a call that writes a head
  pub fresh_in_range : (call : FileCall) (old : Option ℕ) → IsSight g known call (Fresh old) → MayReply g Done call
  fresh_in_range (Plain (Write f i block)) None sight = sight.pointer.has.1
  fresh_in_range (Plain (Write f i block)) (Some d) sight = sight.pointer.has.1
  fresh_in_range (Plain (Create f)) old sight = tt
  fresh_in_range (Plain (Size f n)) old sight = tt
  fresh_in_range (Plain (Read f i)) old sight = tt
  fresh_in_range (Plain (Punch f i)) old sight = tt
  fresh_in_range (Plain (Remove f)) old sight = tt
  fresh_in_range (Close f) old sight = tt

  pub heads_in_range : (call : FileCall) (m : ℕ) → IsSight g known call (Heads m) → MayReply g Done call
  heads_in_range (Plain (Write f i block)) m sight = absurd sight
  heads_in_range (Plain (Create f)) m sight = tt
  heads_in_range (Plain (Size f n)) m sight = tt
  heads_in_range (Plain (Read f i)) m sight = tt
  heads_in_range (Plain (Punch f i)) m sight = tt
  heads_in_range (Plain (Remove f)) m sight = tt
  heads_in_range (Close f) m sight = tt

  -- the same by the call that was matched
  pub zeros_by : (call : PlainCall) (f j i : ℕ) (p : Number) → call ≡ Read f j → p ≡ Hole → BlockCall call i
      → HasBlock g known (file_no call) i p → (block : Block) → block ≡ zero_block → IsSight g known (Plain call) (Settled (Holds block))
  zeros_by call f j i p is hole =
      subst (λ (c : PlainCall). BlockCall c i → HasBlock g known (file_no c) i p → (block : Block) → block ≡ zero_block
      → IsSight g known (Plain c) (Settled (Holds block))) (sym is) (λ same has block zero.
      subst (λ (b : Block). IsSight g known (Plain (Read f j)) (Settled (Holds b))) (sym zero)
      (settled_zeros f j (subst (λ (k : ℕ). HasBlock g known f k Hole) (sym same) (subst (HasBlock g known f i) hole has))))

  pub hole_by : (call : PlainCall) (f j i : ℕ) (p : Number) → call ≡ Punch f j → p ≡ Hole → BlockCall call i
      → HasBlock g known (file_no call) i p → IsSight g known (Plain call) (Settled Done)
  hole_by call f j i p is hole =
      subst (λ (c : PlainCall). BlockCall c i → HasBlock g known (file_no c) i p → IsSight g known (Plain c) (Settled Done)) (sym is)
      (λ same has. settled_hole f j (subst (λ (k : ℕ). HasBlock g known f k Hole) (sym same) (subst (HasBlock g known f i) hole has)))

  pub written_by : (call : PlainCall) (f j i : ℕ) (block : Block) (p : Number) (sight : Sight) → call ≡ Write f j block
      → ((e k : ℕ) (b : Block) → HasBlock g known e k p → IsSight g known (Plain (Write e k b)) sight) → BlockCall call i
      → HasBlock g known (file_no call) i p → IsSight g known (Plain call) sight
  written_by call f j i block p sight is right =
      subst (λ (c : PlainCall). BlockCall c i → HasBlock g known (file_no c) i p → IsSight g known (Plain c) sight) (sym is)
      (λ same has. right f j block (subst (λ (k : ℕ). HasBlock g known f k p) (sym same) has))

  pub exists_by : (call : PlainCall) (f n : ℕ) → call ≡ Create f → file_no call < g.files → Says known (Head (file_no call)) (n + 1)
      → IsSight g known (Plain call) (Settled Exists)
  exists_by call f n is =
      subst (λ (c : PlainCall). file_no c < g.files → Says known (Head (file_no c)) (n + 1) → IsSight g known (Plain c) (Settled Exists))
      (sym is) (settled_exists f n)
