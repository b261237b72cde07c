-- What a registered host finds of an image, and what it is sure of by that.
use Rattle.std.proofs.Common.{◌≡◌, ◌≢◌, ◌<◌, ◌∙◌, ℕ, List, [], Some, refl, ap, arith}
use Rattle.std.specs.Prelude.{Contains, IfSome, slice_get}
use Rattle.std.proofs.lemmas.List.Elements.{All-contains}
use Rattle.std.proofs.lemmas.Option.{get_or_from_slice_get}
use Rattle.vol_layout.specs.declared.geometry.Geometry.{Geometry}
use Rattle.vol_layout.specs.declared.kind.Kind.{Kind}
use Rattle.vol_layout.specs.declared.kind.Kind.TheVariants as kinds
use Rattle.vol_layout.specs.Places.{place_of}
use Rattle.shared_disk.specs.State.{Stands}
use Rattle.slot_lock_blocks.specs.declared.slot.Slot.{Slot}
use Rattle.slot_lock_blocks.specs.Slots.{IsSlot, slot_bytes, slot_key}
use Rattle.image_view.specs.HostKeys.{slot_key_at}
use Rattle.image_view.specs.Images.{Image, block_at}
use Rattle.lock_store.specs.Views.{LocksView, counter_of, key_at, keys_of, told_of}
use Rattle.disk_locks.specs.Agreement.{Agrees, shown_in}
use Rattle.disk_locks.specs.Consistent.{Consistent}
use Rattle.disk_locks.specs.Sure.{BothTold, Sure}
use Rattle.disk_locks.specs.laws.GivenLaws.{slot_places}
use Rattle.host_facts.specs.Finds.{Finds}
use Rattle.host_facts.specs.laws.ToldLaws.{map_told, sure_and, sure_of, sure_over}

-- the block that stands at the place of a kind
pub stands_block : (g : Geometry) (image : Image) (kind : Kind) (block : List ℕ) → slice_get image (place_of g kind) ≡ Some block
    → block_at g image kind ≡ block
unfolding block_at
stands_block g image kind block at = get_or_from_slice_get image (place_of g kind) block [] at

-- a registered key is one
pub registered_some : (v : LocksView) (h : ℕ) → Consistent v → Contains (keys_of v) (key_at v h) → key_at v h ≢ 0
registered_some v h is here none =
    let some = All-contains (λ key. 0 < key) (keys_of v) (key_at v h) is.device.named here in absurd (omega (arith, some, none))

-- a registered host finds an image that agrees with all memories
pub found : (v : LocksView) (h : ℕ) → Consistent v → Contains (keys_of v) (key_at v h) → IfSome (told_of v) (λ t. Finds v h t.image)
found v h is here =
    map_told (told_of v) (λ t. Agrees v.geometry (counter_of v) (keys_of v) v.hosts t.image) (λ t. Finds v h t.image) is.told
    (λ t agrees. record { consistent = is; agrees = agrees; some = registered_some v h is here; here = here })

-- the block that stands at the place of a kind is that of the kind
pub stands_sure : (v : LocksView) (h : ℕ) (kind : Kind) (block : List ℕ) → Stands v.disk.state (place_of v.geometry kind) block
    → Sure v h (λ image. block_at v.geometry image kind ≡ block)
stands_sure v h kind block stands here =
    map_told (told_of v) (λ t. slice_get t.image (place_of v.geometry kind) ≡ Some block)
    (λ t. block_at v.geometry t.image kind ≡ block) stands (λ t at. stands_block v.geometry t.image kind block at)

-- what follows of what a registered host finds
pub sure_found : (v : LocksView) (h : ℕ) (P Q : Image → Type 0) → Consistent v → ((image : Image) → Finds v h image → P image → Q image)
    → Sure v h P → Sure v h Q
sure_found v h P Q is f sure =
    sure_of v h (λ image. Finds v h image × P image) Q (λ image both. f image both.0 both.1)
    (sure_and v h (λ image. Finds v h image) P (found v h is) sure)

-- and behind a call that leaves images in this relation
pub sure_later : (v w : LocksView) (h : ℕ) (R : Image → Image → Type 0) (P Q : Image → Type 0) → Consistent v → key_at w h ≡ key_at v h
    → (Contains (keys_of w) (key_at v h) → Contains (keys_of v) (key_at v h)) → BothTold (told_of v) (told_of w) R
    → ((i j : Image) → Finds v h i → R i j → P i → Q j) → Sure v h P → Sure w h Q
sure_later v w h R P Q is key registered both f sure =
    sure_over v w h R (λ image. Finds v h image × P image) Q key registered (λ now. both) (λ i j step was. f i j was.0 step was.1)
    (sure_and v h (λ image. Finds v h image) P (found v h is) sure)

-- the key that a slot shows, by the slot that stands there
pub shown_by : (g : Geometry) (image : Image) (y : ℕ) (slot : Slot) → IsSlot slot → block_at g image (kinds.Slot y) ≡ slot_bytes slot
    → slot_key_at g image y ≡ slot_key slot
unfolding slot_key_at
shown_by g image y slot fits stands = ap shown_in stands ∙ (slot_places (slot_bytes slot) slot (fits, refl)).shown
