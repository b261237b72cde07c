-- What the change of one block leaves of what facts say.
use Rattle.std.proofs.Common.{◌≡◌, ◌≢◌, ◌⊎◌, ◌<◌, ℕ, List, [], refl, true, false, sym, ap, ◌∙◌, subst, inl, inr}
use Rattle.vol_layout.specs.declared.geometry.Geometry.{Geometry}
use Rattle.vol_layout.specs.declared.kind.Kind.{Kind}
use Rattle.vol_layout.specs.declared.kind.Kind.TheVariants as kinds
use Rattle.vol_layout.specs.declared.field.Edit.{Edit}
use Rattle.vol_layout.specs.declared.field.Field.{Field}
use Rattle.vol_layout.specs.declared.field.Field.TheVariants.{Count, Head, Pointer, Slot}
use Rattle.vol_layout.specs.Edits.{touches}
use Rattle.vol_layout.specs.Fields.{HasField, table_of}
use Rattle.image_view.specs.Balances.{share_of}
use Rattle.image_view.specs.HostKeys.{IsHeldBy}
use Rattle.image_view.specs.Images.{Image, OnlyChanges, block_at}
use Rattle.image_view.specs.Numbers.{journal, logical}
use Rattle.image_view.specs.Records.{IsEdited}
use Rattle.image_view.specs.laws.EditLaws.{edited_untouched}
use Rattle.image_view.specs.laws.FrameLaws.{HasTable-table_of, IsHeldBy_kept, field_kept, journal_kept, slot_key_kept}
use Rattle.lock_store.specs.declared.host.HostState.{HostState}
use Rattle.lock_store.specs.Views.{LocksView, counter_of, host_at}
use Rattle.disk_locks.specs.Memories.{IsMemory}
use Rattle.host_facts.specs.Facts.Fact.{BlockIs, DeadRecord, DeadTable, Ended, FreshIs, Given}
use Rattle.host_facts.specs.Facts.Fact.{NoneFree, Off, RecordIs, SlotIs, Swept, TableIs}
use Rattle.host_facts.specs.Facts.{Fact, IsGuarded, Tells}
use Rattle.host_facts.specs.Passes.{SaysNoLock}
use Rattle.host_facts.specs.Spares.{Spares, SparesSlot}
use Rattle.host_facts.specs.laws.FactLaws.{joined_key, looker_joined}
use Rattle.host_facts.specs.laws.KindLaws.{LeavesData, LeavesHosts}

-- the guard of a fact that is spared stays, where the own record changes with the own journal alone
pub guard_spared : (g : Geometry) (m : HostState) (h : ℕ) (kind : Kind) (es own new : List Edit) (a : Fact) → Spares h kind es a
    → (kinds.Journal h ≢ kind → new ≡ own) → IsGuarded g m own a → IsGuarded g m new a
guard_spared g m h kind es own new (RecordIs is) spares same guard =
    subst (λ (fs : List Edit). IsGuarded g m fs (RecordIs is)) (sym (same spares)) guard
guard_spared g m h kind es own new a spares same guard = guard

-- a block that is neither a journal, a table nor a data block spares every fact
slot_left : (kind : Kind) → LeavesData kind → (x : Field) → SparesSlot kind x
slot_left kind leaves (Head f) = tt
slot_left kind leaves (Pointer f i) = tt
slot_left kind leaves (Slot s) = leaves.table (table_of (Slot s))
slot_left kind leaves (Count d) = tt

pub spares_all : (h : ℕ) (kind : Kind) (a : Fact) → LeavesData kind → Spares h kind [] a
spares_all h kind (TableIs t p) leaves = leaves.table t
spares_all h kind (RecordIs own) leaves = leaves.journal h
spares_all h kind (NoneFree r) leaves = λ d at. refl
spares_all h kind (FreshIs d bytes) leaves = (leaves.number d, refl)
spares_all h kind (SlotIs s d) leaves = leaves.table (table_of (Slot s))
spares_all h kind (BlockIs x d bytes) leaves = (leaves.number d, refl, slot_left kind leaves x)
spares_all h kind (Given key) leaves = tt
spares_all h kind (Off key) leaves = tt
spares_all h kind (Ended key) leaves = tt
spares_all h kind (DeadRecord y dead) leaves = leaves.journal y
spares_all h kind (DeadTable y x p) leaves = (leaves.journal y, leaves.table (table_of x))
spares_all h kind (Swept y k) leaves = tt

module _ (v : LocksView) (h : ℕ) (kind : Kind) (es : List Edit) (i j : Image)
    (memory : IsMemory v.geometry.hosts (counter_of v) h (host_at v h)) (only : OnlyChanges v.geometry i j kind)
    (numbers : IsEdited v.geometry i j es)
    (own : (host_at v h).joined ≡ true → (journal v.geometry j h ≡ es) ⊎ (kinds.Journal h ≢ kind)) where
  below : (host_at v h).joined ≡ true → h < v.geometry.hosts
  below joined = (memory.named (joined_key v.geometry.hosts (counter_of v) h (host_at v h) memory joined)).0

  same_number : (x : Field) → HasField v.geometry x → touches es x ≡ false → logical v.geometry j x ≡ logical v.geometry i x
  same_number x has untouched = numbers x has ∙ edited_untouched es x (logical v.geometry i x) untouched

  other_journal : (y : ℕ) → y < v.geometry.hosts → kinds.Journal y ≢ kind → journal v.geometry j y ≡ journal v.geometry i y
  other_journal y there ne = journal_kept v.geometry i j kind y only there ne

  same_share : (x : Field) (d : ℕ) → HasField v.geometry x → touches es x ≡ false → share_of x (logical v.geometry i x) d ≡ 1
      → share_of x (logical v.geometry j x) d ≡ 1
  same_share x d has untouched share = ap (λ n. share_of x n d) (same_number x has untouched) ∙ share

  -- the own journal does not come to edit a slot
  still_untouched : (s : ℕ) → (host_at v h).joined ≡ true → touches es (Slot s) ≡ false → touches (journal v.geometry i h) (Slot s) ≡ false
      → touches (journal v.geometry j h) (Slot s) ≡ false
  still_untouched s joined none was =
      elim (own joined) [
        | inl here ↦ ap (λ fs. touches fs (Slot s)) here ∙ none
        | inr other ↦ ap (λ fs. touches fs (Slot s)) (other_journal h (below joined) other) ∙ was
      ]

  same_block : (d : ℕ) (bytes : List ℕ) → HasField v.geometry (Count d) → kinds.Number d ≢ kind
      → block_at v.geometry i (kinds.Number d) ≡ bytes → block_at v.geometry j (kinds.Number d) ≡ bytes
  same_block d bytes has ne is = only (kinds.Number d) has ne ∙ is

  -- a fact that is spared says of the image what it said, if it is not one on locks
  pub tells_spared : (a : Fact) (mine : List Edit) → SaysNoLock a → IsGuarded v.geometry (host_at v h) mine a → Spares h kind es a
      → Tells v h i a → Tells v h j a
  tells_spared (TableIs t p) mine says guard spares tells = only (kinds.Table t) guard.0 spares ∙ tells
  tells_spared (RecordIs is) mine says guard spares tells = other_journal h (below guard.0) spares ∙ tells
  tells_spared (NoneFree r) mine says guard spares tells =
      λ d has at none. tells d has at (sym (same_number (Count d) has (spares d at)) ∙ none)
  tells_spared (FreshIs d bytes) mine says guard spares tells =
      (same_block d bytes guard.0 spares.0 tells.0, same_number (Count d) guard.0 spares.1 ∙ tells.1)
  tells_spared (SlotIs s d) mine says guard spares tells = field_kept v.geometry i j kind (Slot s) only guard.0 spares ∙ tells
  tells_spared (BlockIs (Head f) d bytes) mine says guard spares tells = (tells.0, same_block d bytes guard.1 spares.0 tells.1)
  tells_spared (BlockIs (Pointer f n) d bytes) mine says guard spares tells =
      (same_share (Pointer f n) d guard.0 spares.1 tells.0, same_block d bytes guard.1 spares.0 tells.1)
  tells_spared (BlockIs (Slot s) d bytes) mine says guard spares tells =
      let joined = looker_joined v.geometry.hosts (counter_of v) h (host_at v h) (Slot s) d memory guard.2 in (
        (field_kept v.geometry i j kind (Slot s) only guard.0 spares.2 ∙ tells.0.0, still_untouched s joined spares.1 tells.0.1),
        same_block d bytes guard.1 spares.0 tells.1,
      )
  tells_spared (BlockIs (Count c) d bytes) mine says guard spares tells = (tells.0, same_block d bytes guard.1 spares.0 tells.1)
  tells_spared (Given key) mine says guard spares tells = tells
  tells_spared (Off key) mine says guard spares tells = tells
  tells_spared (Ended key) mine says guard spares tells = tells
  tells_spared (DeadRecord y dead) mine says guard spares tells = other_journal y guard.0 spares ∙ tells
  tells_spared (DeadTable y x p) mine says guard spares tells = (
    ap (λ fs. touches fs x) (other_journal y guard.1.0 spares.0) ∙ tells.0,
    only (kinds.Table (table_of x)) (HasTable-table_of v.geometry x guard.0) spares.1 ∙ tells.1,
  )
  tells_spared (Swept y k) mine says guard spares tells = absurd says

  -- and where neither a slot nor a lock changed, so does every fact
  pub tells_written : LeavesHosts kind → (a : Fact) (mine : List Edit) → IsGuarded v.geometry (host_at v h) mine a → Spares h kind es a
      → Tells v h i a → Tells v h j a
  tells_written leaves (Swept y k) mine guard spares tells = λ r has turn held.
      let key = slot_key_kept v.geometry i j kind y only guard.0 (leaves.0 y) in
      tells r has turn (IsHeldBy_kept v.geometry j i kind r _ (λ other there ne. sym (only other there ne)) has (leaves.1 r)
      (subst (λ n. IsHeldBy v.geometry j r n) key held))
  tells_written leaves a mine guard spares tells = tells_spared a mine tt guard spares tells
