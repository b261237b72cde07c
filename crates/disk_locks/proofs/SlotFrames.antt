-- Memories before and after a write of one slot: what they say of all other blocks.
use Rattle.std.proofs.Common.{◌≡◌, ◌≢◌, ◌⊎◌, ◌<◌, ◌%◌, ◌^◌, ℕ, Bool, List, [], ◌∷◌, slice_index_or, true, false, refl, sym, ap, ◌∙◌, subst, arith, inl, inr}
use Rattle.std.specs.Prelude.{Contains}
use Rattle.vol_layout.specs.declared.geometry.Geometry.{Geometry}
use Rattle.vol_layout.specs.declared.kind.Kind.{Kind}
use Rattle.vol_layout.specs.declared.kind.Kind.TheVariants as kinds
use Rattle.vol_layout.specs.declared.kind.Resource.{Resource}
use Rattle.vol_layout.specs.declared.kind.Resource.TheVariants.{File, Group, Part}
use Rattle.vol_layout.specs.Ranges.{HasKind, HasResource}
use Rattle.slot_lock_blocks.specs.declared.slot.Slot.{Slot}
use Rattle.slot_lock_blocks.specs.declared.slot.Slot.TheVariants.{Free, Live, Recovering}
use Rattle.slot_lock_blocks.specs.Keys.{IsKey}
use Rattle.slot_lock_blocks.specs.Slots.{IsSlot, slot_key, slot_second, slot_state}
use Rattle.image_view.specs.HostKeys.{slot_key_at}
use Rattle.image_view.specs.Images.{Image, block_at}
use Rattle.image_view.specs.Numbers.{journal}
use Rattle.image_view.specs.Valid.{IsValid}
use Rattle.lock_store.specs.declared.host.HostState.{HostState}
use Rattle.lock_store.specs.Memories.{claim_of, holds, key_of, reads}
use Rattle.lock_store.specs.SlotTries.{slot_by}
use Rattle.disk_locks.specs.Agreement.{BlockAgrees, shown_in}
use Rattle.disk_locks.specs.Freeing.{IsUnneeded}
use Rattle.disk_locks.specs.laws.GivenLaws.{slot_live, slot_places}
use Rattle.disk_locks.proofs.Holds.{clash}

-- the host's memory is as before, but for one slot: its claim of that slot, whether it is joined, where the slot is its own, and what
-- it reads, where it has left
pub record SameSlots (g : Geometry) (h y : ℕ) (m n : HostState) : Type 0 where
  pub key : key_of n ≡ key_of m
  pub here : (y ≡ h) ⊎ ((n.joined ≡ m.joined) × (n.beat ≡ m.beat))
  pub claims_same : (z : ℕ) → z ≢ y → claim_of n z ≡ claim_of m z
  pub holds_same : (q : Resource) → HasResource g q → holds n q ≡ holds m q
  pub reads_same : (q : Resource) → (reads n q ≡ reads m q) ⊎ ((n.freed ≡ true) × (reads n q ≡ false))
  pub freed : m.freed ≡ true → n.freed ≡ true

-- the slot of another host shows another host's key
pub shown_host : (g : Geometry) (counter : ℕ) (image : Image) (z : ℕ) (n : ℕ) → IsValid g counter image → z < g.hosts → n ≢ 0
    → shown_in (block_at g image (kinds.Slot z)) ≡ n → n % 16 ≡ z
shown_host g counter image z n valid below some e =
    let l = valid.slots z below in
    let is : slot_key l.slot ≡ n = sym (slot_places (block_at g image (kinds.Slot z)) l.slot l.spelled).shown ∙ e in
    subst (λ k. k % 16 ≡ z) is (l.host (λ none. some (sym is ∙ none)))

pub frame_slots : (g : Geometry) (counter : ℕ) (keys : List ℕ) (h y : ℕ) (m n : HostState) (image : Image) → IsValid g counter image → key_of m ≢ 0 → key_of m % 16 ≡ h
    → SameSlots g h y m n → (other : Kind) → HasKind g other → other ≢ kinds.Slot y
    → BlockAgrees keys h m other (block_at g image other) → BlockAgrees keys h n other (block_at g image other)
frame_slots g counter keys h y m n image valid some host same kinds.Super has ne a = tt
frame_slots g counter keys h y m n image valid some host same (kinds.Slot z) has ne a =
    let was = λ (here : Contains keys (key_of n)). subst (λ k. Contains keys k) same.key here in
    let apart : z ≢ y = λ e. ne (ap (λ k. kinds.Slot k) e) in
    let own : shown_in (block_at g image (kinds.Slot z)) ≡ key_of m → z ≡ h = λ e. sym (shown_host g counter image z (key_of m) valid has some e) ∙ host in
    record {
      mine = λ e. elim same.here [
        | inl mine ↦ absurd (apart (own (e ∙ same.key) ∙ sym mine))
        | inr kept ↦ kept.0 ∙ a.mine (e ∙ same.key)
      ];
      by_mine = λ e none. a.by_mine (e ∙ same.key) (sym (same.claims_same z apart) ∙ none);
      live = λ here joined its. elim same.here [
        | inl mine ↦ absurd (apart (its ∙ sym mine))
        | inr kept ↦ let l = a.live (was here) (sym kept.0 ∙ joined) its in (l.0 ∙ sym same.key, l.1 ∙ sym kept.1)
      ];
      by = λ here claim. let b = a.by (was here) (λ none. claim (same.claims_same z apart ∙ none)) in (b.0 ∙ sym same.key, b.1 ∙ sym (same.claims_same z apart));
      dead = λ here claim. a.dead (was here) (λ none. claim (same.claims_same z apart ∙ none));
    }
frame_slots g counter keys h y m n image valid some host same (kinds.Journal z) has ne a = tt
frame_slots g counter keys h y m n image valid some host same (kinds.Lock q) has ne a =
    let was = λ (here : Contains keys (key_of n)). subst (λ k. Contains keys k) same.key here in
    record {
      mine = λ e. same.holds_same q has ∙ a.mine (e ∙ same.key);
      read_mine = λ e. elim (a.read_mine (e ∙ same.key)) [
        | inl is ↦ elim (same.reads_same q) [ inl kept ↦ inl (kept ∙ is) | inr gone ↦ inr gone.0 ]
        | inr freed ↦ inr (same.freed freed)
      ];
      held = λ here is. a.held (was here) (sym (same.holds_same q has) ∙ is) ∙ sym same.key;
      read = λ here is. elim (same.reads_same q) [
        | inl kept ↦ a.read (was here) (sym kept ∙ is) ∙ sym same.key
        | inr gone ↦ absurd (clash (reads n q) is gone.1)
      ];
    }
frame_slots g counter keys h y m n image valid some host same (kinds.Table t) has ne a = tt
frame_slots g counter keys h y m n image valid some host same (kinds.Log z l) has ne a = tt
frame_slots g counter keys h y m n image valid some host same (kinds.Shard s) has ne a = tt
frame_slots g counter keys h y m n image valid some host same (kinds.Request f) has ne a = tt
frame_slots g counter keys h y m n image valid some host same (kinds.Number d) has ne a = tt

-- what is read of the files is one list
pub reads_alike : (m n : HostState) → n.reading ≡ m.reading → (r : Resource) → reads n r ≡ reads m r
reads_alike m n same (File f) = ap (λ (xs : List Bool). slice_index_or xs f false) same
reads_alike m n same (Part p) = refl
reads_alike m n same (Group q) = refl

-- a slot that shows no key: its host has no record, and holds no lock
pub free_unneeded : (g : Geometry) (counter : ℕ) (image : Image) (y : ℕ) → IsValid g counter image → y < g.hosts → slot_key_at g image y ≡ 0 → IsUnneeded g image y
free_unneeded g counter image y valid below none = record {
  empty = elim (nil_or (journal g image y)) [ inl e ↦ e | inr some ↦ absurd ((valid.held.records y below some).0 none) ];
  unheld = λ r has held. (valid.held.locks r has held.held).some (held.by ∙ none);
}
  where
    nil_or : {A : Type 0} (xs : List A) → (xs ≡ []) ⊎ (xs ≢ [])
    nil_or [] = inl refl
    nil_or (x ∷ xs) = inr (λ e. cc)

-- the numbers of a slot in range
pub shown_is : (slot : Slot) → IsSlot slot → slot_key slot ≢ 0 → IsKey (slot_key slot)
shown_is Free is some = absurd (some refl)
shown_is (Live key beat) is some = is.0
shown_is (Recovering key by) is some = is.0

pub second_small : (slot : Slot) → IsSlot slot → slot_second slot < 2 ^ 64
second_small Free is = omega arith
second_small (Live key beat) is = is.1
second_small (Recovering key by) is = is.1.1

-- a free slot shows no key
pub free_keyless : (slot : Slot) → slot_state slot ≡ 0 → slot_key slot ≡ 0
free_keyless Free free = refl
free_keyless (Live key beat) free = absurd (let bad : ⊥ = cc in bad)
free_keyless (Recovering key by) free = absurd (let bad : ⊥ = cc in bad)

-- a live slot is recovered by nobody
pub live_alone : (slot : Slot) → slot_live slot ≢ 0 → slot_by slot ≡ 0
live_alone Free some = refl
live_alone (Live key beat) some = refl
live_alone (Recovering key by) some = absurd (some refl)
