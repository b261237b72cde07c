-- On a valid image whose slots are all free nothing of a host is under way.
use Rattle.std.proofs.Common.{◌≡◌, ◌≢◌, ◌<◌, ◌⊎◌, ◌∙◌, ℕ, List, [], ◌∷◌, refl, ap, sym, inl, inr, arith}
use Rattle.vol_layout.specs.declared.geometry.Geometry.{Geometry}
use Rattle.vol_layout.specs.declared.kind.Kind.TheVariants as kinds
use Rattle.vol_layout.specs.declared.kind.Resource.{Resource}
use Rattle.vol_layout.specs.declared.field.Edit.{Edit}
use Rattle.vol_layout.specs.declared.field.Field.{Field}
use Rattle.vol_layout.specs.Edits.{edited}
use Rattle.vol_layout.specs.Ranges.{HasResource}
use Rattle.slot_lock_blocks.specs.declared.slot.Slot.{Slot}
use Rattle.slot_lock_blocks.specs.declared.slot.Slot.TheVariants.{Free, Live, Recovering}
use Rattle.slot_lock_blocks.specs.Slots.{slot_key, slot_state}
use Rattle.slot_lock_blocks.specs.laws.SlotLaws.{slot_numbers}
use Rattle.image_view.specs.HostKeys.{lock_state_at, slot_key_at, slot_state_at}
use Rattle.image_view.specs.Images.{Image, block_at}
use Rattle.image_view.specs.Numbers.{field, journal, logical, standing}
use Rattle.image_view.specs.Quiet.{AreSlotsFree, IsQuiet}
use Rattle.image_view.specs.Valid.{IsValid}
use Rattle.image_view.specs.laws.FormatLaws.{all_empty}

-- a free slot shows no key
free_key : (slot : Slot) → slot_state slot ≡ 0 → slot_key slot ≡ 0
free_key Free free = refl
free_key (Live key beat) free = absurd cc
free_key (Recovering key by) free = absurd cc

nil_or : {A : Type 0} (xs : List A) → (xs ≡ []) ⊎ (xs ≢ [])
nil_or [] = inl refl
nil_or (x ∷ xs) = inr (λ e. cc)

module _ (g : Geometry) (counter : ℕ) (image : Image) (valid : IsValid g counter image) (free : AreSlotsFree g image) where
  keyless : (h : ℕ) → h < g.hosts → slot_key_at g image h ≡ 0
  unfolding slot_state_at slot_key_at
  keyless h below =
      let s = valid.slots h below in
      let n = slot_numbers (block_at g image (kinds.Slot h)) s.slot s.spelled in
      n.key ∙ free_key s.slot (sym n.state ∙ free h below)

  unheld : (r : Resource) → HasResource g r → lock_state_at g image r ≢ 1
  unheld r has held =
      let shown = valid.held.locks r has held in shown.some (sym shown.shown ∙ keyless _ shown.host)

  empty : (h : ℕ) → h < g.hosts → journal g image h ≡ []
  empty h below = elim (nil_or (journal g image h)) [
    | inl none ↦ none
    | inr some ↦ absurd ((valid.held.records h below some).0 (keyless h below))
  ]

  numbers : (x : Field) → logical g image x ≡ field g image x
  unfolding logical standing
  numbers x =
      ap (λ (es : List Edit). edited es x (field g image x)) (all_empty (λ h. journal g image h) 0 g.hosts g.hosts (omega arith) empty)

  pub free_slots_leave_nothing : IsQuiet g image
  free_slots_leave_nothing = record { locks = unheld; journals = empty; numbers = numbers }
