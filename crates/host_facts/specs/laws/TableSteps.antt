-- The write of a table is a step.
use Rattle.std.proofs.Common.{◌≡◌, ◌≢◌, ◌⊎◌, ◌<◌, ℕ, true, [], None, sym, ap, ◌∙◌, subst, inl, inr}
use Rattle.std.proofs.lemmas.Bool.{cases_Bool}
use Rattle.std.proofs.lemmas.List.{length-set}
use Rattle.vol_base.specs.Bytes.{IsBlock}
use Rattle.vol_base.specs.Packing.{Packing, packed_bytes}
use Rattle.vol_layout.specs.declared.kind.Kind.TheVariants as kinds
use Rattle.vol_layout.specs.declared.kind.Table.{Table}
use Rattle.vol_layout.specs.declared.field.Field.{Field}
use Rattle.vol_layout.specs.declared.field.Field.TheVariants.{Count, Slot}
use Rattle.vol_layout.specs.Edits.{edited, touches}
use Rattle.vol_layout.specs.Fields.{HasField, resource_of, table_of}
use Rattle.vol_layout.specs.Places.{place_of}
use Rattle.vol_layout.specs.Ranges.{HasTable}
use Rattle.image_view.specs.Images.{Image, OnlyChanges, block_at, written}
use Rattle.image_view.specs.Numbers.{field, journal}
use Rattle.image_view.specs.Spelled.{IsTable}
use Rattle.image_view.specs.laws.EditLaws.{edited_untouched}
use Rattle.image_view.specs.laws.FrameLaws.{block_at-written, field_kept, write_only}
use Rattle.image_view.specs.laws.JournalLaws.{cases_Table, record_key}
use Rattle.lock_store.specs.Memories.{claim_of, holds}
use Rattle.lock_store.specs.Views.{LocksView, counter_of, host_at}
use Rattle.disk_locks.specs.Keys.{owner}
use Rattle.disk_locks.specs.MayWrite.{IsOwnOrClaimed}
use Rattle.table_blocks.specs.Tables.{IsPackingOf, IsTableOf, number_in}
use Rattle.table_blocks.specs.laws.NumberLaws.{field-number_in, spelled_table}
use Rattle.host_facts.specs.Finds.{Finds}
use Rattle.host_facts.specs.Steps.{IsStep}
use Rattle.host_facts.specs.laws.FoundLaws.{claim_found, held_found, holder_joined, joined_found}
use Rattle.host_facts.specs.laws.ImageLaws.{valid_table_write}
use Rattle.host_facts.specs.laws.KindLaws.{changes_by, owner_has, owner_table}

-- a host may make the record of host y in a table: its own record in a table of a resource that it holds, or the record of a host
-- whose slot it claimed in a table of a field that the record edits
abbrev pub MayApply : LocksView → ℕ → Image → ℕ → Table → Type 0
MayApply v h image y t =
    ((y ≡ h) × (holds (host_at v h) (owner t) ≡ true))
    ⊎ ((claim_of (host_at v h) y ≢ 0)
    × ((x : Field) × HasField v.geometry x × (table_of x ≡ t) × (touches (journal v.geometry image y) x ≡ true)))

-- what a record edits is held by the own key, where it is the own record, and else by the dead key of the claimed slot
edited_right : (v : LocksView) (h y : ℕ) (t : Table) (image : Image) (x : Field) → Finds v h image → y < v.geometry.hosts
    → MayApply v h image y t → touches (journal v.geometry image y) x ≡ true
    → IsOwnOrClaimed v.geometry (host_at v h) image (resource_of x)
edited_right v h y t image x found below may touched =
    let g = v.geometry in
    let held = (record_key g (counter_of v) image y x found.agrees.valid below touched).1 in
    elim may [
      | inl own ↦
          let shown = joined_found v h image found (holder_joined v h image (owner t) found own.1) in
          inl (rw (own.0, shown) at held)
      | inr claimed ↦ inr (y, below, claimed.0, rw (claim_found v h image y found below claimed.0) at held)
    ]

-- so is the resource of the table
table_right : (v : LocksView) (h y : ℕ) (t : Table) (image : Image) → Finds v h image → HasTable v.geometry t → y < v.geometry.hosts
    → MayApply v h image y t → IsOwnOrClaimed v.geometry (host_at v h) image (owner t)
table_right v h y t image found has below may =
    elim may [
      | inl own ↦ inl (held_found v h image (owner t) found (owner_has v.geometry t has) own.1)
      | inr claimed ↦
          let x = claimed.1.0 in
          subst (IsOwnOrClaimed v.geometry (host_at v h) image) (sym (owner_table x) ∙ ap owner claimed.1.2)
          (edited_right v h y t image x found below (inr claimed) claimed.1.3)
    ]

-- a table gets the numbers that a record gives its fields
pub table_step : (v : LocksView) (h y : ℕ) (t : Table) (p q : Packing) (image : Image) → Finds v h image → HasTable v.geometry t
    → y < v.geometry.hosts → MayApply v h image y t → IsPackingOf v.geometry t p
    → block_at v.geometry image (kinds.Table t) ≡ packed_bytes 4 p → IsPackingOf v.geometry t q → IsBlock (packed_bytes 4 q)
    → ((x : Field) → HasField v.geometry x → table_of x ≡ t → number_in q x ≡ edited (journal v.geometry image y) x (number_in p x))
    → IsStep v.geometry (counter_of v) h (host_at v h) (kinds.Table t) (packed_bytes 4 q) [] None image
table_step v h y t p q image found has below may from spelled to block numbers =
    let g = v.geometry in
    let kind = kinds.Table t in
    let bytes = packed_bytes 4 q in
    let new = written g image kind bytes in
    let valid = found.agrees.valid in
    let only : OnlyChanges g image new kind = write_only g image kind bytes has in
    let stands = block_at-written g image kind bytes has valid.long in
    let before : IsTableOf g image t p = record { packing = from; spelled = spelled } in
    let after : IsTableOf g new t q = record { packing = to; spelled = stands } in
    let made = λ (x : Field) (there : HasField g x) (here : table_of x ≡ t).
    field-number_in g new t q x after here ∙ numbers x there here
    ∙ ap (edited (journal g image y) x) (sym (field-number_in g image t p x before here)) in
    let both =
    valid_table_write g (counter_of v) image new y t only (length-set image (place_of g kind) bytes) below
    (subst (IsTable t) (sym stands) (spelled_table g t q to block).0) made valid in
    record {
      valid = both.0;
      may = record {
        numbers = λ x there other. both.1 x there;
        journal = λ z e. absurd cc;
        table = λ u e.
            let same : t ≡ u = cc in
            let right = table_right v h y t image found has below may in
            subst (λ (w : Table). IsOwnOrClaimed g (host_at v h) image (owner w)) same right;
        number = λ d e. absurd cc;
        fresh = λ d e. absurd cc;
        slots = λ s d there names. elim (cases_Table (table_of (Slot s)) t) [
          | inl here ↦ elim (cases_Bool (touches (journal g image y) (Slot s))) [
            | inl touched ↦
                let counts = valid.held.slots y below s d touched (inl names) in
                inr (edited_right v h y t image (Count d) found below may counts)
            | inr kept ↦
                let stays = edited_untouched (journal g image y) (Slot s) (field g image (Slot s)) kept in
                inl (made (Slot s) there here ∙ stays ∙ names)
          ]
          | inr other ↦ inl (field_kept g image new kind (Slot s) only there (λ e. other cc) ∙ names)
        ];
        no_slot = λ d e. absurd cc;
      };
      changes = changes_by g [] image new kind only (λ e. cc) (λ d e. cc) both.1;
      own = λ e. absurd cc;
    }
