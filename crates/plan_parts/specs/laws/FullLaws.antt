-- When a volume is full under a host's key, and when it is not.
use Rattle.std.proofs.Common.{◌≡◌, ◌≢◌, ◌<◌, ◌/◌, ℕ, [], ap, refl, subst, None, Option, Some, true, false, true≢false, sym, ◌∙◌}
use Rattle.std.specs.Prelude.{Contains, IfSome, IsSomeAnd}
use Rattle.vol_layout.specs.declared.field.Field.TheVariants.{Count}
use Rattle.vol_layout.specs.declared.kind.Kind.TheVariants as kinds
use Rattle.vol_layout.specs.declared.kind.Resource.TheVariants.{Group}
use Rattle.vol_layout.specs.declared.kind.Table.{Table}
use Rattle.vol_layout.specs.declared.kind.Table.TheVariants as tables
use Rattle.vol_layout.specs.Fields.{HasField, table_of}
use Rattle.vol_layout.specs.Ranges.{HasTable, per_table}
use Rattle.table_blocks.specs.Tables.{number_in}
use Rattle.shared_disk.specs.State.{Told}
use Rattle.image_view.specs.HostKeys.{lock_key_at}
use Rattle.image_view.specs.laws.FrameLaws.{HasResource-resource_of}
use Rattle.image_view.specs.Numbers.{logical}
use Rattle.lock_store.specs.Memories.{holds}
use Rattle.lock_store.specs.Views.{counter_of, host_at, key_at, keys_of, told_of}
use Rattle.disk_locks.specs.Agreement.{Agrees}
use Rattle.disk_locks.specs.Consistent.{Consistent}
use Rattle.disk_locks.specs.Keys.{owner}
use Rattle.disk_locks.specs.Sure.{Sure}
use Rattle.host_facts.specs.Facts.{Tells}
use Rattle.host_facts.specs.Facts.Fact.{NoneFree, RecordIs}
use Rattle.host_facts.specs.Knows.{Knows}
use Rattle.host_facts.specs.Views.{WorldView}
use Rattle.host_facts.specs.laws.DoneLaws.{number_known}
use Rattle.host_facts.specs.laws.FoundLaws.{held_found}
use Rattle.host_facts.specs.laws.ToldLaws.{sure_each, sure_of}
use Rattle.host_facts.specs.laws.FindsLaws.{sure_found}
use Rattle.host_runs.specs.DeviceCalls.{OnImage}
use Rattle.host_runs.specs.FullCauses.{IsFullUnder}
use Rattle.plan_parts.specs.Fetched.{IsToldFull}
use Rattle.plan_parts.specs.KeptTables.{IsKept}
use Rattle.plan_parts.specs.declared.kept.Kept.{Kept}

-- what is told and is not so
told_not : (told : Option Told) (P Q : Told → Type 0) → IfSome told P → ((t : Told) → P t → Q t → ⊥) → IsSomeAnd told Q → ⊥
told_not None P Q p f q = q
told_not (Some t) P Q p f q = f t p q

-- the volume is not full under the host's key where the host does not hold some group
pub unlocked_spares : (v : WorldView) (h r : ℕ) → Consistent v.locks → key_at v.locks h ≢ 0 → r < v.locks.geometry.groups
    → holds (host_at v.locks h) (Group r) ≡ false → IsToldFull v h → ⊥
unfolding lock_key_at
unlocked_spares v h r c some below out =
    told_not (told_of v.locks) (λ t. Agrees v.locks.geometry (counter_of v.locks) (keys_of v.locks) v.locks.hosts t.image)
    (λ t. IsFullUnder v.locks.geometry (key_at v.locks h) t.image) c.told
    (λ t agrees full. true≢false (sym ((agrees.agree h some (kinds.Lock (Group r)) below).mine (full.locked r below).by) ∙ out))

-- and where a host whose key is registered is sure of a free block
pub free_spares : (v : WorldView) (h d : ℕ) → HasField v.locks.geometry (Count d) → Contains (keys_of v.locks) (key_at v.locks h)
    → Sure v.locks h (λ image. logical v.locks.geometry image (Count d) ≡ 0) → IsToldFull v h → ⊥
free_spares v h d has here sure =
    told_not (told_of v.locks) (λ t. logical v.locks.geometry t.image (Count d) ≡ 0)
    (λ t. IsFullUnder v.locks.geometry (key_at v.locks h) t.image) (sure here) (λ t free full. full.full d has free)

-- of which it is sure by a table that it keeps, while no record of its own stands
pub free_sure : (v : WorldView) (h d : ℕ) (kept : Kept) → Consistent v.locks → IsKept v h kept → Knows v h (RecordIs [])
    → HasField v.locks.geometry (Count d) → kept.which ≡ table_of (Count d) → number_in kept.table (Count d) ≡ 0
    → Sure v.locks h (λ image. logical v.locks.geometry image (Count d) ≡ 0)
free_sure v h d kept c is empty has which free =
    sure_of v.locks h (λ image. logical v.locks.geometry image (Count d) ≡ number_in kept.table (Count d)) _ (λ image same. same ∙ free)
    (number_known v h kept.which kept.table (Count d) c is.known is.packing empty has (sym which))

-- so a table that it keeps with a count of 0 shows that the volume is not full
pub kept_spares : (v : WorldView) (h d : ℕ) (kept : Kept) → Consistent v.locks → Contains (keys_of v.locks) (key_at v.locks h)
    → IsKept v h kept → Knows v h (RecordIs []) → HasField v.locks.geometry (Count d) → kept.which ≡ table_of (Count d)
    → number_in kept.table (Count d) ≡ 0 → IsToldFull v h → ⊥
kept_spares v h d kept c here is empty has which free =
    free_spares v h d has here (free_sure v h d kept c is empty has which free)

-- no block of a group is free where no count in its table is 0
pub none_free : (v : WorldView) (h r : ℕ) (kept : Kept) → Consistent v.locks → IsKept v h kept → Knows v h (RecordIs [])
    → kept.which ≡ tables.Group r
    → ((d : ℕ) → d / per_table ≡ r → number_in kept.table (Count d) ≢ 0) → Knows v h (NoneFree r)
none_free v h r kept c is empty which none = record {
  guard = (
    subst (HasTable v.locks.geometry) which is.table,
    subst (λ (t : Table). holds (host_at v.locks h) (owner t) ≡ true) which is.held,
  );
  sure = sure_each v.locks h ℕ _ (λ d. sure_each v.locks h (HasField v.locks.geometry (Count d)) _ (λ has.
      sure_each v.locks h (d / per_table ≡ r) _ (λ at.
      sure_of v.locks h (λ image. logical v.locks.geometry image (Count d) ≡ number_in kept.table (Count d))
      (λ image. logical v.locks.geometry image (Count d) ≢ 0) (λ image same free. none d at (sym same ∙ free))
      (number_known v h kept.which kept.table (Count d) c is.known is.packing empty has (ap tables.Group at ∙ sym which)))));
}

-- the volume is full under the key of a registered host that holds all groups, and knows that none has a free block
pub full_under : (v : WorldView) (h : ℕ) → Consistent v.locks → Contains (keys_of v.locks) (key_at v.locks h)
    → ((r : ℕ) → r < v.locks.geometry.groups → Knows v h (NoneFree r))
    → OnImage v.locks.disk.state (IsFullUnder v.locks.geometry (key_at v.locks h))
full_under v h c here none =
    sure_found v.locks h (λ image. (r : ℕ) → r < v.locks.geometry.groups → Tells v.locks h image (NoneFree r))
    (IsFullUnder v.locks.geometry (key_at v.locks h)) c
    (λ image found all. record {
      locked = λ r below. held_found v.locks h image (Group r) found below (none r below).guard.1;
      full = λ d below. all (d / per_table) (HasResource-resource_of v.locks.geometry (Count d) below) d below refl;
    })
    (sure_each v.locks h ℕ _ (λ r. sure_each v.locks h (r < v.locks.geometry.groups) _ (λ below. (none r below).sure))) here
