-- The record of a host whose slot is claimed, on its way into the tables.
use Rattle.std.specs.Prelude.{◌≡◌, ◌≢◌, ◌<◌, ◌≤◌, ℕ, true, false, All, List, [], Some, length, slice_get}
use Rattle.vol_base.specs.Packing.{Packing}
use Rattle.vol_layout.specs.declared.field.Edit.{Edit}
use Rattle.vol_layout.specs.Edits.{AreEdits, touches}
use Rattle.vol_layout.specs.Fields.{table_of}
use Rattle.slot_lock_blocks.specs.Keys.{IsKey}
use Rattle.table_blocks.specs.Made.{made}
use Rattle.table_blocks.specs.Tables.{IsPackingOf}
use Rattle.lock_store.specs.Memories.{claim_of}
use Rattle.lock_store.specs.Views.{host_at, key_at}
use Rattle.host_facts.specs.Facts.Fact.{DeadRecord, DeadTable, Swept}
use Rattle.host_facts.specs.Knows.{Knows}
use Rattle.host_facts.specs.Records.{IsReplayed}
use Rattle.host_facts.specs.Views.{WorldView}

-- two hosts of the volume, the first of which has a key; and it recovers its own slot only before it entered it
pub record IsRecoverer (v : WorldView) (h of : ℕ) : Type 0 where
  pub host : h < v.locks.geometry.hosts
  pub below : of < v.locks.geometry.hosts
  pub key : key_at v.locks h ≢ 0
  pub apart : of ≡ h → ((host_at v.locks h).joined ≡ false) × ((host_at v.locks h).freed ≡ false)

-- the slot is claimed, from this dead key; nothing else is asked
pub record HasClaim (v : WorldView) (h of dead : ℕ) : Type 0 where
  pub base : IsRecoverer v h of
  pub some : IsKey dead
  pub claim : claim_of (host_at v.locks h) of ≡ dead

-- all edits of each table that one of the first k edits is of are written
abbrev pub AreReplayed : WorldView → ℕ → ℕ → List Edit → ℕ → Type 0
AreReplayed v h of es k =
    (i : ℕ) (one e : Edit) → i < k → slice_get es i ≡ Some one → touches es e.field ≡ true → table_of e.field ≡ table_of one.field
    → IsReplayed v h of es e

-- an earlier edit is of the table of edit k
abbrev pub IsNamedBefore : List Edit → ℕ → Type 0
IsNamedBefore es k =
    (e : Edit) → slice_get es k ≡ Some e
    → (i : ℕ) × (one : Edit) × (i < k) × (slice_get es i ≡ Some one) × (table_of e.field ≡ table_of one.field)

-- the slot is claimed, and its record known. Edit k is the first of its table, and all edits of the tables of those before it are written
pub record IsReplaying (v : WorldView) (h of dead : ℕ) (es : List Edit) (k : ℕ) : Type 0 where
  pub claimed : HasClaim v h of dead
  pub known : Knows v h (DeadRecord of es)
  pub edits : AreEdits v.locks.geometry es
  pub more : k < length es
  pub first : IsNamedBefore es k → ⊥
  pub replayed : AreReplayed v h of es k

-- the packing is that of this table as it stands, with all edits of the record made in it, of which this one is of this table
pub record IsDue (v : WorldView) (h of : ℕ) (es : List Edit) (e : Edit) (kept : Packing) : Type 0 where
  pub before : Packing
  pub packing : IsPackingOf v.locks.geometry (table_of e.field) before
  pub table : Knows v h (DeadTable of e.field before)
  pub made_is : kept ≡ made (table_of e.field) es before

-- so is the packing of the table of edit k
abbrev pub IsDueAt : WorldView → ℕ → ℕ → List Edit → ℕ → Packing → Type 0
IsDueAt v h of es k kept = (e : Edit) → slice_get es k ≡ Some e → IsDue v h of es e kept

-- the slot is claimed, and each edit of its record is written
pub record IsAllReplayed (v : WorldView) (h of dead : ℕ) : Type 0 where
  pub claimed : HasClaim v h of dead
  pub edits : List Edit
  pub known : Knows v h (DeadRecord of edits)
  pub each : All (IsReplayed v h of edits) edits

-- the slot is claimed, its journal is empty, and the dead key holds none of the first k locks
pub record IsSwept (v : WorldView) (h of dead k : ℕ) : Type 0 where
  pub claimed : HasClaim v h of dead
  pub empty : Knows v h (DeadRecord of [])
  pub swept : Knows v h (Swept of k)

-- edit next is the first behind k, or the end, that is the first of its table
pub record IsNextEdit (es : List Edit) (k next : ℕ) : Type 0 where
  pub later : k < next
  pub most : next ≤ length es
  pub named : (i : ℕ) → k < i → i < next → IsNamedBefore es i
  pub first : next < length es → IsNamedBefore es next → ⊥
