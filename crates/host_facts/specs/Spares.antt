-- Which facts an own write leaves.
use Rattle.std.specs.Prelude.{◌≡◌, ◌≢◌, ◌/◌, ℕ, false, List}
use Rattle.vol_layout.specs.declared.kind.Kind.{Kind}
use Rattle.vol_layout.specs.declared.kind.Kind.TheVariants as kinds
use Rattle.vol_layout.specs.declared.field.Edit.{Edit}
use Rattle.vol_layout.specs.declared.field.Field.{Field}
use Rattle.vol_layout.specs.declared.field.Field.TheVariants.{Count, Slot}
use Rattle.vol_layout.specs.Edits.{touches}
use Rattle.vol_layout.specs.Fields.{table_of}
use Rattle.vol_layout.specs.Ranges.{per_table}
use Rattle.host_facts.specs.Facts.{Fact}
use Rattle.host_facts.specs.Facts.Fact.{BlockIs, DeadRecord, DeadTable, Ended, FreshIs, Given, NoneFree, Off, RecordIs, SlotIs, Swept, TableIs}

-- a slot's table is not written; of other fields nothing is asked
abbrev pub SparesSlot : Kind → Field → Type 0
SparesSlot kind (Slot s) = kinds.Table (table_of (Slot s)) ≢ kind
SparesSlot kind x = Unit {0}

-- a fact of host h stays where this host writes the block of this kind, and so makes these edits of logical numbers
abbrev pub Spares : ℕ → Kind → List Edit → Fact → Type 0
Spares h kind es (TableIs t p) = kinds.Table t ≢ kind
Spares h kind es (RecordIs own) = kinds.Journal h ≢ kind
Spares h kind es (NoneFree r) = (d : ℕ) → d / per_table ≡ r → touches es (Count d) ≡ false
Spares h kind es (FreshIs d bytes) = (kinds.Number d ≢ kind) × (touches es (Count d) ≡ false)
Spares h kind es (SlotIs s d) = SparesSlot kind (Slot s)
Spares h kind es (BlockIs x d bytes) = (kinds.Number d ≢ kind) × (touches es x ≡ false) × SparesSlot kind x
Spares h kind es (Given key) = Unit {0}
Spares h kind es (Off key) = Unit {0}
Spares h kind es (Ended key) = Unit {0}
Spares h kind es (DeadRecord y dead) = kinds.Journal y ≢ kind
Spares h kind es (DeadTable y x p) = (kinds.Journal y ≢ kind) × (kinds.Table (table_of x) ≢ kind)
Spares h kind es (Swept y k) = Unit {0}
