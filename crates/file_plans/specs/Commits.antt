-- The commits of file commands: what a fresh write leaves, what counts become, and what a commit did.
use Rattle.std.specs.Prelude.{◌≡◌, ◌≢◌, ◌==◌, ◌&&◌, ◌+◌, ◌-◌, ◌++◌, ℕ, zero, suc, All, List, [], ◌∷◌, None, Option, Some, if◌then◌else◌, IfSome, length, map, nat_le, nat_lt, slice_get, true}
use Rattle.std.specs.Option.{option_to_list}
use Rattle.vol_base.specs.Packing.{Packing}
use Rattle.vol_base.specs.declared.command.Command.{Command}
use Rattle.vol_base.specs.declared.plain.PlainReply.{PlainReply}
use Rattle.vol_layout.specs.declared.field.Edit.{Edit}
use Rattle.vol_layout.specs.declared.field.Field.TheVariants.{Count, Pointer}
use Rattle.vol_layout.specs.declared.kind.Kind.TheVariants as kinds
use Rattle.vol_layout.specs.declared.kind.Table.{Table}
use Rattle.vol_layout.specs.Edits.{IsEdit}
use Rattle.vol_layout.specs.Fields.{table_of}
use Rattle.vol_layout.specs.Ranges.{per_table}
use Rattle.vol_layout.specs.Journal.{journal_bytes}
use Rattle.shared_disk.specs.Events.{Event}
use Rattle.image_view.specs.declared.pointer.Number.{Number}
use Rattle.image_view.specs.declared.pointer.Number.TheVariants as numbers
use Rattle.image_view.specs.Records.{IsRecord}
use Rattle.journal_block.specs.JournalRecord.{JournalRecord}
use Rattle.table_blocks.specs.Tables.{number_in}
use Rattle.call_effects.specs.Fresh.{Left}
use Rattle.lock_store.specs.Views.{key_at}
use Rattle.disk_locks.specs.Sure.{Sure}
use Rattle.host_facts.specs.Facts.Fact.{RecordIs, TableIs}
use Rattle.host_facts.specs.Knows.{Knows}
use Rattle.host_facts.specs.Views.{WorldView}
use Rattle.host_facts.specs.Wrote.{Wrote}
use Rattle.plan_parts.specs.Applies.{IsApplying}
use Rattle.plan_parts.specs.Commits.{Committed}
use Rattle.plan_parts.specs.KeptTables.{AreKept, IsKept}
use Rattle.plan_parts.specs.PlacedCalls.{PlacedCall}
use Rattle.plan_parts.specs.QuietCalls.{Noted}
use Rattle.plan_parts.specs.TableOrder.{tables_of}
use Rattle.plan_parts.specs.declared.applying.Applying.{Applying}
use Rattle.plan_parts.specs.declared.kept.Kept.{Kept}
use Rattle.plan_parts.specs.declared.outcome.Outcome.TheVariants.{Open}
use Rattle.file_plans.specs.Calls.{Runs}
use Rattle.file_plans.specs.Says.{Known}
use Rattle.file_plans.specs.declared.call.FileCall.{FileCall}
use Rattle.file_plans.specs.declared.old.Old.{Old}
use Rattle.file_plans.specs.declared.old.Old.TheVariants.{Hole, Other, Same}
use Rattle.file_plans.specs.declared.remains.Remain.{Remain}

-- the pointer before a fresh write
abbrev pub pointer_before : Old → Number
pointer_before Hole = numbers.Hole
pointer_before (Same d) = numbers.At d true
pointer_before (Other d kept) = numbers.At d true

-- the table of the old block's count is that of the found block's group, or another one that is kept
abbrev pub IsOld : WorldView → ℕ → Kept → Old → Type 0
IsOld v h group Hole = Unit {0}
IsOld v h group (Same d) = group.which ≡ table_of (Count d)
IsOld v h group (Other d kept) = IsKept v h kept × (kept.which ≡ table_of (Count d)) × (kept.which ≢ group.which)

-- the table of another group, where there is one, has all its entries
abbrev pub AreLong : Old → Type 0
AreLong Hole = Unit {0}
AreLong (Same d) = Unit {0}
AreLong (Other d kept) = length kept.table.entries ≡ per_table

-- a block that is left, with its count; the block that is found is not left, though a device that tells nothing may show it so
abbrev pub left_by : ℕ → ℕ → ℕ → Left
left_by found d n = if d == found then None else Some (d, n)

-- what a fresh write leaves, by the tables of the counts
abbrev pub left_of : ℕ → Kept → Old → Left
left_of found group Hole = None
left_of found group (Same d) = left_by found d (number_in group.table (Count d))
left_of found group (Other d kept) = left_by found d (number_in kept.table (Count d))

-- the tables of a fresh write, the groups in the order of their counts
abbrev pub filled_tables : Kept → ℕ → Kept → Old → List Kept
filled_tables pointers found group Hole = pointers ∷ group ∷ []
filled_tables pointers found group (Same d) = pointers ∷ group ∷ []
filled_tables pointers found group (Other d kept) =
    if nat_lt d found then pointers ∷ kept ∷ group ∷ [] else pointers ∷ group ∷ kept ∷ []

-- how many remains name a data block
abbrev pub named_in : List Remain → ℕ → ℕ
named_in [] d = 0
named_in (r ∷ rs) d = if r.number == d then named_in rs d + 1 else named_in rs d

-- the lower one of a number, where it is not below a bound, and another one that may be there
abbrev pub lower_of : ℕ → ℕ → Option ℕ → Option ℕ
lower_of from d None = if nat_le from d then Some d else None
lower_of from d (Some e) = if nat_le from d && nat_lt d e then Some d else Some e

-- the lowest data block, from a bound upwards, that a remain names
abbrev pub lowest_from : ℕ → List Remain → Option ℕ
lowest_from from [] = None
lowest_from from (r ∷ rs) = lower_of from r.number (lowest_from from rs)

-- the bound behind a data block that was found
abbrev pub bound_behind : ℕ → Option ℕ → ℕ
bound_behind from None = from
bound_behind from (Some d) = d + 1

-- the data blocks that remains name, from a bound upwards, ascending and each once; so many at most
abbrev pub blocks_from : ℕ → ℕ → List Remain → List ℕ
blocks_from zero from rs = []
blocks_from (suc n) from rs =
    option_to_list (lowest_from from rs) ++ blocks_from n (bound_behind from (lowest_from from rs)) rs

-- the counts of data blocks, each less the remains that name it
abbrev pub lowered_in : Packing → List Remain → List ℕ → List (ℕ × ℕ)
lowered_in table rs blocks = map (λ d. (d, number_in table (Count d) - named_in rs d)) blocks

-- the counts of all data blocks that remains name
abbrev pub counts_of : Packing → List Remain → List (ℕ × ℕ)
counts_of table rs = lowered_in table rs (blocks_from (length rs) 0 rs)

-- the indexes of the remains
abbrev pub indexes_of : List Remain → List ℕ
indexes_of rs = map (λ (r : Remain). r.index) rs

-- the record may be written into the host's empty journal, and the tables of its edits are kept in their order
pub record MayCommit (v : WorldView) (h : ℕ) (entry : JournalRecord) (left : List Kept) : Type 0 where
  pub key : entry.key ≡ key_at v.locks h
  pub edits : All (IsEdit v.locks.geometry) entry.edits
  pub empty : Knows v h (RecordIs [])
  pub may : Sure v.locks h (λ image. IsRecord v.locks.geometry image entry.key entry.edits)
  pub kept : AreKept v h left
  pub order : map (λ (k : Kept). k.which) left ≡ tables_of entry.edits

-- it was written, with these tables left
pub record IsPut (h : ℕ) (v w : WorldView) (entry : JournalRecord) (kept : List Kept) (a : Applying) : Type 0 where
  pub entry_is : a.entry ≡ entry
  pub left_is : a.left ≡ kept
  pub may : MayCommit v h entry kept
  pub did : Committed h v w entry kept

-- the record of these edits stands, on its way into its tables; where a reply is placed, its write is the place of the call, and else
-- no file changed
pub record HasCommitted (h : ℕ) (v w : WorldView) (call : FileCall) (placed : Option PlainReply) (es : List Edit) (a : Applying)
    : Type 0 where
  pub edits : a.entry.edits ≡ es
  pub wrote : Wrote h (kinds.Journal h) (journal_bytes (key_at v.locks h) es) es None v w
  pub tables : (t : Table) (p : Packing) → Knows v h (TableIs t p) → Knows w h (TableIs t p)
  pub stands : IsApplying w h a.entry.edits a.left
  pub order : map (λ (k : Kept). k.which) a.left ≡ tables_of a.entry.edits
  pub event : Event
  pub made : (command : Command) → Runs command call
      → PlacedCall command h v w event placed (Noted command h v Open) (Noted command h w Open)

-- the tables that the record of a purge leaves to write: that of its pointers, as it is known, and that of the counts
pub record LeavesPurge (known : Known) (f : ℕ) (rs : List Remain) (group : Kept) (left : List Kept) : Type 0 where
  pub pointers : Kept
  pub left_is : left ≡ pointers ∷ group ∷ []
  pub which : IfSome (slice_get rs 0) (λ (r : Remain). pointers.which ≡ table_of (Pointer f r.index))
  pub known_is : known pointers.which ≡ Some pointers.table
