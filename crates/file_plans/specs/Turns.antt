-- How many turns a plan may still take: its steps, and the one in which a digest is handed in.
use Rattle.std.specs.Prelude.{◌≡◌, ◌<◌, ◌==◌, ◌&&◌, ◌+◌, ◌-◌, ◌*◌, ◌/◌, ℕ, zero, suc, Bool, true, List, [], ◌∷◌, None, Option, Some, if◌then◌else◌, is_none, length, map, nat_le, nat_lt, not}
use Rattle.std.specs.List.{count_by, range_with_len}
use Rattle.vol_base.specs.Packing.{Packing}
use Rattle.vol_base.specs.declared.answer.Next.{Next}
use Rattle.vol_base.specs.declared.answer.Next.TheVariants.{More}
use Rattle.vol_base.specs.declared.plain.PlainCall.TheVariants.{Create, Punch, Read, Remove, Size, Write}
use Rattle.vol_layout.specs.declared.field.Edit.{Edit}
use Rattle.vol_layout.specs.declared.field.Field.{Field}
use Rattle.vol_layout.specs.declared.field.Field.TheVariants.{Pointer}
use Rattle.vol_layout.specs.declared.geometry.Geometry.{Geometry}
use Rattle.vol_layout.specs.declared.kind.Table.{Table}
use Rattle.vol_layout.specs.declared.kind.Table.TheVariants as tables
use Rattle.vol_layout.specs.Fields.{table_of}
use Rattle.vol_layout.specs.Ranges.{limit, per_table}
use Rattle.lock_store.specs.declared.host.HostState.{HostState}
use Rattle.lock_store.specs.Views.{host_at}
use Rattle.table_blocks.specs.Made.{made}
use Rattle.table_blocks.specs.Tables.{number_in}
use Rattle.held_cache.specs.Kept.{Cache, kept_at}
use Rattle.host_facts.specs.Views.{WorldView}
use Rattle.plan_parts.specs.Holds.{calls_left}
use Rattle.plan_parts.specs.TableOrder.{same_table}
use Rattle.plan_parts.specs.declared.kept.Kept.{Kept}
use Rattle.plan_parts.specs.declared.outcome.Outcome.{Outcome}
use Rattle.plan_parts.specs.declared.outcome.Outcome.TheVariants.{Open}
use Rattle.file_plans.specs.Begins.{has_hold}
use Rattle.file_plans.specs.Says.{Known}
use Rattle.file_plans.specs.Writes.{steps_left}
use Rattle.file_plans.specs.declared.call.FileCall.{FileCall}
use Rattle.file_plans.specs.declared.call.FileCall.TheVariants.{Close, Plain}
use Rattle.file_plans.specs.declared.stage.Stage.{Stage}
use Rattle.file_plans.specs.declared.stage.Stage.TheVariants as stages
use Rattle.file_plans.specs.declared.state.Core.{Core}

-- a file's table block by its number
abbrev pub block_table : ℕ → ℕ → Table
block_table f zero = tables.File f
block_table f (suc t) = tables.More f (suc t)

-- all table blocks of a file
abbrev pub all_tables : Geometry → ℕ → List Table
all_tables g f = map (block_table f) (range_with_len 0 g.tables)

-- the table block of a file's head, and that of its pointer at an index, where it is another one of the volume
abbrev pub tables_at : Geometry → ℕ → ℕ → List Table
tables_at g f i =
    tables.File f ∷ (if nat_le 1 (i / per_table) && nat_lt (i / per_table) g.tables then tables.More f (i / per_table) ∷ [] else [])

-- the tables that a call may read
abbrev pub tables_for : Geometry → FileCall → List Table
tables_for g (Plain (Create f)) = tables.File f ∷ []
tables_for g (Plain (Remove f)) = tables.File f ∷ []
tables_for g (Plain (Size f k)) = all_tables g f
tables_for g (Plain (Write f i block)) = tables_at g f i
tables_for g (Plain (Read f i)) = tables_at g f i
tables_for g (Plain (Punch f i)) = tables_at g f i
tables_for g (Close f) = all_tables g f

-- how many of them are not known
abbrev pub unknown_for : Geometry → Known → FileCall → ℕ
unknown_for g known call = count_by (λ t. is_none (known t)) (tables_for g call)

-- a pointer that is not known to be a hole
abbrev pub may_name : Option Packing → Field → Bool
may_name None x = true
may_name (Some p) x = not (number_in p x == 0)

-- so it is at an index of a file
abbrev pub may_name_at : Known → ℕ → ℕ → Bool
may_name_at known f i = may_name (known (table_of (Pointer f i))) (Pointer f i)

-- how many pointers of a file may name a data block
abbrev pub named_for : Geometry → Known → ℕ → ℕ
named_for g known f = count_by (may_name_at known f) (range_with_len 0 (limit g))

-- how many records a call may still write: one by which it has its place, and one at most for each pointer that is to become a hole first
abbrev pub records_for : Geometry → Known → FileCall → ℕ
records_for g known (Plain (Read f i)) = 0
records_for g known (Plain (Size f k)) = named_for g known f + 1
records_for g known (Plain call) = 1
records_for g known (Close f) = named_for g known f

-- the turns of a record till its locks are freed, where so many steps are left till then: no more locks are taken than the volume has
-- groups and parts
abbrev pub round_turns : Geometry → ℕ → ℕ
round_turns g steps = (steps + 1) * (g.groups + g.parts + 1)

-- most turns has a record behind a search for a free block
abbrev pub round_most : Geometry → ℕ
round_most g = round_turns g (2 * g.groups + 14)

-- the turns of a call that has its hold and looks at its tables, where it writes so many records
abbrev pub turns_with : Geometry → Known → FileCall → ℕ → ℕ
turns_with g known call records = unknown_for g known call + 1 + records * round_most g

abbrev pub turns_seeing : Geometry → Known → FileCall → ℕ
turns_seeing g known call = turns_with g known call (records_for g known call)

-- behind a record that is about to be written, by what is known before
abbrev pub turns_behind : Geometry → Known → FileCall → ℕ
turns_behind g known call = turns_with g known call (records_for g known call - 1)

-- and where no record stands: a call that has come to its end looks no more
abbrev pub turns_rested : Geometry → Known → FileCall → Outcome → ℕ
turns_rested g known call Open = turns_seeing g known call
turns_rested g known call outcome = 0

-- what is known once the tables of a record are written
abbrev pub known_behind : Known → List Edit → List Kept → Known
known_behind known es [] t = known t
known_behind known es (k ∷ more) t = if same_table k.which t then Some (made k.which es k.table) else known_behind known es more t

-- where nothing is known
abbrev pub nothing : Known
nothing t = None

-- the turns of a call whose hold is still to be taken, whatever is known; a file that is not held is closed without a look at its tables
abbrev pub turns_trying : Geometry → FileCall → ℕ
turns_trying g (Close f) = 2
turns_trying g (Plain (Read f i)) = 3 + turns_seeing g nothing (Plain (Read f i))
turns_trying g (Plain call) = 3 + g.hosts + turns_seeing g nothing (Plain call)

-- the turns from the first step on
abbrev pub turns_begun : Geometry → HostState → Known → FileCall → ℕ
turns_begun g m known call = if has_hold call m then turns_seeing g known call else turns_trying g call

-- by the stage, what the host has in memory, and what is kept of its file
abbrev pub turns_left : Geometry → HostState → Known → Core → Stage → ℕ
turns_left g m known core stages.Asks = turns_trying g core.call + 1
turns_left g m known core stages.Begins = turns_begun g m known core.call
turns_left g m known core (stages.Writes t) = calls_left g.hosts t + turns_seeing g nothing core.call
turns_left g m known core (stages.Reads t) = 3 - t.tries + turns_seeing g nothing core.call
turns_left g m known core (stages.GivesBack t) = 2 - t.tries
turns_left g m known core stages.Sees = turns_seeing g known core.call
turns_left g m known core (stages.Applies a) =
    round_turns g (steps_left g (stages.Applies a)) + turns_rested g (known_behind known a.entry.edits a.left) core.call core.outcome
turns_left g m known core stages.Frees = length core.taken + turns_rested g known core.call core.outcome
turns_left g m known core stages.Over = 0
turns_left g m known core stage = round_turns g (steps_left g stage) + turns_behind g known core.call

-- in a world, with what is kept for the host
abbrev pub turns_at : WorldView → Cache → Core → Stage → ℕ
turns_at v c core stage = turns_left v.locks.geometry (host_at v.locks core.host) (kept_at c core.host) core stage

-- where the plan goes on, fewer turns are left
abbrev pub IsSooner : WorldView → Cache → Core → Stage → WorldView → Cache → Core → Next → Stage → Type 0
IsSooner v c old before w d new next after = next ≡ More → turns_at w d new after < turns_at v c old before
