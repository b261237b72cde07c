-- How many steps a share has left.
use Rattle.std.specs.Prelude.{◌+◌, ℕ, Some, if◌then◌else◌, is_some}
use Rattle.vol_layout.specs.declared.field.Field.TheVariants.{Pointer}
use Rattle.vol_layout.specs.declared.kind.Table.{Table}
use Rattle.vol_layout.specs.declared.kind.Table.TheVariants as tables
use Rattle.vol_layout.specs.Fields.{table_of}
use Rattle.share_plans.specs.Closings.{closing_left}
use Rattle.share_plans.specs.ReadTables.{Known, kept_in}
use Rattle.share_plans.specs.declared.sharing.Place.{Place}
use Rattle.share_plans.specs.declared.sharing.Place.TheVariants.{Arena, File}
use Rattle.share_plans.specs.declared.stage.Came.{Came}
use Rattle.share_plans.specs.declared.stage.Came.TheVariants.{Answered, More}
use Rattle.share_plans.specs.declared.stage.Core.{Core}
use Rattle.share_plans.specs.declared.stage.Stage.{Stage}
use Rattle.share_plans.specs.declared.stage.Stage.TheVariants as stages

-- 1 for a table that was not read
abbrev pub one_missing : Known → Table → ℕ
one_missing known t = if is_some (known t) then 0 else 1

-- how many of the two tables for a file's block were not read; a table that is both counts twice
abbrev pub missing_at : Known → ℕ → ℕ → ℕ
missing_at known f i = one_missing known (tables.File f) + one_missing known (table_of (Pointer f i))

abbrev pub missing_of_source : Known → Place → ℕ
missing_of_source known (File f i) = missing_at known f i
missing_of_source known (Arena s) = 0

-- how many of the tables for the place and the source
abbrev pub missing : Core → ℕ
missing core = missing_at (kept_in core.tables) core.file core.index + missing_of_source (kept_in core.tables) core.source

-- what comes behind the tables, and behind the first lock: a slot is read twice
abbrev pub behind_tables : Place → ℕ
behind_tables (File f i) = 14
behind_tables (Arena s) = 16

abbrev pub behind_lock : Place → ℕ
behind_lock (File f i) = 13
behind_lock (Arena s) = 14

-- the steps that are left at most, with the one that comes next
abbrev pub left : Core → Stage → ℕ
left core (stages.Reads t) = missing core + behind_tables core.source
left core (stages.Peeks own) = 16
left core (stages.Locks pair) = behind_lock core.source + 1
left core (stages.LocksSource pair) = behind_lock core.source
left core (stages.PeeksAgain pair) = 13
left core (stages.ReadsSource pair) = 12
left core (stages.ReadsOwn pair block) = 11
left core (stages.CountsOwn pair) = 10
left core (stages.CountsSource pair group) = 9
left core (stages.Commits pair group other) = 8
left core (stages.Closes closing answer) = closing_left core.taken (Some closing)
left core stages.Over = 0

abbrev pub left_behind : Core → Came → ℕ
left_behind core (More stage) = left core stage
left_behind core (Answered answer) = 0
