-- The stages of a transaction: which one comes behind another, and how many steps may still come.
use Rattle.std.specs.Prelude.{◌==◌, ◌/◌, ◌+◌, ℕ, Bool, false, None, Option, Some, if◌then◌else◌, length}
use Rattle.vol_layout.specs.declared.geometry.Geometry.{Geometry}
use Rattle.vol_layout.specs.declared.kind.Table.{Table}
use Rattle.vol_layout.specs.declared.kind.Table.TheVariants.{Group}
use Rattle.vol_layout.specs.Ranges.{per_table}
use Rattle.plan_parts.specs.Searches.{rank}
use Rattle.plan_parts.specs.declared.kept.Kept.{Kept}
use Rattle.file_plans.specs.declared.old.Old.{Old}
use Rattle.file_plans.specs.declared.old.Old.TheVariants as olds
use Rattle.file_plans.specs.declared.stage.Stage.{Stage}
use Rattle.file_plans.specs.declared.stage.Stage.TheVariants as stages

-- the table has the count of a data block
abbrev pub has_count : Table → ℕ → Bool
has_count (Group r) d = d / per_table == r
has_count t d = false

-- the table of a shared block's group that is kept, with one more that was counted
abbrev pub kept_shared : Option ℕ → Option Kept → Kept → Option Kept
kept_shared None shared kept = shared
kept_shared (Some old) shared kept = if has_count kept.which old then Some kept else shared

-- a free block is to be written
abbrev pub puts_for : ℕ → Kept → Old → Stage
puts_for d group left = stages.Puts (record { number = d; group = group; left = left })

-- what comes behind a found block where the pointer names a shared block of another group
abbrev pub behind_other : Option Kept → ℕ → ℕ → Kept → Stage
behind_other None old d group = stages.LocksShared old d group
behind_other (Some kept) old d group = puts_for d group (olds.Other old kept)

-- what comes behind a found block
abbrev pub behind_found : Option ℕ → Option Kept → ℕ → Kept → Stage
behind_found None shared d group = puts_for d group olds.Hole
behind_found (Some old) shared d group =
    if has_count group.which old then puts_for d group (olds.Same old) else behind_other shared old d group

-- how many steps may still come before no record stands, or the call is given up; a record has at most eight tables. The locks that are
-- freed then are counted by themselves
abbrev pub steps_left : Geometry → Stage → ℕ
steps_left g (stages.Searches old shared search) = rank g search + 14
steps_left g (stages.LocksShared old d group) = 13
steps_left g (stages.FetchesShared old d group) = 12
steps_left g (stages.Puts fresh) = 11
steps_left g (stages.Fills fresh) = 10
steps_left g (stages.Locks change) = 12
steps_left g (stages.Fetches change) = 11
steps_left g (stages.Changes change group) = 10
steps_left g (stages.Applies a) = length a.left + 1
steps_left g stage = 0
