-- The block whose digest a host waits for.
use Rattle.std.specs.Prelude.{Bool, true, false, None, Option, Some, if◌then◌else◌}
use Rattle.vol_base.specs.NumberBlock.{number_block}
use Rattle.vol_base.specs.declared.block.Block.{Block}
use Rattle.vol_base.specs.declared.command.Command.{Command}
use Rattle.vol_layout.specs.declared.geometry.Geometry.{Geometry}
use Rattle.hint_plans.specs.declared.plan.Doing.{Doing}
use Rattle.hint_plans.specs.declared.plan.Doing.TheVariants.{Asks, AsksBlock}
use Rattle.host_runs.specs.Awaited.{first_block}
use Rattle.host_runs.specs.FileUses.{is_hint_place}
use Rattle.merge_plan.specs.declared.plan.Doing as merges
use Rattle.merge_plan.specs.declared.plan.Doing.TheVariants as merge_doings
use Rattle.cluster.specs.declared.plan.Plan.{Plan}
use Rattle.cluster.specs.declared.plan.Plan.TheVariants.{Hints, Merges}

-- a command on hints: that of a `scribble` before its first step, or one that a `scan` has read
abbrev pub doing_asks : Geometry → Doing → Option Block
doing_asks g (Asks s) = if is_hint_place g s.place then Some (number_block s.number) else None
doing_asks g (AsksBlock s block) = Some block
doing_asks g doing = None

-- a merge that has read what stands at the place of an entry
abbrev pub merge_asks : merges.Doing → Option Block
merge_asks (merge_doings.Asks shelf block) = Some block
merge_asks doing = None

abbrev pub plan_asks : Geometry → Plan → Option Block
plan_asks g (Hints plan) = doing_asks g plan.doing
plan_asks g (Merges plan) = merge_asks plan.doing
plan_asks g plan = None

-- by the plan of the command under way; or where none is, and the host is joined, by the command that it is to begin
abbrev pub asked_with : Geometry → Option Plan → Bool → Command → Option Block
asked_with g (Some plan) joined command = plan_asks g plan
asked_with g None true command = first_block g command
asked_with g None false command = None
