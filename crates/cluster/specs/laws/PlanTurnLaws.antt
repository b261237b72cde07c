-- How many turns are left of a plan at its beginning, behind a step, and behind a turn of another host.
use Rattle.std.proofs.Common.{Err, IfOk, Ok, Result, ◌≡◌, ◌≢◌, ◌<◌, ◌≤◌, ◌+◌, ◌-◌, ◌*◌, ◌^◌, ◌∙◌, ℕ, Option, Some, None, inl, inr, ap, sym, subst, arith}
use Rattle.vol_base.specs.declared.command.Command.{Command}
use Rattle.vol_layout.specs.Ranges.{IsGeometry}
use Rattle.disk_locks.specs.Consistent.{Consistent}
use Rattle.file_plans.specs.Stands.{At}
use Rattle.file_plans.specs.Turns.{turns_at}
use Rattle.file_plans.specs.Went.{LeavesOthers}
use Rattle.file_plans.specs.declared.plan.FilePlan.{FilePlan}
use Rattle.file_plans.specs.declared.stage.Stage.{Stage}
use Rattle.file_plans.specs.declared.stage.Stage.TheVariants as stages
use Rattle.file_plans.specs.declared.state.Core.{Core}
use Rattle.file_plans.specs.laws.TurnBoundLaws.{begin_few, supply_sooner}
use Rattle.file_plans.specs.laws.TurnLastLaws.{turns_last}
use Rattle.held_cache.specs.Kept.{Cache}
use Rattle.host_facts.specs.Others.{Others}
use Rattle.host_facts.specs.Views.{WorldView}
use Rattle.recover_plan.specs.CallsLeft.{calls_left}
use Rattle.recover_plan.specs.declared.plan.RecoverPlan.{RecoverPlan}
use Rattle.recover_plan.specs.laws.CallsLeftLaws.{calls_most, calls_still}
use Rattle.hint_plans.specs.Nexts.{first_of}
use Rattle.hint_plans.specs.Plans as hints
use Rattle.hint_plans.specs.declared.plan.Doing.{Doing}
use Rattle.hint_plans.specs.laws.StillLaws.{left_still}
use Rattle.vol_base.specs.declared.command.Command.TheVariants as commands
use Rattle.vol_base.specs.declared.plain.NoMemory.{NoMemory}
use Rattle.cluster.specs.declared.seat.Done.{Done}
use Rattle.cluster.specs.declared.seat.Seat.{Seat}
use Rattle.cluster.specs.PlanTurns.{GoesSooner, IsSooner, turn_limit, plan_left, seat_left}
use Rattle.cluster.specs.Plans.{IsBegun, PlanAt}
use Rattle.cluster.specs.Seats.{PlanStandsOf}
use Rattle.cluster.specs.declared.plan.Plan.{Plan}
use Rattle.cluster.specs.declared.carried.Carried.{Carried}
use Rattle.cluster.specs.declared.plan.Plan.TheVariants.{Collects, Files, Hints, Merges, Serves, Slots}
use Rattle.vol_base.specs.declared.answer.Answer.TheVariants.{Cut}
use Rattle.vol_base.specs.declared.answer.Next.{Next}
use Rattle.vol_base.specs.declared.answer.Next.TheVariants.{Answered, More}
use Rattle.vol_base.specs.declared.answer.Step.{Step}
use Rattle.vol_layout.specs.Ranges.{per_table}
use Rattle.serve_plan.specs.Plans as serves
use Rattle.serve_plan.specs.declared.plan.Doing as serve_doings
use Rattle.serve_plan.specs.laws.StillLaws as serve_laws
use Rattle.merge_plan.specs.Plans as merges
use Rattle.merge_plan.specs.declared.plan.Doing as merge_doings
use Rattle.merge_plan.specs.laws.StillLaws.{merge_few}
use Rattle.share_plans.specs.Gatherings.{left, left_behind}
use Rattle.share_plans.specs.GatheringSteps.{HasStepped, next_of, stage_of}
use Rattle.share_plans.specs.declared.collect.CollectPlan.{CollectPlan}
use Rattle.share_plans.specs.declared.collection.Gathered.{Gathered}
use Rattle.share_plans.specs.declared.collection.Gathered.TheVariants as gathered
use Rattle.share_plans.specs.declared.collection.Gathering.{Gathering}

-- a step on slots leaves fewer, whatever comes behind it
pub slots_sooner : (v w : WorldView) (c d : Cache) (carried after : Carried) (old new : RecoverPlan) (next : Next) → new.host ≡ old.host
    → calls_left w old.host new.doing < calls_left v old.host old.doing → IsSooner v c carried (Slots old) w d after (Slots new) next
slots_sooner v w c d carried after old new next host fewer = λ more.
    subst (λ (h : ℕ). calls_left w h new.doing < calls_left v old.host old.doing) (sym host) fewer

-- a step of a collection leaves fewer where the collection goes on
pub collect_sooner : (v w : WorldView) (c d : Cache) (carried after : Carried) (old new : CollectPlan) (step : Step)
    → HasStepped v w old.core new.core old.stage new.stage step → IsSooner v c carried (Collects old) w d after (Collects new) step.next
collect_sooner v w c d carried after old new step (inr cut) = λ more.
    let both : Answered (Cut cut.by) ≡ More = sym (ap (λ (s : Step). s.next) cut.step_is) ∙ more in absurd cc
collect_sooner v w c d carried after old new step (inl (came, went, step_is, after_is)) = λ more.
    cases came (sym (ap (λ (s : Step). s.next) step_is) ∙ more) went.less after_is
  where
    cases : (came : Gathered) → next_of came ≡ More → left_behind new.core came < left old.core old.stage → new.stage ≡ stage_of came
        → left new.core new.stage < left old.core old.stage
    cases (gathered.More stage) more less is = subst (λ (s : Gathering). left new.core s < left old.core old.stage) (sym is) less
    cases (gathered.Answered answer) more less is = absurd cc

few_collected : 4 * per_table + 195 < 2 ^ 28
unfolding per_table
few_collected = omega arith

-- a command on hints has at most 400
pub hint_few : (v : WorldView) → IsGeometry v.locks.geometry → (command : Command) (doing : Doing) → doing ≡ first_of command
    → hints.left v.locks.geometry doing ≤ 400
hint_few v volume command doing is =
    subst (λ (d : Doing). hints.left v.locks.geometry d ≤ 400) (sym is) (by_command command)
  where
    by_command : (command : Command) → hints.left v.locks.geometry (first_of command) ≤ 400
    by_command (commands.Scribble place k seen) = omega arith
    by_command commands.Log = let most = volume.logs.1 in omega (arith, most)
    by_command (commands.Scan f i) = let most = volume.hosts.1 in omega (arith, most)
    by_command command = omega arith

-- no command has 2 ^ 28 turns at its beginning
pub begun_few : (v : WorldView) (c : Cache) (h : ℕ) (carried : Carried) (command : Command) (plan : Plan) → Consistent v.locks
    → IsBegun h command plan → PlanAt v c h carried plan → plan_left v c carried plan < 2 ^ 28
begun_few v c h carried command (Files plan) consistent begun at =
    subst (λ (s : Stage). turns_at v c plan.core s < 2 ^ 28) (sym begun.2.stage) (begin_few v c plan.core consistent.geometry)
begun_few v c h carried command (Slots plan) consistent begun at =
    let most = calls_most v h carried.watch plan.doing at.0 in
    let volume = consistent.geometry in
    subst (λ (x : ℕ). calls_left v x plan.doing < 2 ^ 28) (sym begun.0)
    (omega (arith, most, volume.files.1, volume.parts.1, volume.groups.1))
begun_few v c h carried command (Collects plan) consistent begun at =
    subst (λ (s : Gathering). left plan.core s < 2 ^ 28) (sym begun.stage) few_collected
begun_few v c h carried command (Hints plan) consistent begun at =
    let few = hint_few v consistent.geometry command plan.doing begun.1 in omega (arith, few)
begun_few v c h carried command (Serves plan) consistent begun at =
    let few = serve_laws.serve_few v consistent in
    subst (λ (x : serve_doings.Doing). serves.left v.locks.geometry x < 2 ^ 28) (sym begun.3) (omega (arith, few))
begun_few v c h carried command (Merges plan) consistent begun at =
    let few = merge_few carried.room in
    subst (λ (x : merge_doings.Doing). merges.left carried.room x < 2 ^ 28) (sym begun.2) (omega (arith, few))

-- and fewer where the digest of its block was handed in
pub supplied_few : (v : WorldView) (c : Cache) (h : ℕ) (carried : Carried) (command : Command) (before after : FilePlan) → IsGeometry v.locks.geometry
    → IsBegun h command (Files before) → before.stage ≡ stages.Asks → At v c before.core before.stage → after.core ≡ before.core
    → after.stage ≡ stages.Begins → plan_left v c carried (Files after) < 2 ^ 28 - 1
supplied_few v c h carried command before after volume begun asks at core begins =
    subst (λ (s : Stage). turns_at v c after.core s < 2 ^ 28 - 1) (sym begins)
    (subst (λ (k : Core). turns_at v c k stages.Begins < 2 ^ 28 - 1) (sym core)
    (less _ _ (supply_sooner v c before.core volume (subst (λ (s : Stage). At v c before.core s) asks at))
    (subst (λ (s : Stage). turns_at v c before.core s < 2 ^ 28) (sym begun.2.stage ∙ asks) (begin_few v c before.core volume))))
  where
    less : (m n : ℕ) → m < n → n < 2 ^ 28 → m < 2 ^ 28 - 1
    less m n fewer few = omega (arith, fewer, few)

same_most : (m n : ℕ) → m ≡ n → m ≤ n
same_most m n same = omega (arith, same)

-- a turn of another host leaves no more of them
pub seat_stays : (v w : WorldView) (c d : Cache) (h x : ℕ) → Consistent v.locks → Others x v w → LeavesOthers x c d → h ≢ x
    → (carried : Carried) (command : Command) (plan : Option Plan) → PlanStandsOf command v c h carried plan
    → seat_left w d carried plan ≤ seat_left v c carried plan
seat_stays v w c d h x consistent others leaves apart carried command None stands = omega arith
seat_stays v w c d h x consistent others leaves apart carried command (Some (Files plan)) (of, at) =
    turns_last v w c d plan.core x consistent others leaves (λ same. apart (sym of.0 ∙ same)) plan.stage at.0
seat_stays v w c d h x consistent others leaves apart carried command (Some (Collects plan)) (of, at) = omega arith
seat_stays v w c d h x consistent others leaves apart carried command (Some (Merges plan)) (of, at) = omega arith
seat_stays v w c d h x consistent others leaves apart carried command (Some (Hints plan)) (of, at) =
    same_most _ _ (left_still v w h x consistent others apart plan.doing)
seat_stays v w c d h x consistent others leaves apart carried command (Some (Serves plan)) (of, at) =
    same_most _ _ (serve_laws.left_still v w h x consistent others apart plan.doing)
seat_stays v w c d h x consistent others leaves apart carried command (Some (Slots plan)) (of, at) =
    same_most _ _ (calls_still v w plan.host x plan.doing others (λ same. apart (sym of.0 ∙ same)))

-- the turn of a host between two commands that begins a plan is one of that plan
pub begun_sooner : (v w : WorldView) (c d : Cache) (old : Seat) (plan : Plan) (new : Seat) → old.plan ≡ None
    → plan_left v c old.carried plan < 2 ^ 28 → (result : Result Done NoMemory)
    → IfOk result (λ done. GoesSooner v c (record old { plan = Some plan }) w d new done.ended)
    → IfOk result (λ done. GoesSooner v c old w d new done.ended)
begun_sooner v w c d old plan new none few (Ok done) sooner = λ on.
    subst (λ (p : Option Plan). seat_left w d new.carried new.plan < turn_limit v c old.carried p) (sym none)
    (let less = sooner on in omega (arith, less, few))
begun_sooner v w c d old plan new none few (Err refusal) sooner = tt
