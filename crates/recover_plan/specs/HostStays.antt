-- What stays of a host over a step of another host's plan, and of what it remembers over a step of its own plan that is none on slots.
use Rattle.std.specs.Prelude.{◌≡◌, ℕ, Bool, false, List, None, Option, Some, if◌then◌else◌}
use Rattle.vol_base.specs.declared.answer.Answer.{Answer}
use Rattle.vol_base.specs.declared.command.Command.{Command}
use Rattle.watch.specs.declared.watch.Look.{Look}
use Rattle.watch.specs.Looks.{nothing}
use Rattle.host_facts.specs.Views.{WorldView}
use Rattle.host_runs.specs.Memories.{drops}
use Rattle.host_runs.specs.Notes.{Notes}
use Rattle.recover_plan.specs.PlanSteps.{AreWatched, RestsWith}
use Rattle.recover_plan.specs.Plans.{Agrees, PlanStands}
use Rattle.recover_plan.specs.declared.plan.Doing.{Doing}

-- the plan that it has on slots, if any, stands, and its notes agree with it; a host between two commands rests; and what it remembers
-- of other slots holds
pub record HostStays (v w : WorldView) (h : ℕ) : Type 0 where
  pub plan : (watch : List (Option Look)) (doing : Doing) → PlanStands v h watch doing → PlanStands w h watch doing
  pub agrees : (watch : List (Option Look)) (doing : Doing) (n : Notes) → Agrees h v watch doing n → Agrees h w watch doing n
  pub rests : (watch : List (Option Look)) (n : Notes) → RestsWith h v watch n → RestsWith h w watch n
  pub watched : (watch : List (Option Look)) → AreWatched v h watch → AreWatched w h watch

-- a host is dropped with the answer of a step, if it has one
abbrev pub is_dropped : Command → Option Answer → Bool
is_dropped command None = false
is_dropped command (Some answer) = drops answer command

-- what a host remembers behind a step: nothing where it is dropped
abbrev pub watch_behind : Command → Option Answer → List (Option Look) → List (Option Look)
watch_behind command ended watch = if is_dropped command ended then nothing else watch

-- over a step of a command that is none on slots the notes remember the same slots, and what is remembered holds, but where the host
-- is dropped
pub record LooksStay (command : Command) (h : ℕ) (v w : WorldView) (ended : Option Answer) (n later : Notes) : Type 0 where
  pub noted : later.watch ≡ watch_behind command ended n.watch
  pub watched : (watch : List (Option Look)) → AreWatched v h watch → AreWatched w h (watch_behind command ended watch)
