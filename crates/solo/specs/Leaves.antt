-- What holds of a host that leaves.
use Rattle.std.specs.Prelude.{◌≡◌, ◌≢◌, ℕ, Contains, Err, List, Ok, Option, Result}
use Rattle.vol_base.specs.declared.answer.Answer.{Answer}
use Rattle.vol_base.specs.declared.answer.Answer.TheVariants.{Cut, Fine}
use Rattle.vol_base.specs.declared.answer.CutBy.TheVariants.{Bad, Fault}
use Rattle.vol_base.specs.declared.command.Command.TheVariants.{Leave}
use Rattle.lock_store.specs.Views.{key_at, keys_of}
use Rattle.host_facts.specs.Views.{WorldView}
use Rattle.host_runs.specs.Notes.{Notes}
use Rattle.recover_plan.specs.KeptVolumes.{KeepsVolume}
use Rattle.recover_plan.specs.Plans.{Agrees, PlanStands, command_of}
use Rattle.recover_plan.specs.declared.plan.Doing.{Doing}
use Rattle.solo.specs.Alone.{IsLater}
use Rattle.watch.specs.declared.watch.Look.{Look}
use Rattle.settle.specs.declared.lone.LoneNo.{LoneNo}
use Rattle.settle.specs.declared.lone.LoneNo.TheVariants as refusals

-- the answers that a `leave` comes to of itself, while its key is registered
abbrev pub IsLeft : Answer → Type 0
IsLeft Fine = Unit {0}
IsLeft (Cut Fault) = Unit {0}
IsLeft (Cut (Bad place)) = Unit {0}
IsLeft answer = ⊥

-- what each is to the host
abbrev pub left_by : Answer → Result Unit LoneNo
left_by (Cut Fault) = Err refusals.Failed
left_by (Cut (Bad place)) = Err (refusals.Bad place)
left_by answer = Ok tt

-- before each step: the plan stands, and notes of a run agree with it; the key is registered, and no file, logical number or data block
-- changed
pub record IsLeaving (v w : WorldView) (h : ℕ) (watch : List (Option Look)) (doing : Doing) : Type 0 where
  pub at : PlanStands w h watch doing
  pub leaves : command_of doing ≡ Leave
  pub noted : (n : Notes) × Agrees h w watch doing n
  pub some : key_at w.locks h ≢ 0
  pub registered : Contains (keys_of w.locks) (key_at w.locks h)
  pub later : IsLater 0 v w
  pub volume : KeepsVolume v w
