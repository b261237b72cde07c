-- A digest that is handed in to a host.
use Rattle.std.specs.Prelude.{◌≡◌, ℕ, None, Option, Some}
use Rattle.vol_base.specs.declared.block.Digest.{Digest}
use Rattle.vol_base.specs.declared.command.Command.{Command}
use Rattle.vol_base.specs.declared.command.Command.TheVariants.{Scribble, Write}
use Rattle.vol_layout.specs.declared.geometry.Geometry.{Geometry}
use Rattle.file_plans.specs.declared.stage.Stage.TheVariants.{Asks, Begins}
use Rattle.hint_plans.specs.Nexts.{MaySupply, pending_behind, supplied}
use Rattle.hint_plans.specs.Plans as hints
use Rattle.merge_plan.specs.Plans as merges
use Rattle.cluster.specs.Plans.{IsBegun}
use Rattle.cluster.specs.declared.carried.Carried.{Carried}
use Rattle.cluster.specs.declared.plan.Plan.{Plan}
use Rattle.cluster.specs.declared.plan.Plan.TheVariants.{Files, Hints, Merges}
use Rattle.cluster.specs.declared.seat.Seat.{Seat}

-- a plan that waits for a digest, and whose pending hint may be made
abbrev pub IsAsking : Plan → Type 0
IsAsking (Files plan) = plan.stage ≡ Asks
IsAsking (Hints plan) = hints.IsAsking plan.doing
IsAsking (Merges plan) = merges.IsAsking plan.doing
IsAsking plan = ⊥

abbrev pub MayTake : Geometry → Plan → Type 0
MayTake g (Hints plan) = MaySupply g plan.doing
MayTake g plan = Unit {0}

-- the same plan with the digest, and what its host keeps beside it
abbrev pub IsSuppliedIn : Digest → Carried → Carried → Plan → Plan → Type 0
IsSuppliedIn digest old new (Files plan) (Files later) =
    (later.core ≡ plan.core) × (later.stage ≡ Begins) × (new ≡ record old { digest = Some digest })
IsSuppliedIn digest old new (Hints plan) (Hints later) =
    (later.host ≡ plan.host) × (later.doing ≡ supplied digest plan.doing)
    × (new ≡ record old { pending = pending_behind digest plan.doing old.pending })
IsSuppliedIn digest old new (Merges plan) (Merges later) =
    (later.host ≡ plan.host) × (later.doing ≡ merges.supplied digest plan.doing) × (new ≡ old)
IsSuppliedIn digest old new plan later = ⊥

-- a command that asks for a digest before its first call
abbrev pub AsksFirst : Command → Type 0
AsksFirst (Write f i n) = Unit {0}
AsksFirst (Scribble place n seen) = Unit {0}
AsksFirst command = ⊥

-- the plan under way takes the digest, or a command begins with it
abbrev pub MayHandInOf : Command → Geometry → Option Plan → Type 0
MayHandInOf command g None = AsksFirst command
MayHandInOf command g (Some plan) = IsAsking plan × MayTake g plan

abbrev pub MayHandIn : Command → Seat → Type 0
MayHandIn command seat = MayHandInOf command seat.carried.pending.geometry seat.plan

abbrev pub IsBefore : ℕ → Command → Option Plan → Plan → Type 0
IsBefore h command None before = IsBegun h command before × IsAsking before × AsksFirst command
IsBefore h command (Some plan) before = before ≡ plan

-- a plan of the command stands at its beginning
pub record HasStartedPlan (h : ℕ) (command : Command) (old new : Seat) : Type 0 where
  pub plan : Plan
  pub begun : IsBegun h command plan
  pub is : new ≡ record old { plan = Some plan }

-- the seat with the plan that took the digest
pub record IsTaken (digest : Digest) (before : Plan) (old new : Seat) : Type 0 where
  pub after : Plan
  pub supplied : IsSuppliedIn digest old.carried new.carried before after
  pub is : new ≡ record old { plan = Some after; carried = new.carried }

pub record IsHandedIn (h : ℕ) (command : Command) (digest : Digest) (old new : Seat) : Type 0 where
  pub before : Plan
  pub was : IsBefore h command old.plan before
  pub taken : IsTaken digest before old new
