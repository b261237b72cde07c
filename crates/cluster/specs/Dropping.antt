-- A host that is dropped.
use Rattle.std.specs.Prelude.{◌≡◌, ℕ, Some, suc, zero}
use Rattle.vol_base.specs.declared.answer.Answer.{Answer}
use Rattle.vol_base.specs.declared.answer.Answer.TheVariants.{Fine}
use Rattle.vol_base.specs.declared.command.Command.{Command}
use Rattle.vol_base.specs.declared.command.Command.TheVariants as commands
use Rattle.held_cache.specs.Kept.{Cache, ForgetsHost}
use Rattle.host_facts.specs.Views.{WorldView}
use Rattle.recover_plan.specs.Joins.{IsDropped}
use Rattle.cluster.specs.Views.{IsFirstSeat}
use Rattle.cluster.specs.declared.seat.Seat.{Seat}

-- the host has no key and holds nothing in memory; nothing is kept for it, and it remembers no slot, no hint and no death
pub record IsDroppedIn (h : ℕ) (v w : WorldView) (c d : Cache) (seat : Seat) : Type 0 where
  pub world : IsDropped h v w
  pub cache : ForgetsHost c d h
  pub first : IsFirstSeat v.locks.geometry seat

-- a command was answered without a plan: a host that is to die at once is dropped, and one that is to die later knows when; no other
-- answer changes anything
abbrev pub IsAnsweredAtOnce : ℕ → Command → Answer → WorldView → WorldView → Cache → Cache → Seat → Seat → Type 0
IsAnsweredAtOnce h (commands.Die zero) Fine v w c d old new = IsDroppedIn h v w c d new
IsAnsweredAtOnce h (commands.Die (suc calls)) Fine v w c d old new = (w ≡ v) × (d ≡ c) × (new ≡ record old { left = Some (suc calls) })
IsAnsweredAtOnce h command answer v w c d old new = (w ≡ v) × (d ≡ c) × (new ≡ old)
