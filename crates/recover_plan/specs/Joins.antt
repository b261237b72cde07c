-- What a `join` comes to where its try of the own slot found another one.
use Rattle.std.specs.Prelude.{◌≡◌, ◌%◌, ◌==◌, ℕ, Bool, true, false, List, Option, if◌then◌else◌}
use Rattle.vol_base.specs.declared.answer.Answer.TheVariants as answers
use Rattle.slot_lock_blocks.specs.declared.slot.Slot.{Slot}
use Rattle.slot_lock_blocks.specs.declared.slot.Slot.TheVariants as slots
use Rattle.slot_lock_blocks.specs.Slots.{IsSlot, slot_key}
use Rattle.lock_store.specs.declared.purpose.SlotUse.TheVariants.{Take}
use Rattle.lock_store.specs.Events.{Notes}
use Rattle.lock_store.specs.Memories.{claim_of, dropped}
use Rattle.lock_store.specs.SlotTries.{IsOfHost, MayShow, slot_by}
use Rattle.lock_store.specs.Views.{host_at}
use Rattle.disk_locks.specs.Others as locks'
use Rattle.watch.specs.declared.watch.Look.{Look}
use Rattle.watch.specs.Looks.{nothing}
use Rattle.host_facts.specs.Facts.Fact.{Given}
use Rattle.host_facts.specs.Knows.{Knows}
use Rattle.host_facts.specs.Views.{WorldView}
use Rattle.recover_plan.specs.Replaying.{IsRecoverer}
use Rattle.recover_plan.specs.declared.plan.Come.{Come}
use Rattle.recover_plan.specs.declared.plan.Come.TheVariants.{Answered, More}
use Rattle.recover_plan.specs.declared.plan.Doing.{Doing}
use Rattle.recover_plan.specs.declared.plan.Doing.TheVariants.{Enter, EnterAgain, Over}
use Rattle.recover_plan.specs.declared.replay.Replay.TheVariants.{Fence}

-- the slot is entered from a free one: at first, or once its claim found it free; and how many tries found another slot before
abbrev pub entering : Bool → Doing
entering false = Enter
entering true = EnterAgain

abbrev pub entries_before : Bool → ℕ
entries_before false = 0
entries_before true = 2

-- the first try goes on with a live slot, and with one that an older key of the host recovers; a claim that found the slot free enters it;
-- and of any other slot it is answered who has it
abbrev pub join_found : ℕ → Slot → Bool → Come
join_found h slots.Free again = More EnterAgain
join_found h (slots.Live key beat) false = More (Over (Fence (slots.Live key beat)))
join_found h (slots.Live key beat) true = Answered (answers.Busy key)
join_found h (slots.Recovering key by) false =
    if by.0 % 16 == h then More (Over (Fence (slots.Recovering key by))) else Answered (answers.Busy by)
join_found h (slots.Recovering key by) true = Answered (answers.Busy by)

-- the host is dropped, and all else is as before
pub record IsDropped (h : ℕ) (v w : WorldView) : Type 0 where
  pub notes : Notes h dropped v.locks w.locks
  pub others : locks'.Others h v.locks w.locks
  pub standing : w.standing ≡ v.standing

-- where the command goes on nothing changed; and where it is answered the host is dropped, and remembers no slot
abbrev pub IsLeftBy : ℕ → WorldView → WorldView → List (Option Look) → List (Option Look) → Come → Type 0
IsLeftBy h v w watch after (More doing) = (w ≡ v) × (after ≡ watch)
IsLeftBy h v w watch after come = IsDropped h v w × (after ≡ nothing)

-- a slot that was found in place of the own one, which the host has not claimed: it may stand there, and the device gave its keys
pub record FindsOwn (v : WorldView) (h : ℕ) (found : Slot) : Type 0 where
  pub base : IsRecoverer v h h
  pub unclaimed : claim_of (host_at v.locks h) h ≡ 0
  pub spelled : IsSlot found
  pub of_host : IsOfHost h found
  pub may : MayShow Take h (host_at v.locks h) found
  pub shown : Knows v h (Given (slot_key found))
  pub by : Knows v h (Given (slot_by found))
