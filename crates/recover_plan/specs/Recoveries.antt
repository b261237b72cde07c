-- What a `recover` comes to behind a step of the recovery.
use Rattle.std.specs.Prelude.{◌≡◌, ◌≢◌, ℕ, Bool, true, false, List, None, Option}
use Rattle.vol_base.specs.declared.answer.Answer.TheVariants as answers
use Rattle.slot_lock_blocks.specs.declared.slot.Slot.{Slot}
use Rattle.slot_lock_blocks.specs.declared.slot.Slot.TheVariants as slots
use Rattle.slot_lock_blocks.specs.Slots.{slot_key}
use Rattle.watch.specs.declared.watch.Look.{Look}
use Rattle.watch.specs.Looks.{IsLook, look_at}
use Rattle.recover_plan.specs.declared.plan.Come.{Come}
use Rattle.recover_plan.specs.declared.plan.Come.TheVariants.{Answered, More}
use Rattle.recover_plan.specs.declared.plan.Doing.{Doing}
use Rattle.recover_plan.specs.declared.plan.Doing.TheVariants.{Again, First, Free}
use Rattle.recover_plan.specs.declared.replay.Going.{Going}
use Rattle.recover_plan.specs.declared.replay.Going.TheVariants as goings
use Rattle.recover_plan.specs.declared.replay.Replay.{Replay}
use Rattle.recover_plan.specs.declared.replay.Replay.TheVariants.{Claim}

-- a recovery by the first claim, or by the second one; and how many claims found another slot before
abbrev pub recovery : ℕ → Bool → Replay → Doing
recovery of false stage = First of stage
recovery of true stage = Again of stage

abbrev pub claims_before : Bool → ℕ
claims_before false = 0
claims_before true = 1

-- what is answered of a slot that a claim found, but where it is claimed once more
abbrev pub found_answer : Slot → Come
found_answer slots.Free = Answered answers.Free
found_answer (slots.Live key beat) = Answered (answers.Alive 1)
found_answer (slots.Recovering key by) = Answered (answers.Busy by)

-- the slot is live, with the key that the claim was made from
abbrev pub IsSameLive : Slot → Slot → Type 0
IsSameLive from (slots.Live key beat) = slot_key from ≡ key.0
IsSameLive from slot = ⊥

-- behind a claim that found a slot: the first one is made again from a live one with the same key; and of any other slot it is answered,
-- which is then remembered as seen once
pub data FoundTo (of : ℕ) (from found : Slot) (watch after : List (Option Look)) : Bool → Come → Type 0 where
  ClaimsAgain : IsSameLive from found → after ≡ watch → FoundTo of from found watch after false (More (Again of (Claim found)))
  Answers : (again : Bool) → ((again ≡ false) → IsSameLive from found → ⊥)
      → ((k : ℕ) → k ≢ of → look_at after k ≡ look_at watch k) → IsLook found None (look_at after of)
      → FoundTo of from found watch after again (found_answer found)

-- behind any step
abbrev pub RecoverTo : ℕ → Bool → Going → List (Option Look) → List (Option Look) → Come → Type 0
RecoverTo of again (goings.More stage) watch after come = (come ≡ More (recovery of again stage)) × (after ≡ watch)
RecoverTo of again (goings.Ready dead) watch after come = (come ≡ More (Free of dead)) × (after ≡ watch)
RecoverTo of again (goings.Found from found) watch after come = FoundTo of from found watch after again come
