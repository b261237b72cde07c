-- What a turn's device call leaves of the counter, the content, the faults and the number of blocks.
use Rattle.std.proofs.Common.{◌≡◌, ◌≤◌, ◌⊎◌, ◌+◌, ℕ, Option, Some, None, refl, ap, inl, inr, arith}
use Rattle.shared_disk.specs.Events.{Call, Changes, Event, Reply, Done, Fences, Gives, Reads, Refuses, Registers, Shows, Tests, Writes}
use Rattle.shared_disk.specs.Seen.{DiskSeen}
use Rattle.shared_disk.specs.State.{State}
use Rattle.shared_disk.specs.laws.CalledLaws.{TellsOnce, counter_called, counter_same, told_called, told_same}
use Rattle.host_runs.specs.DeviceCalls.{ActsOnce}

-- the same of a turn's call, if it makes one
pub told_once : (made : Option Event) (s t : DiskSeen) → ActsOnce made s t → TellsOnce s.state.told t.state.told
told_once None s t acts = told_same s.state t.state (ap (λ (u : DiskSeen). u.state) acts)
told_once (Some e) s t acts = told_called e.call e.reply s.state t.state acts.0.changes

pub counter_once : (made : Option Event) (s t : DiskSeen) → ActsOnce made s t → s.state.counter ≤ t.state.counter
counter_once None s t acts = counter_same s.state t.state (ap (λ (u : DiskSeen). u.state.counter) acts)
counter_once (Some e) s t acts = counter_called e.call e.reply s.state t.state acts.0.changes

pub faults_once : (made : Option Event) (s t : DiskSeen) → ActsOnce made s t → s.faults ≤ t.faults
faults_once None s t acts = let e = ap (λ (u : DiskSeen). u.faults) acts in omega (arith, e)
faults_once (Some e) s t acts = acts.0.later

-- a call by which the counter rose: a registration that was granted
pub record IsRaised (call : Call) (reply : Reply) (s t : State) : Type 0 where
  pub of : ℕ
  pub key : ℕ
  pub asked : call ≡ Registers of
  pub given : reply ≡ Gives key
  pub by : t.counter ≡ s.counter + 1

abbrev pub StaysOrRises : Call → Reply → State → State → Type 0
StaysOrRises call reply s t = (t.counter ≡ s.counter) ⊎ IsRaised call reply s t

pub counter_cases : (call : Call) (reply : Reply) (s t : State) → Changes call reply s t → StaysOrRises call reply s t
counter_cases call (Refuses cause) s t h = inl (ap (λ (u : State). u.counter) h)
counter_cases (Reads place) (Shows block) s t h = inl (ap (λ (u : State). u.counter) h.1)
counter_cases (Writes place block) Done s t h = inl (ap (λ (u : State). u.counter) h)
counter_cases (Tests place old new) Done s t h = inl (ap (λ (u : State). u.counter) h.1)
counter_cases (Tests place old new) (Shows block) s t h = inl (ap (λ (u : State). u.counter) h.2)
counter_cases (Registers host) (Gives key) s t h =
    inr (record { of = host; key = key; asked = refl; given = refl; by = ap (λ (u : State). u.counter) h.1 })
counter_cases (Fences target) Done s t h = inl (ap (λ (u : State). u.counter) h)
counter_cases call reply s t h = absurd h

blocks_called : (call : Call) (reply : Reply) (s t : State) → Changes call reply s t → t.blocks ≡ s.blocks
blocks_called call (Refuses cause) s t h = ap (λ (u : State). u.blocks) h
blocks_called (Reads place) (Shows block) s t h = ap (λ (u : State). u.blocks) h.1
blocks_called (Writes place block) Done s t h = ap (λ (u : State). u.blocks) h
blocks_called (Tests place old new) Done s t h = ap (λ (u : State). u.blocks) h.1
blocks_called (Tests place old new) (Shows block) s t h = ap (λ (u : State). u.blocks) h.2
blocks_called (Registers host) (Gives key) s t h = ap (λ (u : State). u.blocks) h.1
blocks_called (Fences target) Done s t h = ap (λ (u : State). u.blocks) h
blocks_called call reply s t h = absurd h

pub blocks_once : (made : Option Event) (s t : DiskSeen) → ActsOnce made s t → t.state.blocks ≡ s.state.blocks
blocks_once None s t acts = ap (λ (u : DiskSeen). u.state.blocks) acts
blocks_once (Some e) s t acts = blocks_called e.call e.reply s.state t.state acts.0.changes
