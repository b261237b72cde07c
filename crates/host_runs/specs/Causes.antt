-- The cause of each answer: an answer comes only where its cause stands.
use Rattle.std.specs.Prelude.{◌≡◌, ◌⊎◌, ◌<◌, ℕ, true, false, List, Some, None}
use Rattle.vol_base.specs.declared.answer.Answer.{Answer}
use Rattle.vol_base.specs.declared.answer.Answer.TheVariants.{Alive, Busy, Collected, Cut, Down, Fine, Free, Full, Joined, Logged, Merged, NoKeys, Plain, Recovered, Refused, Scanned, Seen, Served, Up}
use Rattle.vol_base.specs.declared.answer.CutBy.{CutBy}
use Rattle.vol_base.specs.declared.answer.CutBy.TheVariants as cuts
use Rattle.vol_base.specs.declared.command.Command.{Command}
use Rattle.vol_base.specs.declared.command.Command.TheVariants as commands
use Rattle.vol_layout.specs.declared.kind.Kind.TheVariants as kinds
use Rattle.slot_lock_blocks.specs.declared.slot.Slot.TheVariants as slots
use Rattle.shared_disk.specs.Events.{Fences, Writes}
use Rattle.shared_disk.specs.declared.answers.DiskNo.TheVariants as refusals
use Rattle.watch.specs.Looks.{count_of, look_at}
use Rattle.host_runs.specs.DeviceCalls.{HasDone, HasShown, IsRefused, OnImage}
use Rattle.host_runs.specs.FileUses.{is_hint_place}
use Rattle.host_runs.specs.FullCauses.{HasMetFull}
use Rattle.host_runs.specs.HintCauses.{HasCollected, HasLogged, HasMerged, HasScanned, HasServed}
use Rattle.host_runs.specs.Memories.{HasFile}
use Rattle.host_runs.specs.Moments.{Moment}
use Rattle.host_runs.specs.NotedCalls.{ShowsSlot, WritesKind}
use Rattle.host_runs.specs.SlotCauses.{ClaimFinds, ClaimFindsLive, HasEntered, HasSeen, IsRecovered}

-- a cut by the device: it shut the key out, or failed; and a block that is not of its kind was met, which no told image has.
-- Death is no cause of a plan: a turn says it beside this
abbrev pub IsCutBy : Moment → CutBy → Type 0
IsCutBy m cuts.Fenced = IsRefused refusals.Fenced m.event
IsCutBy m cuts.Fault = IsRefused refusals.Failed m.event
IsCutBy m cuts.Died = ⊥
IsCutBy m (cuts.Bad place) = (m.before.told ≡ None) × (block : List ℕ) × HasShown place block m.event

-- the host was not seen unchanged three times
abbrev pub IsSeenFew : Moment → ℕ → ℕ → Type 0
IsSeenFew m of n = (m.event ≡ None) × (n ≡ count_of (look_at m.old.watch of)) × (n < 3)

-- the answers that are said by command. `ok`: the host fenced its own key, does not have the file any more, wrote its slot, is to
-- die, or wrote the block; `free`: the slot that was read, or that a claim found, is free; `seen`: it was seen so often in a row;
-- `alive`: it was seen unchanged less than three times, or a claim found it live; `recovered`: the slot is free, its host's journal
-- empty, and none of its locks held; `refused`: the place is no block of hints of the volume
abbrev pub IsOwnCause : Moment → Command → Answer → Type 0
IsOwnCause m commands.Leave Fine = (own : ℕ) × (m.old.memory.key ≡ Some own) × HasDone (Fences own) m.event
IsOwnCause m (commands.Close f) Fine = (HasFile m.geometry m.now.memory.holds f → ⊥) × (HasFile m.geometry m.now.memory.reads f → ⊥)
IsOwnCause m commands.Beat Fine = (block : List ℕ) × WritesKind m.geometry (kinds.Slot m.host) block m.event
IsOwnCause m (commands.Die n) Fine = m.event ≡ None
IsOwnCause m (commands.Scribble place n seen) Fine = (block : List ℕ) × HasDone (Writes place block) m.event
IsOwnCause m (commands.Look of) Free = ShowsSlot m.geometry (kinds.Slot of) slots.Free m.event
IsOwnCause m (commands.Recover of) Free = ClaimFinds m of slots.Free
IsOwnCause m (commands.Look of) (Seen n) = HasSeen m of n
IsOwnCause m (commands.Recover of) (Alive n) = IsSeenFew m of n ⊎ ((n ≡ 1) × ClaimFindsLive m of)
IsOwnCause m (commands.Recover of) Recovered = OnImage m.after (IsRecovered m of)
IsOwnCause m (commands.Scan f i) (Scanned n) = HasScanned m f i n
IsOwnCause m (commands.Collect p) (Collected n) = HasCollected m p n
IsOwnCause m (commands.Scribble place n seen) Refused = (m.event ≡ None) × (is_hint_place m.geometry place ≡ false)
IsOwnCause m command answer = ⊥

-- what each answer says
abbrev pub IsCause : Moment → Answer → Type 0
IsCause m (Plain reply) = m.now.placed ≡ Some reply
IsCause m (Joined key) = HasEntered m key
IsCause m Up = (m.event ≡ None) × (m.joined ≡ true)
IsCause m Down = (m.event ≡ None) × (m.joined ≡ false)
IsCause m (Busy key) = m.now.tries.shown ≡ Some key.0
IsCause m Full = HasMetFull m.geometry m.now.calls
IsCause m (Cut by) = IsCutBy m by
IsCause m (Logged n) = HasLogged m n
IsCause m (Merged counts) = HasMerged m counts
IsCause m (Served counts) = HasServed m counts
IsCause m NoKeys = IsRefused refusals.NoKeys m.event
IsCause m answer = IsOwnCause m m.command answer
