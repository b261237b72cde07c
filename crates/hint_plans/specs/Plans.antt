-- What stands between two steps of the plan of a command on hints, and what its host's notes agree with there.
use Rattle.std.specs.Prelude.{◌≡◌, ◌≢◌, ◌+◌, ◌++◌, ◌-◌, ◌*◌, ◌<◌, ◌≤◌, ℕ, All, List, [], ◌∷◌, None, Some, codes, false, fold, length, map, slice_set, true, zip}
use Rattle.vol_base.specs.declared.answer.Answer.TheVariants.{Cut}
use Rattle.vol_base.specs.declared.answer.Next.{Next}
use Rattle.vol_base.specs.declared.answer.Next.TheVariants as next
use Rattle.vol_base.specs.declared.answer.Step.{Step}
use Rattle.vol_base.specs.declared.block.Block.{Block}
use Rattle.vol_base.specs.declared.command.Command.{Command}
use Rattle.vol_base.specs.declared.command.Command.TheVariants as commands
use Rattle.vol_base.specs.Packing.{Packing}
use Rattle.vol_layout.specs.declared.geometry.Geometry.{Geometry}
use Rattle.vol_layout.specs.declared.kind.Kind.TheVariants as kinds
use Rattle.vol_layout.specs.declared.kind.Table.{Table}
use Rattle.vol_layout.specs.declared.kind.Resource.TheVariants.{File}
use Rattle.vol_layout.specs.Places.{kind_at, place_of}
use Rattle.vol_layout.specs.Ranges.{limit}
use Rattle.hint_blocks.specs.declared.entry.LogEntry.{LogEntry}
use Rattle.hint_blocks.specs.Entries.{log_bytes}
use Rattle.hint_blocks.specs.HintLists.{HintList, hint_block}
use Rattle.lock_store.specs.declared.answers.StepNo.{StepNo}
use Rattle.lock_store.specs.Memories.{holds}
use Rattle.lock_store.specs.Views.{host_at, told_of}
use Rattle.disk_locks.specs.Sure.{BothTold}
use Rattle.host_facts.specs.Facts.Fact.{TableIs}
use Rattle.host_facts.specs.Knows.{Knows}
use Rattle.host_facts.specs.Views.{WorldView}
use Rattle.host_runs.specs.Awaited.{wanted}
use Rattle.host_runs.specs.FileUses.{is_hint_place}
use Rattle.host_runs.specs.DeviceCalls.{OnImage}
use Rattle.host_runs.specs.HintCauses.{mapped_from}
use Rattle.host_runs.specs.Notes.{NotedCall, Notes}
use Rattle.host_runs.specs.Rests.{hint_pushed}
use Rattle.plan_parts.specs.Cuts.{IsCutBy}
use Rattle.plan_parts.specs.Holds.{IsWriteTaking, NotedWrite, calls_left}
use Rattle.plan_parts.specs.QuietCalls.{Noted}
use Rattle.plan_parts.specs.Steps.{IsAtRest, IsReady, OwesStep}
use Rattle.plan_parts.specs.declared.outcome.Outcome.TheVariants.{Open}
use Rattle.hint_plans.specs.Logs.{AreRead, IsSeenEmpty}
use Rattle.hint_plans.specs.Scans.{IsScan, indexes}
use Rattle.hint_plans.specs.Scribbles.{scribbled}
use Rattle.hint_plans.specs.declared.plan.Come.{Come}
use Rattle.hint_plans.specs.declared.plan.Come.TheVariants as comes
use Rattle.hint_plans.specs.declared.plan.Doing.{Doing}
use Rattle.hint_plans.specs.declared.plan.Doing.TheVariants as doings
use Rattle.hint_plans.specs.declared.scan.Scan.{Scan}

-- the command of a plan
abbrev pub command_of : Doing → Command
command_of (doings.Asks s) = commands.Scribble s.place s.number s.seen
command_of (doings.Puts s digest) = commands.Scribble s.place s.number s.seen
command_of (doings.ReadsLog l) = commands.Log
command_of (doings.WritesLog l) = commands.Log
command_of (doings.BeginsScan f i) = commands.Scan f i
command_of (doings.HoldsFile f i t) = commands.Scan f i
command_of (doings.ReadsHead f i) = commands.Scan f i
command_of (doings.ReadsTable s) = commands.Scan s.file s.index
command_of (doings.ReadsBlock s) = commands.Scan s.file s.index
command_of (doings.AsksBlock s block) = commands.Scan s.file s.index
command_of doings.Ended = commands.Log

-- what stands before each step, beside the host, with its pending hints
abbrev pub StandsAt : WorldView → ℕ → List LogEntry → Doing → Type 0
StandsAt v h pending (doings.Asks s) = Unit {0}
StandsAt v h pending (doings.Puts s digest) = is_hint_place v.locks.geometry s.place ≡ true
StandsAt v h pending (doings.ReadsLog l) = l < v.locks.geometry.logs
StandsAt v h pending (doings.WritesLog l) = (l < v.locks.geometry.logs) × (pending ≢ [])
StandsAt v h pending (doings.BeginsScan f i) = f < v.locks.geometry.files
StandsAt v h pending (doings.HoldsFile f i t) = (f < v.locks.geometry.files) × IsWriteTaking v h f t
StandsAt v h pending (doings.ReadsHead f i) = (f < v.locks.geometry.files) × (holds (host_at v.locks h) (File f) ≡ true)
StandsAt v h pending (doings.ReadsTable s) = IsScan v h s × (s.looked < s.many) × (s.done ≡ 0)
StandsAt v h pending (doings.ReadsBlock s) = IsScan v h s × (s.looked ≡ s.many) × (s.done ≤ length s.found)
StandsAt v h pending (doings.AsksBlock s block) = IsScan v h s × (s.looked ≡ s.many) × (s.done < length s.found)
StandsAt v h pending doings.Ended = ⊥

-- a host of the volume that is ready, with its pending hints
pub record IsHost (v : WorldView) (h : ℕ) (pending : HintList LogEntry) : Type 0 where
  pub host : h < v.locks.geometry.hosts
  pub ready : IsReady v h
  pub volume : pending.geometry ≡ v.locks.geometry

pub record PlanStands (v : WorldView) (h : ℕ) (pending : HintList LogEntry) (doing : Doing) : Type 0 where
  pub is_host : IsHost v h pending
  pub at : StandsAt v h pending.entries doing

-- the notes of a host between two commands, and of a command that has come to nothing yet, with these pending hints
pub record RestsWith (h : ℕ) (v : WorldView) (pending : List LogEntry) (n : Notes) : Type 0 where
  pub rests : IsAtRest v h n
  pub pending_is : n.pending ≡ pending

pub record OpenNoted (command : Command) (h : ℕ) (v : WorldView) (pending : List LogEntry) (n : Notes) : Type 0 where
  pub noted : Noted command h v Open n
  pub pending_is : n.pending ≡ pending

-- where the device told its content at the last call, the file had these blocks
pub record HasSeen (g : Geometry) (f i : ℕ) (found : List ℕ) (calls : List NotedCall) : Type 0 where
  pub earlier : List NotedCall
  pub last : NotedCall
  pub calls_are : calls ≡ earlier ++ last ∷ []
  pub mapped : OnImage last.before (λ image. mapped_from g image f i ≡ found)

-- the notes of a scan that reads blocks: so many digests were handed in, each of which became a pending hint
pub record ScanNoted (h : ℕ) (v : WorldView) (pending : List LogEntry) (s : Scan) (n : Notes) : Type 0 where
  pub noted : Noted (commands.Scan s.file s.index) h v Open n
  pub many : length n.digests ≡ s.done
  pub hints : pending ≡ fold (hint_pushed s.file) n.pending (zip n.digests (indexes s.found))
  pub seen : HasSeen v.locks.geometry s.file s.index (indexes s.found) n.calls

-- what the notes agree with before each step: the digest that is written is the one that was handed in
abbrev pub Agrees : ℕ → WorldView → List LogEntry → Doing → Notes → Type 0
Agrees h v pending (doings.Asks s) n = RestsWith h v pending n
Agrees h v pending (doings.Puts s digest) n =
    OpenNoted (commands.Scribble s.place s.number s.seen) h v pending n × (n.digests ≡ digest ∷ [])
Agrees h v pending (doings.ReadsLog l) n = OpenNoted commands.Log h v pending n × AreRead v.locks.geometry h l n.calls
Agrees h v pending (doings.WritesLog l) n = OpenNoted commands.Log h v pending n × IsSeenEmpty v.locks.geometry h l n.calls
Agrees h v pending (doings.BeginsScan f i) n = RestsWith h v pending n
Agrees h v pending (doings.HoldsFile f i t) n =
    NotedWrite (commands.Scan f i) h v t n × (n.pending ≡ pending) × (n.digests ≡ [])
Agrees h v pending (doings.ReadsHead f i) n = OpenNoted (commands.Scan f i) h v pending n × (n.digests ≡ [])
Agrees h v pending (doings.ReadsTable s) n = OpenNoted (commands.Scan s.file s.index) h v pending n × (n.digests ≡ [])
Agrees h v pending (doings.ReadsBlock s) n = ScanNoted h v pending s n
Agrees h v pending (doings.AsksBlock s block) n = ScanNoted h v pending s (record n { asks = None }) × (n.asks ≡ Some block)
Agrees h v pending doings.Ended n = ⊥

-- how many steps are left at most
abbrev pub left : Geometry → Doing → ℕ
left g (doings.Asks s) = 2
left g (doings.Puts s digest) = 1
left g (doings.ReadsLog l) = g.logs - l + 1
left g (doings.WritesLog l) = 1
left g (doings.BeginsScan f i) = 384 + g.hosts
left g (doings.HoldsFile f i t) = calls_left g.hosts t + 380
left g (doings.ReadsHead f i) = 380
left g (doings.ReadsTable s) = 379 - s.looked
left g (doings.ReadsBlock s) = 2 * (126 - s.done) + 1
left g (doings.AsksBlock s block) = 2 * (126 - s.done)
left g doings.Ended = 0

-- a plan waits for a digest
abbrev pub IsAsking : Doing → Type 0
IsAsking (doings.Asks s) = Unit {0}
IsAsking (doings.AsksBlock s block) = Unit {0}
IsAsking doing = ⊥

-- the next block of a scan may become a pending hint
abbrev pub MayHint : Geometry → Scan → Type 0
MayHint g s = (s.done < length s.found) × (s.file < g.files) × All (λ m. m.index < limit g) s.found

-- a step may be refused there: where a digest is asked for it makes no call, and a `log` makes one only where a hint is pending
abbrev pub MayStop : List LogEntry → Doing → Type 0
MayStop pending (doings.Asks s) = ⊥
MayStop pending (doings.AsksBlock s block) = ⊥
MayStop pending (doings.ReadsLog l) = pending ≢ []
MayStop pending doing = Unit {0}

-- the step that says what was done
abbrev pub called_step : Next → Step
called_step after = record { placed = None; called = true; next = after }

abbrev pub uncalled_step : Next → Step
uncalled_step after = record { placed = None; called = false; next = after }

abbrev pub step_of : Come → Step
step_of (comes.More doing) = called_step next.More
step_of (comes.Answered answer) = called_step (next.Answered answer)
step_of (comes.Uncalled answer) = uncalled_step (next.Answered answer)
step_of (comes.Works doing block) = uncalled_step (next.Work block)

-- what is done next
abbrev pub later_of : Come → Doing
later_of (comes.More doing) = doing
later_of (comes.Works doing block) = doing
later_of come = doings.Ended

-- what stands behind it, and what the notes agree with there
abbrev pub StandsBehind : WorldView → ℕ → HintList LogEntry → Doing → Come → Type 0
StandsBehind w h pending doing (comes.More later) = PlanStands w h pending later × (command_of later ≡ command_of doing)
StandsBehind w h pending doing come = pending.geometry ≡ w.locks.geometry

abbrev pub Behind : ℕ → WorldView → List LogEntry → Come → Notes → Type 0
Behind h w pending (comes.More later) n = Agrees h w pending later n
Behind h w pending come n = RestsWith h w pending n

-- the block at this place is written, where the device tells its content, and no other one
abbrev pub IsWritten : WorldView → WorldView → ℕ → List ℕ → Type 0
IsWritten v w place block = BothTold (told_of v.locks) (told_of w.locks) (λ old new. new ≡ slice_set old place block)

-- what a step writes: the block of one hint, all pending hints, or the lock of the file; behind any other the device is as before
abbrev pub HasWritten : WorldView → WorldView → ℕ → List LogEntry → Doing → Type 0
HasWritten v w h pending (doings.Puts s digest) =
    IsWritten v w s.place (scribbled (kind_at v.locks.geometry s.place) digest s.seen)
HasWritten v w h pending (doings.WritesLog l) =
    IsWritten v w (place_of v.locks.geometry (kinds.Log h l)) (hint_block (codes "DEDELOGS") (map log_bytes pending))
HasWritten v w h pending (doings.BeginsScan f i) = Unit {0}
HasWritten v w h pending (doings.HoldsFile f i t) = Unit {0}
HasWritten v w h pending doing = w.locks.disk.state ≡ v.locks.disk.state

-- what the host knows of its tables stays
abbrev pub KeepsTables : ℕ → WorldView → WorldView → Type 0
KeepsTables h v w = (t : Table) (p : Packing) → Knows v h (TableIs t p) → Knows w h (TableIs t p)

-- the command was not cut
abbrev pub IsUncut : Come → Type 0
IsUncut (comes.Answered (Cut by)) = ⊥
IsUncut come = Unit {0}

-- what was done by a step of a plan
pub record Came (h : ℕ) (v w : WorldView) (pending after : HintList LogEntry) (doing : Doing) (come : Come) : Type 0 where
  pub owes : OwesStep (command_of doing) h v w (step_of come) (Agrees h v pending.entries doing) (Behind h w after.entries come)
  pub stands : StandsBehind w h after doing come
  pub tables : IsUncut come → KeepsTables h v w
  pub writes : IsUncut come → HasWritten v w h pending.entries doing
  pub fewer : left w.locks.geometry (later_of come) < left v.locks.geometry doing

-- the digest of this block is waited for, which the command asks for: nothing was done, and the plan stands as before
pub record IsWaiting (h : ℕ) (v w : WorldView) (pending after : HintList LogEntry) (doing later : Doing) (block : Block) : Type 0 where
  pub same : w ≡ v
  pub kept : after ≡ pending
  pub stays : later ≡ doing
  pub asks : IsAsking doing
  pub wants : (n : Notes) → Agrees h v pending.entries doing n
      → wanted v.locks.geometry (command_of doing) n.calls n.digests n.asks ≡ Some block

-- a step was refused, and cuts the command
abbrev pub IsCutAt : ℕ → WorldView → WorldView → List LogEntry → Doing → StepNo → Type 0
IsCutAt h v w pending doing why = IsCutBy (command_of doing) h v w why (Agrees h v pending doing)

-- what a step came to
abbrev pub HasCome : ℕ → WorldView → WorldView → HintList LogEntry → HintList LogEntry → Doing → Come → Type 0
HasCome h v w pending after doing (comes.Works later block) = IsWaiting h v w pending after doing later block
HasCome h v w pending after doing come = Came h v w pending after doing come
