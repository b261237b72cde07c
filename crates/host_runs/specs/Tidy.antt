-- Tidy workloads, and what they are promised.
use Rattle.std.specs.Prelude.{◌≡◌, ◌≢◌, ◌<◌, ℕ, Bool, true, List, Option, Some, IsSome, take}
use Rattle.vol_base.specs.declared.answer.Answer.{Answer}
use Rattle.vol_base.specs.declared.answer.Answer.TheVariants.{Busy, Cut, Full, Plain}
use Rattle.vol_base.specs.declared.command.Command.{Command}
use Rattle.vol_base.specs.declared.command.Command.TheVariants as commands
use Rattle.vol_layout.specs.declared.geometry.Geometry.{Geometry}
use Rattle.workload.specs.declared.line.Line.{Line}
use Rattle.workload.specs.declared.line.Workload.{Workload}
use Rattle.shared_disk.specs.Seen.{DiskSeen}
use Rattle.image_view.specs.HostKeys.{slot_state_at}
use Rattle.image_view.specs.Images.{Image}
use Rattle.image_view.specs.Valid.{IsValid}
use Rattle.histories.specs.Joined.{is_joined}
use Rattle.histories.specs.Lines.{IsAnswered, IsFileLine, IsLine}
use Rattle.histories.specs.Phases.{ArePhased}
use Rattle.host_runs.specs.DeviceCalls.{OnImage}
use Rattle.host_runs.specs.FileUses.{file_used}

-- a command by which a host gives back its hold of a file
abbrev pub Closes : ℕ → Command → Type 0
Closes f (commands.Close of) = of ≡ f
Closes f commands.Leave = Unit {0}
Closes f command = ⊥

-- between two positions stands a line of this host that closes the file
pub record IsClosedBetween (lines : List Line) (p q f host : ℕ) : Type 0 where
  pub at : ℕ
  pub line : Line
  pub after : p < at
  pub before : at < q
  pub is : IsLine lines at line
  pub of : line.host ≡ host
  pub closes : Closes f line.command

-- no death and no recovery
abbrev pub IsLiving : Command → Type 0
IsLiving (commands.Die calls) = ⊥
IsLiving (commands.Recover of) = ⊥
IsLiving command = Unit {0}

-- each phase is one host's; no host dies or is recovered; and between two hosts' uses of a file the first one closes it
pub record IsTidy (lines : List Line) : Type 0 where
  pub alone : (p q : ℕ) (l m : Line) → IsLine lines p l → IsLine lines q m → l.phase ≡ m.phase → l.host ≡ m.host
  pub living : (p : ℕ) (l : Line) → IsLine lines p l → IsLiving l.command
  pub closed : (p q f : ℕ) (l m : Line) → p < q → IsLine lines p l → IsLine lines q m → l.host ≢ m.host
      → file_used l.command ≡ Some f → file_used m.command ≡ Some f → IsClosedBetween lines p q f l.host

-- a tidy workload by hosts below 16, its lines by phase
pub record IsTidyWork (lines : List Line) : Type 0 where
  pub phased : ArePhased lines
  pub tidy : IsTidy lines
  pub hosts : (p : ℕ) (l : Line) → IsLine lines p l → l.host < 16

-- each slot is free
abbrev pub HasFreeSlots : Geometry → Image → Type 0
HasFreeSlots g image = (h : ℕ) → h < g.hosts → slot_state_at g image h ≡ 0

-- a device that tells a valid volume whose slots are all free
pub record IsReady (w : Workload) (device : DiskSeen) : Type 0 where
  pub told : IsSome device.state.told
  pub valid : OnImage device.state (IsValid w.geometry device.state.counter)
  pub free : OnImage device.state (HasFreeSlots w.geometry)

-- neither `busy` nor a cut
abbrev pub IsUnstopped : Answer → Type 0
IsUnstopped (Busy key) = ⊥
IsUnstopped (Cut by) = ⊥
IsUnstopped answer = Unit {0}

-- a plain reply, or `full` for a `write`
abbrev pub IsServed : Command → Answer → Type 0
IsServed command (Plain reply) = Unit {0}
IsServed (commands.Write f i n) Full = Unit {0}
IsServed command answer = ⊥

-- whether a host is joined at a position, by the answers before it
abbrev pub joined_at : List Line → List (Option Answer) → ℕ → ℕ → Bool
joined_at lines given position host = is_joined lines (take position given) host

-- no command was stopped, and each file command of a joined host was served
pub record IsComplete (lines : List Line) (given : List (Option Answer)) : Type 0 where
  pub unstopped : (p : ℕ) (answer : Answer) → IsAnswered given p answer → IsUnstopped answer
  pub served : (p : ℕ) (line : Line) (answer : Answer) → IsLine lines p line → IsFileLine line → IsAnswered given p answer
      → joined_at lines given p line.host ≡ true → IsServed line.command answer
