-- The notes behind a turn.
use Rattle.std.specs.Prelude.{◌≡◌, ◌≢◌, ◌++◌, ◌∷◌, ℕ, suc, List, [], Option, Some, None, fold, zip, if◌then◌else◌}
use Rattle.vol_base.specs.declared.answer.Answer.{Answer}
use Rattle.vol_base.specs.declared.answer.Answer.TheVariants.{Alive, Busy, Fine, Free, Joined, Logged, Plain, Recovered, Scanned, Seen}
use Rattle.vol_base.specs.declared.block.Digest.{Digest}
use Rattle.vol_base.specs.declared.command.Command.{Command}
use Rattle.vol_base.specs.declared.command.Command.TheVariants as commands
use Rattle.vol_base.specs.declared.plain.PlainReply.TheVariants as replies
use Rattle.vol_layout.specs.declared.kind.Kind.TheVariants as kinds
use Rattle.slot_lock_blocks.specs.declared.slot.Slot.{Slot}
use Rattle.hint_blocks.specs.declared.entry.LogEntry.{LogEntry}
use Rattle.hint_blocks.specs.HintLists.{pushed_over}
use Rattle.watch.specs.declared.watch.Look.{Look}
use Rattle.watch.specs.Looks.{IsLook, look_at, nothing, seen}
use Rattle.host_runs.specs.Awaited.{MayAskFor}
use Rattle.host_runs.specs.DeviceCalls.{OnImage}
use Rattle.host_runs.specs.HintCauses.{mapped_from}
use Rattle.host_runs.specs.Memories.{drops, memory_after}
use Rattle.host_runs.specs.Moments.{Moment}
use Rattle.host_runs.specs.NotedCalls.{ShowsSlot}
use Rattle.host_runs.specs.Notes.{NotedCall, Notes, at_rest}
use Rattle.host_runs.specs.SlotCauses.{ClaimFinds}

-- the number of calls since the standing death: a `die` begins to count anew
abbrev pub dying_after : Answer → Command → ℕ → ℕ
dying_after Fine (commands.Die (suc calls)) dying = 0
dying_after answer command dying = dying

-- one more pending hint; of 127 the oldest is lost
abbrev pub hint_pushed : ℕ → List LogEntry → Digest × ℕ → List LogEntry
hint_pushed f pending hint = pushed_over 126 pending (record { digest = hint.0; file = f; index = hint.1 })

-- the hints of a scan: one for each block that it counted, in order
pub record HasScannedHints (m : Moment) (f i : ℕ) (pending : List LogEntry) : Type 0 where
  pub earlier : List NotedCall
  pub last : NotedCall
  pub calls : m.now.calls ≡ earlier ++ last ∷ []
  pub hints : OnImage last.before
      (λ image. pending ≡ fold (hint_pushed f) m.old.pending (zip m.now.digests (mapped_from m.geometry image f i)))

-- the pending hints behind a write that is done: one for its block
abbrev pub HasWrittenHint : Command → Moment → List LogEntry → Type 0
HasWrittenHint (commands.Write f i n) m pending =
    (digest : Digest) → m.now.digests ≡ digest ∷ [] → pending ≡ hint_pushed f m.old.pending (digest, i)
HasWrittenHint command m pending = pending ≡ m.old.pending

abbrev pub HasScanHints : Command → Moment → List LogEntry → Type 0
HasScanHints (commands.Scan f i) m pending = HasScannedHints m f i pending
HasScanHints command m pending = pending ≡ m.old.pending

-- the pending hints behind an answer: none where the host is dropped, has just joined, or has logged them
abbrev pub HasPending : Answer → Moment → List LogEntry → Type 0
HasPending (Joined key) m pending = pending ≡ []
HasPending (Plain replies.Done) m pending = HasWrittenHint m.command m pending
HasPending (Logged (suc n)) m pending = pending ≡ []
HasPending (Scanned n) m pending = HasScanHints m.command m pending
HasPending answer m pending = pending ≡ (if drops answer m.command then [] else m.old.pending)

-- the looks at all hosts but one are as before
abbrev pub LooksKept : ℕ → Moment → List (Option Look) → Type 0
LooksKept of m watch = (k : ℕ) → k ≢ of → look_at watch k ≡ look_at m.old.watch k

-- a look more at the slot that was read
abbrev pub HasLooked : Command → Moment → List (Option Look) → Type 0
HasLooked (commands.Look of) m watch =
    LooksKept of m watch
    × ((slot : Slot) → ShowsSlot m.geometry (kinds.Slot of) slot m.event → IsLook slot (look_at m.old.watch of) (look_at watch of))
HasLooked command m watch = watch ≡ m.old.watch

-- the slot is forgotten
abbrev pub HasForgotten : Command → Moment → List (Option Look) → Type 0
HasForgotten (commands.Look of) m watch = LooksKept of m watch × (look_at watch of ≡ None)
HasForgotten (commands.Recover of) m watch = LooksKept of m watch × (look_at watch of ≡ None)
HasForgotten command m watch = watch ≡ m.old.watch

-- the slot that a claim found is seen once; where none was tried, the looks stay
abbrev pub HasFoundOther : Answer → Command → Moment → List (Option Look) → Type 0
HasFoundOther answer (commands.Recover of) m watch =
    LooksKept of m watch
    × ((slot : Slot) → ClaimFinds m of slot → look_at watch of ≡ seen slot 1)
    × (m.event ≡ None → look_at watch of ≡ look_at m.old.watch of)
HasFoundOther answer command m watch = watch ≡ (if drops answer command then nothing else m.old.watch)

-- the looks behind an answer: none where the host is dropped or has just joined
abbrev pub HasWatch : Answer → Moment → List (Option Look) → Type 0
HasWatch (Joined key) m watch = watch ≡ nothing
HasWatch (Seen n) m watch = HasLooked m.command m watch
HasWatch Free m watch = HasForgotten m.command m watch
HasWatch Recovered m watch = HasForgotten m.command m watch
HasWatch (Alive n) m watch = HasFoundOther (Alive n) m.command m watch
HasWatch (Busy key) m watch = HasFoundOther (Busy key) m.command m watch
HasWatch answer m watch = watch ≡ (if drops answer m.command then nothing else m.old.watch)

-- behind an answer the host is at rest: it keeps its memory, the calls since its standing death, its pending hints and its looks
pub record IsAtRest (m : Moment) (answer : Answer) (later : Notes) : Type 0 where
  pub pending : HasPending answer m later.pending
  pub watch : HasWatch answer m later.watch
  pub rest : later ≡ at_rest (memory_after answer m.command m.now.memory) (dying_after answer m.command m.now.dying) later.pending later.watch

-- the notes behind a turn: a command that goes on may ask for a digest
abbrev pub IsNotedAfter : Moment → Option Answer → Notes → Type 0
IsNotedAfter m None later = MayAskFor m.geometry m.command m.event later.asks × (later ≡ record m.now { asks = later.asks })
IsNotedAfter m (Some answer) later = IsAtRest m answer later
