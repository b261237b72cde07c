-- A step that was refused cuts its command.
use Rattle.std.proofs.Common.{◌≡◌, ◌≢◌, ℕ, List, None, Some, refl, ap, sym, ◌∙◌}
use Rattle.shared_disk.specs.Events.{Call, Changes, Fences, Reads, Refuses, Registers, Reply, Shows, Tests, Writes, event}
use Rattle.shared_disk.specs.State.{State}
use Rattle.shared_disk.specs.declared.answers.DiskNo.TheVariants as refusals
use Rattle.lock_store.specs.declared.answers.StepNo.{StepNo}
use Rattle.lock_store.specs.declared.answers.StepNo.TheVariants as steps
use Rattle.lock_store.specs.declared.host.HostState.{HostState}
use Rattle.lock_store.specs.Events.{Did, IsRefusal}
use Rattle.lock_store.specs.Memories.{dropped}
use Rattle.lock_store.specs.Views.{host_at, key_at, told_of}
use Rattle.host_runs.specs.DeviceCalls.{shown_at}
use Rattle.host_runs.specs.Notes.{Notes}
use Rattle.vol_base.specs.declared.command.Command.{Command}
use Rattle.plan_parts.specs.QuietCalls.{Allows}
use Rattle.host_notes.specs.laws.TurnLaws.{refused_same, shown_same}
use Rattle.host_facts.specs.Others.{Others}
use Rattle.host_facts.specs.Views.{WorldView}
use Rattle.host_notes.specs.laws.LockRights.{allowed_unlock}
use Rattle.host_notes.specs.laws.OtherRights.{allowed_plain}
use Rattle.lock_store.specs.Calls.{AnyBlock, WritesBlock}
use Rattle.lock_store.specs.Events.{read_of}
use Rattle.disk_locks.specs.Calls.{Unlocks}
use Rattle.disk_locks.specs.Consistent.{Consistent}
use Rattle.disk_locks.specs.MayWrite.{IsWritable}
use Rattle.slot_lock_blocks.specs.declared.lock.LockWord.TheVariants as words
use Rattle.slot_lock_blocks.specs.LockWords.{lock_bytes}
use Rattle.std.specs.Prelude.{Err}
use Rattle.vol_layout.specs.declared.kind.Kind.{Kind}
use Rattle.vol_layout.specs.declared.kind.Kind.TheVariants as kinds
use Rattle.vol_layout.specs.declared.kind.Resource.{Resource}
use Rattle.vol_layout.specs.Places.{place_of}
use Rattle.vol_layout.specs.Ranges.{HasResource}
use Rattle.plan_parts.specs.Cuts.{IsCauseOf, IsCut, IsCutBy, IsUntouched}

-- the place of a call
abbrev pub IsAt : Call → ℕ → Type 0
IsAt (Reads at) place = at ≡ place
IsAt (Writes at block) place = at ≡ place
IsAt (Tests at old new) place = at ≡ place
IsAt (Registers of) place = Unit {0}
IsAt (Fences target) place = Unit {0}

-- a block that it shows stands there
shown_there : (call : Call) (place : ℕ) (block : List ℕ) (s t : State) → IsAt call place → Changes call (Shows block) s t
    → shown_at call (Shows block) ≡ Some (place, block)
shown_there (Reads at) place block s t here changes = ap (λ (p : ℕ). Some (p, block)) here
shown_there (Tests at old new) place block s t here changes = ap (λ (p : ℕ). Some (p, block)) here
shown_there call place block s t here changes = absurd changes

module _ (command : Command) (v w : WorldView) (h : ℕ) (call : Call) (place : ℕ) (here : IsAt call place) (others : Others h v w)
    (Before : Notes → Type 0) (allowed : (reply : Reply) → Allows command h v (event (key_at v.locks h) call reply) Before) where
  cut : (reply : Reply) (m : HostState) (why : StepNo) → Did v.locks h call reply m w.locks → w.locks.disk.state ≡ v.locks.disk.state
      → IsCauseOf why (event (key_at v.locks h) call reply) v → (why ≢ steps.NoMemory → m ≡ dropped)
      → (why ≡ steps.NoMemory → m ≡ host_at v.locks h) → IsCutBy command h v w why Before
  cut reply m why did state cause drops stays = (
    event (key_at v.locks h) call reply,
    record {
      acts = did.acts;
      cause = cause;
      state = state;
      geometry = did.geometry;
      others = others;
      memory = λ other. did.mine ∙ drops other;
      same = λ is. did.mine ∙ stays is;
      allowed = allowed reply;
    },
  )

  -- as the device answered, or by a block that does not fit, which no told image shows
  pub cut_of : (Fits : List ℕ → Type 0) (why : StepNo) → IsRefusal v.locks h call place Fits why w.locks
      → ((at : ℕ) → why ≡ steps.Bad at → told_of v.locks ≡ None) → IsCutBy command h v w why Before
  cut_of Fits steps.Fenced did sound =
      cut (Refuses refusals.Fenced) dropped steps.Fenced did (refused_same _ v.locks.disk w.locks.disk refusals.Fenced did.acts refl)
      refl (λ other. refl) (λ e. absurd cc)
  cut_of Fits steps.Failed did sound =
      cut (Refuses refusals.Failed) dropped steps.Failed did (refused_same _ v.locks.disk w.locks.disk refusals.Failed did.acts refl)
      refl (λ other. refl) (λ e. absurd cc)
  cut_of Fits steps.NoMemory did sound =
      cut (Refuses refusals.NoMemory) (host_at v.locks h) steps.NoMemory did
      (refused_same _ v.locks.disk w.locks.disk refusals.NoMemory did.acts refl) refl (λ other. absurd (other refl)) (λ e. refl)
  cut_of Fits (steps.Bad at) did sound =
      let found = did.1 in
      cut (Shows found.0) dropped (steps.Bad at) found.1
      (shown_same _ v.locks.disk w.locks.disk found.0 found.1.acts refl) (
        sound at refl,
        found.0,
        shown_there call place found.0 v.locks.disk.state w.locks.disk.state here found.1.acts.changes
            ∙ ap (λ (p : ℕ). Some (p, found.0)) (sym did.0),
      )
      (λ other. refl) (λ e. absurd cc)

-- a write shows no block: it was refused by the device
pub cut_written : (command : Command) (v w : WorldView) (h place : ℕ) (block : List ℕ) (why : StepNo) → Others h v w
    → (Before : Notes → Type 0)
    → ((reply : Reply) → Allows command h v (event (key_at v.locks h) (Writes place block) reply) Before)
    → IsRefusal v.locks h (Writes place block) place AnyBlock why w.locks → IsCutBy command h v w why Before
cut_written command v w h place block why others Before allowed refused =
    cut_of command v w h (Writes place block) place refl others Before allowed AnyBlock why refused (never why refused)
  where
    never : (why : StepNo) → IsRefusal v.locks h (Writes place block) place AnyBlock why w.locks → (at : ℕ) → why ≡ steps.Bad at
        → told_of v.locks ≡ None
    never (steps.Bad there) refused at is = absurd refused.1.1.acts.changes
    never other refused at is = absurd cc

-- of a plain block, and of a lock that was to be freed
pub cut_write : (v w : WorldView) (h : ℕ) (kind : Kind) (block : List ℕ) (why : StepNo) → IsWritable v.locks.geometry kind → Others h v w
    → WritesBlock v.locks h kind block (host_at v.locks h) (Err why) w.locks → IsCut h v w why
cut_write v w h kind block why writable others refused command =
    cut_written command v w h (place_of v.locks.geometry kind) block why others _ (λ reply t turn of before.
    allowed_plain v.locks h t turn (Writes (place_of v.locks.geometry kind) block) reply
    (record { kind = kind; writable = writable; at = refl })) refused

pub cut_unlock : (v w : WorldView) (h : ℕ) (r : Resource) (why : StepNo) → Consistent v.locks → HasResource v.locks.geometry r
    → Others h v w → Unlocks v.locks h r (Err why) w.locks → IsCut h v w why
cut_unlock v w h r why is has others refused command =
    cut_written command v w h (place_of v.locks.geometry (kinds.Lock r)) (lock_bytes words.Free) why others _
    (λ reply t turn of before. allowed_unlock v.locks h t turn is r reply has) refused

-- a block of a kind was to be read
pub cut_read : (v w : WorldView) (h : ℕ) (kind : Kind) (Fits : List ℕ → Type 0) (why : StepNo) → Others h v w
    → IsRefusal v.locks h (read_of v.locks kind) (place_of v.locks.geometry kind) Fits why w.locks
    → ((at : ℕ) → why ≡ steps.Bad at → told_of v.locks ≡ None) → IsCut h v w why
cut_read v w h kind Fits why others refused sound command =
    cut_of command v w h (read_of v.locks kind) (place_of v.locks.geometry kind) refl others _
    (λ reply t turn of before. allowed_plain v.locks h t turn (read_of v.locks kind) reply tt) Fits why refused sound

-- what any notes allow, notes that say more do
pub cut_weaker : (command : Command) (v w : WorldView) (h : ℕ) (why : StepNo) (Before : Notes → Type 0)
    → IsCutBy command h v w why (λ n. Unit {0}) → IsCutBy command h v w why Before
cut_weaker command v w h why Before (e, cut) = (
  e,
  record {
    acts = cut.acts;
    cause = cut.cause;
    state = cut.state;
    geometry = cut.geometry;
    others = cut.others;
    memory = cut.memory;
    same = cut.same;
    allowed = λ m turn of before. cut.allowed m turn of tt;
  },
)

-- a step that was refused memory did nothing
pub cut_untouched : (command : Command) (h : ℕ) (v w : WorldView) (Before : Notes → Type 0) → IsCutBy command h v w steps.NoMemory Before
    → IsUntouched h v w
cut_untouched command h v w Before (e, cut) = record {
  state = cut.state;
  geometry = cut.geometry;
  memory = cut.same refl;
  room = (cut.acts.memory cut.cause).0;
}
