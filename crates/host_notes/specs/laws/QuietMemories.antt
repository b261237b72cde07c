-- A call that changed no slot, no lock and no key leaves what a host remembers.
use Rattle.std.proofs.Common.{◌≡◌, ◌≢◌, ◌%◌, ℕ, List, [], Some, refl, sym, ◌∙◌, subst, true≢false}
use Rattle.vol_layout.specs.declared.geometry.Geometry.{Geometry}
use Rattle.vol_layout.specs.declared.kind.Kind.{Kind}
use Rattle.vol_layout.specs.declared.kind.Kind.TheVariants as kinds
use Rattle.vol_layout.specs.Places.{kind_at, place_of}
use Rattle.shared_disk.specs.Events.{Call, Reply, Done, Gives, Refuses, Registers, Tests, Writes, event}
use Rattle.shared_disk.specs.declared.answers.DiskNo.TheVariants as refusals
use Rattle.lock_store.specs.declared.answers.StepNo.{StepNo}
use Rattle.lock_store.specs.declared.answers.StepNo.TheVariants as steps
use Rattle.lock_store.specs.declared.host.HostState.{HostState}
use Rattle.lock_store.specs.Events.{IsRefusal}
use Rattle.lock_store.specs.Memories.{dropped, key_of}
use Rattle.lock_store.specs.Views.{LocksView, host_at, key_at}
use Rattle.disk_locks.specs.MayWrite.{IsWritable}
use Rattle.host_runs.specs.Memories.{Memory, no_memory, remembered, with_block}
use Rattle.host_notes.specs.Asked.{IsQuiet}
use Rattle.host_notes.specs.Remembered.{IsRemembered, RemembersCall}
use Rattle.host_notes.specs.lemmas.Dropped.{no_claim, no_hold}
use Rattle.host_notes.specs.lemmas.Lists.{none_in}
use Rattle.host_notes.specs.lemmas.PlainKinds.{writable_kind}
use Rattle.host_notes.specs.lemmas.WrittenBlocks.{block_kept}

-- a block that is no slot and no lock is not kept in mind
block_quiet : (g : Geometry) (h own : ℕ) (kind : Kind) (block : List ℕ) (memory : Memory) → IsWritable g kind
    → with_block (kind_at g (place_of g kind)) h own (place_of g kind) block memory ≡ memory
block_quiet g h own kind block memory writable =
    block_kept g h own kind block memory (writable_kind g kind writable) ∙ of_kind kind writable
  where
    of_kind : (kind : Kind) → IsWritable g kind → with_block (Some kind) h own (place_of g kind) block memory ≡ memory
    of_kind kinds.Super writable = absurd writable
    of_kind (kinds.Slot y) writable = absurd writable
    of_kind (kinds.Lock r) writable = absurd writable
    of_kind kind writable = refl

-- the memory in the notes stays as it is
pub remembered_quiet : (g : Geometry) (h own : ℕ) (call : Call) (reply : Reply) (memory : Memory) → IsQuiet g call reply
    → remembered g h (event own call reply) memory ≡ memory
remembered_quiet g h own (Writes place block) Done memory quiet =
    subst (λ p. with_block (kind_at g p) h own p block memory ≡ memory) (sym quiet.at)
    (block_quiet g h own quiet.kind block memory quiet.writable)
remembered_quiet g h own (Tests place old new) Done memory quiet =
    subst (λ p. with_block (kind_at g p) h own p new memory ≡ memory) (sym quiet.at)
    (block_quiet g h own quiet.kind new memory quiet.writable)
remembered_quiet g h own (Registers of) (Gives key) memory quiet = absurd quiet
remembered_quiet g h own call reply memory quiet = refl

-- so it is remembered, where the host's memory stays too
pub remembered_same : (v l : LocksView) (h : ℕ) (memory : Memory) (call : Call) (reply : Reply)
    → IsRemembered v.geometry memory (host_at v h) → IsQuiet v.geometry call reply → host_at l h ≡ host_at v h
    → RemembersCall v h memory call reply l
remembered_same v l h memory call reply is quiet same =
    subst (λ (x : Memory). IsRemembered v.geometry x (host_at l h))
    (sym (remembered_quiet v.geometry h (key_at v h) call reply memory quiet))
    (subst (λ (x : HostState). IsRemembered v.geometry memory x) (sym same) is)

-- a host without a key remembers nothing, and so does one that was dropped by a refusal
pub remembered_drop : (g : Geometry) → IsRemembered g no_memory dropped
unfolding dropped
remembered_drop g = record {
  key = refl;
  holds = λ r has there. absurd (none_in (place_of g (kinds.Lock r)) [] refl there);
  reads = λ r has there. absurd (none_in (place_of g (kinds.Lock r)) [] refl there);
  places = λ place there. absurd (none_in place [] refl there);
  claims = λ y below. (λ there. absurd (none_in y [] refl there), λ some. absurd (some (no_claim y)));
  left = refl;
  stays = λ none. refl;
  apart = λ r held. absurd (true≢false (sym held ∙ no_hold r));
  own = λ joined. no_claim (key_of dropped % 16);
}

dropped_now : (v l : LocksView) (h : ℕ) → host_at l h ≡ dropped → IsRemembered v.geometry no_memory (host_at l h)
dropped_now v l h mine = subst (λ (x : HostState). IsRemembered v.geometry no_memory x) (sym mine) (remembered_drop v.geometry)

pub remembered_refused : (v l : LocksView) (h : ℕ) (call : Call) (place : ℕ) (Fits : List ℕ → Type 0) (why : StepNo) → why ≢ steps.NoMemory
    → IsRefusal v h call place Fits why l → IsRemembered v.geometry no_memory (host_at l h)
remembered_refused v l h call place Fits steps.Fenced other refused = dropped_now v l h refused.mine
remembered_refused v l h call place Fits steps.Failed other refused = dropped_now v l h refused.mine
remembered_refused v l h call place Fits (steps.Bad at) other refused = dropped_now v l h refused.1.1.mine
remembered_refused v l h call place Fits steps.NoMemory other refused = absurd (other refl)

-- where the device had no memory for the call, all is as before
pub remembered_unheard : (v l : LocksView) (h : ℕ) (memory : Memory) (call : Call) (place : ℕ) (Fits : List ℕ → Type 0)
    → IsRemembered v.geometry memory (host_at v h)
    → IsRefusal v h call place Fits steps.NoMemory l → RemembersCall v h memory call (Refuses refusals.NoMemory) l
remembered_unheard v l h memory call place Fits is refused =
    remembered_same v l h memory call (Refuses refusals.NoMemory) is tt refused.mine
