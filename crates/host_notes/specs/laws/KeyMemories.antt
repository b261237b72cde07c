-- What a host remembers at the start, behind an answer, and of its key.
use Rattle.std.proofs.Common.{◌≡◌, ◌%◌, ℕ, None, Some, true, false, refl, sym, ◌∙◌, subst, inl, inr, true≢false}
use Rattle.std.specs.Prelude.{Err, Ok}
use Rattle.std.proofs.lemmas.Bool.{cases_Bool}
use Rattle.vol_base.specs.declared.answer.Answer.{Answer}
use Rattle.vol_base.specs.declared.block.Key.{Key}
use Rattle.vol_base.specs.declared.command.Command.{Command}
use Rattle.vol_layout.specs.declared.geometry.Geometry.{Geometry}
use Rattle.vol_layout.specs.declared.kind.Resource.{Resource}
use Rattle.shared_disk.specs.Events.{Done, Fences, Gives, Refuses, Registers}
use Rattle.shared_disk.specs.declared.answers.DiskNo.{DiskNo}
use Rattle.lock_store.specs.declared.host.HostState.{HostState}
use Rattle.lock_store.specs.Calls.{FencesKey, RegistersHost}
use Rattle.lock_store.specs.Memories as host
use Rattle.lock_store.specs.Memories.{claim_of, dropped, key_of, may_read, registered}
use Rattle.lock_store.specs.Views.{LocksView, host_at, key_at}
use Rattle.disk_locks.specs.Consistent.{Consistent}
use Rattle.host_runs.specs.Memories.{Memory, drops, memory_after, no_memory}
use Rattle.host_runs.specs.Notes.{no_notes}
use Rattle.host_notes.specs.Remembered.{IsRemembered, RemembersCall}
use Rattle.host_notes.specs.laws.QuietMemories.{remembered_drop, remembered_same}
use Rattle.host_notes.specs.lemmas.Dropped.{no_claim, no_hold}

-- before its first command
pub remembered_start : (g : Geometry) (m : HostState) → m ≡ dropped → IsRemembered g no_notes.memory m
remembered_start g m none = subst (λ (x : HostState). IsRemembered g no_notes.memory x) (sym none) (remembered_drop g)

-- behind an answer, where the host is dropped exactly as the notes say
pub remembered_rest : (g : Geometry) (answer : Answer) (command : Command) (memory : Memory) (m : HostState)
    → (drops answer command ≡ true → m ≡ dropped) → (drops answer command ≡ false → IsRemembered g memory m)
    → IsRemembered g (memory_after answer command memory) m
remembered_rest g answer command memory m none is =
    elim (cases_Bool (drops answer command)) [
      | inl gone ↦ rw gone (subst (λ (x : HostState). IsRemembered g no_memory x) (sym (none gone)) (remembered_drop g))
      | inr kept ↦ rw kept (is kept)
    ]

-- what may not be read is neither held nor read
unheld : (m : HostState) (r : Resource) → may_read m r ≡ false → (host.holds m r ≡ false) × (host.reads m r ≡ false)
unheld m r out = elim (cases_Bool (host.holds m r)) [
  | inl held ↦ let may : may_read m r ≡ true = rw held refl in absurd (true≢false (sym may ∙ out))
  | inr none ↦ (none, rw none at out)
]

-- a host that had no key, which holds, reads and claims nothing, was given one
keyed : (g : Geometry) (key : Key) (memory : Memory) (m : HostState) → ((r : Resource) → may_read m r ≡ false)
    → ((y : ℕ) → claim_of m y ≡ 0) → m.key ≡ None
    → IsRemembered g memory m → IsRemembered g (record memory { key = Some key.0 }) (registered key)
unfolding dropped
keyed g key memory m out unclaimed none is = record {
  key = refl;
  holds = λ r has there. absurd (true≢false (sym (is.holds r has there) ∙ (unheld m r (out r)).0));
  reads = λ r has there. absurd (true≢false (sym (is.reads r has there) ∙ (unheld m r (out r)).1));
  places = is.places;
  claims = λ y below. (λ there. absurd ((is.claims y below).0 there (unclaimed y)), λ some. absurd (some (no_claim y)));
  left = is.left ∙ is.stays none;
  stays = λ without. absurd cc;
  apart = λ r held. absurd (true≢false (sym held ∙ no_hold r));
  own = λ joined. no_claim (key_of (registered key) % 16);
}

module _ (v l : LocksView) (h : ℕ) (memory : Memory) (is : IsRemembered v.geometry memory (host_at v h)) where
  -- a host that had no key was given one
  pub remembered_registers : (key : Key) → Consistent v → key_at v h ≡ 0 → RegistersHost v h (Ok key) l
      → RemembersCall v h memory (Registers h) (Gives key.0) l
  remembered_registers key c none did =
      subst (λ (x : HostState). IsRemembered v.geometry (record memory { key = Some key.0 }) x) (sym did.mine)
      (keyed v.geometry key memory (host_at v h) ((c.memories h).out ((c.memories h).keyless none)) ((c.memories h).unclaimed none)
      ((c.memories h).none none) is)

  -- it was given none
  pub remembered_unregistered : (why : DiskNo) → RegistersHost v h (Err why) l → RemembersCall v h memory (Registers h) (Refuses why) l
  remembered_unregistered why did = remembered_same v l h memory (Registers h) (Refuses why) is tt did.mine

  -- a key was taken off
  pub remembered_fences : (target : Key) (done : Unit) → FencesKey v h target (Ok done) l
      → RemembersCall v h memory (Fences target.0) Done l
  remembered_fences target done did = remembered_same v l h memory (Fences target.0) Done is tt did.mine
