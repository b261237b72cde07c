-- The freeing of the locks that a transaction took, last taken first.
use Rattle.std.proofs.Common.{◌≡◌, ◌≢◌, ◌⊎◌, ℕ, List, [], ◌∷◌, true, false, None, Option, ap, sym, subst, ◌∙◌, inl, inr}
use Rattle.std.proofs.Common.{slice_index_or, true≢false}
use Rattle.std.proofs.lemmas.Bool.{cases_eq, false_from_ne_true}
use Rattle.std.specs.Prelude.{◌+◌, Ok, length}
use Rattle.std.proofs.Common.{arith}
use Rattle.vol_layout.specs.declared.geometry.Geometry.{Geometry}
use Rattle.vol_layout.specs.declared.kind.Resource.{Resource}
use Rattle.vol_layout.specs.declared.kind.Resource.TheVariants.{File, Group, Part}
use Rattle.vol_layout.specs.Ranges.{HasResource}
use Rattle.shared_disk.specs.Events.{Done, event}
use Rattle.journal_block.specs.JournalRecord.{JournalRecord}
use Rattle.lock_store.specs.declared.host.HostState.{HostState}
use Rattle.lock_store.specs.Memories.{holds}
use Rattle.lock_store.specs.Views.{host_at, key_at}
use Rattle.disk_locks.specs.Calls.{IsShared, Unlocks}
use Rattle.disk_locks.specs.Consistent.{Consistent}
use Rattle.disk_locks.specs.Freeing.{Unedited}
use Rattle.disk_locks.specs.Others as locks'
use Rattle.disk_locks.specs.Sure.{Sure}
use Rattle.disk_locks.specs.laws.SureLaws.{taken_unedited}
use Rattle.host_facts.specs.Facts.Fact.{RecordIs}
use Rattle.host_facts.specs.Knows.{Knows}
use Rattle.host_facts.specs.Others.{Others}
use Rattle.host_facts.specs.Relocks.{Relocks}
use Rattle.host_facts.specs.Views.{WorldView, with_locks}
use Rattle.host_facts.specs.laws.FactLaws.{joined_key}
use Rattle.host_facts.specs.laws.KeptLaws.{others_of}
use Rattle.host_facts.specs.laws.LockFacts.{unlocked_law}
use Rattle.host_notes.specs.Asked.{unlock_call}
use Rattle.plan_parts.specs.TakenLocks.{AreHeld, IsTaken, IsTaking, LastFreed, LockFreed}
use Rattle.plan_parts.specs.laws.QuietCallLaws.{quiet_unlock}

-- two resources are one, or not
pub one_or_two : (q r : Resource) → (q ≡ r) ⊎ (q ≢ r)
one_or_two (File f) (File e) = elim (cases_eq f e) [ inl same ↦ inl (ap File same) | inr other ↦ inr (λ is. other cc) ]
one_or_two (Part f) (Part e) = elim (cases_eq f e) [ inl same ↦ inl (ap Part same) | inr other ↦ inr (λ is. other cc) ]
one_or_two (Group f) (Group e) = elim (cases_eq f e) [ inl same ↦ inl (ap Group same) | inr other ↦ inr (λ is. other cc) ]
one_or_two (File f) (Part e) = inr (λ is. cc)
one_or_two (File f) (Group e) = inr (λ is. cc)
one_or_two (Part f) (File e) = inr (λ is. cc)
one_or_two (Part f) (Group e) = inr (λ is. cc)
one_or_two (Group f) (File e) = inr (λ is. cc)
one_or_two (Group f) (Part e) = inr (λ is. cc)

-- the same world, but for its locks
pub locks_else : (v w : WorldView) → w.standing ≡ v.standing → w ≡ with_locks v w.locks
locks_else v w same =
    ap (λ (s : List (Option JournalRecord)). let x : WorldView = record { locks = w.locks; standing = s } in x) same

-- what a call on the locks alone leaves to the others
pub others_locks : (v w : WorldView) (h : ℕ) → Consistent v.locks → locks'.Others h v.locks w.locks → w.standing ≡ v.standing
    → Others h v w
others_locks v w h c others same =
    others_of v w h c others (λ x ne. ap (λ (s : List (Option JournalRecord)). slice_index_or s x None) same)

module _ (v w : WorldView) (h : ℕ) (r : Resource) (relocks : Relocks h r v w) where
  -- what else is held stays so
  pub held_on : (after : List Resource) → (IsTaken after r → ⊥) → AreHeld v h after → AreHeld w h after
  held_on [] apart are = tt
  held_on (q ∷ more) apart are = (
    subst (λ (g : Geometry). HasResource g q) (sym relocks.passes.geometry) are.0,
    are.1,
    relocks.memory.holds_same q are.0 (λ same. apart (inl same)) ∙ are.2,
    are.3,
    held_on more (λ later. apart (inr later)) are.4,
  )

  taking_on : (after : List Resource) → holds (host_at w.locks h) r ≡ false → IsTaking v h (r ∷ after) → IsTaking w h after
  taking_on after free is = record { each = held_on after is.each.3 is.each.4; only = only }
    where
      only : (q : Resource) → HasResource w.locks.geometry q → IsShared q → holds (host_at w.locks h) q ≡ true → IsTaken after q
      only q there shared held =
          let has = subst (λ (g : Geometry). HasResource g q) relocks.passes.geometry there in
          elim (one_or_two q r) [
            | inl same ↦
                absurd (true≢false (sym (subst (λ (s : Resource). holds (host_at w.locks h) s ≡ true) same held) ∙ free))
            | inr other ↦ elim (is.only q has shared (sym (relocks.memory.holds_same q has other) ∙ held)) [
              | inl first ↦ absurd (other (sym first))
              | inr later ↦ later
            ]
          ]

-- what is taken last is a lock of the volume
pub last_has : (v : WorldView) (h : ℕ) (r : Resource) (taken after : List Resource) → taken ≡ r ∷ after → IsTaking v h taken
    → HasResource v.locks.geometry r
last_has v h r taken after last is = (subst (AreHeld v h) last is.each).0

-- a lock that the host held is free
pub lock_freed : (v w : WorldView) (h : ℕ) (r : Resource) (done : Unit) → Consistent v.locks → Consistent w.locks
    → HasResource v.locks.geometry r → Knows v h (RecordIs []) → Unlocks v.locks h r (Ok done) w.locks → locks'.Others h v.locks w.locks
    → w.standing ≡ v.standing → LockFreed h v w r
lock_freed v w h r done c later has empty did others same =
    let freed = unlocked_law v h w.locks c others r has did in
    let relocks : Relocks h r v w = subst (λ (x : WorldView). Relocks h r v x) (sym (locks_else v w same)) freed.0 in record {
      relocks = relocks;
      free = freed.1;
      read = freed.2;
      empty = relocks.facts (RecordIs []) (λ e. cc) empty;
      event = event (key_at v.locks h) (unlock_call v.locks r) Done;
      quiet = λ command outcome.
          quiet_unlock command v w h r outcome done c later has did (others_locks v w h c others same) relocks.passes.files;
    }

-- no record edits what a host holds whose journal is empty
pub held_unedited : (v : WorldView) (h : ℕ) (r : Resource) → Consistent v.locks → HasResource v.locks.geometry r
    → holds (host_at v.locks h) r ≡ true → Knows v h (RecordIs []) → Sure v.locks h (Unedited v.locks.geometry r)
held_unedited v h r c has held empty =
    taken_unedited v.locks h r c (joined_key v.locks.geometry.hosts _ h (host_at v.locks h) (c.memories h) empty.guard.0) has held empty.sure

-- nor what it took last
pub last_unedited : (v : WorldView) (h : ℕ) (r : Resource) (taken after : List Resource) → Consistent v.locks → taken ≡ r ∷ after
    → IsTaking v h taken → Knows v h (RecordIs []) → Sure v.locks h (Unedited v.locks.geometry r)
last_unedited v h r taken after c last is empty =
    let head = subst (AreHeld v h) last is.each in held_unedited v h r c head.0 head.2 empty

-- the lock that was taken last is free
pub last_freed : (v w : WorldView) (h : ℕ) (r : Resource) (taken after : List Resource) (done : Unit) → Consistent v.locks
    → Consistent w.locks → taken ≡ r ∷ after → IsTaking v h taken → Knows v h (RecordIs []) → Unlocks v.locks h r (Ok done) w.locks
    → locks'.Others h v.locks w.locks → w.standing ≡ v.standing → LastFreed h v w taken after
last_freed v w h r taken after done c later last is empty did others same =
    let now = subst (IsTaking v h) last is in
    let freed = lock_freed v w h r done c later now.each.0 empty did others same in record {
      resource = r;
      last = last;
      relocks = freed.relocks;
      free = freed.free;
      taking = taking_on v w h r freed.relocks after freed.free now;
      empty = freed.empty;
      event = freed.event;
      quiet = freed.quiet;
    }

-- one lock less is left behind it
pub one_lock_less : (h : ℕ) (v w : WorldView) (taken after : List Resource) → LastFreed h v w taken after → length taken ≡ length after + 1
one_lock_less h v w taken after freed = ap length freed.last ∙ omega arith

-- once all are free, no part and no group is held
pub none_held : (v : WorldView) (h : ℕ) → IsTaking v h [] → (r : Resource) → HasResource v.locks.geometry r → IsShared r
    → holds (host_at v.locks h) r ≡ false
none_held v h is r has shared = false_from_ne_true (holds (host_at v.locks h) r) (λ held. is.only r has shared held)

-- the same are held where the host's memory is as before
pub taking_same : (v w : WorldView) (h : ℕ) (taken : List Resource) → w.locks.geometry ≡ v.locks.geometry
    → host_at w.locks h ≡ host_at v.locks h → IsTaking v h taken → IsTaking w h taken
taking_same v w h taken geometry memory is = record {
  each = each taken is.each;
  only = λ r has shared held. is.only r (subst (λ (g : Geometry). HasResource g r) geometry has) shared
      (ap (λ (m : HostState). holds m r) (sym memory) ∙ held);
}
  where
    each : (more : List Resource) → AreHeld v h more → AreHeld w h more
    each [] are = tt
    each (r ∷ more) are = (
      subst (λ (g : Geometry). HasResource g r) (sym geometry) are.0,
      are.1,
      ap (λ (m : HostState). holds m r) memory ∙ are.2,
      are.3,
      each more are.4,
    )

-- over the calls of other hosts
pub taking_still : (v w : WorldView) (h x : ℕ) (taken : List Resource) → Others x v w → h ≢ x → key_at v.locks h ≢ 0
    → IsTaking v h taken → IsTaking w h taken
taking_still v w h x taken others apart some is =
    taking_same v w h taken others.locks.lasts.geometry (others.locks.keeps h apart some).memory is
