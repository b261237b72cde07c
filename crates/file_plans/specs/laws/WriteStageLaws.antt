-- What each step of a fresh write did behind its search, up to its record: one law for each way in which it ends.
use Rattle.std.proofs.Common.{◌≡◌, ◌≢◌, ◌/◌, ℕ, true, List, [], Some, refl, ap, sym, subst, ◌∙◌, inl, true≢false}
use Rattle.std.specs.Prelude.{Ok}
use Rattle.vol_layout.specs.declared.kind.Resource.{Resource}
use Rattle.image_view.specs.laws.FrameLaws.{HasResource-resource_of}
use Rattle.shared_disk.specs.Events.{Done, Writes, event}
use Rattle.vol_base.specs.Packing.{Packing}
use Rattle.vol_layout.specs.declared.field.Field.TheVariants.{Count}
use Rattle.vol_layout.specs.declared.kind.Resource.TheVariants.{Group}
use Rattle.vol_layout.specs.declared.kind.Table.{Table}
use Rattle.vol_layout.specs.Fields.{table_of}
use Rattle.vol_layout.specs.Ranges.{per_table}
use Rattle.lock_store.specs.Memories.{holds}
use Rattle.lock_store.specs.Views.{host_at, key_at}
use Rattle.lock_store.specs.Calls.{WritesBlock}
use Rattle.disk_locks.specs.Keys.{owner}
use Rattle.vol_layout.specs.declared.kind.Kind.TheVariants as kinds
use Rattle.vol_layout.specs.Places.{place_of}
use Rattle.call_effects.specs.Changes.{Data}
use Rattle.host_facts.specs.Others.{Others}
use Rattle.host_facts.specs.Wrote.{FilesStay, HasValidImage, Wrote}
use Rattle.disk_locks.specs.Consistent.{Consistent}
use Rattle.held_cache.specs.Kept.{Cache}
use Rattle.host_facts.specs.Facts.Fact.{FreshIs, RecordIs, TableIs}
use Rattle.host_facts.specs.Knows.{Knows}
use Rattle.host_facts.specs.Views.{WorldView}
use Rattle.plan_parts.specs.Fetched.{Fetched, LockTaken}
use Rattle.plan_parts.specs.TakenLocks.{IsTaken}
use Rattle.plan_parts.specs.declared.kept.Kept.{Kept}
use Rattle.plan_parts.specs.laws.FetchLaws.{quiet_spared}
use Rattle.plan_parts.specs.laws.FullLaws.{kept_spares}
use Rattle.plan_parts.specs.laws.QuietCallLaws.{quiet_write}
use Rattle.plan_parts.specs.laws.SearchLaws.{taken_held}
use Rattle.file_plans.specs.Calls.{block_of}
use Rattle.file_plans.specs.Stands.{At}
use Rattle.file_plans.specs.Writes.{puts_for}
use Rattle.file_plans.specs.Went.{Went}
use Rattle.file_plans.specs.declared.state.Core.{Core}
use Rattle.file_plans.specs.laws.BaseLaws.{IsStill, base_still, coming, still_looks}
use Rattle.file_plans.specs.laws.WriteBaseLaws.{found_on, found_same, fresh_same, sight_on}
use Rattle.file_plans.specs.declared.old.Old.TheVariants as olds
use Rattle.file_plans.specs.declared.sight.Sight.TheVariants as sights
use Rattle.file_plans.specs.declared.stage.Fresh.{Fresh}
use Rattle.file_plans.specs.declared.stage.Stage.TheVariants as stages
use Rattle.file_plans.specs.laws.ApplyStageLaws.{base_relocked}
use Rattle.file_plans.specs.laws.WriteEndLaws.{goes, goes_to}

-- the group of the shared block was locked
pub shared_locked : (v w : WorldView) (c : Cache) (core : Core) → Consistent v.locks → Consistent w.locks → (old d : ℕ) (group : Kept)
    (after : List Resource) → At v c core (stages.LocksShared old d group)
    → LockTaken core.host v w (Group (old / per_table)) core.taken after
    → Went v w c core (coming core after core.outcome) (stages.LocksShared old d group) goes (stages.FetchesShared old d group)
shared_locked v w c core is later old d group after at did =
    let relocks = did.gains.relocks in
    let geometry = relocks.passes.geometry in
    let facts = λ (t : Table) (p : Packing). did.gains.facts (TableIs t p) in
    let empty = did.gains.facts (RecordIs []) at.0.empty in
    let base = base_relocked v w c core (Group (old / per_table)) after tt relocks did.taking at.0.base in
    goes_to v w c core (stages.LocksShared old d group) is later at.0.base (λ command n noted. noted) did.event
    (coming core after core.outcome) (stages.FetchesShared old d group) refl refl base (
      record { base = base; empty = empty; comes = at.0.comes },
      sight_on v w c core geometry facts (sights.Fresh (Some old)) at.1,
      found_on v w c core geometry facts d group
          (subst (λ (t : Table). holds (host_at w.locks core.host) (owner t) ≡ true) (sym at.2.which)
          (relocks.memory.holds_same (Group (d / per_table)) (HasResource-resource_of v.locks.geometry (Count d) at.2.has) apart ∙ held_d))
          at.2,
      (λ same. apart (ap owner (sym (same ∙ at.2.which)))),
      taken_held w core.host after (Group (old / per_table)) did.taking.each
          (subst (λ (ts : List Resource). IsTaken ts (Group (old / per_table))) (sym did.pushed) (inl refl)),
    )
    (λ command n noted. noted) did.quiet
  where
    held_d : holds (host_at v.locks core.host) (Group (d / per_table)) ≡ true
    held_d = subst (λ (t : Table). holds (host_at v.locks core.host) (owner t) ≡ true) at.2.which at.2.kept.held

    apart : Group (d / per_table) ≢ Group (old / per_table)
    apart same =
        true≢false (sym (subst (λ (r : Resource). holds (host_at v.locks core.host) r ≡ true) same held_d) ∙ at.3)

-- its table was read
pub shared_fetched : (v w : WorldView) (c : Cache) (core : Core) → Consistent v.locks → Consistent w.locks → (old d : ℕ)
    (group kept : Kept) → At v c core (stages.FetchesShared old d group) → Fetched core.host v w (table_of (Count old)) kept
    → Went v w c core (coming core core.taken core.outcome) (stages.FetchesShared old d group) goes (puts_for d group (olds.Other old kept))
shared_fetched v w c core is later old d group kept at did =
    let still = still_looks core.host v w did.looks in
    let base = base_still v w c core still core.outcome at.0.base in
    goes_to v w c core (stages.FetchesShared old d group) is later at.0.base (λ command n noted. noted) did.event
    (coming core core.taken core.outcome) (puts_for d group (olds.Other old kept)) refl refl base
    (record {
      comes = record { base = base; empty = did.looks.facts (RecordIs []) at.0.empty; comes = at.0.comes };
      sight = sight_on v w c core still.geometry still.tables (sights.Fresh (Some old)) at.1;
      block = found_same v w c core still d group at.2;
      left = (did.is_kept, did.which, λ same. at.3 (sym did.which ∙ same));
    })
    (λ command n noted. noted)
    (quiet_spared v w core.host (table_of (Count old)) kept did
    (kept_spares v core.host d group is did.looks.registered at.2.kept at.0.empty at.2.has at.2.which at.2.free))

-- what was written of a fresh block leaves all tables
still_wrote : (v w : WorldView) (h d : ℕ) (block : List ℕ) (put : Data) → Wrote h (kinds.Number d) block [] put v w → IsStill h v w
still_wrote v w h d block put wrote = record {
  geometry = wrote.geometry;
  memory = wrote.memory;
  tables = λ t p known. wrote.facts (TableIs t p) (λ e. cc) known;
}

-- the free block was written
pub block_put : (v w : WorldView) (c : Cache) (core : Core) → Consistent v.locks → Consistent w.locks → (fresh : Fresh) (block : List ℕ)
    (put : Data) (done : Unit) → At v c core (stages.Puts fresh) → block ≡ (block_of core.call).0
    → WritesBlock v.locks core.host (kinds.Number fresh.number) block (host_at v.locks core.host) (Ok done) w.locks → Others core.host v w
    → HasValidImage w → FilesStay v w → Wrote core.host (kinds.Number fresh.number) block [] put v w
    → Knows w core.host (FreshIs fresh.number block)
    → Went v w c core (coming core core.taken core.outcome) (stages.Puts fresh) goes (stages.Fills fresh)
block_put v w c core is later fresh block put done at same did others valid files wrote known =
    let still = still_wrote v w core.host fresh.number block put wrote in
    goes_to v w c core (stages.Puts fresh) is later at.comes.base (λ command n noted. noted)
    (event (key_at v.locks core.host) (Writes (place_of v.locks.geometry (kinds.Number fresh.number)) block) Done)
    (coming core core.taken core.outcome) (stages.Fills fresh) refl refl (base_still v w c core still core.outcome at.comes.base) (
      fresh_same v w c core still fresh (wrote.facts (RecordIs []) (λ e. cc) at.comes.empty) at,
      subst (λ (bytes : List ℕ). Knows w core.host (FreshIs fresh.number bytes)) same known,
    )
    (λ command n noted. noted)
    (λ command outcome.
    quiet_write command v w core.host (kinds.Number fresh.number) block outcome done at.block.has did others valid files)
