-- What each step did at the end of a transaction.
use Rattle.std.proofs.Common.{◌≡◌, ◌≢◌, ◌<◌, ℕ, true, false, Bool, List, [], None, Some, refl, ap, sym, subst, ◌∙◌, inl, inr}
use Rattle.vol_base.specs.Packing.{Packing}
use Rattle.vol_base.specs.declared.answer.Step.{Step}
use Rattle.vol_base.specs.declared.command.Command.{Command}
use Rattle.vol_layout.specs.declared.field.Edit.{Edit}
use Rattle.vol_layout.specs.declared.geometry.Geometry.{Geometry}
use Rattle.vol_layout.specs.declared.kind.Resource.{Resource}
use Rattle.vol_layout.specs.declared.kind.Resource.TheVariants.{File, Group, Part}
use Rattle.vol_layout.specs.declared.kind.Table.{Table}
use Rattle.vol_layout.specs.declared.kind.Table.TheVariants as tables
use Rattle.table_blocks.specs.Tables.{IsPackingOf}
use Rattle.shared_disk.specs.Events.{Event}
use Rattle.journal_block.specs.JournalRecord.{JournalRecord}
use Rattle.lock_store.specs.declared.host.HostState.{HostState}
use Rattle.lock_store.specs.Views.{host_at}
use Rattle.disk_locks.specs.Calls.{IsShared}
use Rattle.disk_locks.specs.Consistent.{Consistent}
use Rattle.disk_locks.specs.Keys.{owner}
use Rattle.held_cache.specs.Kept.{Cache, IsFileTable, kept_at}
use Rattle.host_facts.specs.Facts.Fact.{RecordIs, TableIs}
use Rattle.host_facts.specs.Knows.{Knows}
use Rattle.host_facts.specs.Relocks.{Relocks}
use Rattle.host_facts.specs.Views.{WorldView}
use Rattle.host_runs.specs.Notes.{Notes, with_place}
use Rattle.plan_parts.specs.Applies.{IsApplying, RecordEnded, TableWritten}
use Rattle.plan_parts.specs.PlacedCalls.{PlacedCall}
use Rattle.plan_parts.specs.QuietCalls.{Noted, QuietCall}
use Rattle.plan_parts.specs.TakenLocks.{AreHeld, Frees, IsTaking}
use Rattle.plan_parts.specs.declared.applying.Applying.{Applying}
use Rattle.plan_parts.specs.declared.kept.Kept.{Kept}
use Rattle.plan_parts.specs.laws.PlacedLaws.{quiet_placed}
use Rattle.plan_parts.specs.laws.TakenLaws.{taking_same}
use Rattle.file_plans.specs.Bases.{HasHold, IsBase, IsCached, MayComeTo}
use Rattle.file_plans.specs.Calls.{Runs, file_of}
use Rattle.file_plans.specs.Keeps.{KeepsWritten}
use Rattle.file_plans.specs.Stands.{At, NotedAt}
use Rattle.file_plans.specs.Went.{IsRest, Went, step_of}
use Rattle.file_plans.specs.declared.state.Core.{Core}
use Rattle.file_plans.specs.declared.stage.Stage.{Stage}
use Rattle.file_plans.specs.declared.stage.Stage.TheVariants as stages
use Rattle.file_plans.specs.laws.RestLaws.{went_on, went_rest}
use Rattle.file_plans.specs.laws.NeedLaws.{table_or_other}
use Rattle.file_plans.specs.laws.SeeLaws.{noted_still}
use Rattle.file_plans.specs.laws.BaseLaws.{IsStill, base_key, base_still, coming, hold_on}
use Rattle.file_plans.specs.laws.WriteEndLaws.{goes, placed_at}

-- what is kept is known still once a table was written: of a file it is kept as it was written, and every other one stays
written_cached : (v w : WorldView) (c d : Cache) (h : ℕ) (es : List Edit) (left after : List Kept) (kept : Kept)
    → h < v.locks.geometry.hosts → IsCached v c h → TableWritten h v w es left after kept → KeepsWritten c d h kept → IsCached w d h
written_cached v w c d h es left after kept below cached written keeps = record {
  volume = keeps.volume ∙ cached.volume ∙ sym written.wrote.geometry;
  known = λ t p there now.
      let file = subst (λ (g : Geometry). IsFileTable g t) written.wrote.geometry there in
      let in_cache = subst (λ (g : Geometry). IsFileTable g t) (sym cached.volume) file in
      elim (table_or_other t kept.which) [
        | inl same ↦
            let changed = keeps.changed (subst (λ (u : Table). IsFileTable c.volume u) same in_cache) in
            let one : Some kept.table ≡ Some p = sym changed ∙ ap (kept_at d h) (sym same) ∙ now in
            let table_is : kept.table ≡ p = cc in (
              subst (λ (x : Packing). Knows w h (TableIs t x)) table_is
                  (subst (λ (u : Table). Knows w h (TableIs u kept.table)) (sym same) written.now.known),
              subst (λ (x : Packing). IsPackingOf w.locks.geometry t x) table_is
                  (subst (λ (u : Table). IsPackingOf w.locks.geometry u kept.table) (sym same) written.now.packing),
            )
        | inr other ↦
            let was = sym (keeps.others h t (subst (λ (g : Geometry). h < g.hosts) (sym cached.volume) below, in_cache)
            (λ same here. other here)) ∙ now in
            let known = cached.known t p file was in (
              written.wrote.facts (TableIs t p) (λ same. other cc) known.0,
              subst (λ (g : Geometry). IsPackingOf g t p) (sym written.wrote.geometry) known.1,
            )
      ];
}

-- a quiet step of a plan that leaves what its call has come to
module _ (v w : WorldView) (c d : Cache) (core : Core) (before : Stage) (is : Consistent v.locks) (later : Consistent w.locks)
    (base : IsBase v c core)
    (noted : (command : Command) (n : Notes) → NotedAt command v core before n → Noted command core.host v core.outcome n) (e : Event)
    (quiet : (command : Command) → Runs command core.call
    → QuietCall command core.host v w e (Noted command core.host v core.outcome) (Noted command core.host w core.outcome)) where
  calls : (command : Command) → Runs command core.call
      → PlacedCall command core.host v w e None (NotedAt command v core before) (Noted command core.host w core.outcome)
  calls command runs =
      placed_at v w c core before is later base noted e None command (Noted command core.host v core.outcome)
      (Noted command core.host w core.outcome) (noted command) (quiet_placed command core.host v w e _ _ (quiet command runs))

  -- it goes on to a stage that stands
  pub goes_at : (after : Stage) → IsCached w d core.host → At w d core after
      → ((command : Command) (n : Notes) → Noted command core.host w core.outcome n → NotedAt command w core after n)
      → Went v w d core core before goes after
  goes_at after cached stands behind =
      went_on v w d core core before e None refl refl (base_key v c core is base) later core.outcome (λ some. absurd cc) tt noted
      (λ command n. Noted command core.host w core.outcome n) calls after cached stands (λ command n at. at.asks)
      (λ command n at. behind command (with_place None n) (noted_still command core.host w core.outcome n at))

  -- no record stands behind it
  pub rests_at : (new : Core) (taken : List Resource) (step : Step) (after : Stage) → new ≡ coming core taken core.outcome
      → IsBase w d (coming core taken core.outcome) → Knows w core.host (RecordIs []) → MayComeTo core.call core.outcome
      → step ≡ step_of step.next → IsRest taken core.outcome step.next after → Went v w d core new before step after
  rests_at new taken step after is_new now empty may is_step rest =
      subst (λ (s : Step). Went v w d core new before s after) (sym is_step)
      (subst (λ (k : Core). Went v w d core k before (step_of step.next) after) (sym is_new)
      (went_rest v w d core (coming core taken core.outcome) before e None refl refl (base_key v c core is base) later core.outcome
      (λ some. absurd cc) tt noted (λ command n. Noted command core.host w core.outcome n) calls step.next after now
      empty may (λ command n at. at.asks) (λ command n at. noted_still command core.host w core.outcome n at) rest))

-- the base stands, with what is kept now
written_base : (v w : WorldView) (c d : Cache) (core : Core) (es : List Edit) (left after : List Kept) (kept : Kept)
    → IsCached w d core.host → TableWritten core.host v w es left after kept → IsBase v c core → IsBase w d core
written_base v w c d core es left after kept cached did base =
    let geometry = did.wrote.geometry in
    let memory = did.wrote.memory in record {
      host = subst (λ (g : Geometry). core.host < g.hosts) (sym geometry) base.host;
      file = subst (λ (g : Geometry). file_of core.call < g.files) (sym geometry) base.file;
      joined = ap (λ (m : HostState). m.joined) memory ∙ base.joined;
      hold = subst (HasHold core.call) (sym memory) base.hold;
      taking = taking_same v w core.host core.taken geometry memory base.taking;
      cached = cached;
    }

-- a table was written
pub table_applied : (v w : WorldView) (c d : Cache) (core : Core) (a b : Applying) (kept : Kept) → Consistent v.locks → Consistent w.locks
    → At v c core (stages.Applies a) → b.entry ≡ a.entry → TableWritten core.host v w a.entry.edits a.left b.left kept
    → KeepsWritten c d core.host kept → Went v w d core core (stages.Applies a) goes (stages.Applies b)
table_applied v w c d core a b kept is later at entry did keeps =
    let cached = written_cached v w c d core.host a.entry.edits a.left b.left kept at.0.host at.0.cached did keeps in
    let edits : b.entry.edits ≡ a.entry.edits = ap (λ (r : JournalRecord). r.edits) entry in
    goes_at v w c d core (stages.Applies a) is later at.0 (λ command n noted. noted) did.event
    (λ command runs. did.quiet command core.outcome) (stages.Applies b) cached (
      written_base v w c d core a.entry.edits a.left b.left kept cached did at.0,
      subst (λ (es : List Edit). IsApplying w core.host es b.left) (sym edits) did.stands,
      at.2,
    )
    (λ command n noted. noted)

-- the empty journal was written
pub record_finished : (v w : WorldView) (c : Cache) (core new : Core) (a : Applying) (step : Step) (after : Stage) → Consistent v.locks
    → Consistent w.locks → At v c core (stages.Applies a) → RecordEnded core.host v w a.left → new ≡ core → step ≡ step_of step.next
    → IsRest core.taken core.outcome step.next after → Went v w c core new (stages.Applies a) step after
record_finished v w c core new a step after is later at did same is_step rest =
    let still : IsStill core.host v w = record {
      geometry = did.wrote.geometry;
      memory = did.wrote.memory;
      tables = λ t p known. did.wrote.facts (TableIs t p) (λ e. cc) known;
    } in
    rests_at v w c c core (stages.Applies a) is later at.0 (λ command n noted. noted) did.event
    (λ command runs. did.quiet command core.outcome) new core.taken step after same
    (base_still v w c core still core.outcome at.0) did.empty at.2 is_step rest

-- a lock of a part or group is no file's
shared_no_file : (r : Resource) (f : ℕ) → IsShared r → r ≢ File f
shared_no_file (File e) f shared same = shared
shared_no_file (Part p) f shared same = absurd cc
shared_no_file (Group q) f shared same = absurd cc

owner_no_shared : (g : Geometry) (t : Table) (r : Resource) → IsFileTable g t → IsShared r → Some (owner t) ≢ Some r
owner_no_shared g (tables.File f) r there shared same = shared_no_file r f shared cc
owner_no_shared g (tables.More f u) r there shared same = shared_no_file r f shared cc
owner_no_shared g t r there shared same = absurd there

-- a lock of a part or group was written: the file's hold and what is kept of it stay
pub base_relocked : (v w : WorldView) (c : Cache) (core : Core) (r : Resource) (after : List Resource) → IsShared r
    → Relocks core.host r v w → IsTaking w core.host after → IsBase v c core → IsBase w c (coming core after core.outcome)
base_relocked v w c core r after shared relocks taking base =
    let geometry = relocks.passes.geometry in
    let apart = λ (same : File (file_of core.call) ≡ r). shared_no_file r (file_of core.call) shared (sym same) in
    record {
      host = subst (λ (g : Geometry). core.host < g.hosts) (sym geometry) base.host;
      file = subst (λ (g : Geometry). file_of core.call < g.files) (sym geometry) base.file;
      joined = relocks.memory.joined ∙ base.joined;
      hold = hold_on core.call (host_at v.locks core.host) (host_at w.locks core.host)
          (relocks.memory.holds_same (File (file_of core.call)) base.file apart)
          (relocks.memory.reads_same (File (file_of core.call)) base.file apart) base.hold;
      taking = taking;
      cached = record {
        volume = base.cached.volume ∙ sym geometry;
        known = λ t p there kept.
            let file = subst (λ (g : Geometry). IsFileTable g t) geometry there in
            let was = base.cached.known t p file kept in (
              relocks.facts (TableIs t p) (owner_no_shared v.locks.geometry t r file shared) was.0,
              subst (λ (g : Geometry). IsPackingOf g t p) (sym geometry) was.1,
            );
      };
    }

-- a lock was freed
pub lock_freed : (v w : WorldView) (c : Cache) (core new : Core) (after : List Resource) (freed : Bool) (step : Step) (stage : Stage)
    → Consistent v.locks → Consistent w.locks → At v c core stages.Frees → Frees core.host v w core.taken after freed
    → new ≡ coming core after core.outcome → step ≡ step_of step.next → IsRest after core.outcome step.next stage
    → Went v w c core new stages.Frees step stage
lock_freed v w c core new after true step stage is later at did same is_step rest =
    let held = subst (AreHeld v core.host) did.last at.0.taking.each in
    rests_at v w c c core stages.Frees is later at.0 (λ command n noted. noted) did.event
    (λ command runs. did.quiet command core.outcome) new after step stage same
    (base_relocked v w c core did.resource after held.1 did.relocks did.taking at.0) did.empty at.3 is_step rest
lock_freed v w c core new after false step stage is later at did same is_step rest = absurd (at.2 did.0)
