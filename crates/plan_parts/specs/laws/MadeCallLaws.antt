-- Each step of a transaction made the device call that is said of it.
use Rattle.std.proofs.Common.{◌≡◌, ◌∷◌, ℕ, List, [], Option, None, Some, false, true, refl, subst, sym}
use Rattle.std.specs.Prelude.{◌<◌, Ok}
use Rattle.vol_base.specs.Packing.{Packing, packed_bytes}
use Rattle.vol_base.specs.declared.block.Key.{Key}
use Rattle.vol_layout.specs.declared.field.Edit.{Edit}
use Rattle.vol_layout.specs.declared.kind.Kind.TheVariants as kinds
use Rattle.vol_layout.specs.declared.kind.Resource.{Resource}
use Rattle.vol_layout.specs.declared.kind.Table.{Table}
use Rattle.vol_layout.specs.Journal.{journal_bytes}
use Rattle.vol_layout.specs.Ranges.{HasResource, HasTable}
use Rattle.table_blocks.specs.Made.{made}
use Rattle.lock_store.specs.Calls.{WritesBlock}
use Rattle.lock_store.specs.Memories.{holds}
use Rattle.lock_store.specs.Views.{host_at}
use Rattle.disk_locks.specs.declared.answers.Got.TheVariants as got
use Rattle.disk_locks.specs.Calls.{IsShared, TriesShared, Unlocks}
use Rattle.disk_locks.specs.Consistent.{Consistent}
use Rattle.disk_locks.specs.Others as locks'
use Rattle.host_facts.specs.Calls.{ReadsTable}
use Rattle.host_facts.specs.Facts.Fact.{RecordIs}
use Rattle.host_facts.specs.Knows.{Knows}
use Rattle.host_facts.specs.Others.{Others}
use Rattle.host_facts.specs.Views.{WorldView, record_at}
use Rattle.host_facts.specs.Wrote.{FilesStay, HasValidImage}
use Rattle.plan_parts.specs.Applies.{IsApplying}
use Rattle.plan_parts.specs.MadeCalls.{AppliedSo, FreedSo, ReadSo, TriedSo}
use Rattle.plan_parts.specs.TakenLocks.{IsTaking}
use Rattle.plan_parts.specs.declared.applying.Applied.{Applied}
use Rattle.plan_parts.specs.declared.applying.Applied.TheVariants.{Finished, Wrote}
use Rattle.plan_parts.specs.declared.kept.Kept.{Kept}
use Rattle.plan_parts.specs.laws.ApplyingLaws.{own_record}
use Rattle.plan_parts.specs.laws.FetchLaws.{lock_taken, quiet_got, quiet_held}
use Rattle.plan_parts.specs.laws.QuietCallLaws.{quiet_table, quiet_unlock, quiet_write, valid_now}
use Rattle.plan_parts.specs.laws.TakenLaws.{last_has, lock_freed, others_locks}

-- a lock was tried
module _ (v w : WorldView) (h : ℕ) (r : Resource) (taken : List Resource) (c : Consistent v.locks) (later : Consistent w.locks)
    (has : HasResource v.locks.geometry r) (shared : IsShared r) (joined : (host_at v.locks h).joined ≡ true)
    (is : IsTaking v h taken) (others : locks'.Others h v.locks w.locks) (standing : w.standing ≡ v.standing) where
  pub tried_got : holds (host_at v.locks h) r ≡ false → TriesShared v.locks h r (Ok got.Got) w.locks → TriedSo h v w r None
  tried_got out did command outcome =
      let taken_so = lock_taken v w h r taken (r ∷ taken) c later has shared joined is others standing out did refl in
      quiet_got command v w h r has shared joined c outcome did (others_locks v w h c others standing) (valid_now w later)
      taken_so.gains.relocks.passes.files

  pub tried_held : (key : Key) → TriesShared v.locks h r (Ok (got.Held key)) w.locks → TriedSo h v w r (Some key)
  tried_held key did command keeps =
      quiet_held command v w h r has shared joined c key keeps did (others_locks v w h c others standing)

-- a table was read
pub read_so : (v w : WorldView) (h : ℕ) (t : Table) (table : Packing) (kept : Kept) → Consistent v.locks → HasTable v.locks.geometry t
    → ReadsTable v.locks h t (Ok table) w.locks → Others h v w → kept ≡ record { which = t; table = table } → ReadSo h v w kept
read_so v w h t table kept c has did others same =
    subst (ReadSo h v w) (sym same)
    (λ command outcome spares. quiet_table command v w h t table outcome has did others (valid_now v c) spares)

-- a table was written with the edits of the record in memory, and the empty journal
pub applied_so : (v w : WorldView) (h : ℕ) (es : List Edit) (kept : Kept) (after : List Kept) (out : Kept) (done : Unit)
    → IsApplying v h es (kept ∷ after) → Others h v w → HasValidImage w → FilesStay v w
    → WritesBlock v.locks h (kinds.Table kept.which) (packed_bytes 4 (made kept.which (record_at v h) kept.table)) (host_at v.locks h)
    (Ok done) w.locks
    → out ≡ record { which = kept.which; table = made kept.which es kept.table } → AppliedSo h v w (Wrote out)
applied_so v w h es kept after out done is others valid files did same =
    let own = own_record v h es is.some is.stands in
    let wrote = subst (λ (ds : List Edit). WritesBlock v.locks h (kinds.Table kept.which) (packed_bytes 4 (made kept.which ds kept.table)) (host_at v.locks h) (Ok done) w.locks) own did in
    subst (λ (k : Kept). AppliedSo h v w (Wrote k)) (sym same)
    (λ command outcome.
    quiet_write command v w h (kinds.Table kept.which) (packed_bytes 4 (made kept.which es kept.table)) outcome done is.kept.0.table wrote
    others valid files)

pub ended_so : (v w : WorldView) (h : ℕ) (done : Unit) → h < v.locks.geometry.hosts → Others h v w → HasValidImage w → FilesStay v w
    → WritesBlock v.locks h (kinds.Journal h) (journal_bytes 0 []) (host_at v.locks h) (Ok done) w.locks → AppliedSo h v w Finished
ended_so v w h done below others valid files did command outcome =
    quiet_write command v w h (kinds.Journal h) (journal_bytes 0 []) outcome done below did others valid files

-- the lock that was taken last was freed
pub freed_so : (v w : WorldView) (h : ℕ) (r : Resource) (taken after : List Resource) (done : Unit) → Consistent v.locks
    → Consistent w.locks → taken ≡ r ∷ after → IsTaking v h taken → Knows v h (RecordIs []) → Unlocks v.locks h r (Ok done) w.locks
    → locks'.Others h v.locks w.locks → w.standing ≡ v.standing → FreedSo h v w taken after true
freed_so v w h r taken after done c later last is empty did others same =
    let has = last_has v h r taken after last is in
    let freed = lock_freed v w h r done c later has empty did others same in (
      r,
      last,
      λ command outcome.
          quiet_unlock command v w h r outcome done c later has did (others_locks v w h c others same) freed.relocks.passes.files,
    )
