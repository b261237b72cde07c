-- What a host knows of its tables stays where it makes the record of a dead host again: that record edits none of them.
use Rattle.std.proofs.Common.{◌≡◌, ℕ, List, [], None, true, ap, sym, subst, ◌∙◌, inl, inr}
use Rattle.std.specs.Prelude.{Contains}
use Rattle.vol_layout.specs.declared.field.Edit.{Edit}
use Rattle.vol_layout.specs.declared.field.Field.{Field}
use Rattle.vol_layout.specs.declared.kind.Kind.TheVariants as kinds
use Rattle.vol_layout.specs.declared.kind.Resource.{Resource}
use Rattle.vol_layout.specs.declared.kind.Table.{Table}
use Rattle.vol_layout.specs.Edits.{touches}
use Rattle.vol_layout.specs.Fields.{table_of}
use Rattle.vol_layout.specs.Ranges.{HasTable}
use Rattle.image_view.specs.HostKeys.{IsHeldBy, slot_key_at}
use Rattle.image_view.specs.Images.{Image}
use Rattle.image_view.specs.Numbers.{journal}
use Rattle.image_view.specs.laws.JournalLaws.{cases_Table, record_key}
use Rattle.lock_store.specs.Memories.{key_of, may_read}
use Rattle.lock_store.specs.Views.{LocksView, counter_of, host_at, key_at, keys_of}
use Rattle.disk_locks.specs.Consistent.{Consistent}
use Rattle.disk_locks.specs.Keys.{owner}
use Rattle.disk_locks.specs.Sure.{Sure}
use Rattle.disk_locks.specs.laws.HeldLaws.{readable_apart}
use Rattle.host_facts.specs.Facts.{Claims, Tells}
use Rattle.host_facts.specs.Facts.Fact.{DeadRecord, TableIs}
use Rattle.host_facts.specs.Finds.{Finds}
use Rattle.host_facts.specs.Knows.{Knows}
use Rattle.host_facts.specs.Views.{WorldView, record_at}
use Rattle.host_facts.specs.Wrote.{Writing, Wrote}
use Rattle.host_facts.specs.laws.FactLaws.{guard_moved}
use Rattle.host_facts.specs.laws.FindsLaws.{sure_later}
use Rattle.host_facts.specs.laws.FoundLaws.{dead_off}
use Rattle.host_facts.specs.laws.KindLaws.{owner_has, owner_table}
use Rattle.recover_plan.specs.KnownTables.{KeepsTables}

-- a table that a registered host may read is not edited by the record of a host whose slot it claimed: the dead key holds its lock
no_dead_table : (v : LocksView) (h of : ℕ) (image : Image) (t : Table) (x : Field) → Finds v h image
    → Claims v.geometry (host_at v h) of → HasTable v.geometry t → may_read (host_at v h) (owner t) ≡ true
    → touches (journal v.geometry image of) x ≡ true → table_of x ≡ t → ⊥
no_dead_table v h of image t x finds claims has may touched here =
    let dead = slot_key_at v.geometry image of in
    let held = record_key v.geometry (counter_of v) image of x finds.agrees.valid claims.0 touched in
    let off = dead_off v h image of finds claims.0 claims.1 in
    readable_apart v image h (owner t) finds.consistent finds.agrees finds.some finds.here (owner_has v.geometry t has) may dead
    (λ own. off.off (subst (λ (k : ℕ). Contains (keys_of v) k) (sym own) finds.here))
    (subst (λ (r : Resource). IsHeldBy v.geometry image r dead) (sym (owner_table x) ∙ ap owner here) held.1)

-- so what is known of the tables stays when one of that record is written
pub tables_replayed : (v w : WorldView) (h of : ℕ) (es : List Edit) (e : Edit) (which : Table) (bytes : List ℕ) → Consistent v.locks
    → Claims v.locks.geometry (host_at v.locks h) of → Knows v h (DeadRecord of es) → touches es e.field ≡ true → table_of e.field ≡ which
    → Wrote h (kinds.Table which) bytes [] None v w → KeepsTables h v w
tables_replayed v w h of es e which bytes c claims record_is touched here wrote t p was =
    elim (cases_Table t which) [
      | inl same ↦ record {
        guard = guard_moved v.locks w.locks h (record_at v h) (TableIs t p) wrote.geometry wrote.memory was.guard;
        sure = never same;
      }
      | inr other ↦ wrote.facts (TableIs t p) (λ kind. other (let same : t ≡ which = cc in same)) was
    ]
  where
    never : t ≡ which → Sure w.locks h (λ image. Tells w.locks h image (TableIs t p))
    never same =
        sure_later v.locks w.locks h (Writing v.locks.geometry (kinds.Table which) bytes [] None)
        (λ i. Tells v.locks h i (DeadRecord of es)) (λ j. Tells w.locks h j (TableIs t p)) c (ap key_of wrote.memory)
        (λ registered. subst (λ (ks : List ℕ). Contains ks (key_at v.locks h)) wrote.keys registered) wrote.images
        (λ i j finds step tells. absurd (no_dead_table v.locks h of i t e.field finds claims was.guard.0 was.guard.1
        (subst (λ (fs : List Edit). touches fs e.field ≡ true) (sym tells) touched) (here ∙ sym same))) record_is.sure
