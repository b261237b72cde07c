-- The record of a punch, as a host is sure of it that holds the file and the group and knows both tables.
use Rattle.std.proofs.Common.{◌≡◌, ◌≢◌, ◌-◌, ◌≤◌, ◌∙◌, ℕ, List, [], Some, ap, arith, refl, subst, sym}
use Rattle.std.specs.Prelude.{All}
use Rattle.vol_base.specs.Packing.{Packing}
use Rattle.vol_layout.specs.declared.kind.Resource.TheVariants.{File}
use Rattle.vol_layout.specs.declared.field.Edit.{Edit}
use Rattle.vol_layout.specs.declared.field.Field.TheVariants.{Count, Pointer}
use Rattle.vol_layout.specs.Edits.{IsEdit}
use Rattle.vol_layout.specs.Fields.{greatest_count, resource_of, table_of}
use Rattle.journal_block.specs.JournalRecord.{JournalRecord}
use Rattle.image_view.specs.Balances.{edit}
use Rattle.image_view.specs.Images.{Image}
use Rattle.image_view.specs.Numbers.{logical}
use Rattle.image_view.specs.Pointers.{named}
use Rattle.image_view.specs.Records.{IsRecord}
use Rattle.image_view.specs.laws.FrameLaws.{HasResource-resource_of}
use Rattle.table_blocks.specs.Tables.{number_in}
use Rattle.call_effects.specs.Drops.{dropped}
use Rattle.call_effects.specs.laws.DropLaws.{record-drop}
use Rattle.call_effects.specs.laws.EachEdit.{all-two}
use Rattle.call_effects.specs.laws.PointerLaws.{hole-range}
use Rattle.lock_store.specs.Views.{counter_of, host_at, key_at}
use Rattle.disk_locks.specs.Consistent.{Consistent}
use Rattle.disk_locks.specs.Sure.{Sure}
use Rattle.host_facts.specs.Facts.Fact.{RecordIs}
use Rattle.host_facts.specs.Finds.{Finds}
use Rattle.host_facts.specs.Knows.{Knows}
use Rattle.host_facts.specs.Views.{WorldView, record_at}
use Rattle.host_facts.specs.laws.DoneLaws.{number_known}
use Rattle.host_facts.specs.laws.FactLaws.{guard_key}
use Rattle.host_facts.specs.laws.FindsLaws.{found}
use Rattle.host_facts.specs.laws.FoundLaws.{held_found}
use Rattle.host_facts.specs.laws.ToldLaws.{sure_and, sure_of}
use Rattle.world_callers.specs.Punches.{KnowsBoth}

-- a host whose journal is known has a key
pub journal_key : (v : WorldView) (h : ℕ) → Consistent v.locks → Knows v h (RecordIs []) → key_at v.locks h ≢ 0
journal_key v h is empty =
    guard_key v.locks.geometry v.locks.geometry.hosts (counter_of v.locks) h (host_at v.locks h) (record_at v h) (RecordIs [])
    (is.memories h) empty.guard

-- the edits are in range
pub drop_edits : (v : WorldView) (h f i d : ℕ) (p q : Packing) → KnowsBoth v h f i d p q
    → All (IsEdit v.locks.geometry) (dropped f i d (number_in q (Count d)))
drop_edits v h f i d p q both =
    let g = v.locks.geometry in
    let most : number_in q (Count d) ≤ greatest_count g = both.counts_fit.range (Count d) both.count refl in
    all-two (IsEdit g) (edit (Pointer f i) 0) (edit (Count d) (number_in q (Count d) - 1)) (both.pointer, hole-range g)
    (both.count, omega (arith, most))

-- and the record is right
pub drop_sure : (v : WorldView) (h f i d : ℕ) (p q : Packing) → Consistent v.locks → KnowsBoth v h f i d p q → Knows v h (RecordIs [])
    → named (number_in p (Pointer f i)) ≡ Some d
    → Sure v.locks h (λ image. IsRecord v.locks.geometry image (key_at v.locks h) (dropped f i d (number_in q (Count d))))
drop_sure v h f i d p q is both empty names =
    let g = v.locks.geometry in
    let n = number_in q (Count d) in
    let Named = λ (image : Image). logical g image (Pointer f i) ≡ number_in p (Pointer f i) in
    let Counted = λ (image : Image). logical g image (Count d) ≡ n in
    sure_of v.locks h (λ image. Finds v.locks h image × (Named image × Counted image))
    (λ image. IsRecord g image (key_at v.locks h) (dropped f i d n))
    (λ image all. record-drop g (counter_of v.locks) image (key_at v.locks h) f i d n all.0.agrees.valid (record {
      pointer = (both.pointer, held_found v.locks h image (File f) all.0 both.pointer.0 both.holds_file);
      names = ap named all.1.0 ∙ names;
      count = (
        both.count,
        held_found v.locks h image (resource_of (Count d)) all.0 (HasResource-resource_of g (Count d) both.count) both.holds_group,
      );
      is = all.1.1;
    }))
    (sure_and v.locks h (Finds v.locks h) (λ image. Named image × Counted image) (found v.locks h is)
    (sure_and v.locks h Named Counted
    (number_known v h (table_of (Pointer f i)) p (Pointer f i) is both.pointers_known both.pointers_fit empty both.pointer refl)
    (number_known v h (table_of (Count d)) q (Count d) is both.counts_known both.counts_fit empty both.count refl)))

-- the same of a record that has these edits under the host's key
pub record_sure : (v : WorldView) (h f i d : ℕ) (q : Packing) (r : JournalRecord) → r.edits ≡ dropped f i d (number_in q (Count d))
    → r.key ≡ key_at v.locks h
    → Sure v.locks h (λ image. IsRecord v.locks.geometry image (key_at v.locks h) (dropped f i d (number_in q (Count d))))
    → Sure v.locks h (λ image. IsRecord v.locks.geometry image r.key r.edits)
record_sure v h f i d q r edits own sure =
    subst (λ (es : List Edit). Sure v.locks h (λ image. IsRecord v.locks.geometry image r.key es)) (sym edits)
    (subst (λ (k : ℕ). Sure v.locks h (λ image. IsRecord v.locks.geometry image k (dropped f i d (number_in q (Count d))))) (sym own) sure)
