-- The write of a table is a step: the table as it stands, with the edits of a record made in it.
use Rattle.std.proofs.Common.{◌≡◌, ◌<◌, ◌∙◌, ℕ, List, [], None, inl, inr, true, refl, sym, ap, subst}
use Rattle.std.specs.Prelude.{All}
use Rattle.vol_base.specs.Bytes.{IsBlock}
use Rattle.vol_base.specs.Packing.{Packing, packed_bytes}
use Rattle.vol_layout.specs.declared.geometry.Geometry.{Geometry}
use Rattle.vol_layout.specs.declared.kind.Kind.TheVariants as kinds
use Rattle.vol_layout.specs.declared.kind.Table.{Table}
use Rattle.vol_layout.specs.declared.field.Edit.{Edit}
use Rattle.vol_layout.specs.Edits.{IsEdit, edited}
use Rattle.vol_layout.specs.Ranges.{HasTable, IsGeometry}
use Rattle.image_view.specs.Images.{Image, block_at}
use Rattle.image_view.specs.Numbers.{journal}
use Rattle.image_view.specs.Valid.{IsValid}
use Rattle.lock_store.specs.Memories.{holds}
use Rattle.lock_store.specs.Views.{LocksView, counter_of, host_at}
use Rattle.disk_locks.specs.Consistent.{Consistent}
use Rattle.disk_locks.specs.Keys.{owner}
use Rattle.table_blocks.specs.Made.{made}
use Rattle.table_blocks.specs.Tables.{IsPackingOf, number_in}
use Rattle.table_blocks.specs.laws.MadeLaws.{made-number, made-packing}
use Rattle.host_facts.specs.Facts.{Tells}
use Rattle.host_facts.specs.Facts.Fact.{DeadRecord, DeadTable, RecordIs, TableIs}
use Rattle.host_facts.specs.Finds.{Finds}
use Rattle.host_facts.specs.Knows.{Knows}
use Rattle.host_facts.specs.Replays.{IsReplay}
use Rattle.host_facts.specs.Steps.{IsStep}
use Rattle.host_facts.specs.Views.{WorldView, record_at}
use Rattle.host_facts.specs.laws.FindsLaws.{sure_found}
use Rattle.host_facts.specs.laws.FoundLaws.{host_found}
use Rattle.host_facts.specs.laws.ToldLaws.{sure_and}
use Rattle.host_facts.specs.laws.TableSteps.{MayApply, table_step}
use Rattle.meta_world.proofs.Puts.{SureStep}

-- the edits of a journal of a valid image are in range
each_edit : (g : Geometry) (counter : ℕ) (image : Image) (y : ℕ) (es : List Edit) → IsValid g counter image → y < g.hosts
    → journal g image y ≡ es → All (IsEdit g) es
unfolding journal
each_edit g counter image y es valid below is = subst (All (IsEdit g)) is (valid.journals y below).spelled.edits.each

-- the table with the edits of a host's journal made in it
made_step : (v : LocksView) (h y : ℕ) (t : Table) (es : List Edit) (p : Packing) (image : Image) → Finds v h image → HasTable v.geometry t
    → y < v.geometry.hosts → MayApply v h image y t → journal v.geometry image y ≡ es → IsPackingOf v.geometry t p
    → block_at v.geometry image (kinds.Table t) ≡ packed_bytes 4 p → IsBlock (packed_bytes 4 (made t es p))
    → IsStep v.geometry (counter_of v) h (host_at v h) (kinds.Table t) (packed_bytes 4 (made t es p)) [] None image
made_step v h y t es p image finds has below may is packing spelled block =
    let range : IsGeometry v.geometry = finds.consistent.geometry in
    let each : All (IsEdit v.geometry) es = each_edit v.geometry (counter_of v) image y es finds.agrees.valid below is in
    table_step v h y t p (made t es p) image finds has below may packing spelled (made-packing v.geometry t es p range each packing) block
    (λ x field_has at. made-number v.geometry t es p x range each packing at ∙ ap (λ (ds : List Edit). edited ds x (number_in p x))
    (sym is))

-- the own record in a table of a held resource
pub advance_sure : (v : WorldView) (h : ℕ) (t : Table) (p : Packing) → Consistent v.locks → HasTable v.locks.geometry t
    → holds (host_at v.locks h) (owner t) ≡ true → IsPackingOf v.locks.geometry t p → Knows v h (TableIs t p)
    → Knows v h (RecordIs (record_at v h)) → IsBlock (packed_bytes 4 (made t (record_at v h) p))
    → SureStep v.locks h (kinds.Table t) (packed_bytes 4 (made t (record_at v h) p)) [] None
advance_sure v h t p is has held packing known record_is block =
    let es = record_at v h in
    let Spelled = λ (image : Image). Tells v.locks h image (TableIs t p) in
    let Stands = λ (image : Image). Tells v.locks h image (RecordIs es) in
    sure_found v.locks h (λ image. Spelled image × Stands image)
    (IsStep v.locks.geometry (counter_of v.locks) h (host_at v.locks h) (kinds.Table t) (packed_bytes 4 (made t es p)) [] None) is
    (λ image finds both.
    made_step v.locks h h t es p image finds has (host_found v.locks h image finds) (inl (refl, held)) both.1 packing both.0 block)
    (sure_and v.locks h Spelled Stands known.sure record_is.sure)

-- a dead host's record in a table of a field that it edits
pub replay_sure : (v : WorldView) (h y : ℕ) (t : Table) (kept : Packing) → Consistent v.locks → HasTable v.locks.geometry t
    → IsReplay v h y t kept → IsBlock (packed_bytes 4 kept) → SureStep v.locks h (kinds.Table t) (packed_bytes 4 kept) [] None
replay_sure v h y t kept is has replay block =
    let g = v.locks.geometry in
    let before = replay.before in
    let Stands = λ (image : Image). Tells v.locks h image (DeadRecord y replay.edits) in
    let Spelled = λ (image : Image). Tells v.locks h image (DeadTable y replay.field before) in
    let Step = λ (q : Packing) (image : Image).
    IsStep g (counter_of v.locks) h (host_at v.locks h) (kinds.Table t) (packed_bytes 4 q) [] None image in
    let fits : IsBlock (packed_bytes 4 (made t replay.edits before)) =
    subst (λ (q : Packing). IsBlock (packed_bytes 4 q)) replay.made_is block in
    sure_found v.locks h (λ image. Stands image × Spelled image) (Step kept) is
    (λ image finds both.
    let stood : block_at g image (kinds.Table t) ≡ packed_bytes 4 before =
    subst (λ (u : Table). block_at g image (kinds.Table u) ≡ packed_bytes 4 before) replay.here both.1.1 in
    let may = inr (replay.known.guard.1, (replay.field, replay.table.guard.0, replay.here, both.1.0)) in
    subst (λ (q : Packing). Step q image) (sym replay.made_is)
    (made_step v.locks h y t replay.edits before image finds has replay.known.guard.0 may both.0 replay.packing stood fits))
    (sure_and v.locks h Stands Spelled replay.known.sure replay.table.sure)
