-- A block that is not of its kind: the host that read it is dropped, and only a device that tells nothing shows it.
use Rattle.std.proofs.Common.{◌≡◌, ◌<◌, ◌∙◌, ℕ, List, Option, Some, None, refl, sym, ap, subst}
use Rattle.std.specs.Prelude.{IfSome, slice_get}
use Rattle.vol_base.specs.Bytes.{u32_at}
use Rattle.vol_layout.specs.declared.geometry.Geometry.{Geometry}
use Rattle.vol_layout.specs.declared.kind.Kind.{Kind}
use Rattle.vol_layout.specs.declared.kind.Kind.TheVariants as kinds
use Rattle.vol_layout.specs.declared.kind.Table.{Table}
use Rattle.vol_layout.specs.Fields.{IsInRange, byte_of}
use Rattle.vol_layout.specs.Places.{place_of}
use Rattle.vol_layout.specs.Ranges.{HasTable}
use Rattle.shared_disk.specs.Events.{Acts, Call, event}
use Rattle.shared_disk.specs.Events.Reply.{Shows}
use Rattle.shared_disk.specs.Seen.{DiskSeen}
use Rattle.shared_disk.specs.State.{Told}
use Rattle.image_view.specs.Images.{Image, block_at}
use Rattle.image_view.specs.Numbers.{field}
use Rattle.image_view.specs.Valid.{IsValid}
use Rattle.lock_store.specs.declared.answers.StepNo.{StepNo}
use Rattle.lock_store.specs.declared.answers.StepNo.TheVariants.{Bad}
use Rattle.lock_store.specs.declared.host.HostState.{HostState}
use Rattle.lock_store.specs.Events.{Did, IsRefusal, Notes, read_of}
use Rattle.lock_store.specs.Memories.{dropped}
use Rattle.lock_store.specs.Views.{LocksView, counter_of, host_at, key_at, keys_of, told_of}
use Rattle.disk_locks.specs.Agreement.{Agrees}
use Rattle.disk_locks.specs.Consistent.{Consistent}
use Rattle.host_facts.specs.Calls.{FitsJournal, FitsTable}
use Rattle.host_facts.specs.laws.FindsLaws.{stands_block}

-- a call and then a note in memory are one call, which leaves the memory that was noted
pub did_then : (v u w : LocksView) (h : ℕ) (call : Call) (block : List ℕ) (m n : HostState) → Did v h call (Shows block) m u → Notes h n u w
    → Did v h call (Shows block) n w
did_then v u w h call block m n did notes = record {
  geometry = notes.geometry ∙ did.geometry;
  mine = notes.mine;
  others = λ x ne. notes.others x ne ∙ did.others x ne;
  acts = subst (λ (d : DiskSeen). Acts (event (key_at v h) call (Shows block)) v.disk d) (sym notes.disk) did.acts;
}

-- the refusal of a block that was read and does not fit
pub bad_refusal : {v u w : LocksView} {h : ℕ} {call : Call} (kind : Kind) (Fits : List ℕ → Type 0) {block : List ℕ} {why : StepNo}
    → Did v h call (Shows block) (host_at v h) u → Notes h dropped u w → why ≡ Bad (place_of u.geometry kind) → (Fits block → ⊥)
    → IsRefusal v h call (place_of v.geometry kind) Fits why w
bad_refusal {v = v} {u = u} {w = w} {h = h} {call = call} kind Fits {block = block} {why = why} did notes is unfit =
    subst (λ (s : StepNo). IsRefusal v h call (place_of v.geometry kind) Fits s w) (sym is)
    (ap (λ (g : Geometry). place_of g kind) did.geometry, (block, did_then v u w h call block (host_at v h) dropped did notes, unfit))

untold : (told : Option Told) (A : Image → Type 0) (place : ℕ) (block : List ℕ) → IfSome told (λ t. A t.image)
    → IfSome told (λ t. slice_get t.image place ≡ Some block) → ((image : Image) → A image → slice_get image place ≡ Some block → ⊥)
    → told ≡ None
untold None A place block a s f = refl
untold (Some t) A place block a s f = absurd (f t.image a s)

-- a told image is valid, so what is read there fits
fits_untold : (v : LocksView) (h : ℕ) (kind : Kind) (Fits : List ℕ → Type 0) (block : List ℕ) (m : HostState) (w : LocksView) → Consistent v
    → ((image : Image) → IsValid v.geometry (counter_of v) image → Fits (block_at v.geometry image kind))
    → Did v h (read_of v kind) (Shows block) m w → (Fits block → ⊥) → told_of v ≡ None
fits_untold v h kind Fits block m w is fits did unfit =
    untold (told_of v) (λ image. Agrees v.geometry (counter_of v) (keys_of v) v.hosts image) (place_of v.geometry kind) block is.told
    did.acts.changes.0
    (λ image agrees stands. unfit (subst Fits (stands_block v.geometry image kind block stands) (fits image agrees.valid)))

fits_table : (g : Geometry) (counter : ℕ) (image : Image) (t : Table) → HasTable g t → IsValid g counter image
    → FitsTable g t (block_at g image (kinds.Table t))
unfolding field
fits_table g counter image t has valid = (
  valid.tables t has,
  λ x field_has at. subst (λ (u : Table). IsInRange g x (u32_at (block_at g image (kinds.Table u)) (byte_of x)))
      at (valid.numbers x field_has),
)

pub table_untold : {v w : LocksView} {h : ℕ} {t : Table} {block : List ℕ} {m : HostState} → Consistent v → HasTable v.geometry t
    → Did v h (read_of v (kinds.Table t)) (Shows block) m w → (FitsTable v.geometry t block → ⊥) → told_of v ≡ None
table_untold {v = v} {w = w} {h = h} {t = t} {block = block} {m = m} is has = fits_untold v h (kinds.Table t) (FitsTable v.geometry t)
    block m w is (λ image. fits_table v.geometry (counter_of v) image t has)

pub journal_untold : {v w : LocksView} {h y : ℕ} {block : List ℕ} {m : HostState} → Consistent v → y < v.geometry.hosts
    → Did v h (read_of v (kinds.Journal y)) (Shows block) m w → (FitsJournal v.geometry block → ⊥) → told_of v ≡ None
journal_untold {v = v} {w = w} {h = h} {y = y} {block = block} {m = m} is below =
    fits_untold v h (kinds.Journal y) (FitsJournal v.geometry) block m w is (λ image valid. (_, (_, (valid.journals y below).spelled)))
