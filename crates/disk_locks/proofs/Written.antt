-- One written block as a step: what it owes for its own block, and that all others are as before.
use Rattle.std.proofs.Common.{◌≡◌, ◌≢◌, ◌⊎◌, ◌<◌, ◌≤◌, ◌+◌, ℕ, List, length, sym, ap, ◌∙◌, subst, arith, inl, inr}
use Rattle.std.specs.Prelude.{Contains}
use Rattle.std.proofs.lemmas.Bool.{cases_eq}
use Rattle.vol_base.specs.Bytes.{u32_at}
use Rattle.vol_layout.specs.declared.geometry.Geometry.{Geometry}
use Rattle.vol_layout.specs.declared.kind.Kind.{Kind}
use Rattle.vol_layout.specs.declared.kind.Kind.TheVariants as kinds
use Rattle.vol_layout.specs.declared.kind.Resource.{Resource}
use Rattle.vol_layout.specs.declared.field.Field.TheVariants.{Slot}
use Rattle.vol_layout.specs.Fields.{table_of}
use Rattle.vol_layout.specs.Places.{place_of}
use Rattle.vol_layout.specs.Ranges.{HasKind, data_blocks}
use Rattle.vol_layout.specs.Regions.{total}
use Rattle.vol_layout.specs.laws.PlaceLaws.{places_apart}
use Rattle.shared_disk.specs.State.{State}
use Rattle.image_view.specs.HostKeys.{slot_state_at}
use Rattle.image_view.specs.Images.{Image, OnlyChanges, block_at, written}
use Rattle.image_view.specs.Valid.{IsValid}
use Rattle.image_view.specs.laws.FrameLaws.{HasTable-table_of, block_at-written, field_kept, lock_key_kept, lock_state_kept, logical_kept, slot_key_kept, write_only}
use Rattle.lock_store.specs.declared.host.HostState.{HostState}
use Rattle.lock_store.specs.Memories.{claim_of, key_of}
use Rattle.lock_store.specs.Views.{at}
use Rattle.disk_locks.specs.Agreement.{Agrees, BlockAgrees, HostAgrees}
use Rattle.disk_locks.specs.KeepsImage.{KeepsImage}
use Rattle.disk_locks.specs.Others.{Fades}
use Rattle.disk_locks.proofs.Steps.{StepImage}

-- two kinds of block are one or not
pub cases_kind : (g : Geometry) (kind other : Kind) → HasKind g kind → HasKind g other → (other ≡ kind) ⊎ (other ≢ kind)
cases_kind g kind other has has' =
    elim (cases_eq (place_of g other) (place_of g kind)) [
      | inl e ↦ inl (places_apart g other kind has' has e)
      | inr ne ↦ inr (λ e. ne (ap (place_of g) e))
    ]

-- what the written block owes
pub record Writing (g : Geometry) (s : State) (counter : ℕ) (keys : List ℕ) (hosts : List HostState) (h : ℕ) (m : HostState)
    (kind : Kind) (block : List ℕ) (old : Image) : Type 0 where
  pub valid : IsValid g counter (written g old kind block)
  pub own : BlockAgrees keys h m kind block
  pub frame : (other : Kind) → HasKind g other → other ≢ kind
      → BlockAgrees keys h (at hosts h) other (block_at g old other) → BlockAgrees keys h m other (block_at g old other)
  pub agree : (x : ℕ) → x ≢ h → key_of (at hosts x) ≢ 0 → BlockAgrees keys x (at hosts x) kind block
  pub keeps : (x : ℕ) → x ≢ h → key_of (at hosts x) ≢ 0 → Contains keys (key_of (at hosts x)) → KeepsImage g x (at hosts x) old (written g old kind block)
  pub fades : Fades g s old (written g old kind block)

-- agreement after a write, from that of the one block
after_write : (g : Geometry) (keys : List ℕ) (x : ℕ) (m n : HostState) (kind : Kind) (block : List ℕ) (old : Image)
    → HasKind g kind → total g ≤ length old → HostAgrees g keys old x m → BlockAgrees keys x n kind block
    → ((other : Kind) → HasKind g other → other ≢ kind → BlockAgrees keys x m other (block_at g old other) → BlockAgrees keys x n other (block_at g old other))
    → HostAgrees g keys (written g old kind block) x n
after_write g keys x m n kind block old has long was own frame other has' =
    elim (cases_kind g kind other has has') [
      | inl e ↦
          subst (λ (k : Kind). BlockAgrees keys x n k (block_at g (written g old kind block) k)) (sym e)
          (subst (λ (b : List ℕ). BlockAgrees keys x n kind b) (sym (block_at-written g old kind block has long)) own)
      | inr ne ↦
          subst (λ (b : List ℕ). BlockAgrees keys x n other b) (sym (write_only g old kind block has other has' ne))
          (frame other has' ne (was other has'))
    ]

pub written_step : (g : Geometry) (s : State) (counter : ℕ) (keys : List ℕ) (hosts : List HostState) (h : ℕ) (m : HostState) (kind : Kind)
    (block : List ℕ) (old : Image) → HasKind g kind → Agrees g counter keys hosts old → key_of (at hosts h) ≢ 0
    → Writing g s counter keys hosts h m kind block old → StepImage g s counter keys hosts h m old (written g old kind block)
written_step g s counter keys hosts h m kind block old has agrees some w = record {
  valid = w.valid;
  own = λ named. after_write g keys h (at hosts h) m kind block old has agrees.valid.long (agrees.agree h some) w.own w.frame;
  agree = λ x ne named. after_write g keys x (at hosts x) (at hosts x) kind block old has agrees.valid.long (agrees.agree x named) (w.agree x ne named) (λ other has' apart a. a);
  keeps = w.keeps;
  fades = w.fades;
}

-- slots and locks
abbrev pub IsHostKind : Kind → Type 0
IsHostKind kinds.Super = ⊥
IsHostKind (kinds.Slot h) = Unit {0}
IsHostKind (kinds.Journal h) = ⊥
IsHostKind (kinds.Lock r) = Unit {0}
IsHostKind (kinds.Table t) = ⊥
IsHostKind (kinds.Log h l) = ⊥
IsHostKind (kinds.Shard s) = ⊥
IsHostKind (kinds.Request f) = ⊥
IsHostKind (kinds.Number d) = ⊥

pub not_host : (kind other : Kind) → IsHostKind kind → (IsHostKind other → ⊥) → other ≢ kind
not_host kind other host no_host e = no_host (subst IsHostKind (sym e) host)

-- a slot whose block stays is free as before
pub free_kept : (g : Geometry) (old new : Image) (y : ℕ) → block_at g new (kinds.Slot y) ≡ block_at g old (kinds.Slot y)
    → slot_state_at g old y ≡ 0 → slot_state_at g new y ≡ 0
unfolding slot_state_at
free_kept g old new y same free = ap (λ (b : List ℕ). u32_at b 8) same ∙ free

-- a write of a slot or a lock leaves all that others rely on, where nobody else claimed that slot, and where it stays free
pub keeps_host : (g : Geometry) (counter : ℕ) (x : ℕ) (m : HostState) (kind : Kind) (block : List ℕ) (old : Image) → IsValid g counter old → IsHostKind kind → HasKind g kind → x < g.hosts
    → ((y : ℕ) → y < g.hosts → claim_of m y ≢ 0 → kinds.Slot y ≢ kind)
    → (kinds.Slot x ≡ kind → slot_state_at g old x ≡ 0 → slot_state_at g (written g old kind block) x ≡ 0)
    → KeepsImage g x m old (written g old kind block)
keeps_host g counter x m kind block old valid host has below apart stays =
    let new = written g old kind block in
    let only : OnlyChanges g old new kind = write_only g old kind block has in
    let same = λ (other : Kind) (has' : HasKind g other) (no_host : IsHostKind other → ⊥). only other has' (not_host kind other host no_host) in
    record {
      record_own = λ joined. same (kinds.Journal x) below (λ p. p);
      tables = λ t has' may. same (kinds.Table t) has' (λ p. p);
      numbers = λ f has' may. logical_kept g old new kind f only (λ y. not_host kind (kinds.Journal y) host (λ p. p)) (λ t. not_host kind (kinds.Table t) host (λ p. p)) has';
      content = λ f d has' count may share. same (kinds.Number d) count (λ p. p);
      fresh = λ d count may none. same (kinds.Number d) count (λ p. p);
      slots = λ s d has' held is. (
        field_kept g old new kind (Slot s) only has' (not_host kind (kinds.Table (table_of (Slot s))) host (λ p. p)) ∙ is,
        λ none. let range : d + 1 ≤ data_blocks g = rw is at (valid.numbers (Slot s) has') in same (kinds.Number d) (omega (arith, range)) (λ p. p),
      );
      left = λ gone free. elim (cases_kind g kind (kinds.Slot x) has below) [
        | inl e ↦ stays e free
        | inr ne ↦ free_kept g old new x (only (kinds.Slot x) below ne) free
      ];
      dead = λ y below' claim. slot_key_kept g old new kind y only below' (apart y below' claim);
      standing = λ y below' claim. same (kinds.Journal y) below' (λ p. p);
      replayed = λ y f has' below' claim touched. same (kinds.Table (table_of f)) (HasTable-table_of g f has') (λ p. p);
    }

-- a write of no lock brings no lock under another key
pub fades_kept : (g : Geometry) (s : State) (old : Image) (kind : Kind) (block : List ℕ) → HasKind g kind → ((r : Resource) → kinds.Lock r ≢ kind)
    → Fades g s old (written g old kind block)
fades_kept g s old kind block has apart r key has' off held =
    let new = written g old kind block in
    let only : OnlyChanges g old new kind = write_only g old kind block has in
    record {
      held = sym (lock_state_kept g old new kind r only has' (apart r)) ∙ held.held;
      by = sym (lock_key_kept g old new kind r only has' (apart r)) ∙ held.by;
    }
