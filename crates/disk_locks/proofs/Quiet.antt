-- A step that writes nothing: the image stays, and only keys and the own memory move.
use Rattle.std.proofs.Common.{◌≡◌, ◌≢◌, ◌<◌, ◌≤◌, ◌/◌, ℕ, List, false, refl, subst, arith}
use Rattle.std.specs.Prelude.{Contains}
use Rattle.vol_layout.specs.declared.geometry.Geometry.{Geometry}
use Rattle.vol_layout.specs.declared.kind.Kind.{Kind}
use Rattle.vol_layout.specs.declared.kind.Kind.TheVariants as kinds
use Rattle.vol_layout.specs.declared.kind.Resource.{Resource}
use Rattle.vol_layout.specs.Ranges.{HasKind}
use Rattle.shared_disk.specs.State.{State}
use Rattle.image_view.specs.Images.{Image, block_at}
use Rattle.image_view.specs.Valid.{IsValid}
use Rattle.image_view.specs.laws.ValidLaws.{IsValid-later}
use Rattle.lock_store.specs.declared.host.HostState.{HostState}
use Rattle.lock_store.specs.Memories.{claim_of, holds, key_of, reads}
use Rattle.lock_store.specs.Views.{at}
use Rattle.disk_locks.specs.Agreement.{Agrees, BlockAgrees, HostAgrees, shown_in}
use Rattle.disk_locks.specs.KeepsImage.{KeepsImage}
use Rattle.disk_locks.specs.laws.GivenLaws.{lock_given, slot_given}
use Rattle.disk_locks.proofs.Steps.{StepImage}

-- agreement stays where no given key comes to be registered
later : (g : Geometry) (counter : ℕ) (keys fewer : List ℕ) (image : Image) (x : ℕ) (m : HostState) → IsValid g counter image
    → ((key : ℕ) → key / 16 ≤ counter → Contains fewer key → Contains keys key) → key_of m / 16 ≤ counter
    → (kind : Kind) → HasKind g kind → BlockAgrees keys x m kind (block_at g image kind) → BlockAgrees fewer x m kind (block_at g image kind)
later g counter keys fewer image x m valid none given kinds.Super has a = tt
later g counter keys fewer image x m valid none given (kinds.Slot y) has a = record {
  mine = a.mine;
  by_mine = a.by_mine;
  live = λ now. a.live (none (key_of m) given now);
  by = λ now. a.by (none (key_of m) given now);
  dead = λ now claim shown. a.dead (none (key_of m) given now) claim (none (shown_in (block_at g image (kinds.Slot y))) (slot_given counter y (block_at g image (kinds.Slot y)) (valid.slots y has)).0 shown);
}
later g counter keys fewer image x m valid none given (kinds.Journal y) has a = tt
later g counter keys fewer image x m valid none given (kinds.Lock r) has a = record {
  mine = a.mine;
  read_mine = a.read_mine;
  held = λ now. a.held (none (key_of m) given now);
  read = λ now. a.read (none (key_of m) given now);
}
later g counter keys fewer image x m valid none given (kinds.Table t) has a = tt
later g counter keys fewer image x m valid none given (kinds.Log y l) has a = tt
later g counter keys fewer image x m valid none given (kinds.Shard s) has a = tt
later g counter keys fewer image x m valid none given (kinds.Request f) has a = tt
later g counter keys fewer image x m valid none given (kinds.Number d) has a = tt

pub agrees_later : (g : Geometry) (counter : ℕ) (keys fewer : List ℕ) (image : Image) (x : ℕ) (m : HostState) → IsValid g counter image
    → ((key : ℕ) → key / 16 ≤ counter → Contains fewer key → Contains keys key) → key_of m / 16 ≤ counter
    → HostAgrees g keys image x m → HostAgrees g fewer image x m
agrees_later g counter keys fewer image x m valid none given a kind has = later g counter keys fewer image x m valid none given kind has (a kind has)

-- a host under a new key, which holds, reads and claims nothing, agrees with every image
pub record IsFresh (m : HostState) : Type 0 where
  pub holds_none : (r : Resource) → holds m r ≡ false
  pub reads_none : (r : Resource) → reads m r ≡ false
  pub claims_none : (y : ℕ) → claim_of m y ≡ 0
  pub out : m.joined ≡ false

pub fresh_agrees : (g : Geometry) (counter : ℕ) (keys : List ℕ) (image : Image) (h : ℕ) (m : HostState) → IsValid g counter image
    → h < 16 → counter < key_of m / 16 → IsFresh m → HostAgrees g keys image h m
fresh_agrees g counter keys image h m valid small new fresh kind has = cases kind has
  where
    past : (n : ℕ) → n / 16 ≤ counter → n ≡ key_of m → ⊥
    past n given e = let low : key_of m / 16 ≤ counter = subst (λ k. k / 16 ≤ counter) e given in absurd (omega (arith, low, new))

    cases : (kind : Kind) → HasKind g kind → BlockAgrees keys h m kind (block_at g image kind)
    cases kinds.Super has = tt
    cases (kinds.Slot y) has =
        let given = slot_given counter y (block_at g image (kinds.Slot y)) (valid.slots y has) in
        record {
          mine = λ e. absurd (past _ given.0 e);
          by_mine = λ e. absurd (past _ given.1 e);
          live = λ now joined. absurd (let none = fresh.out in cc);
          by = λ now claim. absurd (claim (fresh.claims_none y));
          dead = λ now claim. absurd (claim (fresh.claims_none y));
        }
    cases (kinds.Journal y) has = tt
    cases (kinds.Lock r) has =
        let given = lock_given g counter r (block_at g image (kinds.Lock r)) (valid.locks r has) in
        record {
          mine = λ e. absurd (past _ given.0 e);
          read_mine = λ e. absurd (past _ (given.1 h small) e);
          held = λ now is. absurd (let none = fresh.holds_none r in cc);
          read = λ now is. absurd (let none = fresh.reads_none r in cc);
        }
    cases (kinds.Table t) has = tt
    cases (kinds.Log y l) has = tt
    cases (kinds.Shard s) has = tt
    cases (kinds.Request f) has = tt
    cases (kinds.Number d) has = tt

keeps_all : (g : Geometry) (x : ℕ) (m : HostState) (image : Image) → KeepsImage g x m image image
keeps_all g x m image = record {
  record_own = λ joined. refl;
  tables = λ t has may. refl;
  numbers = λ f has may. refl;
  content = λ f d has has' may share. refl;
  fresh = λ d has may none. refl;
  slots = λ s d has held is. (is, λ none. refl);
  left = λ gone free. free;
  dead = λ y below claim. refl;
  standing = λ y below claim. refl;
  replayed = λ y f has below claim touched. refl;
}

-- the image stays
pub quiet_image : (g : Geometry) (s : State) (counter : ℕ) (keys : List ℕ) (hosts : List HostState) (h : ℕ) (m : HostState) (image : Image)
    → Agrees g s.counter s.keys hosts image → s.counter ≤ counter
    → ((key : ℕ) → key / 16 ≤ s.counter → Contains keys key → Contains s.keys key)
    → ((x : ℕ) → key_of (at hosts x) ≢ 0 → key_of (at hosts x) / 16 ≤ s.counter)
    → (key_of m ≢ 0 → HostAgrees g keys image h m)
    → StepImage g s counter keys hosts h m image image
quiet_image g s counter keys hosts h m image agrees le fewer given own = record {
  valid = IsValid-later g s.counter counter image le agrees.valid;
  own = own;
  agree = λ x ne some. agrees_later g s.counter s.keys keys image x (at hosts x) agrees.valid fewer (given x some) (agrees.agree x some);
  keeps = λ x ne some now. keeps_all g x (at hosts x) image;
  fades = λ r key has off held. held;
}
