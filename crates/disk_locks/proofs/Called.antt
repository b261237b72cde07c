-- What a call of the store did, as a step: refusals and other calls that write nothing, and writes.
use Rattle.std.proofs.Common.{◌≡◌, ◌≢◌, ◌⊎◌, ℕ, Bool, List, [], Option, Some, None, true, false, refl, sym, ap, ◌∙◌, subst, arith, inl, inr, option_map, replicate}
use Rattle.std.specs.Prelude.{Contains, IfSome, slice_get, slice_set}
use Rattle.std.proofs.lemmas.List.{get_or-replicate, get_or_past, length-replicate}
use Rattle.std.proofs.lemmas.Bool.{cases_lt}
use Rattle.std.proofs.lemmas.Option.{get_or_from_slice_get}
use Rattle.vol_layout.specs.declared.geometry.Geometry.{Geometry}
use Rattle.vol_layout.specs.declared.kind.Kind.{Kind}
use Rattle.vol_layout.specs.declared.kind.Resource.{Resource}
use Rattle.vol_layout.specs.declared.kind.Resource.TheVariants.{File, Group, Part}
use Rattle.vol_layout.specs.Places.{place_of}
use Rattle.shared_disk.specs.Calls.{after_write, told_after}
use Rattle.shared_disk.specs.Events.{Call, Changes, Fences, Reads, Registers, Reply, Shows, Tests, Writes}
use Rattle.shared_disk.specs.State.{State, Told}
use Rattle.image_view.specs.Images.{Image, block_at, written}
use Rattle.lock_store.specs.declared.answers.StepNo.{StepNo}
use Rattle.lock_store.specs.declared.answers.StepNo.TheVariants as steps
use Rattle.lock_store.specs.declared.host.HostState.{HostState}
use Rattle.lock_store.specs.Devices.{IsDevice}
use Rattle.lock_store.specs.Events.{Did, IsRefusal}
use Rattle.lock_store.specs.Memories.{claim_of, dropped, holds, index_of, key_of, left, reads}
use Rattle.lock_store.specs.Views.{LocksView, at, counter_of, host_at, key_at, keys_of, told_of}
use Rattle.disk_locks.specs.Agreement.{Agrees, HostAgrees}
use Rattle.disk_locks.specs.Consistent.{Consistent}
use Rattle.disk_locks.specs.Memories.{IsMemory}
use Rattle.disk_locks.specs.Others.{Others}
use Rattle.disk_locks.specs.Sure.{BothTold}
use Rattle.disk_locks.proofs.Ground.{Ground}
use Rattle.disk_locks.proofs.Quiet.{IsFresh, quiet_image}
use Rattle.disk_locks.proofs.Steps.{Later, Moves, StepImage, memory_later, step_law}

-- two facts on what is told
pub told_with : (told : Option Told) (P Q R : Told → Type 0) → IfSome told P → IfSome told Q → ((t : Told) → P t → Q t → R t) → IfSome told R
told_with None P Q R p q f = tt
told_with (Some t) P Q R p q f = f t p q

pub told_map : (told : Option Told) (P R : Told → Type 0) → IfSome told P → ((t : Told) → P t → R t) → IfSome told R
told_map None P R p f = tt
told_map (Some t) P R p f = f t p

-- an image that stays is in a relation with itself
both_same : (old new : Option Told) (R : Image → Image → Type 0) → new ≡ old → IfSome old (λ t. R t.image t.image) → BothTold old new R
both_same old new R same r = subst (λ (o : Option Told). BothTold old o R) (sym same) (each old r)
  where
    each : (old : Option Told) → IfSome old (λ t. R t.image t.image) → BothTold old old R
    each None r = tt
    each (Some t) r = r

-- an image in which one block is written
both_written : (old new : Option Told) (place : ℕ) (block : List ℕ) (R : Image → Image → Type 0) → new ≡ option_map (told_after place block) old
    → IfSome old (λ t. R t.image (slice_set t.image place block)) → BothTold old new R
both_written old new place block R is r = subst (λ (o : Option Told). BothTold old o R) (sym is) (each old r)
  where
    each : (old : Option Told) → IfSome old (λ t. R t.image (slice_set t.image place block)) → BothTold old (option_map (told_after place block) old) R
    each None r = tt
    each (Some t) r = r

-- the memory of a dropped host is in order, and fresh
none_held : (r : Resource) → holds dropped r ≡ false
unfolding dropped
none_held r = elim (cases_lt (index_of r) 144) [
  | inl lt ↦ get_or-replicate {A = Bool} 144 (index_of r) false false lt
  | inr ge ↦ get_or_past (replicate 144 false) (index_of r) false (omega (arith, ge, length-replicate {A = Bool} 144 false))
]

none_read : (r : Resource) → reads dropped r ≡ false
unfolding dropped
none_read (File f) = elim (cases_lt f 64) [
  | inl lt ↦ get_or-replicate {A = Bool} 64 f false false lt
  | inr ge ↦ get_or_past (replicate 64 false) f false (omega (arith, ge, length-replicate {A = Bool} 64 false))
]
none_read (Part p) = refl
none_read (Group r) = refl

none_claimed : (y : ℕ) → claim_of dropped y ≡ 0
unfolding dropped
none_claimed y = elim (cases_lt y 16) [
  | inl lt ↦ get_or-replicate {A = ℕ} 16 y 0 0 lt
  | inr ge ↦ get_or_past (replicate 16 0) y 0 (omega (arith, ge, length-replicate {A = ℕ} 16 0))
]

-- a host that left holds and reads nothing
pub left_holds : (m : HostState) (r : Resource) → holds (left m) r ≡ false
unfolding dropped
left_holds m r = none_held r

pub left_reads : (m : HostState) (r : Resource) → reads (left m) r ≡ false
unfolding dropped
left_reads m (File f) = none_read (File f)
left_reads m (Part p) = refl
left_reads m (Group r) = refl

pub dropped_fresh : IsFresh dropped
unfolding dropped
dropped_fresh = record { holds_none = none_held; reads_none = none_read; claims_none = none_claimed; out = refl }

pub dropped_keyless : key_of dropped ≡ 0
unfolding dropped
dropped_keyless = refl

pub dropped_memory : (hosts counter h : ℕ) → IsMemory hosts counter h dropped
unfolding dropped
dropped_memory hosts counter h = record {
  held = length-replicate {A = Bool} 144 false;
  reading = length-replicate {A = Bool} 64 false;
  claims = length-replicate {A = ℕ} 16 0;
  named = λ some. absurd (some refl);
  none = λ e. refl;
  keyless = λ e. refl;
  unclaimed = λ e y. none_claimed y;
  out = λ out r. rw (none_held r, none_read r) refl;
  own = λ e. none_claimed h;
  gone = λ e. refl;
}

-- the same key, joined or left as before
pub moves_same : (counter : ℕ) (m n : HostState) → key_of n ≡ key_of m → (m.joined ≡ true → (n.joined ≡ true) ⊎ (n.freed ≡ true)) → (m.freed ≡ true → n.freed ≡ true)
    → Moves counter m n
moves_same counter m n key joined freed = record { joined = λ e some. joined; freed = λ e some. freed; fresh = λ ne. absurd (ne key) }

pub stays_in : (m : HostState) → m.joined ≡ true → (m.joined ≡ true) ⊎ (m.freed ≡ true)
stays_in m is = inl is

pub moves_none : (counter : ℕ) (m : HostState) → Moves counter m dropped
moves_none counter m = record {
  joined = λ e some. absurd (some (sym e ∙ dropped_keyless));
  freed = λ e some. absurd (some (sym e ∙ dropped_keyless));
  fresh = λ ne. inl dropped_keyless;
}

-- what a step leaves in memory
pub record IsPlaced (v : LocksView) (h : ℕ) (m : HostState) (w : LocksView) : Type 0 where
  pub geometry : w.geometry ≡ v.geometry
  pub mine : host_at w h ≡ m
  pub others : (x : ℕ) → x ≢ h → host_at w x ≡ host_at v x

pub placed : (v : LocksView) (h : ℕ) (call : Call) (reply : Reply) (m : HostState) (w : LocksView) → Did v h call reply m w → IsPlaced v h m w
placed v h call reply m w did = record { geometry = did.geometry; mine = did.mine; others = did.others }

-- a step that tells what it told before
pub quiet_law : (v : LocksView) (h : ℕ) (m : HostState) (w : LocksView) → Consistent v → IsPlaced v h m w → IsDevice w.disk.state
    → Later v.disk.state w.disk.state → told_of w ≡ told_of v → IsMemory v.geometry.hosts (counter_of w) h m → Moves (counter_of v) (host_at v h) m
    → IfSome (told_of v) (λ t. Agrees v.geometry (counter_of v) (keys_of v) v.hosts t.image → key_of m ≢ 0 → HostAgrees v.geometry (keys_of w) t.image h m)
    → Consistent w × Others h v w
quiet_law v h m w is did device later same memory moves own = step_law v h m w is (record {
  geometry = did.geometry;
  mine = did.mine;
  others = did.others;
  device = device;
  later = later;
  memory = memory;
  moves = moves;
  image = both_same (told_of v) (told_of w) (StepImage v.geometry v.disk.state (counter_of w) (keys_of w) v.hosts h m) same
      (told_with (told_of v) (λ t. Agrees v.geometry (counter_of v) (keys_of v) v.hosts t.image)
      (λ t. Agrees v.geometry (counter_of v) (keys_of v) v.hosts t.image → key_of m ≢ 0 → HostAgrees v.geometry (keys_of w) t.image h m)
      (λ t. StepImage v.geometry v.disk.state (counter_of w) (keys_of w) v.hosts h m t.image t.image) is.told own
      (λ t agrees own. quiet_image v.geometry v.disk.state (counter_of w) (keys_of w) v.hosts h m t.image agrees later.counter later.fewer
      (λ x some. ((is.memories x).named some).2) (own agrees)));
})

later_same : (s t : State) → t ≡ s → Later s t
later_same s t e = subst (λ (u : State). Later s u) (sym e) (record { counter = omega arith; blocks = refl; fewer = λ key given now. now })

-- a step that leaves the device's state, after which the host is dropped or as before
pub same_law : (v : LocksView) (h : ℕ) (m : HostState) (w : LocksView) → Consistent v → IsPlaced v h m w
    → w.disk.state ≡ v.disk.state → (m ≡ dropped) ⊎ (m ≡ host_at v h) → Consistent w × Others h v w
same_law v h m w is did same which =
    let device = subst IsDevice (sym same) is.device in
    let later = later_same v.disk.state w.disk.state same in
    let told : told_of w ≡ told_of v = ap (λ (s : State). s.told) same in
    let counter : counter_of w ≡ counter_of v = ap (λ (s : State). s.counter) same in
    elim which [
      | inl none ↦
          let keyless : key_of m ≡ 0 = ap key_of none ∙ dropped_keyless in
          quiet_law v h m w is did device later told
          (subst (λ (n : HostState). IsMemory v.geometry.hosts (counter_of w) h n) (sym none) (dropped_memory v.geometry.hosts (counter_of w) h))
          (subst (λ (n : HostState). Moves (counter_of v) (host_at v h) n) (sym none) (moves_none (counter_of v) (host_at v h)))
          (told_map (told_of v) (λ t. Agrees v.geometry (counter_of v) (keys_of v) v.hosts t.image) _ is.told (λ t a agrees named. absurd (named keyless)))
      | inr kept ↦
          quiet_law v h m w is did device later told
          (subst (λ (n : HostState). IsMemory v.geometry.hosts (counter_of w) h n) (sym kept) (memory_later v.geometry.hosts (counter_of v) (counter_of w) h (host_at v h) later.counter (is.memories h)))
          (subst (λ (n : HostState). Moves (counter_of v) (host_at v h) n) (sym kept) (moves_same (counter_of v) (host_at v h) (host_at v h) refl (stays_in (host_at v h)) (λ e. e)))
          (told_map (told_of v) (λ t. Agrees v.geometry (counter_of v) (keys_of v) v.hosts t.image) _ is.told
          (λ t a agrees named. subst (λ (n : HostState). HostAgrees v.geometry (keys_of w) t.image h n) (sym kept)
          (subst (λ (s : State). HostAgrees v.geometry s.keys t.image h (host_at v h)) (sym same) (agrees.agree h (λ none. named (ap key_of kept ∙ none))))))
    ]

-- a call that shows a block leaves the device's state
pub shows_same : (call : Call) (block : List ℕ) (s t : State) → Changes call (Shows block) s t → t ≡ s
shows_same (Reads place) block s t c = c.1
shows_same (Writes place b) block s t c = absurd c
shows_same (Tests place old new) block s t c = c.2
shows_same (Registers host) block s t c = absurd c
shows_same (Fences target) block s t c = absurd c

pub shows_law : (v : LocksView) (h : ℕ) (call : Call) (block : List ℕ) (m : HostState) (w : LocksView) → Consistent v → key_at v h ≢ 0 → Did v h call (Shows block) m w
    → (m ≡ dropped) ⊎ (m ≡ host_at v h) → Consistent w × Others h v w
shows_law v h call block m w is some did which = same_law v h m w is (placed v h call (Shows block) m w did) (shows_same call block v.disk.state w.disk.state did.acts.changes) which

-- a refusal
pub refusal_law : (v : LocksView) (h : ℕ) (call : Call) (place : ℕ) (Fits : List ℕ → Type 0) (why : StepNo) (w : LocksView) → Consistent v → key_at v h ≢ 0
    → IsRefusal v h call place Fits why w → Consistent w × Others h v w
refusal_law v h call place Fits steps.Fenced w is some did = same_law v h dropped w is (placed v h call _ dropped w did) did.acts.changes (inl refl)
refusal_law v h call place Fits steps.Failed w is some did = same_law v h dropped w is (placed v h call _ dropped w did) did.acts.changes (inl refl)
refusal_law v h call place Fits steps.NoMemory w is some did = same_law v h (host_at v h) w is (placed v h call _ (host_at v h) w did) did.acts.changes (inr refl)
refusal_law v h call place Fits (steps.Bad at) w is some r = shows_law v h call r.1.0 dropped w is some r.1.1 (inl refl)

-- a write of one block
pub write_law : (v : LocksView) (h : ℕ) (call : Call) (reply : Reply) (m : HostState) (w : LocksView) (kind : Kind) (block : List ℕ) → Consistent v → Did v h call reply m w
    → IsDevice w.disk.state → w.disk.state ≡ after_write (place_of v.geometry kind) block v.disk.state
    → IsMemory v.geometry.hosts (counter_of v) h m → Moves (counter_of v) (host_at v h) m
    → IfSome (told_of v) (λ t. StepImage v.geometry v.disk.state (counter_of v) (keys_of v) v.hosts h m t.image (written v.geometry t.image kind block))
    → Consistent w × Others h v w
write_law v h call reply m w kind block is did device same memory moves image =
    let place = place_of v.geometry kind in
    let counter : counter_of w ≡ counter_of v = ap (λ (s : State). s.counter) same in
    let keys : keys_of w ≡ keys_of v = ap (λ (s : State). s.keys) same in
    step_law v h m w is (record {
      geometry = did.geometry;
      mine = did.mine;
      others = did.others;
      device = device;
      later = subst (λ (s : State). Later v.disk.state s) (sym same) (record { counter = omega arith; blocks = refl; fewer = λ key given now. now });
      memory = subst (λ c. IsMemory v.geometry.hosts c h m) (sym counter) memory;
      moves = moves;
      image = both_written (told_of v) (told_of w) place block (StepImage v.geometry v.disk.state (counter_of w) (keys_of w) v.hosts h m) (ap (λ (s : State). s.told) same)
          (subst (λ c. IfSome (told_of v) (λ t. StepImage v.geometry v.disk.state c (keys_of w) v.hosts h m t.image (slice_set t.image place block))) (sym counter)
          (subst (λ (k : List ℕ). IfSome (told_of v) (λ t. StepImage v.geometry v.disk.state (counter_of v) k v.hosts h m t.image (slice_set t.image place block))) (sym keys) image));
    })

-- what a registered host starts from
pub grounded : (v : LocksView) (h : ℕ) → Consistent v → Contains (keys_of v) (key_at v h) → key_at v h ≢ 0 → IfSome (told_of v) (λ t. Ground v h t.image)
grounded v h is here some = told_map (told_of v) (λ t. Agrees v.geometry (counter_of v) (keys_of v) v.hosts t.image) (λ t. Ground v h t.image) is.told
    (λ t agrees. record { agrees = agrees; memories = is.memories; here = here; some = some })

-- the block that stands at the place of a kind
pub stands_block : (g : Geometry) (image : Image) (kind : Kind) (block : List ℕ) → slice_get image (place_of g kind) ≡ Some block → block_at g image kind ≡ block
unfolding block_at
stands_block g image kind block is = get_or_from_slice_get image (place_of g kind) block [] is
