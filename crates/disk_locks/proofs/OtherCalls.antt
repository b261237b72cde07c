-- The calls on keys, reads, writes of other blocks, and how the locks begin.
use Rattle.std.proofs.Common.{◌≡◌, ◌≢◌, ◌<◌, ◌≤◌, ◌+◌, ◌*◌, ◌/◌, ◌%◌, ◌∷◌, [], ◌||◌, ℕ, Bool, false, cond, List, not, refl, sym, ap, ap₂, ◌∙◌, subst, arith, inl, inr, replicate}
use Rattle.std.specs.Prelude.{Contains, Err, IfSome, Ok, Result, filter, nat_eq}
use Rattle.std.proofs.lemmas.Bool.{cases_Bool, cases_lt}
use Rattle.std.proofs.lemmas.List.{get_or-replicate, get_or_past, length-replicate}
use Rattle.std.proofs.lemmas.List.Elements.{Contains-append_cases, Contains-append_left, Contains-append_right, Contains-push_cases}
use Rattle.vol_base.specs.declared.block.Block.{Block}
use Rattle.vol_base.specs.declared.block.Key.{Key}
use Rattle.vol_layout.specs.declared.kind.Kind.{Kind}
use Rattle.vol_layout.specs.declared.kind.Kind.TheVariants as kinds
use Rattle.vol_layout.specs.declared.kind.Resource.{Resource}
use Rattle.vol_layout.specs.declared.kind.Resource.TheVariants.{File, Group, Part}
use Rattle.vol_layout.specs.Places.{place_of}
use Rattle.vol_layout.specs.Ranges.{IsGeometry}
use Rattle.vol_layout.specs.Regions.{total}
use Rattle.shared_disk.specs.Calls.{after_fence, after_register, next_key}
use Rattle.shared_disk.specs.State.{State}
use Rattle.shared_disk.specs.declared.answers.DiskNo.{DiskNo}
use Rattle.shared_disk.specs.declared.answers.Tested.{Tested}
use Rattle.shared_disk.specs.declared.answers.Tested.TheVariants as tested
use Rattle.slot_lock_blocks.specs.declared.slot.Slot.{Slot}
use Rattle.image_view.specs.Images.{written}
use Rattle.image_view.specs.Valid.{IsValid}
use Rattle.lock_store.specs.declared.answers.StepNo.{StepNo}
use Rattle.lock_store.specs.declared.host.HostState.{HostState}
use Rattle.lock_store.specs.Calls.{AnyBlock, FencesKey, ReadsBlock, RegistersHost, SwapsBlock, WritesBlock}
use Rattle.lock_store.specs.Devices.{IsDevice}
use Rattle.lock_store.specs.Events.{Notes}
use Rattle.lock_store.specs.Memories.{dropped, key_of, may_read, reads, registered}
use Rattle.lock_store.specs.SlotTries.{FitsSlot, ReadsSlot}
use Rattle.lock_store.specs.declared.purpose.SlotUse.TheVariants as uses
use Rattle.lock_store.specs.Tries.{ConfirmsLock, IsLockBlock}
use Rattle.lock_store.specs.Views.{LocksView, at, counter_of, host_at, key_at, keys_of, told_of}
use Rattle.disk_locks.specs.Agreement.{Agrees}
use Rattle.disk_locks.specs.Consistent.{Consistent}
use Rattle.disk_locks.specs.Memories.{IsMemory}
use Rattle.disk_locks.specs.MayWrite.{IsWritable, MayWrite}
use Rattle.disk_locks.specs.Others.{Others}
use Rattle.disk_locks.specs.Sure.{Sure}
use Rattle.disk_locks.proofs.Called.{dropped_fresh, dropped_keyless, dropped_memory, grounded, moves_same, placed, quiet_law, refusal_law, same_law, shows_law, stays_in, told_map, told_with, write_law}
use Rattle.disk_locks.proofs.Ground.{Ground}
use Rattle.disk_locks.proofs.PlainSteps.{plain_step}
use Rattle.disk_locks.proofs.Quiet.{agrees_later, fresh_agrees}
use Rattle.disk_locks.proofs.Steps.{Later, StepImage, memory_later}

key_parts : (c h key : ℕ) → h < 16 → key ≡ (c + 1) * 16 + h → (key / 16 ≡ c + 1) × (key % 16 ≡ h)
key_parts c h key small e = (omega (arith, small, e), omega (arith, small, e))

registered_reads : (key : Key) (r : Resource) → reads (registered key) r ≡ false
registered_reads key (File f) = dropped_fresh.reads_none (File f)
registered_reads key (Part p) = refl
registered_reads key (Group q) = refl

registered_out : (key : Key) (r : Resource) → may_read (registered key) r ≡ false
registered_out key r = ap₂ ◌||◌ (dropped_fresh.holds_none r) (registered_reads key r)

from_filter : (p : ℕ → Bool) (xs : List ℕ) (k : ℕ) → Contains (filter p xs) k → Contains xs k
from_filter p [] k now = now
from_filter p (x ∷ xs) k now =
    elim (cases_Bool (p x)) [
      | inl y ↦
          let there : Contains (x ∷ filter p xs) k = subst (λ b. Contains (cond b (x ∷ filter p xs) (filter p xs)) k) y now in
          elim (Contains-append_cases (x ∷ []) (filter p xs) k there) [
            | inl first ↦ Contains-append_left (x ∷ []) xs k first
            | inr rest ↦ Contains-append_right (x ∷ []) xs k (from_filter p xs k rest)
          ]
      | inr n ↦
          let there : Contains (filter p xs) k = subst (λ b. Contains (cond b (x ∷ filter p xs) (filter p xs)) k) n now in
          Contains-append_right (x ∷ []) xs k (from_filter p xs k there)
    ]

-- a host is given a key
pub register_law : (v : LocksView) (h : ℕ) (result : Result Key DiskNo) (w : LocksView) → Consistent v → h < v.geometry.hosts → key_at v h ≡ 0 → IsDevice w.disk.state
    → RegistersHost v h result w → Consistent w × Others h v w
register_law v h (Err why) w is below none device did = same_law v h (host_at v h) w is (placed v h _ _ (host_at v h) w did) did.acts.changes (inr refl)
register_law v h (Ok key) w is below none device did =
    let m = registered key in
    let small : h < 16 = omega (arith, below, is.geometry.hosts.1) in
    let same : w.disk.state ≡ after_register h v.disk.state = did.acts.changes.1 in
    let parts = key_parts (counter_of v) h key.0 small did.acts.changes.0 in
    let counter : counter_of w ≡ counter_of v + 1 = ap (λ (s : State). s.counter) same in
    let some : key_of m ≢ 0 = λ e. let zero_part : key.0 ≡ 0 = e in omega (arith, parts.0, zero_part) in
    quiet_law v h m w is (placed v h _ _ m w did) device
    (subst (λ (s : State). Later v.disk.state s) (sym same) (record {
      counter = omega arith;
      blocks = refl;
      fewer = λ k given now. elim (Contains-push_cases (keys_of v) (next_key h v.disk.state) k now) [
        | inl old ↦ old
        | inr new ↦ let again = key_parts (counter_of v) h k small (sym new) in absurd (omega (arith, given, again.0))
      ];
    }))
    (ap (λ (s : State). s.told) same)
    (let fresh = dropped_memory v.geometry.hosts (counter_of w) h in record {
      held = fresh.held;
      reading = fresh.reading;
      claims = fresh.claims;
      named = λ e. (below, parts.1, omega (arith, parts.0, counter));
      none = λ e. absurd (some e);
      keyless = λ e. absurd (some e);
      unclaimed = λ e. absurd (some e);
      out = λ e r. registered_out key r;
      own = λ e. dropped_fresh.claims_none h;
      gone = λ e. dropped_fresh.out;
    })
    (record { joined = λ e named. absurd (named none); freed = λ e named. absurd (named none); fresh = λ ne. inr (omega (arith, parts.0)) })
    (told_map (told_of v) (λ t. Agrees v.geometry (counter_of v) (keys_of v) v.hosts t.image) _ is.told (λ t a agrees named.
    fresh_agrees v.geometry (counter_of v) (keys_of w) t.image h m agrees.valid small (omega (arith, parts.0))
    (record { holds_none = dropped_fresh.holds_none; reads_none = registered_reads key; claims_none = dropped_fresh.claims_none; out = dropped_fresh.out })))

-- a key is taken off
pub fence_law : (v : LocksView) (h : ℕ) (target : Key) (result : Result Unit StepNo) (w : LocksView) → Consistent v → key_at v h ≢ 0 → IsDevice w.disk.state
    → FencesKey v h target result w → Consistent w × Others h v w
fence_law v h target (Err why) w is some device did = refusal_law v h _ 0 AnyBlock why w is some did
fence_law v h target (Ok done) w is some device did =
    let m = host_at v h in
    let same : w.disk.state ≡ after_fence target.0 v.disk.state = did.acts.changes in
    let later : Later v.disk.state w.disk.state = subst (λ (s : State). Later v.disk.state s) (sym same) (record {
      counter = omega arith;
      blocks = refl;
      fewer = λ k given now. from_filter (λ k. not (nat_eq k target.0)) (keys_of v) k now;
    }) in
    quiet_law v h m w is (placed v h _ _ m w did) device later (ap (λ (s : State). s.told) same)
    (memory_later v.geometry.hosts (counter_of v) (counter_of w) h m later.counter (is.memories h))
    (moves_same (counter_of v) m m refl (stays_in m) (λ e. e))
    (told_map (told_of v) (λ t. Agrees v.geometry (counter_of v) (keys_of v) v.hosts t.image) _ is.told (λ t a agrees named.
    agrees_later v.geometry (counter_of v) (keys_of v) (keys_of w) t.image h m agrees.valid later.fewer ((is.memories h).named named).2 (agrees.agree h named)))

-- a host is dropped
pub drop_law : (v : LocksView) (h : ℕ) (w : LocksView) → Consistent v → Notes h dropped v w → Consistent w × Others h v w
drop_law v h w is notes = same_law v h dropped w is (record { geometry = notes.geometry; mine = notes.mine; others = notes.others }) (ap (λ d. d.state) notes.disk) (inl refl)

-- the locks begin with no host that has a key
at_none : (h : ℕ) → at (replicate 16 dropped) h ≡ dropped
at_none h = elim (cases_lt h 16) [
  | inl lt ↦ get_or-replicate {A = HostState} 16 h dropped dropped lt
  | inr ge ↦ get_or_past (replicate 16 dropped) h dropped (omega (arith, ge, length-replicate {A = HostState} 16 dropped))
]

pub new_law : (v : LocksView) → v.hosts ≡ replicate 16 dropped → IsGeometry v.geometry → total v.geometry ≤ v.disk.state.blocks → IsDevice v.disk.state
    → IfSome (told_of v) (λ t. IsValid v.geometry (counter_of v) t.image) → Consistent v
new_law v none geometry long device valid =
    let each = λ (h : ℕ). let e : at v.hosts h ≡ dropped = ap (λ (hs : List HostState). at hs h) none ∙ at_none h in e in
    record {
      geometry = geometry;
      long = long;
      device = device;
      memories = λ h. subst (λ (m : HostState). IsMemory v.geometry.hosts (counter_of v) h m) (sym (each h)) (dropped_memory v.geometry.hosts (counter_of v) h);
      told = told_map (told_of v) (λ t. IsValid v.geometry (counter_of v) t.image) (λ t. Agrees v.geometry (counter_of v) (keys_of v) v.hosts t.image) valid
          (λ t is. record { valid = is; agree = λ h some. absurd (some (ap key_of (each h) ∙ dropped_keyless)) });
    }

-- reads
pub get_law : (v : LocksView) (h : ℕ) (kind : Kind) (result : Result Block StepNo) (w : LocksView) → Consistent v → key_at v h ≢ 0 → ReadsBlock v h kind result w → Consistent w × Others h v w
get_law v h kind (Ok block) w is some did = shows_law v h _ _ (host_at v h) w is some did (inr refl)
get_law v h kind (Err why) w is some did = refusal_law v h _ (place_of v.geometry kind) AnyBlock why w is some did

pub look_law : (v : LocksView) (h y : ℕ) (result : Result Slot StepNo) (w : LocksView) → Consistent v → key_at v h ≢ 0 → ReadsSlot v h y result w → Consistent w × Others h v w
look_law v h y (Ok slot) w is some did = shows_law v h _ _ (host_at v h) w is some did.0 (inr refl)
look_law v h y (Err why) w is some did = refusal_law v h _ (place_of v.geometry (kinds.Slot y)) (FitsSlot uses.Look y (host_at v h)) why w is some did

pub confirm_law : (v : LocksView) (h : ℕ) (r : Resource) (result : Result Unit StepNo) (w : LocksView) → Consistent v → key_at v h ≢ 0 → ConfirmsLock v h r result w → Consistent w × Others h v w
confirm_law v h r (Ok done) w is some did = shows_law v h _ _ (host_at v h) w is some did.1 (inr refl)
confirm_law v h r (Err why) w is some did = refusal_law v h _ (place_of v.geometry (kinds.Lock r)) IsLockBlock why w is some did

-- writes of other blocks
module _ (v : LocksView) (h : ℕ) (kind : Kind) (block : List ℕ) (w : LocksView) (is : Consistent v) (some : key_at v h ≢ 0) (device : IsDevice w.disk.state) (writable : IsWritable v.geometry kind)
    (valid : Sure v h (λ image. IsValid v.geometry (counter_of v) (written v.geometry image kind block)))
    (may : Sure v h (λ image. MayWrite v.geometry h (host_at v h) image kind block)) where
  plain_image : Contains (keys_of v) (key_at v h) → IfSome (told_of v) (λ t. StepImage v.geometry v.disk.state (counter_of v) (keys_of v) v.hosts h (host_at v h) t.image (written v.geometry t.image kind block))
  plain_image here =
      told_with (told_of v) (λ t. Ground v h t.image × IsValid v.geometry (counter_of v) (written v.geometry t.image kind block)) (λ t. MayWrite v.geometry h (host_at v h) t.image kind block) _
      (told_with (told_of v) (λ t. Ground v h t.image) (λ t. IsValid v.geometry (counter_of v) (written v.geometry t.image kind block)) _ (grounded v h is here some) (valid here) (λ t g l. (g, l)))
      (may here) (λ t known allowed. plain_step v h kind block t.image is.geometry known.0 writable allowed known.1)

  pub put_law : (result : Result Unit StepNo) → WritesBlock v h kind block (host_at v h) result w → Consistent w × Others h v w
  put_law (Err why) did = refusal_law v h _ (place_of v.geometry kind) AnyBlock why w is some did
  put_law (Ok done) did = write_law v h _ _ (host_at v h) w kind block is did device did.acts.changes (is.memories h)
      (moves_same (counter_of v) (host_at v h) (host_at v h) refl (stays_in (host_at v h)) (λ e. e)) (plain_image did.acts.admitted)

  pub exchange_law : (old : List ℕ) (result : Result Tested StepNo) → SwapsBlock v h kind old block (host_at v h) result w → Consistent w × Others h v w
  exchange_law old (Err why) did = refusal_law v h _ (place_of v.geometry kind) AnyBlock why w is some did
  exchange_law old (Ok (tested.Found found)) did = shows_law v h _ _ (host_at v h) w is some did (inr refl)
  exchange_law old (Ok tested.Swapped) did = write_law v h _ _ (host_at v h) w kind block is did device did.acts.changes.1 (is.memories h)
      (moves_same (counter_of v) (host_at v h) (host_at v h) refl (stays_in (host_at v h)) (λ e. e)) (plain_image did.acts.admitted)
