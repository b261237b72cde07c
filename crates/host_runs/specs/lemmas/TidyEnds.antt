-- In a tidy run the disk agrees with what hosts have in mind: at the start, when a host leaves, and when it is dropped without a key.
use Rattle.std.proofs.Common.{◌≡◌, ◌≢◌, ◌<◌, ◌%◌, ℕ, List, [], Option, Some, None, not, refl, ap, sym, ◌∙◌, subst, inl, inr, arith}
use Rattle.std.specs.Prelude.{Contains, IfSome, IsSome, nat_eq, slice_get}
use Rattle.std.proofs.lemmas.Bool.{cases_eq, ne_eqb}
use Rattle.std.proofs.lemmas.Option.{get_or_from_slice_get}
use Rattle.vol_layout.specs.declared.geometry.Geometry.{Geometry}
use Rattle.vol_layout.specs.declared.kind.Kind.{Kind}
use Rattle.vol_layout.specs.declared.kind.Kind.TheVariants as kinds
use Rattle.vol_layout.specs.declared.kind.Resource.{Resource}
use Rattle.vol_layout.specs.Places.{kind_at, place_of}
use Rattle.workload.specs.declared.line.Workload.{Workload}
use Rattle.slot_lock_blocks.specs.Slots.{slot_key, slot_state}
use Rattle.slot_lock_blocks.specs.declared.slot.Slot.{Slot}
use Rattle.slot_lock_blocks.specs.declared.slot.Slot.TheVariants as slots
use Rattle.slot_lock_blocks.specs.laws.SlotLaws.{slot_numbers}
use Rattle.shared_disk.specs.Calls.{after_fence}
use Rattle.shared_disk.specs.Seen.{DiskSeen}
use Rattle.shared_disk.specs.State.{State}
use Rattle.image_view.specs.HostKeys.{lock_key_at, lock_state_at, slot_key_at, slot_state_at}
use Rattle.image_view.specs.Images.{Image, block_at}
use Rattle.image_view.specs.Valid.{IsValid}
use Rattle.host_runs.specs.DeviceCalls.{OnImage}
use Rattle.host_runs.specs.Memories.{Memory, no_memory}
use Rattle.host_runs.specs.Tidy.{HasFreeSlots, IsReady}
use Rattle.host_runs.specs.lemmas.TidyStates.{AreShown, IsOnDisk, IsReader, WordSays}
use Rattle.host_runs.specs.Words.{state_in}
use Rattle.shared_disk.specs.laws.CalledLaws.{kept_by}
use Rattle.vol_layout.specs.laws.KindLaws.{kind_at-backs}
use Rattle.host_runs.specs.lemmas.TidyDisk.{none_some}
use Rattle.host_runs.specs.lemmas.TidyMarks.{on_both, on_weaker}
use Rattle.host_runs.specs.lemmas.TidyWords.{IsSameBut}

nothing_there : (q : ℕ) → Contains {X = ℕ} [] q → ⊥
nothing_there q has = absurd (omega (arith, has.1))

module _ (g : Geometry) (host : ℕ) (memories later : ℕ → Memory) (same : IsSameBut host later memories) (holds : (memories host).holds ≡ []) (here : later host ≡ no_memory) where
  gone : (h key : ℕ) → (later h).key ≡ Some key → h ≢ host
  gone h key is at = none_some is (ap (λ (n : ℕ). (later n).key) at ∙ ap (λ (x : Memory). x.key) here)

  still : (h key : ℕ) → (later h).key ≡ Some key → (memories h).key ≡ Some key
  still h key is = sym (ap (λ (x : Memory). x.key) (same h (gone h key is))) ∙ is

  dropped_says : (q : ℕ) (kind : Option Kind) (block : List ℕ) → ((h : ℕ) → h ≡ host → kind ≡ Some (kinds.Slot h) → state_in block ≡ 0)
      → WordSays memories q kind block → WordSays later q kind block
  dropped_says q (Some (kinds.Lock r)) block free says = (
    λ held.
        let holder = says.0 held in
        let other : holder.0 ≢ host = λ at. nothing_there q (subst (λ (xs : List ℕ). Contains xs q) (ap (λ (n : ℕ). (memories n).holds) at ∙ holds) holder.2) in
        let e = same holder.0 other in
        (holder.0, ap (λ (x : Memory). x.key) e ∙ holder.1, subst (λ (x : Memory). Contains x.holds q) (sym e) holder.2),
    λ read h k tiny is at. subst (λ (x : Memory). IsReader x q) (sym (same h (gone h k is))) (says.1 read h k tiny (still h k is) at),
  )
  dropped_says q (Some (kinds.Slot h)) block free says =
      elim (cases_eq h host) [
        | inl at ↦ inl (free h at refl)
        | inr other ↦ elim says [
          | inl was ↦ inl was
          | inr live ↦ inr (live.0, ap (λ (x : Memory). x.key) (same h other) ∙ live.1)
        ]
      ]
  dropped_says q kind block free says = tt

  -- the host is forgotten, where its key is not asked for any more
  disk_forgotten : (s t : State) → IsOnDisk g s memories → t.told ≡ s.told → t.counter ≡ s.counter
      → ((h key : ℕ) → h ≢ host → (memories h).key ≡ Some key → Contains s.keys key → Contains t.keys key)
      → OnImage s (λ image. (q : ℕ) (block : List ℕ) → slice_get image q ≡ Some block → (h : ℕ) → h ≡ host → kind_at g q ≡ Some (kinds.Slot h) → state_in block ≡ 0)
      → IsOnDisk g t later
  disk_forgotten s t disk told counter keys free = record {
    told = subst (λ o. IsSome o) (sym told) disk.told;
    registered = λ h key is. keys h key (gone h key is) (still h key is) (disk.registered h key (still h key is));
    own = λ h key is. disk.own h key (still h key is);
    given = λ h key is. let le = disk.given h key (still h key is) in omega (arith, le, counter);
    empty = λ h none. elim (cases_eq h host) [
      | inl at ↦ (ap (λ (n : ℕ). (later n).holds) at ∙ ap (λ (x : Memory). x.holds) here, ap (λ (n : ℕ). (later n).reads) at ∙ ap (λ (x : Memory). x.reads) here)
      | inr other ↦
          let e = same h other in
          let both = disk.empty h (sym (ap (λ (x : Memory). x.key) e) ∙ none) in
          (ap (λ (x : Memory). x.holds) e ∙ both.0, ap (λ (x : Memory). x.reads) e ∙ both.1)
    ];
    shown = subst (λ o. IfSome o (λ x. AreShown g later x.image)) (sym told)
        (on_weaker (λ image. ((q : ℕ) (block : List ℕ) → slice_get image q ≡ Some block → (h : ℕ) → h ≡ host → kind_at g q ≡ Some (kinds.Slot h) → state_in block ≡ 0) × AreShown g memories image)
        (AreShown g later) s.told (λ image both q b is. dropped_says q (kind_at g q) b (both.0 q b is) (both.1 q b is))
        (on_both (λ image. (q : ℕ) (block : List ℕ) → slice_get image q ≡ Some block → (h : ℕ) → h ≡ host → kind_at g q ≡ Some (kinds.Slot h) → state_in block ≡ 0)
        (AreShown g memories) s.told free disk.shown));
  }

-- the block of a slot at its place
slot_block : (g : Geometry) (image : Image) (q h : ℕ) (block : List ℕ) → kind_at g q ≡ Some (kinds.Slot h) → slice_get image q ≡ Some block
    → block_at g image (kinds.Slot h) ≡ block
unfolding block_at
slot_block g image q h block kind is =
    let backs = kind_at-backs g q (kinds.Slot h) kind in
    get_or_from_slice_get image (place_of g (kinds.Slot h)) block [] (ap (slice_get image) (sym backs.1) ∙ is)

slot_says : (g : Geometry) (image : Image) (q h : ℕ) (block : List ℕ) → kind_at g q ≡ Some (kinds.Slot h) → slice_get image q ≡ Some block
    → slot_state_at g image h ≡ state_in block
unfolding slot_state_at
slot_says g image q h block kind is = ap state_in (slot_block g image q h block kind is)

-- the fence by which a host leaves: it holds no lock, and its slot is free
pub disk-left : (g : Geometry) (host own : ℕ) (s t : State) (memories later : ℕ → Memory)
    → IsOnDisk g s memories → (memories host).key ≡ Some own → (memories host).holds ≡ []
    → OnImage t (λ image. slot_state_at g image host ≡ 0)
    → t ≡ after_fence own s → later host ≡ no_memory → IsSameBut host later memories
    → IsOnDisk g t later
disk-left g host own s t memories later disk key holds slot fenced here same =
    let told : t.told ≡ s.told = ap (λ (u : State). u.told) fenced in
    disk_forgotten g host memories later same holds here s t disk told (ap (λ (u : State). u.counter) fenced)
    (λ h k other is has.
    let differs : k ≢ own = λ at.
    let mine = (disk.own host own key).1 in
    let its = (disk.own h k is).1 in
    other (sym its ∙ ap (λ (n : ℕ). n % 16) at ∙ mine) in
    subst (λ (u : State). Contains u.keys k) (sym fenced) (kept_by (λ n. not (nat_eq n own)) s.keys k has (rw (ne_eqb k own differs) refl)))
    (on_weaker (λ image. slot_state_at g image host ≡ 0)
    (λ image. (q : ℕ) (block : List ℕ) → slice_get image q ≡ Some block → (h : ℕ) → h ≡ host → kind_at g q ≡ Some (kinds.Slot h) → state_in block ≡ 0) s.told
    (λ image free q block is h at kind. sym (slot_says g image q h block kind is) ∙ ap (slot_state_at g image) at ∙ free)
    (subst (λ o. IfSome o (λ x. slot_state_at g x.image host ≡ 0)) told slot))

-- a host without a key is dropped
pub disk-dropped : (g : Geometry) (host : ℕ) (s : State) (memories later : ℕ → Memory)
    → IsOnDisk g s memories → (memories host).key ≡ None → later host ≡ no_memory → IsSameBut host later memories
    → IsOnDisk g s later
disk-dropped g host s memories later disk none here same =
    disk_forgotten g host memories later same (disk.empty host none).0 here s s disk refl refl (λ h k other is has. has)
    (on_weaker (AreShown g memories)
    (λ image. (q : ℕ) (block : List ℕ) → slice_get image q ≡ Some block → (h : ℕ) → h ≡ host → kind_at g q ≡ Some (kinds.Slot h) → state_in block ≡ 0) s.told
    (λ image shown q block is h at kind. free_slot q block h at (subst (λ (k : Option Kind). WordSays memories q k block) kind (shown q block is)))
    disk.shown)
  where
    free_slot : (q : ℕ) (block : List ℕ) (h : ℕ) → h ≡ host → WordSays memories q (Some (kinds.Slot h)) block → state_in block ≡ 0
    free_slot q block h at (inl free) = free
    free_slot q block h at (inr live) = absurd (none_some live.1 (ap (λ (n : ℕ). (memories n).key) at ∙ none))

slot_keyless : (slot : Slot) → slot_state slot ≡ 0 → slot_key slot ≡ 0
slot_keyless slots.Free is = refl
slot_keyless (slots.Live key beat) is = absurd (omega (arith, is))
slot_keyless (slots.Recovering key by) is = absurd (omega (arith, is))

-- a slot that is free shows no key
free_keyless : (g : Geometry) (counter : ℕ) (image : Image) (h : ℕ) → IsValid g counter image → h < g.hosts → slot_state_at g image h ≡ 0
    → slot_key_at g image h ≡ 0
unfolding slot_state_at slot_key_at
free_keyless g counter image h valid below free =
    let slot = valid.slots h below in
    let numbers = slot_numbers (block_at g image (kinds.Slot h)) slot.slot slot.spelled in
    numbers.key ∙ slot_keyless slot.slot (sym numbers.state ∙ free)

lock_says : (g : Geometry) (image : Image) (q : ℕ) (r : Resource) (block : List ℕ) → kind_at g q ≡ Some (kinds.Lock r)
    → slice_get image q ≡ Some block → lock_state_at g image r ≡ state_in block
unfolding lock_state_at block_at
lock_says g image q r block kind is =
    let backs = kind_at-backs g q (kinds.Lock r) kind in
    ap state_in (get_or_from_slice_get image (place_of g (kinds.Lock r)) block [] (ap (slice_get image) (sym backs.1) ∙ is))

opened_says : (g : Geometry) (counter : ℕ) (image : Image) (q : ℕ) (kind : Option Kind) (block : List ℕ) → IsValid g counter image
    → HasFreeSlots g image
    → kind_at g q ≡ kind → slice_get image q ≡ Some block → WordSays (λ host. no_memory) q kind block
opened_says g counter image q (Some (kinds.Lock r)) block valid free kind is = (
  λ held.
      let backs = kind_at-backs g q (kinds.Lock r) kind in
      let shown = valid.held.locks r backs.0 (lock_says g image q r block kind is ∙ held) in
      let none = free_keyless g counter image (lock_key_at g image r % 16) valid shown.host (free (lock_key_at g image r % 16) shown.host) in
      absurd (shown.some (sym shown.shown ∙ none)),
  λ read h k tiny has at. absurd (none_some has refl),
)
opened_says g counter image q (Some (kinds.Slot h)) block valid free kind is =
    let backs = kind_at-backs g q (kinds.Slot h) kind in
    inl (sym (slot_says g image q h block kind is) ∙ free h backs.0)
opened_says g counter image q kind block valid free at is = tt

-- a valid volume whose slots are all free
pub disk-opened : (w : Workload) (device : DiskSeen) → IsReady w device → IsOnDisk w.geometry device.state (λ host. no_memory)
disk-opened w device ready = record {
  told = ready.told;
  registered = λ h key is. absurd (none_some is refl);
  own = λ h key is. absurd (none_some is refl);
  given = λ h key is. absurd (none_some is refl);
  empty = λ h none. (refl, refl);
  shown = on_weaker (λ image. IsValid w.geometry device.state.counter image × HasFreeSlots w.geometry image) (AreShown w.geometry (λ host. no_memory)) device.state.told
      (λ image both q block is. opened_says w.geometry device.state.counter image q (kind_at w.geometry q) block both.0 both.1 refl is)
      (on_both (IsValid w.geometry device.state.counter) (HasFreeSlots w.geometry) device.state.told ready.valid ready.free);
}
