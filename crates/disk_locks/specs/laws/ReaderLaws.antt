-- Keys in locks: each has entered, and one that its slot shows no more has ended.
use Rattle.std.proofs.Common.{◌≡◌, ◌≢◌, ◌≤◌, ◌/◌, ◌%◌, ◌==◌, ℕ, List, true, false, refl, sym, ap, ◌∙◌, subst, inl, inr}
use Rattle.std.specs.Prelude.{Contains}
use Rattle.std.proofs.lemmas.Bool.{cases_Bool}
use Rattle.vol_base.specs.Bytes.{u32_at}
use Rattle.vol_layout.specs.declared.kind.Kind.TheVariants as kinds
use Rattle.vol_layout.specs.declared.kind.Resource.{Resource}
use Rattle.vol_layout.specs.Ranges.{HasResource}
use Rattle.image_view.specs.HostKeys.{reader_key_at, slot_key_at}
use Rattle.image_view.specs.Images.{Image, block_at}
use Rattle.lock_store.specs.declared.host.HostState.{HostState}
use Rattle.lock_store.specs.Memories.{holds, may_read, reads}
use Rattle.lock_store.specs.Views.{LocksView, counter_of, host_at, key_at, keys_of}
use Rattle.disk_locks.specs.Agreement.{Agrees, live_in, shown_in}
use Rattle.disk_locks.specs.Consistent.{Consistent}
use Rattle.disk_locks.specs.Keys.{HasEnded, HasEntered}

-- who holds or reads is joined
joined_by : (m : HostState) (r : Resource) → (m.joined ≡ false → may_read m r ≡ false) → may_read m r ≡ true → m.joined ≡ true
joined_by m r out may = elim (cases_Bool m.joined) [
  | inl joined ↦ joined
  | inr none ↦ let e : true ≡ false = sym may ∙ out none in let bad : ⊥ = cc in absurd bad
]

may_by_read : (m : HostState) (r : Resource) → reads m r ≡ true → may_read m r ≡ true
may_by_read m r is = rw is (elim (cases_Bool (holds m r)) [ inl y ↦ rw y refl | inr n ↦ rw n refl ])

-- a key of host x among the readers of a lock has entered
pub found_entered : (v : LocksView) (image : Image) (r : Resource) (x key : ℕ) → Consistent v
    → Agrees v.geometry (counter_of v) (keys_of v) v.hosts image → HasResource v.geometry r → reader_key_at v.geometry image r x ≡ key
    → key ≢ 0 → key % 16 ≡ x → key / 16 ≤ counter_of v → HasEntered v key
unfolding reader_key_at
found_entered v image r x key is agrees has reader some host given = record {
  some = some;
  given = given;
  entered = λ its.
      let mine : key_at v x ≡ key = ap (key_at v) (sym host) ∙ its in
      let there : (host_at v x).joined ≡ (host_at v (key % 16)).joined = ap (λ y. (host_at v y).joined) (sym host) in
      let left : (host_at v x).freed ≡ (host_at v (key % 16)).freed = ap (λ y. (host_at v y).freed) (sym host) in
      let agree = agrees.agree x (λ none. some (sym mine ∙ none)) (kinds.Lock r) has in
      elim (agree.read_mine (reader ∙ sym mine)) [
        | inl reads_it ↦ inl (sym there ∙ joined_by (host_at v x) r (λ out. (is.memories x).out out r) (may_by_read (host_at v x) r reads_it))
        | inr freed ↦ inr (sym left ∙ freed)
      ];
}

live_is_shown : (block : List ℕ) (key : ℕ) → key ≢ 0 → live_in block ≡ key → shown_in block ≡ key
live_is_shown block key some live =
    elim (cases_Bool (u32_at block 8 == 1)) [
      | inl y ↦ rw y at live
      | inr n ↦ let none : 0 ≡ key = rw n at live in absurd (some (sym none))
    ]

-- where its slot shows another key, or none, a key that has entered has ended
pub read_ended : (v : LocksView) (image : Image) (key : ℕ) → Consistent v → Agrees v.geometry (counter_of v) (keys_of v) v.hosts image
    → HasEntered v key → slot_key_at v.geometry image (key % 16) ≢ key → HasEnded v key
unfolding slot_key_at
read_ended v image key is agrees entered other = record {
  some = entered.some;
  given = entered.given;
  ended = λ its.
      let y = key % 16 in
      let some : key_at v y ≢ 0 = λ none. entered.some (sym its ∙ none) in
      let below = ((is.memories y).named some).0 in
      elim (entered.entered its) [
        | inl joined ↦ inr (λ here.
            let live = ((agrees.agree y some (kinds.Slot y) below).live (subst (λ k. Contains (keys_of v) k) (sym its) here) joined refl).0 in
            other (live_is_shown (block_at v.geometry image (kinds.Slot y)) key entered.some (live ∙ its)))
        | inr freed ↦ inl freed
      ];
}
