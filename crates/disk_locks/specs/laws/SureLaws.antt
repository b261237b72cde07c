-- What a host is sure of, over calls of others and over its own.
use Rattle.std.proofs.Common.{◌≡◌, ◌≢◌, ◌≤◌, ◌/◌, ◌%◌, ℕ, List, [], ◌∷◌, Option, Some, None, true, false, not, sym, ap, ◌∙◌, subst, option_map, arith, cond, inl, inr}
use Rattle.std.specs.Prelude.{Contains, IfSome, Ok, filter, nat_eq}
use Rattle.std.proofs.lemmas.Bool.{cases_Bool, eqb-false}
use Rattle.std.proofs.lemmas.List.Elements.{Contains-append_cases, Contains-push_cases}
use Rattle.vol_layout.specs.declared.kind.Kind.{Kind}
use Rattle.vol_layout.specs.declared.kind.Kind.TheVariants as kinds
use Rattle.vol_layout.specs.declared.kind.Resource.{Resource}
use Rattle.vol_layout.specs.Edits.{touches}
use Rattle.vol_layout.specs.Places.{place_of}
use Rattle.vol_layout.specs.Ranges.{HasResource}
use Rattle.shared_disk.specs.Calls.{after_write, told_after}
use Rattle.shared_disk.specs.State.{State, Told}
use Rattle.image_view.specs.HostKeys.{lock_key_at, slot_key_at}
use Rattle.image_view.specs.Images.{Image, written}
use Rattle.image_view.specs.Numbers.{journal}
use Rattle.image_view.specs.laws.JournalLaws.{record_key, slot_key-host}
use Rattle.lock_store.specs.Memories.{holds, key_of}
use Rattle.lock_store.specs.Views.{LocksView, counter_of, host_at, key_at, keys_of, told_of}
use Rattle.disk_locks.specs.Agreement.{Agrees}
use Rattle.disk_locks.specs.Consistent.{Consistent}
use Rattle.disk_locks.specs.Freeing.{Unedited}
use Rattle.vol_base.specs.declared.block.Key.{Key}
use Rattle.lock_store.specs.Calls.{FencesKey}
use Rattle.disk_locks.specs.Keys.{IsOff}
use Rattle.disk_locks.specs.KeepsImage.{KeepsImage}
use Rattle.disk_locks.specs.Others.{Others}
use Rattle.disk_locks.specs.Sure.{BothTold, Sure}

both : (old new : Option Told) (A : Image → Type 0) (R : Image → Image → Type 0) (P Q : Image → Type 0) → IfSome old (λ t. A t.image)
    → BothTold old new R → ((i j : Image) → A i → R i j → P i → Q j) → IfSome old (λ t. P t.image) → IfSome new (λ t. Q t.image)
both None None A R P Q a r f p = tt
both None (Some t) A R P Q a r f p = absurd r
both (Some t) None A R P Q a r f p = tt
both (Some t) (Some u) A R P Q a r f p = f t.image u.image a r p

-- over a call of another host: what follows of what that call keeps for this host, of an image that is valid and agrees with memory
pub sure_keeps : (v w : LocksView) (h x : ℕ) (P Q : Image → Type 0) → Consistent v → Others x v w → h ≢ x → key_at v h ≢ 0
    → ((i j : Image) → Agrees v.geometry (counter_of v) (keys_of v) v.hosts i → KeepsImage v.geometry h (host_at v h) i j → P i → Q j)
    → Sure v h P → Sure w h Q
sure_keeps v w h x P Q is others ne some f sure here =
    let keeps = others.keeps h ne some in
    let now : Contains (keys_of w) (key_at v h) = subst (λ k. Contains (keys_of w) k) (ap key_of keeps.memory) here in
    both (told_of v) (told_of w) (λ i. Agrees v.geometry (counter_of v) (keys_of v) v.hosts i) (KeepsImage v.geometry h (host_at v h)) P Q is.told
    (keeps.image now) f (sure (keeps.registered now))

-- over an own write of one block
pub sure_own : (v w : LocksView) (h : ℕ) (kind : Kind) (block : List ℕ) (P Q : Image → Type 0)
    → w.disk.state ≡ after_write (place_of v.geometry kind) block v.disk.state → key_at w h ≡ key_at v h
    → ((image : Image) → P image → Q (written v.geometry image kind block)) → Sure v h P → Sure w h Q
sure_own v w h kind block P Q same key f sure here =
    let was : Contains (keys_of v) (key_at v h) = subst (λ (s : State). Contains s.keys (key_at v h)) same (subst (λ k. Contains (keys_of w) k) key here) in
    subst (λ (o : Option Told). IfSome o (λ t. Q t.image)) (sym (ap (λ (s : State). s.told) same)) (each (told_of v) (sure was))
  where
    each : (told : Option Told) → IfSome told (λ t. P t.image)
        → IfSome (option_map (told_after (place_of v.geometry kind) block) told) (λ t. Q t.image)
    each None p = tt
    each (Some t) p = f t.image p

one_unedited : (v : LocksView) (h : ℕ) (r : Resource) (image : Image) → Consistent v → key_at v h ≢ 0 → HasResource v.geometry r
    → holds (host_at v h) r ≡ true → Contains (keys_of v) (key_at v h) → Agrees v.geometry (counter_of v) (keys_of v) v.hosts image
    → journal v.geometry image h ≡ [] → Unedited v.geometry r image
unfolding lock_key_at
one_unedited v h r image is some has held here agrees none y x below touched e =
    let g = v.geometry in
    let by : lock_key_at g image r ≡ key_at v h = (agrees.agree h some (kinds.Lock r) has).held here held in
    let record_is = record_key g (counter_of v) image y x agrees.valid below touched in
    let shown : slot_key_at g image y ≡ key_at v h = sym record_is.1.by ∙ ap (lock_key_at g image) e ∙ by in
    let y_is : y ≡ h = sym (slot_key-host g (counter_of v) image y agrees.valid below record_is.0) ∙ ap (λ n. n % 16) shown ∙ ((is.memories h).named some).1 in
    let untouched : false ≡ true = ap (λ es. touches es x) (sym (ap (journal g image) y_is ∙ none)) ∙ touched in
    let bad : ⊥ = cc in
    bad

-- no record edits what a host holds, where its own journal is empty
pub taken_unedited : (v : LocksView) (h : ℕ) (r : Resource) → Consistent v → key_at v h ≢ 0 → HasResource v.geometry r
    → holds (host_at v h) r ≡ true → Sure v h (λ image. journal v.geometry image h ≡ []) → Sure v h (Unedited v.geometry r)
taken_unedited v h r is some has held empty here = each (told_of v) is.told (empty here)
  where
    each : (told : Option Told) → IfSome told (λ t. Agrees v.geometry (counter_of v) (keys_of v) v.hosts t.image)
        → IfSome told (λ t. journal v.geometry t.image h ≡ []) → IfSome told (λ t. Unedited v.geometry r t.image)
    each None a p = tt
    each (Some t) a p = one_unedited v h r t.image is some has held here a p

absent : (xs : List ℕ) (key : ℕ) → Contains (filter (λ k. not (nat_eq k key)) xs) key → ⊥
absent [] key now = nothing key now
  where
    nothing : (key : ℕ) → Contains [] key → ⊥
    nothing key now = absurd (omega (arith, now.1))
absent (x ∷ xs) key now =
    elim (cases_Bool (nat_eq x key)) [
      | inl same ↦ absent xs key (subst (λ b. Contains (cond (not b) (x ∷ filter (λ k. not (nat_eq k key)) xs) (filter (λ k. not (nat_eq k key)) xs)) key) same now)
      | inr other ↦
          let there : Contains (x ∷ filter (λ k. not (nat_eq k key)) xs) key =
          subst (λ b. Contains (cond (not b) (x ∷ filter (λ k. not (nat_eq k key)) xs) (filter (λ k. not (nat_eq k key)) xs)) key) other now in
          elim (Contains-append_cases (x ∷ []) (filter (λ k. not (nat_eq k key)) xs) key there) [
            | inl first ↦ elim (Contains-push_cases [] x key first) [
              | inl none ↦ absurd (omega (arith, none.1))
              | inr is ↦ eqb-false x key other is
            ]
            | inr rest ↦ absent xs key rest
          ]
    ]

-- a key that was given and taken off is off
pub fenced_off : (v : LocksView) (h : ℕ) (target : Key) (w : LocksView) → target.0 ≢ 0 → target.0 / 16 ≤ counter_of v
    → FencesKey v h target (Ok tt) w → IsOff w.disk.state target.0
fenced_off v h target w some given did =
    subst (λ (s : State). IsOff s target.0) (sym did.acts.changes) (record { some = some; given = given; off = λ now. absent (keys_of v) target.0 now })
