-- What two calls of one host leave, one call leaves.
use Rattle.std.proofs.Common.{◌≡◌, ◌/◌, ℕ, true, false, Option, Some, None, refl, sym, ap, ◌∙◌, subst, arith, inl, inr}
use Rattle.std.specs.Prelude.{Contains}
use Rattle.std.proofs.lemmas.Bool.{cases_Bool}
use Rattle.vol_layout.specs.declared.geometry.Geometry.{Geometry}
use Rattle.vol_layout.specs.declared.field.Field.TheVariants.{Count, Slot}
use Rattle.vol_layout.specs.Edits.{touches}
use Rattle.vol_layout.specs.Journal.{edits_of}
use Rattle.vol_layout.specs.declared.kind.Resource.{Resource}
use Rattle.vol_layout.specs.declared.kind.Resource.TheVariants.{Group}
use Rattle.vol_layout.specs.Ranges.{HasResource, per_table}
use Rattle.shared_disk.specs.State.{Told}
use Rattle.image_view.specs.Balances.{share_of}
use Rattle.image_view.specs.Images.{Image}
use Rattle.image_view.specs.Numbers.{journal}
use Rattle.lock_store.specs.declared.host.HostState.{HostState}
use Rattle.lock_store.specs.Memories.{holds, key_of, may_read}
use Rattle.lock_store.specs.Views.{LocksView, host_at, key_at, keys_of, told_of}
use Rattle.image_view.specs.HostKeys.{IsHeldBy}
use Rattle.disk_locks.specs.Consistent.{Consistent}
use Rattle.disk_locks.specs.KeepsImage.{KeepsImage}
use Rattle.disk_locks.specs.Keys.{IsOff}
use Rattle.disk_locks.specs.Others.{Fades, Others}
use Rattle.disk_locks.specs.Sure.{BothTold}

both_then : (o p q : Option Told) (R S T : Image → Image → Type 0) → BothTold o p R → BothTold p q S
    → ((i j k : Image) → R i j → S j k → T i k) → BothTold o q T
both_then None None None R S T r s f = tt
both_then None None (Some u) R S T r s f = s
both_then None (Some t) q R S T r s f = absurd r
both_then (Some t) None q R S T r s f = absurd r
both_then (Some t) (Some u) None R S T r s f = s
both_then (Some t) (Some u) (Some w) R S T r s f = f t.image u.image w.image r s

-- what two steps keep of an image for a host that holds nothing unless it is joined
pub image_then : (g : Geometry) (h : ℕ) (m : HostState) (i j k : Image) → ((r : Resource) → holds m r ≡ true → m.joined ≡ true)
    → KeepsImage g h m i j → KeepsImage g h m j k → KeepsImage g h m i k
unfolding journal
image_then g h m i j k joined_if a b = record {
  record_own = λ joined. b.record_own joined ∙ a.record_own joined;
  tables = λ t has may. b.tables t has may ∙ a.tables t has may;
  numbers = λ x has may. b.numbers x has may ∙ a.numbers x has may;
  content = λ x d has count may share. b.content x d has count may (ap (λ n. share_of x n d) (a.numbers x has may) ∙ share) ∙ a.content x d has count may share;
  fresh = λ d count may none. b.fresh d count may (a.numbers (Count d) count may ∙ none) ∙ a.fresh d count may none;
  slots = λ s d has held names.
      let first = a.slots s d has held names in
      let second = b.slots s d has held first.0 in
      let own : journal g j h ≡ journal g i h = ap edits_of (a.record_own (joined_if (Group (d / per_table)) held)) in
      (second.0, λ untouched. second.1 (ap (λ es. touches es (Slot s)) own ∙ untouched) ∙ first.1 untouched);
  left = λ gone free. b.left gone (a.left gone free);
  dead = λ y below claim. b.dead y below claim ∙ a.dead y below claim;
  standing = λ y below claim. b.standing y below claim ∙ a.standing y below claim;
  replayed = λ y x has below claim touched.
      b.replayed y x has below claim (ap (λ es. touches es x) (ap edits_of (a.standing y below claim)) ∙ touched) ∙ a.replayed y x has below claim touched;
}

holds_joined : (m : HostState) (r : Resource) → (m.joined ≡ false → may_read m r ≡ false) → holds m r ≡ true → m.joined ≡ true
holds_joined m r out held = elim (cases_Bool m.joined) [
  | inl joined ↦ joined
  | inr none ↦ let e : true ≡ false = sym (may_by_hold m r held) ∙ out none in let bad : ⊥ = cc in absurd bad
]
  where
    may_by_hold : (m : HostState) (r : Resource) → holds m r ≡ true → may_read m r ≡ true
    may_by_hold m r held = rw held refl

fades_then : (v u : LocksView) (i j k : Image) → u.geometry ≡ v.geometry → ((key : ℕ) → IsOff v.disk.state key → IsOff u.disk.state key)
    → Fades v.geometry v.disk.state i j → Fades u.geometry u.disk.state j k → Fades v.geometry v.disk.state i k
fades_then v u i j k same off a b r key has is held =
    a r key has is (subst (λ (g : Geometry). IsHeldBy g j r key) same
    (b r key (subst (λ (g : Geometry). HasResource g r) (sym same) has) (off key is) (subst (λ (g : Geometry). IsHeldBy g k r key) (sym same) held)))

-- what two calls of one host leave to the others
pub others_then : (v u w : LocksView) (h : ℕ) → Consistent v → Others h v u → Others h u w → Others h v w
others_then v u w h is a b = record {
  lasts = record {
    geometry = b.lasts.geometry ∙ a.lasts.geometry;
    counter = omega (arith, a.lasts.counter, b.lasts.counter);
    off = λ key o. b.lasts.off key (a.lasts.off key o);
    entered = λ key e. b.lasts.entered key (a.lasts.entered key e);
    ended = λ key e. b.lasts.ended key (a.lasts.ended key e);
    fades = both_then (told_of v) (told_of u) (told_of w) (Fades v.geometry v.disk.state) (Fades u.geometry u.disk.state) (Fades v.geometry v.disk.state)
        a.lasts.fades b.lasts.fades (λ i j k. fades_then v u i j k a.lasts.geometry a.lasts.off);
  };
  memories = λ x ne. b.memories x ne ∙ a.memories x ne;
  keeps = λ x ne some.
      let first = a.keeps x ne some in
      let key_same : key_at u x ≡ key_at v x = ap key_of first.memory in
      let second = b.keeps x ne (λ none. some (sym key_same ∙ none)) in
      let at_u = λ (here : Contains (keys_of w) (key_at v x)). subst (λ k. Contains (keys_of w) k) (sym key_same) here in
      let mid = λ (here : Contains (keys_of w) (key_at v x)). subst (λ k. Contains (keys_of u) k) key_same (second.registered (at_u here)) in
      record {
        memory = second.memory ∙ first.memory;
        registered = λ here. first.registered (mid here);
        image = λ here. both_then (told_of v) (told_of u) (told_of w) (KeepsImage v.geometry x (host_at v x)) (KeepsImage u.geometry x (host_at u x)) (KeepsImage v.geometry x (host_at v x))
            (first.image (mid here)) (second.image (at_u here))
            (λ i j k one two. image_then v.geometry x (host_at v x) i j k (λ r held. holds_joined (host_at v x) r (λ out. (is.memories x).out out r) held) one
            (subst (λ (m : HostState). KeepsImage v.geometry x m j k) first.memory (subst (λ (g : Geometry). KeepsImage g x (host_at u x) j k) a.lasts.geometry two)));
      };
}
