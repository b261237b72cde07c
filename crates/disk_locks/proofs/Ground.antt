-- What a registered host's call starts from, where the device tells its content.
use Rattle.std.proofs.Common.{◌≡◌, ◌≢◌, ◌%◌, ◌==◌, ℕ, List, true, refl, sym, ap, ◌∙◌, inl, inr}
use Rattle.std.specs.Prelude.{Contains}
use Rattle.std.proofs.lemmas.Bool.{cases_Bool}
use Rattle.vol_base.specs.Bytes.{u32_at}
use Rattle.vol_layout.specs.declared.kind.Kind.TheVariants as kinds
use Rattle.image_view.specs.Held.{IsShown}
use Rattle.image_view.specs.HostKeys.{slot_key_at}
use Rattle.image_view.specs.Images.{Image, block_at}
use Rattle.lock_store.specs.Views.{LocksView, at, counter_of, host_at, key_at, keys_of}
use Rattle.disk_locks.specs.Agreement.{Agrees, live_in, shown_in}
use Rattle.disk_locks.specs.Memories.{IsMemory}

pub record Ground (v : LocksView) (h : ℕ) (image : Image) : Type 0 where
  pub agrees : Agrees v.geometry (counter_of v) (keys_of v) v.hosts image
  pub memories : (x : ℕ) → IsMemory v.geometry.hosts (counter_of v) x (at v.hosts x)
  pub here : Contains (keys_of v) (key_at v h)
  pub some : key_at v h ≢ 0

-- two hosts have two keys
pub keys_apart : (v : LocksView) (h x : ℕ) → ((y : ℕ) → IsMemory v.geometry.hosts (counter_of v) y (at v.hosts y)) → key_at v h ≢ 0 → key_at v x ≢ 0 → x ≢ h
    → key_at v x ≢ key_at v h
keys_apart v h x memories some named ne same =
    ne (sym ((memories x).named named).1 ∙ ap (λ k. k % 16) same ∙ ((memories h).named some).1)

-- the key under which a slot is live is shown by it
pub live_shown : (block : List ℕ) (key : ℕ) → key ≢ 0 → live_in block ≡ key → shown_in block ≡ key
live_shown block key some live =
    elim (cases_Bool (u32_at block 8 == 1)) [
      | inl y ↦ rw y at live
      | inr n ↦ let none : 0 ≡ key = rw n at live in absurd (some (sym none))
    ]

-- a joined host's slot shows its key
pub own_shown : (v : LocksView) (h : ℕ) (image : Image) → Ground v h image → (host_at v h).joined ≡ true → IsShown v.geometry image (key_at v h)
unfolding slot_key_at
own_shown v h image ground joined =
    let named = (ground.memories h).named ground.some in
    let block = block_at v.geometry image (kinds.Slot h) in
    let agree = ground.agrees.agree h ground.some (kinds.Slot h) named.0 in
    let shown : shown_in block ≡ key_at v h = live_shown block (key_at v h) ground.some (agree.live ground.here joined refl).0 in
    record {
      some = ground.some;
      host = let same : key_at v h % 16 ≡ h = named.1 in rw same named.0;
      shown = ap (λ y. slot_key_at v.geometry image y) named.1 ∙ shown;
    }
