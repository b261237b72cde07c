-- The key of a host, as its memory has it.
use Rattle.std.proofs.Common.{◌≡◌, ◌≢◌, ◌<◌, ◌≤◌, ◌/◌, ◌%◌, ◌^◌, ℕ, None, true, sym, ap, ◌∙◌, arith, true≢false}
use Rattle.slot_lock_blocks.specs.Keys.{IsKey}
use Rattle.slot_lock_blocks.specs.ReaderKeys.{key_number}
use Rattle.lock_store.specs.Views.{LocksView, counter_of, host_at, key_at}
use Rattle.disk_locks.specs.Consistent.{Consistent}

-- the key is one, and of the host, which is one of the volume
pub record IsOwnKey (v : LocksView) (h : ℕ) : Type 0 where
  pub some : key_at v h ≢ 0
  pub is : IsKey (key_at v h)
  pub of : key_at v h % 16 ≡ h
  pub below : h < v.geometry.hosts
  pub small : h < 16
  pub known : (host_at v h).key ≢ None

small_key : (key counter : ℕ) → key / 16 ≤ counter → counter < 2 ^ 59 → key < 2 ^ 64
small_key key counter given fits = omega (arith, given, fits)

pub own_key : (v : LocksView) (h : ℕ) → Consistent v → key_at v h ≢ 0 → IsOwnKey v h
own_key v h c some =
    let named = (c.memories h).named some in
    let hosts = c.geometry.hosts in
    let below = named.0 in
    record {
      some = some;
      is = (some, small_key (key_at v h) (counter_of v) named.2 c.device.fits);
      of = named.1;
      below = below;
      small = omega (arith, below, hosts.1);
      known = λ none. some (ap key_number none);
    }

-- a joined host has a key
pub joined_key : (v : LocksView) (h : ℕ) → Consistent v → (host_at v h).joined ≡ true → IsOwnKey v h
joined_key v h c joined = own_key v h c (λ none. true≢false (sym joined ∙ (c.memories h).keyless none))
