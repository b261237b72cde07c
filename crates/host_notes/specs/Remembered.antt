-- What a host's notes and its memory have in common.
use Rattle.std.specs.Prelude.{◌≡◌, ◌≢◌, ◌<◌, ◌%◌, ℕ, List, true, false, None, Contains, option_map}
use Rattle.vol_base.specs.declared.block.Key.{Key}
use Rattle.vol_layout.specs.declared.geometry.Geometry.{Geometry}
use Rattle.vol_layout.specs.declared.kind.Kind.TheVariants as kinds
use Rattle.vol_layout.specs.declared.kind.Resource.{Resource}
use Rattle.vol_layout.specs.Places.{place_of}
use Rattle.vol_layout.specs.Ranges.{HasResource}
use Rattle.shared_disk.specs.Events.{Acts, Call, Reply, event}
use Rattle.lock_store.specs.declared.host.HostState.{HostState}
use Rattle.lock_store.specs.Memories as host
use Rattle.lock_store.specs.Memories.{claim_of, key_of}
use Rattle.lock_store.specs.Views.{LocksView, host_at, key_at}
use Rattle.host_runs.specs.Memories.{Memory, remembered}

-- the notes name the slot among the claims exactly where the memory has a claim of it
abbrev pub IsClaimNoted : List ℕ → HostState → ℕ → Type 0
IsClaimNoted claims m y = (Contains claims y → claim_of m y ≢ 0) × (claim_of m y ≢ 0 → Contains claims y)

-- what is held and what is read are apart
abbrev pub AreApart : HostState → Type 0
AreApart m = (r : Resource) → host.holds m r ≡ true → host.reads m r ≡ false

-- the notes say the host's key, its claims, and whether it has left its slot; and they name no lock but of resources that the host
-- holds or reads. They may name fewer: where the device tells nothing, the lock of a dead host that a host frees may be its own.
-- Of the memory alone: without a key nothing was left, what is held is not read, and a joined host claims its own slot no more
pub record IsRemembered (g : Geometry) (memory : Memory) (m : HostState) : Type 0 where
  pub key : memory.key ≡ option_map (λ (k : Key). k.0) m.key
  pub holds : (r : Resource) → HasResource g r → Contains memory.holds (place_of g (kinds.Lock r)) → host.holds m r ≡ true
  pub reads : (r : Resource) → HasResource g r → Contains memory.reads (place_of g (kinds.Lock r)) → host.reads m r ≡ true
  pub places : (place : ℕ) → Contains memory.holds place → (r : Resource) × HasResource g r × (place ≡ place_of g (kinds.Lock r))
  pub claims : (y : ℕ) → y < g.hosts → IsClaimNoted memory.claims m y
  pub left : memory.left ≡ m.freed
  pub stays : m.key ≡ None → m.freed ≡ false
  pub apart : AreApart m
  pub own : m.joined ≡ true → claim_of m (key_of m % 16) ≡ 0

-- the host's notes with one more call, and its memory after it
abbrev pub RemembersCall : LocksView → ℕ → Memory → Call → Reply → LocksView → Type 0
RemembersCall v h memory call reply l =
    IsRemembered v.geometry (remembered v.geometry h (event (key_at v h) call reply) memory) (host_at l h)

-- the same of a call that was made and answered in one way or another
abbrev pub RemembersMade : LocksView → ℕ → Memory → Call → LocksView → Type 0
RemembersMade v h memory call l =
    (reply : Reply) × Acts (event (key_at v h) call reply) v.disk l.disk × RemembersCall v h memory call reply l
