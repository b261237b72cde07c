-- What the notes say of a host's memory, in the words of the turns.
use Rattle.std.proofs.Common.{◌≡◌, ◌≢◌, ◌⊎◌, ◌<◌, ◌==◌, ℕ, [], Option, None, Some, false, true, get_or, refl, ap, sym, ◌∙◌, subst, true≢false}
use Rattle.std.specs.Prelude.{Contains, option_map}
use Rattle.std.specs.List.{list_any}
use Rattle.std.proofs.lemmas.Bool.{eq-eqb}
use Rattle.std.proofs.lemmas.List.Folds.{list_any_at}
use Rattle.vol_base.specs.declared.block.Key.{Key}
use Rattle.vol_base.specs.declared.command.Command.TheVariants.{Join}
use Rattle.vol_layout.specs.declared.geometry.Geometry.{Geometry}
use Rattle.vol_layout.specs.declared.kind.Kind.TheVariants as kinds
use Rattle.vol_layout.specs.declared.kind.Resource.{Resource}
use Rattle.vol_layout.specs.declared.kind.Resource.TheVariants.{File, Group, Part}
use Rattle.vol_layout.specs.Places.{kind_at, place_of}
use Rattle.vol_layout.specs.Ranges.{HasResource}
use Rattle.vol_layout.specs.laws.PlaceLaws.{kind_at-place}
use Rattle.slot_lock_blocks.specs.ReaderKeys.{key_number}
use Rattle.lock_store.specs.declared.host.HostState.{HostState}
use Rattle.lock_store.specs.Memories.{claim_of, holds, key_of}
use Rattle.lock_store.specs.Views.{LocksView, host_at, key_at}
use Rattle.disk_locks.specs.Calls.{IsShared}
use Rattle.host_runs.specs.Memories.{AreFileLocks, Memory}
use Rattle.host_runs.specs.Moments.{Moment}
use Rattle.host_notes.specs.Allowed.{IsTurnOf}
use Rattle.host_notes.specs.Remembered.{IsRemembered}
use Rattle.host_notes.specs.lemmas.Lists.{no_element, not_among}

some_number : (key : Option Key) → key_number key ≢ 0 → option_map (λ (k : Key). k.0) key ≡ Some (key_number key)
some_number None some = absurd (some refl)
some_number (Some key) some = refl

module _ (g : Geometry) (memory : Memory) (m : HostState) (is : IsRemembered g memory m) where
  -- the key, where the host has one, and where it has none
  pub key_noted : key_of m ≢ 0 → memory.key ≡ Some (key_of m)
  key_noted some = is.key ∙ some_number m.key some

  pub no_key_noted : m.key ≡ None → memory.key ≡ None
  no_key_noted none = is.key ∙ ap (λ (key : Option Key). option_map (λ (k : Key). k.0) key) none

  -- whether a slot is claimed
  pub claim_noted : (y : ℕ) → y < g.hosts → claim_of m y ≢ 0 → list_any (λ claimed. claimed == y) memory.claims ≡ true
  claim_noted y below claimed =
      let has = (is.claims y below).1 claimed in
      list_any_at (λ claimed. claimed == y) memory.claims has.0 y has.1 (eq-eqb (get_or memory.claims has.0 y) y has.2)

  pub no_claim_noted : (y : ℕ) → y < g.hosts → claim_of m y ≡ 0 → list_any (λ claimed. claimed == y) memory.claims ≡ false
  no_claim_noted y below none = not_among memory.claims y (λ has. (is.claims y below).0 has none)

  other_hold : (r : Resource) → HasResource g r → Contains memory.holds (place_of g (kinds.Lock r)) → holds m r ≡ false → ⊥
  other_hold r of has none = true≢false (sym (is.holds r of has) ∙ none)

  -- a host that holds nothing of the volume has no hold in its notes, and one that holds no part and no group has those of files alone
  pub no_hold_noted : ((r : Resource) → HasResource g r → holds m r ≡ false) → memory.holds ≡ []
  no_hold_noted none = no_element memory.holds (λ place has. at place has (is.places place has))
    where
      at : (place : ℕ) → Contains memory.holds place → (r : Resource) × HasResource g r × (place ≡ place_of g (kinds.Lock r)) → ⊥
      at place has (r, of, here) = other_hold r of (subst (Contains memory.holds) here has) (none r of)

  pub file_holds_noted : ((r : Resource) → HasResource g r → IsShared r → holds m r ≡ false) → AreFileLocks g memory.holds
  file_holds_noted none place has = let found = is.places place has in at found.0 found.1 found.2
    where
      at : (r : Resource) → HasResource g r → place ≡ place_of g (kinds.Lock r) → (f : ℕ) × (kind_at g place ≡ Some (kinds.Lock (File f)))
      at (File f) of here = (f, ap (kind_at g) here ∙ kind_at-place g (kinds.Lock (File f)) of)
      at (Part p) of here = absurd (other_hold (Part p) of (subst (Contains memory.holds) here has) (none (Part p) of tt))
      at (Group p) of here = absurd (other_hold (Group p) of (subst (Contains memory.holds) here has) (none (Group p) of tt))

-- a turn whose notes are remembered is one of its host
pub turn_noted : (v : LocksView) (h : ℕ) (m : Moment) → IsRemembered v.geometry m.old.memory (host_at v h) → m.geometry ≡ v.geometry
    → m.host ≡ h → key_at v h ≢ 0 → (m.joined ≡ true) ⊎ (m.command ≡ Join) → IsTurnOf v h m
turn_noted v h m is geometry host some seat = record {
  geometry = geometry;
  host = host;
  key = key_noted v.geometry m.old.memory (host_at v h) is some;
  seat = seat;
}
