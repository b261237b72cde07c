-- The notes and the memory of a host agree behind a write of a slot.
use Rattle.std.proofs.Common.{◌≡◌, ◌≢◌, ◌<◌, ◌%◌, ◌==◌, ℕ, List, [], false, true, refl, sym, ap, ◌∙◌, subst, inl, inr, true≢false}
use Rattle.std.specs.Prelude.{Contains, None, option_map}
use Rattle.std.proofs.lemmas.Bool.{and_from, and_right, cases_eq, eq-eqb, eqb-true, ne_eqb}
use Rattle.vol_base.specs.declared.block.Key.{Key}
use Rattle.vol_layout.specs.declared.geometry.Geometry.{Geometry}
use Rattle.vol_layout.specs.declared.kind.Kind.TheVariants as kinds
use Rattle.vol_layout.specs.declared.kind.Resource.{Resource}
use Rattle.vol_layout.specs.Places.{place_of}
use Rattle.vol_layout.specs.Ranges.{HasResource}
use Rattle.slot_lock_blocks.specs.declared.slot.Slot.TheVariants.{Free}
use Rattle.slot_lock_blocks.specs.Slots.{slot_bytes}
use Rattle.lock_store.specs.declared.host.HostState.{HostState}
use Rattle.lock_store.specs.Memories as host
use Rattle.lock_store.specs.Memories.{claim_of, key_of}
use Rattle.host_facts.specs.laws.GuardLaws.{claim_else}
use Rattle.host_runs.specs.Memories.{Memory, frees_own, with_claim, with_slot}
use Rattle.host_runs.specs.Words.{state_in}
use Rattle.host_notes.specs.Remembered.{IsClaimNoted, IsRemembered}
use Rattle.host_notes.specs.lemmas.Dropped.{left_hold}
use Rattle.host_notes.specs.lemmas.Lists.{chosen_cases, chosen_here, chosen_still, none_in}
use Rattle.host_notes.specs.lemmas.Words.{slot_says, zero_is_no_two}

-- one slot is claimed exactly where its block says that it is recovering, and each other one as before
pub claim_written : (of y : ℕ) (block claims : List ℕ) (m n : HostState) → (state_in block ≡ 2 → claim_of n of ≢ 0)
    → (state_in block ≢ 2 → claim_of n of ≡ 0) → (y ≢ of → claim_of n y ≡ claim_of m y) → IsClaimNoted claims m y
    → IsClaimNoted (with_claim of block claims) n y
claim_written of y block claims m n claimed unclaimed others is = (
  λ there. elim (chosen_cases (state_in block == 2) of y claims there) [
    | inl here ↦ λ none. claimed (eqb-true (state_in block) 2 here.0) (ap (claim_of n) (sym here.1) ∙ none)
    | inr old ↦ λ none. is.0 old.1 (sym (others old.0) ∙ none)
  ],
  λ some. elim (cases_eq y of) [
    | inl same ↦
        elim (cases_eq (state_in block) 2) [
          | inl two ↦
              subst (Contains (with_claim of block claims)) (sym same)
              (chosen_here (state_in block == 2) of claims (eq-eqb (state_in block) 2 two))
          | inr other ↦ absurd (some (ap (claim_of n) same ∙ unclaimed other))
        ]
    | inr other ↦ chosen_still (state_in block == 2) of y claims other (is.1 (λ none. some (others other ∙ none)))
  ],
)

-- a slot that is not free, or is another host's, is not the own one freed
pub not_freed : (h of : ℕ) (block : List ℕ) → state_in block ≢ 0 → frees_own h of block ≡ false
not_freed h of block state = and_right (of == h) (state_in block == 0) (ne_eqb (state_in block) 0 state)

pub other_freed : (h of : ℕ) (block : List ℕ) → of ≢ h → frees_own h of block ≡ false
other_freed h of block other = rw (ne_eqb of h other) refl

-- another memory with the same key and the same locks
pub record HasSameLocks (m n : HostState) : Type 0 where
  pub key : n.key ≡ m.key
  pub held : (r : Resource) → host.holds n r ≡ host.holds m r
  pub read : (r : Resource) → host.reads n r ≡ host.reads m r
  pub freed : n.freed ≡ m.freed

module _ (g : Geometry) (h of : ℕ) (block : List ℕ) (memory : Memory) (m n : HostState) where
  -- a slot was written, which is not the own one freed, and of the memory only claims changed
  pub slot_noted : HasSameLocks m n → frees_own h of block ≡ false
      → ((y : ℕ) → y < g.hosts → IsClaimNoted (with_claim of block memory.claims) n y)
      → (n.joined ≡ true → claim_of n (key_of n % 16) ≡ 0) → IsRemembered g memory m → IsRemembered g (with_slot h of block memory) n
  slot_noted same kept claims mine is = record {
    key = is.key ∙ ap (λ k. option_map (λ (x : Key). x.0) k) (sym same.key);
    holds = λ r has there. same.held r ∙ is.holds r has there;
    reads = λ r has there. same.read r ∙ is.reads r has (rw kept at there);
    places = is.places;
    claims = claims;
    left = rw kept (is.left ∙ sym same.freed);
    stays = λ none. same.freed ∙ is.stays (sym same.key ∙ none);
    apart = λ r held. same.read r ∙ is.apart r (sym (same.held r) ∙ held);
    own = mine;
  }

-- a change of a beat, of claims or of being joined keeps key and locks
pub locks_kept : (m n : HostState) → (n ≡ record m { beat = n.beat; joined = n.joined; claims = n.claims }) → HasSameLocks m n
locks_kept m n same =
    subst (λ (x : HostState). HasSameLocks m x) (sym same) (record { key = refl; held = λ r. refl; read = λ r. refl; freed = refl })

-- the own slot is not claimed where another claim goes
pub still_unclaimed : (y : ℕ) (m : HostState) → claim_of (host.with_claim y 0 m) y ≡ 0 → claim_of m (key_of m % 16) ≡ 0
    → claim_of (host.with_claim y 0 m) (key_of m % 16) ≡ 0
still_unclaimed y m none own = elim (cases_eq (key_of m % 16) y) [
  | inl same ↦ ap (claim_of (host.with_claim y 0 m)) same ∙ none
  | inr other ↦ claim_else y 0 (key_of m % 16) m other ∙ own
]

-- the own slot was freed, under which the host held nothing of the volume
pub own_freed : (g : Geometry) (h : ℕ) (memory : Memory) (m : HostState) → m.key ≢ None
    → ((r : Resource) → HasResource g r → host.holds m r ≡ false) → claim_of m h ≡ 0 → IsRemembered g memory m
    → IsRemembered g (with_slot h h (slot_bytes Free) memory) (host.left m)
own_freed g h memory m known none unclaimed is =
    let block = slot_bytes Free in
    let state = slot_says Free in
    let freed : frees_own h h block ≡ true = and_from (h == h) (state_in block == 0) (eq-eqb h h refl) (eq-eqb (state_in block) 0 state) in
    record {
      key = is.key;
      holds = λ r has there. absurd (true≢false (sym (is.holds r has there) ∙ none r has));
      reads = λ r has there. absurd (none_in (place_of g (kinds.Lock r)) [] refl (rw freed at there));
      places = λ place there. is.places place there;
      claims = λ y below. claim_written h y block memory.claims m (host.left m) (λ two. absurd (zero_is_no_two state two))
          (λ other. unclaimed) (λ other. refl) (is.claims y below);
      left = rw freed refl;
      stays = λ without. absurd (known without);
      apart = λ r held. absurd (true≢false (sym held ∙ left_hold m r));
      own = λ joined. absurd (true≢false (sym joined));
    }
