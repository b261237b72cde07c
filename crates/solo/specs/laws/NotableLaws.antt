-- What a host has in memory is what some notes agree with.
use Rattle.std.proofs.Common.{◌≡◌, ◌≢◌, ◌<◌, ◌∷◌, ◌==◌, ◌∙◌, ℕ, zero, suc, List, [], true, option_map, refl, ap, sym, arith, inl, inr}
use Rattle.std.specs.Prelude.{Contains, if◌then◌else◌}
use Rattle.std.proofs.lemmas.Bool.{cases_Bool, cases_eq, eqb-false, eqb-true}
use Rattle.vol_base.specs.declared.block.Key.{Key}
use Rattle.lock_store.specs.declared.host.HostState.{HostState}
use Rattle.lock_store.specs.Memories.{claim_of}
use Rattle.slot_lock_blocks.specs.ReaderKeys.{key_number}
use Rattle.lock_store.specs.Views.{host_at}
use Rattle.disk_locks.specs.Consistent.{Consistent}
use Rattle.host_facts.specs.Views.{WorldView}
use Rattle.host_facts.specs.laws.FactLaws.{joined_key}
use Rattle.solo.specs.Alone.{IsNotable}
use Rattle.solo.specs.Starts.{HoldsNone}

-- the slots below a number that a host has claimed
claims_of : HostState → ℕ → List ℕ
claims_of m zero = []
claims_of m (suc n) = if claim_of m n == 0 then claims_of m n else n ∷ claims_of m n

behind_head : (n y : ℕ) (xs : List ℕ) → Contains xs y → Contains (n ∷ xs) y
behind_head n y xs has = (suc has.0, let lt = has.1 in omega (arith, lt), has.2)

claim_named : (m : HostState) (n y : ℕ) → y < n → claim_of m y ≢ 0 → Contains (claims_of m n) y
unfolding claims_of
claim_named m zero y below some = absurd (omega (arith, below))
claim_named m (suc n) y below some = elim (cases_Bool (claim_of m n == 0)) [
  | inl none ↦ rw none (claim_named m n y (let apart : y ≢ n = λ same. some (ap (claim_of m) same ∙ eqb-true (claim_of m n) 0 none) in
      omega (arith, below, apart)) some)
  | inr claimed ↦ elim (cases_eq y n) [
    | inl last ↦ rw claimed (0, omega arith, sym last)
    | inr other ↦ rw claimed (behind_head n y (claims_of m n) (claim_named m n y (omega (arith, below, other)) some))
  ]
]

claim_head : (m : HostState) (n y : ℕ) (xs : List ℕ) → claim_of m n ≢ 0 → (Contains xs y → claim_of m y ≢ 0) → Contains (n ∷ xs) y
    → claim_of m y ≢ 0
claim_head m n y xs some rest (zero, lt, is) = λ none. some (ap (claim_of m) is ∙ none)
claim_head m n y xs some rest (suc k, lt, is) = rest (k, omega (arith, lt), is)

claim_there : (m : HostState) (n y : ℕ) → Contains (claims_of m n) y → claim_of m y ≢ 0
unfolding claims_of
claim_there m zero y has = let lt = has.1 in absurd (omega (arith, lt))
claim_there m (suc n) y has = elim (cases_Bool (claim_of m n == 0)) [
  | inl none ↦ claim_there m n y (rw none at has)
  | inr claimed ↦ claim_head m n y (claims_of m n) (eqb-false (claim_of m n) 0 claimed) (λ earlier. claim_there m n y earlier) (rw claimed at has)
]

-- of a host that holds and reads nothing
pub none_notable : (w : WorldView) → Consistent w.locks → (host_at w.locks 0).joined ≡ true → HoldsNone w → IsNotable w 0
none_notable w is in_ none =
    let m = host_at w.locks 0 in
    let memory_is = is.memories 0 in (
      record { key = option_map (λ (k : Key). k.0) m.key; holds = []; reads = []; claims = claims_of m 16; left = m.freed },
      record {
        key = refl;
        holds = λ r has named. let lt = named.1 in absurd (omega (arith, lt));
        reads = λ r has named. let lt = named.1 in absurd (omega (arith, lt));
        places = λ place named. let lt = named.1 in absurd (omega (arith, lt));
        claims = λ y small. (
          claim_there m 16 y,
          λ some. claim_named m 16 y (let few = is.geometry.hosts.1 in omega (arith, small, few)) some,
        );
        left = refl;
        stays = λ keyless. absurd (joined_key w.locks.geometry.hosts _ 0 m memory_is in_ (ap key_number keyless));
        apart = λ r held. (none r).1;
        own = λ joined.
            let named = memory_is.named (joined_key w.locks.geometry.hosts _ 0 m memory_is joined) in
            ap (claim_of m) named.1 ∙ memory_is.own joined;
      },
    )
