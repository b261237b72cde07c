-- A host without a key holds nothing and claims nothing.
use Rattle.std.proofs.Common.{◌≡◌, ℕ, false, replicate, arith, inl, inr}
use Rattle.std.specs.Prelude.{slice_index_or}
use Rattle.std.proofs.lemmas.Bool.{cases_lt}
use Rattle.std.proofs.lemmas.List.{get_or-replicate, get_or_past, length-replicate}
use Rattle.vol_layout.specs.declared.kind.Resource.{Resource}
use Rattle.lock_store.specs.declared.host.HostState.{HostState}
use Rattle.lock_store.specs.Memories as host
use Rattle.lock_store.specs.Memories.{claim_of, dropped, index_of, left}

no_entry : (i : ℕ) → slice_index_or (replicate 144 false) i false ≡ false
no_entry i = elim (cases_lt i 144) [
  | inl below ↦ get_or-replicate 144 i false false below
  | inr past ↦ get_or_past (replicate 144 false) i false (let long = length-replicate 144 false in omega (arith, past, long))
]

pub no_hold : (r : Resource) → host.holds dropped r ≡ false
unfolding dropped
no_hold r = no_entry (index_of r)

pub left_hold : (m : HostState) (r : Resource) → host.holds (left m) r ≡ false
left_hold m r = no_entry (index_of r)

pub no_claim : (y : ℕ) → claim_of dropped y ≡ 0
unfolding dropped
no_claim y = elim (cases_lt y 16) [
  | inl below ↦ get_or-replicate 16 y 0 0 below
  | inr past ↦ get_or_past (replicate 16 0) y 0 (let long = length-replicate {A = ℕ} 16 0 in omega (arith, past, long))
]
