-- What a registration and a fence of the new key leave.
use Rattle.std.proofs.Common.{◌≡◌, ◌≤◌, ◌+◌, ◌/◌, ℕ, List, [], ◌∷◌, ◌++◌, Option, not, true, refl, ap, ◌∙◌, arith, append-nil, inl, inr}
use Rattle.std.specs.Prelude.{All, Contains, filter, nat_eq}
use Rattle.std.proofs.lemmas.Bool.{cases_Bool, eqb-true, eq-eqb}
use Rattle.std.proofs.lemmas.List.Elements.{All-head, All-tail, Contains-push, filter-append}
use Rattle.shared_disk.specs.Calls.{after_fence, after_register, next_key}
use Rattle.shared_disk.specs.State.{State, Told, with_told}
use Rattle.shared_disk.specs.Visits.{after_visit}

-- a fence of a key that the counter has not reached takes none off
unfenced : (keys : List ℕ) (counter key : ℕ) → counter + 1 ≤ key / 16 → All (λ k. k / 16 ≤ counter) keys
    → filter (λ k. not (nat_eq k key)) keys ≡ keys
unfenced [] counter key past reached = refl
unfenced (k ∷ ks) counter key past reached =
    let rest = unfenced ks counter key past (All-tail (λ k. k / 16 ≤ counter) k ks reached) in
    let first = All-head (λ k. k / 16 ≤ counter) k ks reached in
    elim (cases_Bool (nat_eq k key)) [
      | inl same ↦ absurd (omega (arith, first, past, ap (λ (n : ℕ). n / 16) (eqb-true k key same)))
      | inr other ↦ rw other (ap (λ (xs : List ℕ). k ∷ xs) rest)
    ]

own_goes : (key : ℕ) → filter (λ k. not (nat_eq k key)) (key ∷ []) ≡ []
own_goes key = let same : nat_eq key key ≡ true = eq-eqb key key refl in rw same refl

new_key_goes : (host : ℕ) (s : State) → All (λ k. k / 16 ≤ s.counter) s.keys
    → filter (λ k. not (nat_eq k (next_key host s))) (s.keys ++ next_key host s ∷ []) ≡ s.keys
new_key_goes host s reached =
    let key = next_key host s in
    filter-append (λ k. not (nat_eq k key)) s.keys (key ∷ [])
    ∙ ap (λ (xs : List ℕ). filter (λ k. not (nat_eq k key)) s.keys ++ xs) (own_goes key)
    ∙ append-nil (filter (λ k. not (nat_eq k key)) s.keys)
    ∙ unfenced s.keys s.counter key (omega arith) reached

-- a host registered, the content became another one, and the host's key was fenced
pub visited_by : (host : ℕ) (s : State) (told : Option Told) (key : ℕ) → key ≡ next_key host s → All (λ k. k / 16 ≤ s.counter) s.keys
    → after_fence key (with_told told (after_register host s)) ≡ with_told told (after_visit s)
visited_by host s told key is reached =
    ap (λ (k : ℕ). after_fence k (with_told told (after_register host s))) is
    ∙ ap (λ (keys : List ℕ). let t : State = record { blocks = s.blocks; keys = keys; counter = s.counter + 1; told = told } in t)
    (new_key_goes host s reached)

-- host 0 registered, and its key was fenced
pub visited : (s : State) (key : ℕ) → key ≡ next_key 0 s → All (λ k. k / 16 ≤ s.counter) s.keys
    → after_fence key (after_register 0 s) ≡ after_visit s
visited s key is reached = visited_by 0 s s.told key is reached

-- host 0 registered, the content became another one, and its key was fenced, state by state
pub visit : (s t u v : State) (key : ℕ) → key ≡ next_key 0 s → All (λ k. k / 16 ≤ s.counter) s.keys
    → t ≡ after_register 0 s → u ≡ with_told u.told t → v ≡ after_fence key u → v ≡ with_told u.told (after_visit s)
visit s t u v key is reached registered changed fenced =
    fenced ∙ ap (after_fence key) (changed ∙ ap (with_told u.told) registered) ∙ visited_by 0 s u.told key is reached

-- the new key is registered
pub next_registered : (s : State) (key : ℕ) → key ≡ next_key 0 s → Contains (after_register 0 s).keys key
next_registered s key is = rw is (Contains-push s.keys (next_key 0 s))
