-- What one call leaves of the counter, the keys and the content.
use Rattle.std.proofs.Common.{◌≡◌, ◌<◌, ◌≤◌, ◌⊎◌, ◌∷◌, ℕ, Bool, true, List, [], Option, not, refl, ap, sym, ◌∙◌, subst, inl, inr, arith, filter, length, option_map, zero, suc}
use Rattle.std.specs.Prelude.{Contains, nat_eq, slice_index_or}
use Rattle.std.proofs.lemmas.Bool.{cases_Bool, cases_eq, ne_eqb}
use Rattle.std.proofs.lemmas.List.Elements.{Contains-append_left}
use Rattle.shared_disk.specs.Calls.{after_fence, next_key, told_after}
use Rattle.shared_disk.specs.Events.{Call, Changes, Reply, Done, Fences, Gives, Reads, Refuses, Registers, Shows, Tests, Writes}
use Rattle.shared_disk.specs.State.{State, Told}

-- the content is as it was, or one block of it was written
abbrev pub TellsOnce : Option Told → Option Told → Type 0
TellsOnce old new = (new ≡ old) ⊎ ((place : ℕ) × (block : List ℕ) × (new ≡ option_map (told_after place block) old))

pub told_same : (s t : State) → t ≡ s → TellsOnce s.told t.told
told_same s t same = inl (ap (λ (u : State). u.told) same)

pub told_called : (call : Call) (reply : Reply) (s t : State) → Changes call reply s t → TellsOnce s.told t.told
told_called call (Refuses cause) s t h = told_same s t h
told_called (Reads place) (Shows block) s t h = told_same s t h.1
told_called (Writes place block) Done s t h = inr (place, block, ap (λ (u : State). u.told) h)
told_called (Tests place old new) Done s t h = inr (place, new, ap (λ (u : State). u.told) h.1)
told_called (Tests place old new) (Shows block) s t h = told_same s t h.2
told_called (Registers host) (Gives key) s t h = inl (ap (λ (u : State). u.told) h.1)
told_called (Fences target) Done s t h = inl (ap (λ (u : State). u.told) h)
told_called call reply s t h = absurd h

pub counter_same : (s t : State) → t.counter ≡ s.counter → s.counter ≤ t.counter
counter_same s t same = omega (arith, same)

pub counter_called : (call : Call) (reply : Reply) (s t : State) → Changes call reply s t → s.counter ≤ t.counter
counter_called call (Refuses cause) s t h = counter_same s t (ap (λ (u : State). u.counter) h)
counter_called (Reads place) (Shows block) s t h = counter_same s t (ap (λ (u : State). u.counter) h.1)
counter_called (Writes place block) Done s t h = counter_same s t (ap (λ (u : State). u.counter) h)
counter_called (Tests place old new) Done s t h = counter_same s t (ap (λ (u : State). u.counter) h.1)
counter_called (Tests place old new) (Shows block) s t h = counter_same s t (ap (λ (u : State). u.counter) h.2)
counter_called (Registers host) (Gives key) s t h = let e = ap (λ (u : State). u.counter) h.1 in omega (arith, e)
counter_called (Fences target) Done s t h = counter_same s t (ap (λ (u : State). u.counter) h)
counter_called call reply s t h = absurd h

-- an element that passes a test is kept by it
kept_at : (p : ℕ → Bool) (xs : List ℕ) (x k : ℕ) → k < length xs → slice_index_or xs k x ≡ x → p x ≡ true → Contains (filter p xs) x
kept_at p [] x k lt is passes = absurd (omega (arith, lt))
kept_at p (y ∷ xs) x zero lt is passes = let here : p y ≡ true = ap p is ∙ passes in rw here (0, omega arith, is)
kept_at p (y ∷ xs) x (suc k) lt is passes =
    let rest = kept_at p xs x k (omega (arith, lt)) is passes in
    elim (cases_Bool (p y)) [
      | inl kept ↦ rw kept (suc rest.0, omega (arith, rest.1), rest.2)
      | inr dropped ↦ rw dropped rest
    ]

pub kept_by : (p : ℕ → Bool) (xs : List ℕ) (x : ℕ) → Contains xs x → p x ≡ true → Contains (filter p xs) x
kept_by p xs x has passes = kept_at p xs x has.0 has.1 has.2 passes

keys_same : (s t : State) (key : ℕ) (call : Call) → t.keys ≡ s.keys → Contains s.keys key → Contains t.keys key ⊎ (call ≡ Fences key)
keys_same s t key call same has = inl (subst (λ (keys : List ℕ). Contains keys key) (sym same) has)

key_fenced : (s : State) (key target : ℕ) → Contains s.keys key → Contains (after_fence target s).keys key ⊎ (Fences target ≡ Fences key)
key_fenced s key target has =
    elim (cases_eq key target) [
      | inl same ↦ inr (ap Fences (sym same))
      | inr other ↦ inl (kept_by (λ k. not (nat_eq k target)) s.keys key has (rw (ne_eqb key target other) refl))
    ]

-- one call leaves a key registered, or is a fence of it
pub key_called : (call : Call) (reply : Reply) (s t : State) (key : ℕ) → Changes call reply s t → Contains s.keys key
    → Contains t.keys key ⊎ (call ≡ Fences key)
key_called (Fences target) Done s t key h has = subst (λ (u : State). Contains u.keys key ⊎ (Fences target ≡ Fences key)) (sym h) (key_fenced s key target has)
key_called call (Refuses cause) s t key h has = keys_same s t key call (ap (λ (u : State). u.keys) h) has
key_called (Reads place) (Shows block) s t key h has = keys_same s t key (Reads place) (ap (λ (u : State). u.keys) h.1) has
key_called (Writes place block) Done s t key h has = keys_same s t key (Writes place block) (ap (λ (u : State). u.keys) h) has
key_called (Tests place old new) Done s t key h has = keys_same s t key (Tests place old new) (ap (λ (u : State). u.keys) h.1) has
key_called (Tests place old new) (Shows block) s t key h has = keys_same s t key (Tests place old new) (ap (λ (u : State). u.keys) h.2) has
key_called (Registers host) (Gives given) s t key h has =
    inl (subst (λ (u : State). Contains u.keys key) (sym h.1) (Contains-append_left s.keys (next_key host s ∷ []) key has))
key_called call reply s t key h has = absurd h
