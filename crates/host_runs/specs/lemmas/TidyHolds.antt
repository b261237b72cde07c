-- Where the locks come from that a host has in mind behind a call.
use Rattle.std.proofs.Common.{◌≡◌, ◌≢◌, ◌<◌, ◌⊎◌, ◌%◌, ◌==◌, ◌∷◌, ℕ, zero, suc, Bool, true, false, not, List, [], Option, Some, length, filter, refl, ap, sym, ◌∙◌, subst, inl, inr, arith}
use Rattle.std.specs.Prelude.{Contains, if◌then◌else◌, slice_index_or}
use Rattle.std.proofs.lemmas.Bool.{cases_Bool, eqb-true}
use Rattle.vol_layout.specs.declared.geometry.Geometry.{Geometry}
use Rattle.vol_layout.specs.declared.kind.Kind.{Kind}
use Rattle.vol_layout.specs.declared.kind.Kind.TheVariants as kinds
use Rattle.vol_layout.specs.declared.kind.Resource.{Resource}
use Rattle.vol_layout.specs.declared.kind.Resource.TheVariants as resources
use Rattle.vol_layout.specs.Places.{kind_at}
use Rattle.shared_disk.specs.Events.{Call, Reply, Done, Gives, Registers, Tests, Writes}
use Rattle.host_runs.specs.FileUses.{file_used}
use Rattle.host_runs.specs.Memories.{HasFile, Memory, frees_own, leave_out, put_in, with_block, with_reply}
use Rattle.host_runs.specs.Moments.{Moment}
use Rattle.host_runs.specs.TurnFacts.{MayHold, MayMark, MayRead, MayTest, MayWrite}
use Rattle.host_runs.specs.Words.{reader_in, state_in}
use Rattle.host_runs.specs.lemmas.OrderlyPlaced.{some_same}

-- an element that a filter kept was there before
kept_cases : (y : ℕ) (ys xs : List ℕ) (x k : ℕ) → ((n : ℕ) → n < length ys → slice_index_or ys n x ≡ x → Contains xs x)
    → k < length (y ∷ ys) → slice_index_or (y ∷ ys) k x ≡ x → Contains (y ∷ xs) x
kept_cases y ys xs x zero rest lt is = (0, omega arith, is)
kept_cases y ys xs x (suc k) rest lt is = let old = rest k (omega (arith, lt)) is in (suc old.0, omega (arith, old.1), old.2)

in_filter : (p : ℕ → Bool) (xs : List ℕ) (x k : ℕ) → k < length (filter p xs) → slice_index_or (filter p xs) k x ≡ x → Contains xs x
in_filter p [] x k lt is = absurd (omega (arith, lt))
in_filter p (y ∷ xs) x k lt is =
    elim (cases_Bool (p y)) [
      | inl kept ↦ kept_cases y (filter p xs) xs x k (λ n below at. in_filter p xs x n below at) (rw kept at lt) (rw kept at is)
      | inr dropped ↦ let rest = in_filter p xs x k (rw dropped at lt) (rw dropped at is) in (suc rest.0, omega (arith, rest.1), rest.2)
    ]

out_in : (x q : ℕ) (xs : List ℕ) → Contains (leave_out x xs) q → Contains xs q
out_in x q xs has = in_filter (λ y. not (y == x)) xs q has.0 has.1 has.2

put_cases : (x q : ℕ) (xs : List ℕ) → Contains (put_in x xs) q → (q ≡ x) ⊎ Contains xs q
put_cases x q xs has = at has.0 has.1 has.2
  where
    at : (k : ℕ) → k < length (put_in x xs) → slice_index_or (put_in x xs) k q ≡ q → (q ≡ x) ⊎ Contains xs q
    at zero lt is = inl (sym is)
    at (suc k) lt is = inr (out_in x q xs (k, omega (arith, lt), is))

-- an element of a list to which one number was added, or of which it was taken out
chosen_cases : (b : Bool) (x q : ℕ) (xs : List ℕ) → Contains (if b then put_in x xs else leave_out x xs) q
    → ((b ≡ true) × (q ≡ x)) ⊎ Contains xs q
chosen_cases true x q xs has = elim (put_cases x q xs has) [ inl here ↦ inl (refl, here) | inr old ↦ inr old ]
chosen_cases false x q xs has = inr (out_in x q xs has)

chosen_twice : (a b : Bool) (x q : ℕ) (xs : List ℕ) → Contains (if a then (if b then put_in x xs else leave_out x xs) else leave_out x xs) q
    → ((a ≡ true) × (b ≡ true) × (q ≡ x)) ⊎ Contains xs q
chosen_twice true b x q xs has = elim (chosen_cases b x q xs has) [ inl here ↦ inl (refl, here.0, here.1) | inr old ↦ inr old ]
chosen_twice false b x q xs has = inr (out_in x q xs has)

emptied : (b : Bool) (xs : List ℕ) (q : ℕ) → Contains (if b then [] else xs) q → Contains xs q
emptied true xs q has = absurd (omega (arith, has.1))
emptied false xs q has = has

module _ (m : Moment) (own : ℕ) (memory : Memory) (disk_own : (own ≢ 0) × (own % 16 ≡ m.host)) where
  abbrev g : Geometry
  g = m.geometry

  -- what was held or read before, or is of a file that the command uses
  abbrev FromBlock : Option Kind → ℕ → List ℕ → Type 0
  FromBlock kind place block =
      ((f : ℕ) → HasFile g (with_block kind m.host own place block memory).holds f → HasFile g memory.holds f ⊎ (file_used m.command ≡ Some f))
      × ((f : ℕ) → HasFile g (with_block kind m.host own place block memory).reads f → HasFile g memory.reads f ⊎ (file_used m.command ≡ Some f))

  same_file : (r : Resource) (place q f : ℕ) → kind_at g place ≡ Some (kinds.Lock r) → q ≡ place
      → kind_at g q ≡ Some (kinds.Lock (resources.File f)) → r ≡ resources.File f
  same_file r place q f kind same lock =
      let both : Some (kinds.Lock r) ≡ Some (kinds.Lock (resources.File f)) = sym kind ∙ ap (kind_at g) (sym same) ∙ lock in
      let locks : kinds.Lock r ≡ kinds.Lock (resources.File f) = some_same (kinds.Lock r) (kinds.Lock (resources.File f)) both in
      cc

  read_file : (f : ℕ) (word : List ℕ) → MayRead m.command (resources.File f) own (reader_in word m.host) → reader_in word (own % 16) ≡ own
      → file_used m.command ≡ Some f
  read_file f word (inl used) at = used.1
  read_file f word (inr closed) at = absurd (disk_own.0 (sym at ∙ ap (reader_in word) disk_own.1 ∙ closed.0))

  from_lock : (r : Resource) (place : ℕ) (block : List ℕ) → kind_at g place ≡ Some (kinds.Lock r)
      → ((f : ℕ) → r ≡ resources.File f → state_in block ≡ 1 → file_used m.command ≡ Some f)
      → ((f : ℕ) → r ≡ resources.File f → state_in block ≡ 2 → reader_in block (own % 16) ≡ own → file_used m.command ≡ Some f)
      → FromBlock (Some (kinds.Lock r)) place block
  from_lock r place block kind held read = (
    λ f has. elim (chosen_cases (state_in block == 1) place has.0 memory.holds has.2) [
      | inl new ↦ inr (held f (same_file r place has.0 f kind new.1 has.1) (eqb-true (state_in block) 1 new.0))
      | inr old ↦ inl (has.0, has.1, old)
    ],
    λ f has. elim (chosen_twice (state_in block == 2) (reader_in block (own % 16) == own) place has.0 memory.reads has.2) [
      | inl new ↦ inr (read f (same_file r place has.0 f kind new.2 has.1) (eqb-true (state_in block) 2 new.0) (eqb-true (reader_in block (own % 16)) own new.1))
      | inr old ↦ inl (has.0, has.1, old)
    ],
  )

  from_write : (kind : Option Kind) (place : ℕ) (block : List ℕ) → kind_at g place ≡ kind → MayWrite m own kind block
      → FromBlock kind place block
  from_write (Some (kinds.Lock r)) place block kind may =
      from_lock r place block kind (λ f is one. absurd (omega (arith, may, one))) (λ f is two reader. absurd (omega (arith, may, two)))
  from_write (Some (kinds.Slot of)) place block kind may =
      (λ f has. inl has, λ f has. inl (has.0, has.1, emptied (frees_own m.host of block) memory.reads has.0 has.2))
  from_write kind place block is may = (λ f has. inl has, λ f has. inl has)

  from_swap : (kind : Option Kind) (place : ℕ) (before block : List ℕ) → kind_at g place ≡ kind → MayTest m own kind before block
      → FromBlock kind place block
  from_swap (Some (kinds.Lock r)) place before block kind test =
      from_lock r place block kind
      (λ f is one. subst (MayHold m.command) is (test.held one).1)
      (λ f is two reader. read_file f block (subst (λ (x : Resource). MayRead m.command x own (reader_in block m.host)) is (test.read two)) reader)
  from_swap (Some (kinds.Slot of)) place before block kind test =
      (λ f has. inl has, λ f has. inl (has.0, has.1, emptied (frees_own m.host of block) memory.reads has.0 has.2))
  from_swap kind place before block is test = (λ f has. inl has, λ f has. inl has)

  -- the same behind one call
  pub from_call : (call : Call) (reply : Reply) → MayMark m own call reply
      → ((f : ℕ) → HasFile g (with_reply g m.host own call reply memory).holds f → HasFile g memory.holds f ⊎ (file_used m.command ≡ Some f))
      × ((f : ℕ) → HasFile g (with_reply g m.host own call reply memory).reads f → HasFile g memory.reads f ⊎ (file_used m.command ≡ Some f))
  from_call (Writes place block) Done marks = from_write (kind_at g place) place block refl marks
  from_call (Tests place before new) Done marks = from_swap (kind_at g place) place before new refl marks.0
  from_call (Registers of) (Gives key) marks = (λ f has. inl has, λ f has. inl has)
  from_call call reply marks = (λ f has. inl has, λ f has. inl has)
