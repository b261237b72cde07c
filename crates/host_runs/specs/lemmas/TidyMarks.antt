-- In a tidy run what a host writes into slots and locks says what it has in mind.
use Rattle.std.proofs.Common.{◌≡◌, ◌≢◌, ◌%◌, ℕ, List, Option, Some, None, refl, ap, sym, ◌∙◌, subst, inl, inr, arith}
use Rattle.std.specs.Prelude.{Contains, IfSome, IsSome, option_map, slice_get, slice_set}
use Rattle.std.proofs.lemmas.Bool.{cases_eq, eq-eqb}
use Rattle.vol_layout.specs.declared.kind.Kind.{Kind}
use Rattle.vol_layout.specs.declared.kind.Kind.TheVariants as kinds
use Rattle.vol_layout.specs.declared.kind.Resource.{Resource}
use Rattle.vol_layout.specs.Places.{kind_at}
use Rattle.shared_disk.specs.Calls.{told_after}
use Rattle.shared_disk.specs.State.{Told}
use Rattle.image_view.specs.Images.{Image}
use Rattle.image_view.specs.Valid.{IsValid}
use Rattle.host_runs.specs.Memories.{Memory, put_in, with_lock}
use Rattle.host_runs.specs.Moments.{Moment}
use Rattle.host_runs.specs.Tidy.{IsLiving}
use Rattle.host_runs.specs.lemmas.TidyStates.{IsReader, WordSays}
use Rattle.host_runs.specs.TurnFacts.{MayRead, MaySwap, MayTest, MayTestLock, MayWrite}
use Rattle.host_runs.specs.Words.{key_in, reader_in, state_in}
use Rattle.host_runs.specs.lemmas.OrderlyPlaced.{some_same}
use Rattle.host_runs.specs.lemmas.TidyWords.{IsSameBut, is_in, lock_at, no_readers}

-- facts of what is told, joined, carried along, and taken over a write
pub on_both : (P Q : Image → Type 0) (told : Option Told) → IfSome told (λ t. P t.image) → IfSome told (λ t. Q t.image)
    → IfSome told (λ t. P t.image × Q t.image)
on_both P Q None p q = tt
on_both P Q (Some t) p q = (p, q)

pub on_weaker : (P Q : Image → Type 0) (told : Option Told) → ((image : Image) → P image → Q image) → IfSome told (λ t. P t.image)
    → IfSome told (λ t. Q t.image)
on_weaker P Q None weaker p = tt
on_weaker P Q (Some t) weaker p = weaker t.image p

pub on_written : (P Q : Image → Type 0) (told : Option Told) (place : ℕ) (block : List ℕ)
    → ((image : Image) → P image → Q (slice_set image place block))
    → IfSome told (λ t. P t.image) → IfSome (option_map (told_after place block) told) (λ t. Q t.image)
on_written P Q None place block written p = tt
on_written P Q (Some t) place block written p = written t.image p

pub some_written : (told : Option Told) (place : ℕ) (block : List ℕ) → IsSome told → IsSome (option_map (told_after place block) told)
some_written None place block is = absurd cc
some_written (Some t) place block is = refl

one_not_zero : (n : ℕ) → n ≡ 0 → n ≡ 1 → ⊥
one_not_zero n zero one = absurd (omega (arith, zero, one))

two_not_zero : (n : ℕ) → n ≡ 0 → n ≡ 2 → ⊥
two_not_zero n zero two = absurd (omega (arith, zero, two))

-- what a host's own key is good for
module _ (m : Moment) (own : ℕ) (memories later : ℕ → Memory) (key : (later m.host).key ≡ Some own) where
  -- a block that the host wrote plainly
  pub written_says : (kind : Option Kind) (place : ℕ) (block : List ℕ) → MayWrite m own kind block → WordSays later place kind block
  written_says (Some (kinds.Lock r)) place block may =
      (λ held. absurd (one_not_zero (state_in block) may held), λ read. absurd (two_not_zero (state_in block) may read))
  written_says (Some (kinds.Slot of)) place block may =
      elim may.1 [
        | inl free ↦ inl free
        | inr live ↦ inr (live.0, subst (λ (h : ℕ). (later h).key ≡ Some (key_in block)) (sym may.0) (key ∙ ap (λ (n : ℕ). Some n) (sym live.1)))
      ]
  written_says kind place block may = tt

  -- a slot that the host changed: it does not recover another one
  pub swapped_slot : (of place : ℕ) (old new : List ℕ) → IsLiving m.command → MayTest m own (Some (kinds.Slot of)) old new
      → MaySwap m own (Some (kinds.Slot of)) old new
      → WordSays memories place (Some (kinds.Slot of)) old → (memories m.host).key ≡ Some own
      → WordSays later place (Some (kinds.Slot of)) new
  swapped_slot of place old new living test swap says before =
      let own_slot : of ≡ m.host = elim test [ inl same ↦ same | inr recovers ↦ absurd (subst IsLiving recovers living) ] in
      elim swap [
        | inl enters ↦ inr (enters.1, subst (λ (h : ℕ). (later h).key ≡ Some (key_in new)) (sym own_slot) (key ∙ ap (λ (n : ℕ). Some n) (sym enters.2)))
        | inr other ↦ elim other [
          | inl claims ↦ elim says [
            | inl free ↦ absurd (claims.1 free)
            | inr live ↦
                let same : Some own ≡ Some (key_in old) = sym before ∙ ap (λ (h : ℕ). (memories h).key) (sym own_slot) ∙ live.1 in
                absurd (claims.2 (sym (some_same own (key_in old) same)))
          ]
          | inr frees ↦ inl frees.0
        ]
      ]

-- a lock that the host changed
module _ (m : Moment) (own counter : ℕ) (memories later : ℕ → Memory) (image : Image) (place : ℕ) (old new : List ℕ) (disk_own : (own ≢ 0) × (own % 16 ≡ m.host)) where
  host_reads : (r : Resource) → (later m.host) ≡ with_lock place own new (memories m.host) → state_in new ≡ 2
      → MayRead m.command r own (reader_in new m.host)
      → reader_in new m.host ≡ own → IsReader (later m.host) place
  host_reads r here read may is =
      let listed : (with_lock place own new (memories m.host)).reads ≡ put_in place (memories m.host).reads =
      rw (eq-eqb (state_in new) 2 read, disk_own.1, eq-eqb (reader_in new m.host) own is) refl in
      inl (subst (λ (xs : List ℕ). Contains xs place) (sym (ap (λ (x : Memory). x.reads) here ∙ listed)) (is_in place (memories m.host).reads))

  pub swapped_lock : (r : Resource) → IsValid m.geometry counter image → kind_at m.geometry place ≡ Some (kinds.Lock r)
      → slice_get image place ≡ Some old
      → WordSays memories place (Some (kinds.Lock r)) old → (later m.host) ≡ with_lock place own new (memories m.host)
      → IsSameBut m.host later memories
      → (later m.host).key ≡ Some own → ((h key : ℕ) → (memories h).key ≡ Some key → key ≢ 0)
      → MayTestLock m own r old new → MaySwap m own (Some (kinds.Lock r)) old new → WordSays later place (Some (kinds.Lock r)) new
  swapped_lock r valid kind stands says here same key some test swap = (
    λ held.
        let listed : (with_lock place own new (memories m.host)).holds ≡ put_in place (memories m.host).holds = rw (eq-eqb (state_in new) 1 held) refl in (
          m.host,
          key ∙ ap (λ (n : ℕ). Some n) (sym (test.held held).0),
          subst (λ (xs : List ℕ). Contains xs place) (sym (ap (λ (x : Memory). x.holds) here ∙ listed)) (is_in place (memories m.host).holds),
        ),
    λ read h k small is at. elim (cases_eq h m.host) [
      | inl self ↦
          let mine : k ≡ own = some_same k own (sym is ∙ ap (λ (n : ℕ). (later n).key) self ∙ key) in
          let reader : reader_in new m.host ≡ own = ap (reader_in new) (sym self) ∙ at ∙ mine in
          subst (λ (n : ℕ). IsReader (later n) place) (sym self) (host_reads r here read (test.read read) reader)
      | inr other ↦
          let before : (memories h).key ≡ Some k = sym (ap (λ (x : Memory). x.key) (same h other)) ∙ is in
          let reader : reader_in old h ≡ k = sym (swap read h small other) ∙ at in
          elim (cases_eq (state_in old) 2) [
            | inl was ↦ subst (λ (x : Memory). IsReader x place) (sym (same h other)) (says.1 was h k small before reader)
            | inr not_read ↦
                absurd (some h k before (sym reader ∙ no_readers m.geometry counter r old h (lock_at m.geometry counter image place r old valid kind stands) not_read small))
          ]
    ],
  )
