-- How the readers of a lock are read, host by host.
use Rattle.std.proofs.Common.{◌≡◌, ◌≢◌, ◌<◌, ◌+◌, ◌*◌, ◌%◌, ℕ, List, slice_index, set, inl, inr, sym, ap, ◌∙◌, arith}
use Rattle.std.proofs.lemmas.Bool.{cases_eq}
use Rattle.std.proofs.lemmas.List.{get_or-set_same, get_or-set_other}
use Rattle.vol_base.specs.Bytes.{u64_at}
use Rattle.slot_lock_blocks.specs.Keys.{IsKeyOf}
use Rattle.slot_lock_blocks.specs.ReaderKeys.{AreReaders, StandIn}

-- the first keys that were read are those of any readers that stand in the block
abbrev pub ReadUpTo : List ℕ → ℕ → List ℕ → Type 0
ReadUpTo bytes host keys = (readers : List ℕ) → AreReaders readers → StandIn bytes readers → (h : ℕ) → h < host → slice_index keys h ≡ slice_index readers h

-- the next key, as it was read: 0 where it is none of its host
next_key : (host read number key : ℕ) → read ≡ key → (key ≢ 0 → key % 16 ≡ host) → (read ≡ 0 → number ≡ 0)
    → (IsKeyOf host read → number ≡ read) → number ≡ key
next_key host read number key is of none some =
    elim (cases_eq key 0) [
      | inl zero ↦ none (is ∙ zero) ∙ sym zero
      | inr other ↦ some (λ e. other (sym is ∙ e), ap (λ n. n % 16) is ∙ of other) ∙ is
    ]

pub read_one_more : (bytes keys : List ℕ) (host number : ℕ) → AreReaders keys → host < 16 → ReadUpTo bytes host keys
    → (u64_at bytes (64 + 8 * host) ≡ 0 → number ≡ 0)
    → (IsKeyOf host (u64_at bytes (64 + 8 * host)) → number ≡ u64_at bytes (64 + 8 * host))
    → ReadUpTo bytes (host + 1) (set keys host number)
read_one_more bytes keys host number known below before none some readers are stand h now =
    elim (cases_eq h host) [
      | inl same ↦
          ap (slice_index (set keys host number)) same
          ∙ get_or-set_same keys host number 0 (omega (arith, known.long))
          ∙ next_key host (u64_at bytes (64 + 8 * host)) number (slice_index readers host) (stand host below) (are.hosts host) none some
          ∙ ap (slice_index readers) (sym same)
      | inr other ↦ get_or-set_other keys host h number 0 other ∙ before readers are stand h (omega arith)
    ]
