-- What the readers of a lock are, and stay.
use Rattle.std.proofs.Common.{◌≡◌, ◌≢◌, ◌<◌, ◌%◌, ◌^◌, ℕ, List, length, slice_index, set, sym, ap, ◌∙◌, inl, inr, arith, length-set}
use Rattle.std.proofs.lemmas.Bool.{cases_eq, cases_lt}
use Rattle.std.proofs.lemmas.List.{get_or_past, get_or-replicate, length-replicate, get_or-set_same, get_or-set_other}
use Rattle.std.proofs.lemmas.List.Elements.{All-replicate, All-set}
use Rattle.slot_lock_blocks.specs.ReaderKeys.{AreReaders, nobody}

pub length-nobody : length nobody ≡ 16
unfolding nobody
length-nobody = length-replicate {A = ℕ} 16 0

-- nobody's keys are 0
pub slice_index-nobody : (host : ℕ) → slice_index nobody host ≡ 0
unfolding nobody
slice_index-nobody host =
    elim (cases_lt host 16) [
      | inl h ↦ get_or-replicate {A = ℕ} 16 host 0 0 h
      | inr h ↦ get_or_past nobody host 0 (omega (arith, length-nobody))
    ]

pub AreReaders-nobody : AreReaders nobody
unfolding nobody
AreReaders-nobody = record {
  long = length-nobody;
  width = All-replicate (λ key. key < 2 ^ 64) 16 0 (omega arith);
  hosts = λ host other. absurd (other (slice_index-nobody host));
}

-- where a host reads, somebody does
pub somebody : (readers : List ℕ) (host : ℕ) → slice_index readers host ≢ 0 → readers ≢ nobody
somebody readers host reads none = reads (ap (λ (keys : List ℕ). slice_index keys host) none ∙ slice_index-nobody host)

-- readers stay readers where a host's key is noted, or that it does not read
pub AreReaders-set : (readers : List ℕ) (host key : ℕ) → AreReaders readers → host < 16 → key < 2 ^ 64 → (key ≢ 0 → key % 16 ≡ host)
    → AreReaders (set readers host key)
AreReaders-set readers host key are below small of = record {
  long = length-set readers host key ∙ are.long;
  width = All-set (λ n. n < 2 ^ 64) readers host key small are.width;
  hosts = λ h reads.
      elim (cases_eq h host) [
        | inl same ↦
            let is : slice_index (set readers host key) h ≡ key = ap (slice_index (set readers host key)) same ∙ get_or-set_same readers host key 0 (omega (arith, are.long)) in
            ap (λ n. n % 16) is ∙ of (λ none. reads (is ∙ none)) ∙ sym same
        | inr other ↦
            let is : slice_index (set readers host key) h ≡ slice_index readers h = get_or-set_other readers host h key 0 other in
            ap (λ n. n % 16) is ∙ are.hosts h (λ none. reads (is ∙ none))
      ];
}
