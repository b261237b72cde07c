-- A free slot and a free lock are their magic and zeros.
use Rattle.std.proofs.Common.{◌≡◌, ◌+◌, ◌*◌, ℕ, zero, suc, List, ◌++◌, replicate, refl, ap, ◌∙◌, arith}
use Rattle.std.specs.Prelude.{codes}
use Rattle.std.specs.List.{flat_map}
use Rattle.vol_base.specs.Bytes.{bytes_of, zeros}
use Rattle.vol_base.specs.laws.BytesLaws.{more_zeros, no_number, zeros-append}
use Rattle.slot_lock_blocks.specs.declared.lock.LockWord.TheVariants as words
use Rattle.slot_lock_blocks.specs.declared.slot.Slot.TheVariants as slots
use Rattle.slot_lock_blocks.specs.Keys.{header_bytes}
use Rattle.slot_lock_blocks.specs.LockWords.{lock_bytes}
use Rattle.slot_lock_blocks.specs.ReaderKeys.{nobody}
use Rattle.slot_lock_blocks.specs.Slots.{slot_bytes}

free_header : (magic : List ℕ) → header_bytes magic 0 0 ≡ magic ++ zeros 16
free_header magic =
    let none = no_number 0 refl in
    ap (λ (xs : List ℕ). magic ++ xs ++ zeros 4 ++ bytes_of 8 0) none.0
    ∙ ap (λ (xs : List ℕ). xs ++ bytes_of 8 0) (more_zeros magic (zeros 4) 4 4 8 refl refl)
    ∙ more_zeros magic (bytes_of 8 0) 8 8 16 none.1 refl

no_keys : (n : ℕ) → flat_map (bytes_of 8) (replicate n 0) ≡ zeros (n * 8)
unfolding zeros
no_keys zero = refl
no_keys (suc n) =
    let more : suc n * 8 ≡ 8 + n * 8 = omega arith in
    ap (λ (xs : List ℕ). bytes_of 8 0 ++ xs) (no_keys n) ∙ ap (λ (xs : List ℕ). xs ++ zeros (n * 8)) (no_number 0 refl).1 ∙ zeros-append 8 (n * 8) ∙ ap zeros (omega arith)

no_readers : flat_map (bytes_of 8) nobody ≡ zeros 128
unfolding nobody
no_readers = no_keys 16

pub free_slot : slot_bytes slots.Free ≡ codes "DEDESLOT" ++ zeros 4088
unfolding slot_bytes
free_slot =
    let magic = codes "DEDESLOT" in
    ap (λ (xs : List ℕ). xs ++ bytes_of 8 0 ++ zeros 4064) (free_header magic)
    ∙ ap (λ (xs : List ℕ). xs ++ zeros 4064) (more_zeros magic (bytes_of 8 0) 16 8 24 (no_number 0 refl).1 refl)
    ∙ more_zeros magic (zeros 4064) 24 4064 4088 refl refl

pub free_lock : lock_bytes words.Free ≡ codes "DEDELOCK" ++ zeros 4088
unfolding lock_bytes
free_lock =
    let magic = codes "DEDELOCK" in
    ap (λ (xs : List ℕ). xs ++ zeros 40 ++ flat_map (bytes_of 8) nobody ++ zeros 3904) (free_header magic)
    ∙ ap (λ (xs : List ℕ). xs ++ flat_map (bytes_of 8) nobody ++ zeros 3904) (more_zeros magic (zeros 40) 16 40 56 refl refl)
    ∙ ap (λ (xs : List ℕ). xs ++ zeros 3904) (more_zeros magic (flat_map (bytes_of 8) nobody) 56 128 184 no_readers refl)
    ∙ more_zeros magic (zeros 3904) 184 3904 4088 refl refl
