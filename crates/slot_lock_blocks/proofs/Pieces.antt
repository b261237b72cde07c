-- The pieces that slots and locks are written in.
use Rattle.std.proofs.Common.{◌≡◌, ◌+◌, ◌-◌, ℕ, List, ◌++◌, length, refl, ap, ◌∙◌, arith}
use Rattle.std.specs.Prelude.{codes}
use Rattle.std.specs.List.{flat_map}
use Rattle.vol_base.specs.Bytes.{bytes_of, zeros}
use Rattle.slot_lock_blocks.specs.declared.slot.Slot.{Slot}
use Rattle.slot_lock_blocks.specs.declared.lock.LockWord.{LockWord}
use Rattle.slot_lock_blocks.specs.Keys.{header_bytes}
use Rattle.slot_lock_blocks.specs.Slots.{slot_bytes, slot_key, slot_second, slot_state}
use Rattle.slot_lock_blocks.specs.LockWords.{lock_bytes, lock_key, lock_readers, lock_state}

pub slot_written : (slot : Slot) (state key second : ℕ) (header whole result : List ℕ) → state ≡ slot_state slot → key ≡ slot_key slot
    → second ≡ slot_second slot
    → header ≡ header_bytes (codes "DEDESLOT") state key → length header ≡ 24 → whole ≡ header ++ bytes_of 8 second
    → length whole ≡ length header + 8
    → result ≡ whole ++ zeros (4096 - length whole) → result ≡ slot_bytes slot
unfolding slot_bytes
slot_written slot state key second header whole result s k n h front w all r =
    let rest : 4096 - length whole ≡ 4064 = omega arith in
    r ∙ ap (λ (m : ℕ). whole ++ zeros m) rest ∙ rw (w, h, s, k, n) refl

pub lock_written : (word : LockWord) (state key : ℕ) (readers header padded whole result : List ℕ) → state ≡ lock_state word
    → key ≡ lock_key word → readers ≡ lock_readers word
    → header ≡ header_bytes (codes "DEDELOCK") state key → length header ≡ 24 → padded ≡ header ++ zeros (64 - length header)
    → length padded ≡ 64
    → whole ≡ padded ++ flat_map (bytes_of 8) readers → length whole ≡ length padded + 128 → result ≡ whole ++ zeros (4096 - length whole)
    → result ≡ lock_bytes word
unfolding lock_bytes
lock_written word state key readers header padded whole result s k n h front p all w last r =
    let rest : 4096 - length whole ≡ 3904 = omega arith in
    let gap : 64 - length header ≡ 40 = omega arith in
    r ∙ ap (λ (m : ℕ). whole ++ zeros m) rest ∙ rw (w, p, gap, h, s, k, n) refl
