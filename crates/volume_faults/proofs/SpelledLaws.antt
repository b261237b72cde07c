-- What a check asks of slots, locks and journals, from what their blocks read as.
use Rattle.std.proofs.Common.{◌≡◌, ◌≤◌, ◌/◌, ◌↔◌, ℕ, Bool, true, Option, None, List, [], Some, get_or, replicate, inl, inr, sym, arith}
use Rattle.std.specs.Prelude.{IfSome, IsTrue, is_some}
use Rattle.std.proofs.lemmas.Bool.{cases_lt}
use Rattle.std.proofs.lemmas.List.{get_or-replicate, get_or_default, get_or_past, length-replicate}
use Rattle.std.proofs.lemmas.List.Elements.{All-cons, All-head, All-nil, All-tail}
use Rattle.vol_base.specs.Bytes.{u64_at}
use Rattle.vol_base.specs.declared.block.Key.{Key}
use Rattle.vol_layout.specs.Journal.{SpellsJournal, edits_of, journal_key}
use Rattle.vol_layout.specs.laws.JournalLaws.{edits_of-spelled, journal_key-spelled}
use Rattle.vol_layout.specs.Ranges.{IsGeometry}
use Rattle.journal_block.specs.JournalRecord.{JournalRecord, entry_edits, entry_key}
use Rattle.vol_layout.specs.declared.geometry.Geometry.{Geometry}
use Rattle.vol_layout.specs.declared.kind.Resource.{Resource}
use Rattle.vol_layout.specs.declared.kind.Resource.TheVariants as resources
use Rattle.slot_lock_blocks.specs.declared.lock.LockWord.TheVariants as locks
use Rattle.slot_lock_blocks.specs.ReaderKeys.{AreReaders, nobody}
use Rattle.image_view.specs.Spelled.{AreGiven, IsJournal}
use Rattle.volume_faults.specs.Spellings.{AreReadersOf, IsFile, MaySay}

-- a free lock and a held one have no readers
given_nobody : (counter : ℕ) → AreGiven counter nobody
unfolding nobody
given_nobody counter k d lt =
    let none : get_or (replicate 16 0) k d ≡ 0 = get_or-replicate 16 k 0 d (omega (arith, lt, length-replicate {A = ℕ} 16 0)) in
    rw none (omega arith)

pub free_says : (g : Geometry) (counter : ℕ) (r : Resource) → MaySay g counter r locks.Free
free_says g counter r = (tt, All-cons (λ key. key / 16 ≤ counter) 0 nobody (omega arith) (given_nobody counter))

pub held_says : (g : Geometry) (counter : ℕ) (r : Resource) (key : Key) (b : Bool) → (IsTrue b ↔ (key.0 / 16 ≤ counter)) → IsTrue b ↔ MaySay g counter r (locks.Held key)
held_says g counter r key b given = (
  λ yes. (tt, All-cons (λ k. k / 16 ≤ counter) key.0 nobody (given.0 yes) (given_nobody counter)),
  λ says. given.1 (All-head (λ k. k / 16 ≤ counter) key.0 nobody says.1),
)

-- readers may stand in the lock of a file as their keys do
readers_say : (g : Geometry) (counter f : ℕ) (readers : List ℕ) → AreReaders readers → AreReadersOf g counter readers ↔ MaySay g counter (resources.File f) (locks.Read readers)
readers_say g counter f readers range = (
  λ of. (
    λ h past. elim (cases_lt h 16) [ inl below ↦ (of h below).0 past | inr over ↦ get_or_past readers h 0 (omega (arith, range.long)) ],
    All-cons (λ k. k / 16 ≤ counter) 0 readers (omega arith)
        (λ k d lt. let here = (of k (omega (arith, range.long))).1 in let same = get_or_default readers k d 0 lt in rw same here),
  ),
  λ says h below. (says.0 h, All-tail (λ k. k / 16 ≤ counter) 0 readers says.1 h 0 (omega (arith, range.long))),
)

-- only in the lock of a file
pub read_says : (g : Geometry) (counter : ℕ) (r : Resource) (readers : List ℕ) → AreReaders readers → IsFile r → AreReadersOf g counter readers ↔ MaySay g counter r (locks.Read readers)
read_says g counter (resources.File f) readers range file = readers_say g counter f readers range
read_says g counter (resources.Part p) readers range file = absurd file
read_says g counter (resources.Group n) readers range file = absurd file

-- a block that reads as a journal is one, as the key at its place is given
pub journal_of : (g : Geometry) (counter : ℕ) (block : List ℕ) (found : Option (Option JournalRecord)) (key : ℕ) (b : Bool) → IsGeometry g → true ≡ is_some found
    → IfSome found (λ entry. SpellsJournal g block (entry_key entry) (entry_edits entry))
    → key ≡ u64_at block 16 → (IsTrue b ↔ (key / 16 ≤ counter)) → IsTrue b ↔ IsJournal g counter block
journal_of g counter block None key b h some spelled at given = absurd cc
journal_of g counter block (Some entry) key b h some spelled at given =
    let edits = edits_of-spelled g block (entry_key entry) (entry_edits entry) h spelled in
    let keyed = journal_key-spelled g block (entry_key entry) (entry_edits entry) spelled in
    let own : SpellsJournal g block (journal_key block) (edits_of block) = rw (edits, keyed) spelled in (
      λ yes. record { spelled = own; given = All-cons (λ k. k / 16 ≤ counter) (journal_key block) [] (rw (sym at) (given.0 yes)) (All-nil (λ k. k / 16 ≤ counter)) },
      λ is. given.1 (rw at (All-head (λ k. k / 16 ≤ counter) (journal_key block) [] is.given)),
    )
