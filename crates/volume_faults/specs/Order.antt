-- The order of faults: by place, then by the entry of the block.
use Rattle.std.specs.Prelude.{◌≡◌, ◌⊎◌, ◌+◌, ◌<◌, ℕ, List, [], ◌∷◌, All}
use Rattle.volume_faults.specs.declared.fault.Fault.{Fault}
use Rattle.volume_faults.specs.declared.fault.FaultKind.{FaultKind}
use Rattle.volume_faults.specs.declared.fault.FaultKind.TheVariants.{Superblock, Size, Spelling, LockKey, JournalKey, JournalEdit, Count, Mark}

-- the entry of its block at which a fault stands; a record's key comes before its edits
abbrev pub fault_entry : FaultKind → ℕ
fault_entry Superblock = 0
fault_entry (Size need found) = 0
fault_entry Spelling = 0
fault_entry (LockKey key) = 0
fault_entry (JournalKey key) = 0
fault_entry (JournalEdit e) = e + 1
fault_entry (Count number found counted) = number
fault_entry (Mark i) = i

-- one fault comes before another
abbrev pub ComesBefore : Fault → Fault → Type 0
ComesBefore x y = (x.place < y.place) ⊎ ((x.place ≡ y.place) × (fault_entry x.kind < fault_entry y.kind))

-- each fault comes before those behind it
abbrev pub AreInOrder : List Fault → Type 0
AreInOrder [] = Unit {0}
AreInOrder (x ∷ xs) = All (λ y. ComesBefore x y) xs × AreInOrder xs
