-- The text of faults.
use Rattle.std.specs.Prelude.{ℕ, List, [], ◌∷◌, ◌++◌, codes, decimal}
use Rattle.std.specs.List.{flat_map}
use Rattle.volume_faults.specs.declared.fault.Fault.{Fault}
use Rattle.volume_faults.specs.declared.fault.FaultKind.{FaultKind}
use Rattle.volume_faults.specs.declared.fault.FaultKind.TheVariants.{Superblock, Size, Spelling, LockKey, JournalKey, JournalEdit, Count, Mark}

-- what is wrong, in words
abbrev pub cause_text : FaultKind → List ℕ
cause_text Superblock = codes "superblock"
cause_text (Size need found) = codes "size " ++ decimal need ++ codes " " ++ decimal found
cause_text Spelling = codes "spelling"
cause_text (LockKey key) = codes "lock key " ++ decimal key.0
cause_text (JournalKey key) = codes "journal key " ++ decimal key.0
cause_text (JournalEdit e) = codes "journal edit " ++ decimal e
cause_text (Count number found counted) = codes "count " ++ decimal number ++ codes " found " ++ decimal found ++ codes " counted " ++ decimal counted
cause_text (Mark i) = codes "mark " ++ decimal i

-- the line of a fault: its place, and what is wrong there
abbrev pub fault_line : Fault → List ℕ
fault_line fault = codes "volume block " ++ decimal fault.place ++ codes ": " ++ cause_text fault.kind ++ 10 ∷ []

-- a line for each fault, in their order
unfoldable pub faults_text : List Fault → List ℕ
faults_text faults = flat_map fault_line faults
