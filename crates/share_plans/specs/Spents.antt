-- The slots of a part that a collection empties, by the tables of the part and of a group.
use Rattle.std.specs.Prelude.{◌==◌, ◌&&◌, ◌||◌, ◌≡◌, ◌<◌, ◌+◌, ◌-◌, ◌*◌, ◌/◌, ◌%◌, ◌++◌, ◌∷◌, ℕ, zero, suc, Bool, false, List, [], None, Option, Some, filter, if◌then◌else◌, length, nat_lt, not, slice_index}
use Rattle.std.specs.List.{range_with_len}
use Rattle.vol_base.specs.Packing.{Packing, numbers}
use Rattle.vol_layout.specs.declared.field.Edit.{Edit}
use Rattle.vol_layout.specs.declared.field.Field.TheVariants.{Slot}
use Rattle.vol_layout.specs.Ranges.{per_table}
use Rattle.image_view.specs.Balances.{edit}
use Rattle.image_view.specs.laws.BalanceLaws.{emptied_slots}
use Rattle.call_effects.specs.Collections.{collected}
use Rattle.table_blocks.specs.Tables.{number_in}
use Rattle.journal_block.specs.JournalRecord.{JournalRecord}
use Rattle.share_plans.specs.declared.collection.Emptying.{Emptying}

-- the first group of a list, and the others
abbrev pub current : List ℕ → ℕ
current [] = 0
current (r ∷ more) = r

abbrev pub rest : List ℕ → List ℕ
rest [] = []
rest (r ∷ more) = more

-- the number at an entry of a table
abbrev pub entry_at : Packing → ℕ → ℕ
entry_at p e = slice_index (numbers p) e

-- the number of a slot names a data block of the group
abbrev pub names_in : ℕ → ℕ → Bool
names_in n r = not (n == 0) && ((n - 1) / per_table == r)

-- one of the first so many entries does
abbrev pub names_group : Packing → ℕ → ℕ → Bool
names_group p r zero = false
names_group p r (suc k) = names_group p r k || names_in (entry_at p k) r

-- the groups of which a slot of the part names a data block, ascending
abbrev pub named_groups : Packing → ℕ → List ℕ
named_groups p groups = filter (λ r. names_group p r per_table) (range_with_len 0 groups)

-- the number of a slot names a data block of the group whose count is 1
abbrev pub is_spent : ℕ → ℕ → Packing → Bool
is_spent n r group = names_in n r && (entry_at group ((n - 1) % per_table) == 1)

-- a slot more with its data block, where there are less than four
abbrev pub with_four : List (ℕ × ℕ) → ℕ × ℕ → List (ℕ × ℕ)
with_four slots slot = if nat_lt (length slots) 4 then slots ++ slot ∷ [] else slots

-- the first of these slots among the first so many entries of part p, four at most
abbrev pub gathered : ℕ → Packing → ℕ → Packing → ℕ → List (ℕ × ℕ)
gathered p part r group zero = []
gathered p part r group (suc k) =
    if is_spent (entry_at part k) r group
    then with_four (gathered p part r group k) (per_table * p + k, entry_at part k - 1)
    else gathered p part r group k

-- no slot of the part names a data block of the group whose count is 1
abbrev pub NoneSpent : Packing → ℕ → Packing → Type 0
NoneSpent part r group = (e : ℕ) → e < per_table → is_spent (entry_at part e) r group ≡ false

-- the record of their edits, if there is one
abbrev pub slots_record : ℕ → List (ℕ × ℕ) → Option JournalRecord
slots_record key [] = None
slots_record key (slot ∷ more) = Some (record { key = key; edits = emptied_slots (slot ∷ more) })

-- with the edit of one slot more
abbrev pub slot_added : Option JournalRecord → ℕ → ℕ → Option JournalRecord
slot_added None key slot = Some (record { key = key; edits = edit (Slot slot) 0 ∷ [] })
slot_added (Some entry) key slot =
    if nat_lt (length entry.edits) 4 then Some (record entry { edits = entry.edits ++ edit (Slot slot) 0 ∷ [] }) else Some entry

-- one of these edits is of a slot that names the data block
abbrev pub frees : Packing → List Edit → ℕ → Bool
frees part [] d = false
frees part (e ∷ es) d = (number_in part e.field == d + 1) || frees part es d

-- those of so many numbers that are picked, ascending
abbrev pub picked : (ℕ → Bool) → ℕ → ℕ → List ℕ
picked p base zero = []
picked p base (suc k) = if p (base + k) then picked p base k ++ (base + k) ∷ [] else picked p base k

-- the data blocks of a group that these edits leave without a name
abbrev pub freed_in : Packing → ℕ → List Edit → List ℕ
freed_in part r es = picked (frees part es) (per_table * r) per_table

-- the whole record
abbrev pub emptying_by : ℕ → Packing → ℕ → List (ℕ × ℕ) → Option Emptying
emptying_by key part r [] = None
emptying_by key part r (slot ∷ more) =
    Some (record {
      entry = record { key = key; edits = collected (slot ∷ more) (freed_in part r (emptied_slots (slot ∷ more))) };
      slots = length (slot ∷ more);
    })

abbrev pub emptying_of : ℕ → ℕ → Packing → ℕ → Packing → Option Emptying
emptying_of key p part r group = emptying_by key part r (gathered p part r group per_table)

-- how many of the first so many entries are not 0
abbrev pub used : Packing → ℕ → ℕ
used p zero = 0
used p (suc k) = used p k + (if entry_at p k == 0 then 0 else 1)
