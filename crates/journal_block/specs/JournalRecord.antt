use Rattle.std.specs.Prelude.{◌≤◌, ℕ, List, [], ◌∷◌, Option, Some, None, length}
use Rattle.vol_layout.specs.declared.field.Edit.{Edit}
use Rattle.vol_layout.specs.Edits.{AreApart}

-- what a host is about to do: the key under which it does it, and its edits in order
pub record JournalRecord : Type 0 where
  pub key : ℕ
  pub edits : List Edit

-- a record has one to eight edits, no two of one field
pub record IsJournalRecord (r : JournalRecord) : Type 0 where
  pub some : 1 ≤ length r.edits
  pub few : length r.edits ≤ 8
  pub apart : AreApart r.edits

-- the key and the edits of what a journal holds; an empty journal has key 0
abbrev pub entry_key : Option JournalRecord → ℕ
entry_key None = 0
entry_key (Some r) = r.key

abbrev pub entry_edits : Option JournalRecord → List Edit
entry_edits None = []
entry_edits (Some r) = r.edits

-- what a journal holds, by its key and its edits
abbrev pub entry_of : ℕ → List Edit → Option JournalRecord
entry_of key [] = None
entry_of key (e ∷ es) = Some (record { key = key; edits = e ∷ es })
