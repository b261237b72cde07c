-- The plain calls: the reply of each, and the plain files after it.
use Rattle.std.specs.Prelude.{◌≤◌, ◌-◌, ◌++◌, ◌<◌, ℕ, nat_lt, if◌then◌else◌, List, [], length, take, replicate, slice_index_or, slice_set, Option, Some, None}
use Rattle.std.specs.Option.{option_map_or}
use Rattle.vol_base.specs.declared.block.Block.{Block}
use Rattle.vol_base.specs.declared.plain.PlainCall.{PlainCall}
use Rattle.vol_base.specs.declared.plain.PlainCall.TheVariants.{Create, Size, Write, Read, Punch, Remove}
use Rattle.vol_base.specs.declared.plain.PlainReply.{PlainReply}
use Rattle.vol_base.specs.declared.plain.PlainReply.TheVariants.{Done, Holds, NoFile, Exists, Beyond, TooLong}
use Rattle.plain_files.specs.Block.{zero_block}
use Rattle.plain_files.specs.Plain.{Plain, file_of}

-- the file that a call is on
abbrev pub file_no : PlainCall → ℕ
file_no (Create file) = file
file_no (Size file n) = file
file_no (Write file index block) = file
file_no (Read file index) = file
file_no (Punch file index) = file
file_no (Remove file) = file

-- a file that is cut, or grown with zeros, to n blocks
abbrev pub sized : ℕ → List Block → List Block
sized n blocks = take n blocks ++ replicate (n - length blocks) zero_block

-- a reply, and what the file is after it
abbrev pub Outcome : Type 0
Outcome = PlainReply × Option (List Block)

-- the outcome of a call on one block of a file, which replies `Beyond` past the file's end
abbrev pub at_block : ℕ → List Block → Outcome → Outcome
at_block index blocks outcome = if nat_lt index (length blocks) then outcome else (Beyond (length blocks), Some blocks)

-- the outcome of a call on a file that is there
abbrev pub on_file : ℕ → PlainCall → List Block → Outcome
on_file limit (Create file) blocks = (Exists, Some blocks)
on_file limit (Size file n) blocks = if nat_lt limit n then (TooLong, Some blocks) else (Done, Some (sized n blocks))
on_file limit (Write file index block) blocks = at_block index blocks (Done, Some (slice_set blocks index block))
on_file limit (Read file index) blocks = at_block index blocks (Holds (slice_index_or blocks index zero_block), Some blocks)
on_file limit (Punch file index) blocks = at_block index blocks (Done, Some (slice_set blocks index zero_block))
on_file limit (Remove file) blocks = (Done, None)

-- the outcome of a call on a file that is not there
abbrev pub on_no_file : PlainCall → Outcome
on_no_file (Create file) = (Done, Some [])
on_no_file (Size file n) = (NoFile, None)
on_no_file (Write file index block) = (NoFile, None)
on_no_file (Read file index) = (NoFile, None)
on_no_file (Punch file index) = (NoFile, None)
on_no_file (Remove file) = (NoFile, None)

-- the outcome of a call on a file, or on nothing
abbrev pub outcome : ℕ → PlainCall → Option (List Block) → Outcome
outcome limit call file = option_map_or (on_file limit call) file (on_no_file call)

-- the reply of a call
unfoldable pub reply_of : Plain → PlainCall → PlainReply
reply_of p call = (outcome p.limit call (file_of p (file_no call))).0

-- the plain files after a call
unfoldable pub after : Plain → PlainCall → Plain
after p call = record p { files = slice_set p.files (file_no call) (outcome p.limit call (file_of p (file_no call))).1 }

-- the call makes a file longer, within the greatest length
abbrev pub Lengthens : ℕ → PlainCall → Option (List Block) → Type 0
Lengthens limit (Size file n) (Some blocks) = (length blocks < n) × (n ≤ limit)
Lengthens limit _ _ = ⊥
