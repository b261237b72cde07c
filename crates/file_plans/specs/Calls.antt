-- The file of a call, and the command that a plan runs.
use Rattle.std.specs.Prelude.{◌≡◌, ℕ, Bool, true, false, Some}
use Rattle.vol_base.specs.declared.plain.PlainCall.TheVariants.{Punch, Read, Write}
use Rattle.vol_base.specs.declared.block.Block.{Block}
use Rattle.plain_files.specs.Block.{zero_block}
use Rattle.vol_base.specs.declared.command.Command.{Command}
use Rattle.vol_base.specs.declared.command.Command.TheVariants as commands
use Rattle.vol_base.specs.PlainCalls.{plain_call_of}
use Rattle.plain_files.specs.Calls.{file_no}
use Rattle.file_plans.specs.declared.call.FileCall.{FileCall}
use Rattle.file_plans.specs.declared.call.FileCall.TheVariants.{Close, Plain}

abbrev pub file_of : FileCall → ℕ
file_of (Plain call) = file_no call
file_of (Close f) = f

-- the command asks for this call
abbrev pub Runs : Command → FileCall → Type 0
Runs command (Plain call) = plain_call_of command ≡ Some call
Runs command (Close f) = command ≡ commands.Close f

-- the kinds of calls by the hold and the digest that they want
abbrev pub is_read : FileCall → Bool
is_read (Plain (Read f i)) = true
is_read call = false

abbrev pub is_write : FileCall → Bool
is_write (Plain (Write f i block)) = true
is_write call = false

-- the call is to have its file alone
abbrev pub wants_write : FileCall → Bool
wants_write (Plain (Read f i)) = false
wants_write (Plain call) = true
wants_write (Close f) = false

-- the index of the block that a call is on, and the block that it writes
abbrev pub index_of : FileCall → ℕ
index_of (Plain (Write f i block)) = i
index_of (Plain (Read f i)) = i
index_of (Plain (Punch f i)) = i
index_of call = 0

abbrev pub block_of : FileCall → Block
block_of (Plain (Write f i block)) = block
block_of call = zero_block
