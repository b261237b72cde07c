use Rattle.std.specs.Prelude.{Option, Some, None}
use Rattle.vol_base.specs.declared.command.Command.{Command}
use Rattle.vol_base.specs.declared.command.Command.TheVariants as commands
use Rattle.vol_base.specs.declared.plain.PlainCall.{PlainCall}
use Rattle.vol_base.specs.declared.plain.PlainCall.TheVariants as calls
use Rattle.vol_base.specs.NumberBlock.{number_block}

-- the call on plain files that a file command makes; another command makes none
abbrev pub plain_call_of : Command → Option PlainCall
plain_call_of (commands.Create file) = Some (calls.Create file)
plain_call_of (commands.Size file blocks) = Some (calls.Size file blocks)
plain_call_of (commands.Write file index n) = Some (calls.Write file index (number_block n))
plain_call_of (commands.Read file index) = Some (calls.Read file index)
plain_call_of (commands.Punch file index) = Some (calls.Punch file index)
plain_call_of (commands.Remove file) = Some (calls.Remove file)
plain_call_of _ = None
