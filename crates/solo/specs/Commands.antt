-- Commands by the keys that they ask for and take off.
use Rattle.vol_base.specs.declared.command.Command.{Command}
use Rattle.vol_base.specs.declared.command.Command.TheVariants as commands

-- a command that neither joins, leaves nor recovers
abbrev pub IsTame : Command → Type 0
IsTame commands.Join = ⊥
IsTame commands.Leave = ⊥
IsTame (commands.Recover of) = ⊥
IsTame command = Unit {0}

-- a command that is no join
abbrev pub MayNotJoin : Command → Type 0
MayNotJoin commands.Join = ⊥
MayNotJoin command = Unit {0}
