-- The commands: their names, and their arguments.
use Rattle.std.specs.Prelude.{ℕ, List, [], ◌∷◌, Option, codes, length}
use Rattle.std.specs.List.{find}
use Rattle.std.specs.Str.{bytes_eq}
use Rattle.vol_base.specs.declared.command.Command.{Command}
use Rattle.vol_base.specs.declared.command.Command.TheVariants as commands
use Rattle.workload.specs.declared.verb.Verb.{Verb}
use Rattle.workload.specs.declared.verb.Verb.TheVariants.{Join, Leave, Create, Size, Write, Read, Punch, Remove, Close, Log, Scan, Merge, Serve, Collect, Beat, Look, Recover, Die, Scribble}

-- the name of a command in a text
abbrev pub name_of : Verb → List ℕ
name_of Join = codes "join"
name_of Leave = codes "leave"
name_of Create = codes "create"
name_of Size = codes "size"
name_of Write = codes "write"
name_of Read = codes "read"
name_of Punch = codes "punch"
name_of Remove = codes "remove"
name_of Close = codes "close"
name_of Log = codes "log"
name_of Scan = codes "scan"
name_of Merge = codes "merge"
name_of Serve = codes "serve"
name_of Collect = codes "collect"
name_of Beat = codes "beat"
name_of Look = codes "look"
name_of Recover = codes "recover"
name_of Die = codes "die"
name_of Scribble = codes "scribble"

-- all commands
abbrev pub verbs : List Verb
verbs =
    Join ∷ Leave ∷ Create ∷ Size ∷ Write ∷ Read ∷ Punch ∷ Remove ∷ Close ∷ Log ∷ Scan ∷ Merge ∷ Serve ∷ Collect ∷ Beat ∷ Look
    ∷ Recover ∷ Die ∷ Scribble ∷ []

-- the command of a name
unfoldable pub verb_of : List ℕ → Option Verb
verb_of word = find (λ verb. bytes_eq (name_of verb) word) verbs

-- the command of a name and its arguments; those that it does not take are not looked at
abbrev pub command_of : Verb → ℕ → ℕ → ℕ → Command
command_of Join a b c = commands.Join
command_of Leave a b c = commands.Leave
command_of Create a b c = commands.Create a
command_of Size a b c = commands.Size a b
command_of Write a b c = commands.Write a b c
command_of Read a b c = commands.Read a b
command_of Punch a b c = commands.Punch a b
command_of Remove a b c = commands.Remove a
command_of Close a b c = commands.Close a
command_of Log a b c = commands.Log
command_of Scan a b c = commands.Scan a b
command_of Merge a b c = commands.Merge
command_of Serve a b c = commands.Serve
command_of Collect a b c = commands.Collect a
command_of Beat a b c = commands.Beat
command_of Look a b c = commands.Look a
command_of Recover a b c = commands.Recover a
command_of Die a b c = commands.Die a
command_of Scribble a b c = commands.Scribble a b c

-- the name of a command
abbrev pub verb_in : Command → Verb
verb_in commands.Join = Join
verb_in commands.Leave = Leave
verb_in (commands.Create file) = Create
verb_in (commands.Size file blocks) = Size
verb_in (commands.Write file index n) = Write
verb_in (commands.Read file index) = Read
verb_in (commands.Punch file index) = Punch
verb_in (commands.Remove file) = Remove
verb_in (commands.Close file) = Close
verb_in commands.Log = Log
verb_in (commands.Scan file index) = Scan
verb_in commands.Merge = Merge
verb_in commands.Serve = Serve
verb_in (commands.Collect part) = Collect
verb_in commands.Beat = Beat
verb_in (commands.Look host) = Look
verb_in (commands.Recover host) = Recover
verb_in (commands.Die calls) = Die
verb_in (commands.Scribble place n seen) = Scribble

-- the arguments of a command
abbrev pub arguments : Command → List ℕ
arguments (commands.Create file) = file ∷ []
arguments (commands.Size file blocks) = file ∷ blocks ∷ []
arguments (commands.Write file index n) = file ∷ index ∷ n ∷ []
arguments (commands.Read file index) = file ∷ index ∷ []
arguments (commands.Punch file index) = file ∷ index ∷ []
arguments (commands.Remove file) = file ∷ []
arguments (commands.Close file) = file ∷ []
arguments (commands.Scan file index) = file ∷ index ∷ []
arguments (commands.Collect part) = part ∷ []
arguments (commands.Look host) = host ∷ []
arguments (commands.Recover host) = host ∷ []
arguments (commands.Die calls) = calls ∷ []
arguments (commands.Scribble place n seen) = place ∷ n ∷ seen ∷ []
arguments _ = []

-- how many arguments a command has
abbrev pub arity : Verb → ℕ
arity verb = length (arguments (command_of verb 0 0 0))
