-- Which answers a command can get.
use Rattle.std.specs.Prelude.{◌≢◌}
use Rattle.vol_base.specs.declared.answer.Answer.{Answer}
use Rattle.vol_base.specs.declared.answer.Answer.TheVariants.{Plain, Fine, Joined, Up, Down, Busy, Full, Cut, Logged, Scanned, Merged, Served, Collected, Free, Seen, Alive, Recovered, Refused, NoKeys}
use Rattle.vol_base.specs.declared.command.Command.{Command}
use Rattle.vol_base.specs.declared.command.Command.TheVariants as commands

-- the answers that are a command's own, beside those that every command of its sort can get
abbrev pub IsOwn : Command → Answer → Type 0
IsOwn commands.Join (Joined key) = Unit {0}
IsOwn commands.Join Up = Unit {0}
IsOwn commands.Join (Busy key) = Unit {0}
IsOwn commands.Join NoKeys = Unit {0}
IsOwn commands.Leave Fine = Unit {0}
IsOwn (commands.Create file) (Plain reply) = Unit {0}
IsOwn (commands.Create file) (Busy key) = Unit {0}
IsOwn (commands.Size file blocks) (Plain reply) = Unit {0}
IsOwn (commands.Size file blocks) (Busy key) = Unit {0}
IsOwn (commands.Write file index n) (Plain reply) = Unit {0}
IsOwn (commands.Write file index n) (Busy key) = Unit {0}
IsOwn (commands.Write file index n) Full = Unit {0}
IsOwn (commands.Read file index) (Plain reply) = Unit {0}
IsOwn (commands.Read file index) (Busy key) = Unit {0}
IsOwn (commands.Punch file index) (Plain reply) = Unit {0}
IsOwn (commands.Punch file index) (Busy key) = Unit {0}
IsOwn (commands.Remove file) (Plain reply) = Unit {0}
IsOwn (commands.Remove file) (Busy key) = Unit {0}
IsOwn (commands.Close file) Fine = Unit {0}
IsOwn (commands.Close file) (Busy key) = Unit {0}
IsOwn commands.Log (Logged n) = Unit {0}
IsOwn (commands.Scan file index) (Scanned n) = Unit {0}
IsOwn (commands.Scan file index) (Busy key) = Unit {0}
IsOwn commands.Merge (Merged counts) = Unit {0}
IsOwn commands.Merge (Busy key) = Unit {0}
IsOwn commands.Serve (Served counts) = Unit {0}
IsOwn commands.Serve (Busy key) = Unit {0}
IsOwn (commands.Collect part) (Collected n) = Unit {0}
IsOwn (commands.Collect part) (Busy key) = Unit {0}
IsOwn commands.Beat Fine = Unit {0}
IsOwn (commands.Look host) (Seen n) = Unit {0}
IsOwn (commands.Look host) Free = Unit {0}
IsOwn (commands.Recover host) Recovered = Unit {0}
IsOwn (commands.Recover host) (Alive n) = Unit {0}
IsOwn (commands.Recover host) Free = Unit {0}
IsOwn (commands.Recover host) (Busy key) = Unit {0}
IsOwn (commands.Die calls) Fine = Unit {0}
IsOwn (commands.Scribble place n seen) Fine = Unit {0}
IsOwn (commands.Scribble place n seen) Refused = Unit {0}
IsOwn _ _ = ⊥

-- the command makes device calls, at each of which it can be cut
abbrev pub MakesCalls : Command → Type 0
MakesCalls (commands.Die calls) = ⊥
MakesCalls _ = Unit {0}

-- an answer that the command can get: one of its own, `down` where it is no `join`, and a cut where it
-- makes device calls
abbrev pub MayGet : Command → Answer → Type 0
MayGet command Down = command ≢ commands.Join
MayGet command (Cut by) = MakesCalls command
MayGet command answer = IsOwn command answer
