-- Which device calls a host may make.
use Rattle.std.specs.Prelude.{◌≡◌, ◌≢◌, ◌⊎◌, ◌≤◌, ◌%◌, ℕ, true, List, Option, Some, None, Contains, IfSome, IsSomeAnd}
use Rattle.vol_base.specs.declared.command.Command.{Command}
use Rattle.vol_base.specs.declared.command.Command.TheVariants.{Join, Leave, Recover}
use Rattle.shared_disk.specs.Events.{Call, Event, Fences, Registers}
use Rattle.image_view.specs.Spelled.{slot_keys}
use Rattle.watch.specs.declared.watch.Look.{Look}
use Rattle.watch.specs.Looks.{look_at}
use Rattle.host_runs.specs.Moments.{Moment}

-- a slot was seen unchanged three times or more, and shows this key, or has it as the `by` of its recovery
abbrev pub IsSeenThrice : ℕ → Option Look → Type 0
IsSeenThrice target look = IsSomeAnd look (λ l. (3 ≤ l.count) × Contains (slot_keys l.slot) target)

-- the key that a command may take off: with `leave` the host's own one, with `join` an older key of the host, and with `recover`
-- a key of the slot that the host remembers
abbrev pub MayFence : Command → ℕ → ℕ → ℕ → List (Option Look) → Type 0
MayFence Leave host own target watch = target ≡ own
MayFence Join host own target watch = (target % 16 ≡ host) × (target ≢ own)
MayFence (Recover of) host own target watch = IsSeenThrice target (look_at watch of)
MayFence command host own target watch = ⊥

-- a registration is for the host itself, which has no key and is in a `join`; any other call is made under the key that the
-- host registered last, by a host that is joined or in a `join`
abbrev pub MayMake : Moment → ℕ → Call → Type 0
MayMake m key (Registers of) = (m.command ≡ Join) × (of ≡ m.host) × (m.old.memory.key ≡ None)
MayMake m key (Fences target) =
    (m.old.memory.key ≡ Some key) × ((m.joined ≡ true) ⊎ (m.command ≡ Join)) × MayFence m.command m.host key target m.old.watch
MayMake m key call = (m.old.memory.key ≡ Some key) × ((m.joined ≡ true) ⊎ (m.command ≡ Join))

-- a turn makes no call, or one that its host may make
abbrev pub MayCall : Moment → Option Event → Type 0
MayCall m made = IfSome made (λ e. MayMake m e.key e.call)
