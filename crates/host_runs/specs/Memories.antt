-- What a host keeps in memory of its key, its holds and its claims.
use Rattle.std.specs.Prelude.{◌==◌, ◌&&◌, ◌%◌, ◌≡◌, ◌∷◌, ℕ, zero, Bool, true, false, List, [], Option, Some, None, Contains, filter, not, if◌then◌else◌}
use Rattle.vol_base.specs.declared.answer.Answer.{Answer}
use Rattle.vol_base.specs.declared.answer.Answer.TheVariants.{Busy, Cut, Fine, NoKeys}
use Rattle.vol_base.specs.declared.command.Command.{Command}
use Rattle.vol_base.specs.declared.command.Command.TheVariants as commands
use Rattle.vol_layout.specs.declared.geometry.Geometry.{Geometry}
use Rattle.vol_layout.specs.declared.kind.Kind.{Kind}
use Rattle.vol_layout.specs.declared.kind.Kind.TheVariants as kinds
use Rattle.vol_layout.specs.declared.kind.Resource.TheVariants as resources
use Rattle.vol_layout.specs.Places.{kind_at}
use Rattle.shared_disk.specs.Events.{Call, Event, Reply, Done, Gives, Registers, Tests, Writes}
use Rattle.host_runs.specs.Words.{reader_in, state_in}

-- the key that the host registered last, the places of the locks that it holds and of those that it reads, the hosts whose
-- slots it claimed, and whether it has freed its own slot under this key
pub record Memory : Type 0 where
  pub key : Option ℕ
  pub holds : List ℕ
  pub reads : List ℕ
  pub claims : List ℕ
  pub left : Bool

-- a host without a key
abbrev pub no_memory : Memory
no_memory = record { key = None; holds = []; reads = []; claims = []; left = false }

-- a list without a number, and with it
abbrev pub leave_out : ℕ → List ℕ → List ℕ
leave_out x xs = filter (λ y. not (y == x)) xs

abbrev pub put_in : ℕ → List ℕ → List ℕ
put_in x xs = x ∷ leave_out x xs

-- a lock word that is held, or has the own key among its readers, is kept in mind; any other one is not
abbrev pub with_lock : ℕ → ℕ → List ℕ → Memory → Memory
with_lock place own word memory =
    record memory {
      holds = if state_in word == 1 then put_in place memory.holds else leave_out place memory.holds;
      reads = if state_in word == 2 then (if reader_in word (own % 16) == own then put_in place memory.reads
          else leave_out place memory.reads) else leave_out place memory.reads;
    }

-- a slot that is recovering was claimed, and a claim ends with any other slot
abbrev pub with_claim : ℕ → List ℕ → List ℕ → List ℕ
with_claim of slot claims = if state_in slot == 2 then put_in of claims else leave_out of claims

-- a host that frees its own slot reads no file any more
abbrev pub frees_own : ℕ → ℕ → List ℕ → Bool
frees_own host of slot = of == host && state_in slot == 0

abbrev pub with_slot : ℕ → ℕ → List ℕ → Memory → Memory
with_slot host of slot memory =
    record memory {
      claims = with_claim of slot memory.claims;
      reads = if frees_own host of slot then [] else memory.reads;
      left = if frees_own host of slot then true else memory.left;
    }

-- a block that the host wrote
abbrev pub with_block : Option Kind → ℕ → ℕ → ℕ → List ℕ → Memory → Memory
with_block (Some (kinds.Lock r)) host own place block memory = with_lock place own block memory
with_block (Some (kinds.Slot of)) host own place block memory = with_slot host of block memory
with_block _ host own place block memory = memory

-- what the host keeps in mind after a call that was done
abbrev pub with_reply : Geometry → ℕ → ℕ → Call → Reply → Memory → Memory
with_reply g host own (Writes place block) Done memory = with_block (kind_at g place) host own place block memory
with_reply g host own (Tests place old new) Done memory = with_block (kind_at g place) host own place new memory
with_reply g host own (Registers of) (Gives key) memory = record memory { key = Some key }
with_reply g host own call reply memory = memory

abbrev pub remembered : Geometry → ℕ → Event → Memory → Memory
remembered g host e memory = with_reply g host e.key e.call e.reply memory

-- a host is dropped by a cut, by a `leave`, by a `die` at once, and by a `join` that is not granted
abbrev pub drops : Answer → Command → Bool
drops (Cut by) command = true
drops Fine commands.Leave = true
drops Fine (commands.Die zero) = true
drops (Busy key) commands.Join = true
drops NoKeys commands.Join = true
drops answer command = false

-- what the host keeps in mind when its command was answered
abbrev pub memory_after : Answer → Command → Memory → Memory
memory_after answer command memory = if drops answer command then no_memory else memory

-- the lock of a file is at one of the places
abbrev pub HasFile : Geometry → List ℕ → ℕ → Type 0
HasFile g places f = (place : ℕ) × (kind_at g place ≡ Some (kinds.Lock (resources.File f))) × Contains places place

-- each lock in a list of places is that of a file
abbrev pub AreFileLocks : Geometry → List ℕ → Type 0
AreFileLocks g places = (place : ℕ) → Contains places place → (f : ℕ) × (kind_at g place ≡ Some (kinds.Lock (resources.File f)))
