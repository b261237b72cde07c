-- Which key the tries of a command showed that it has to answer with `busy`.
use Rattle.std.specs.Prelude.{◌==◌, ◌&&◌, ◌+◌, ◌%◌, ℕ, Bool, true, false, List, Option, Some, None, not, if◌then◌else◌}
use Rattle.std.specs.List.{list_any}
use Rattle.std.specs.Option.{option_or}
use Rattle.vol_base.specs.declared.command.Command.{Command}
use Rattle.vol_base.specs.declared.command.Command.TheVariants as commands
use Rattle.vol_layout.specs.declared.geometry.Geometry.{Geometry}
use Rattle.vol_layout.specs.declared.kind.Kind.{Kind}
use Rattle.vol_layout.specs.declared.kind.Kind.TheVariants as kinds
use Rattle.vol_layout.specs.declared.kind.Resource.TheVariants as resources
use Rattle.vol_layout.specs.Places.{kind_at}
use Rattle.shared_disk.specs.Events.{Call, Event, Reply, Done, Reads, Shows, Tests, Writes}
use Rattle.host_runs.specs.FileUses.{Try, ToRead, ToRelease, ToWrite, try_of}
use Rattle.host_runs.specs.Words.{by_in, key_in, lowest_other, reader_in, state_in}

-- how often a command tried the lock of its file or a slot in vain, the word that it found last in the lock, the other reader of
-- the lowest host in the last such word that has one, and the first key that the command has to answer with `busy`
pub record Tries : Type 0 where
  pub count : ℕ
  pub found : Option (List ℕ)
  pub reader : Option ℕ
  pub shown : Option ℕ

abbrev pub no_tries : Tries
no_tries = record { count = 0; found = None; reader = None; shown = None }

-- a key other than the own one
abbrev pub not_own : ℕ → Option ℕ → Option ℕ
not_own own None = None
not_own own (Some key) = if key == own then None else Some key

-- the key by which a lock word is held
abbrev pub holder_in : List ℕ → Option ℕ
holder_in word = if state_in word == 1 then Some (key_in word) else None

-- the other reader of the lowest host, in a word that was found or in the last one that had one
abbrev pub last_reader : ℕ → Tries → List ℕ → Option ℕ
last_reader own tries word = option_or (lowest_other own word) tries.reader

-- what the lock word of a file shows to a try: its holder. A read hold is tried for three times, and given back by two
-- tries; a command that is to have the file alone looks at the readers' slots behind its first try
abbrev pub file_shows : Try → ℕ → Tries → List ℕ → Option ℕ
file_shows ToRead own tries word = option_or (holder_in word) (if tries.count == 2 then last_reader own tries word else None)
file_shows ToWrite own tries word = option_or (holder_in word) (if tries.count == 0 then None else lowest_other own word)
file_shows ToRelease own tries word = if tries.count == 1 then last_reader own tries word else None

-- what a slot shows to a `join`: a live slot, and one that an older own key recovers, are gone on from at the first try
abbrev pub join_shows : ℕ → Tries → List ℕ → Option ℕ
join_shows host tries slot =
    if state_in slot == 1 then (if tries.count == 0 then None else Some (key_in slot))
    else (if state_in slot == 2 then (if tries.count == 0 && by_in slot % 16 == host then None else Some (by_in slot)) else None)

-- what a slot shows to a `recover`: the key of another host that recovers it
abbrev pub recover_shows : List ℕ → Option ℕ
recover_shows slot = if state_in slot == 2 then Some (by_in slot) else None

-- what the slot of a reader shows: the key under which it read the file
abbrev pub reader_shows : ℕ → Option (List ℕ) → List ℕ → Option ℕ
reader_shows of None slot = None
reader_shows of (Some word) slot = if not (state_in slot == 0) && key_in slot == reader_in word of then Some (key_in slot) else None

-- one more key that was shown; the first one counts
abbrev pub showing : ℕ → Option ℕ → Tries → Tries
showing own key tries = record tries { shown = option_or tries.shown (not_own own key) }

-- a word that was found in the lock of a file
abbrev pub with_file : Option Try → ℕ → List ℕ → Tries → Tries
with_file None own word tries = tries
with_file (Some try) own word tries =
    record (showing own (file_shows try own tries word) tries) { count = tries.count + 1; found = Some word; reader = last_reader own tries word }

-- a slot that was found by a try of a `join` or a `recover`
abbrev pub with_slot : Command → ℕ → ℕ → List ℕ → Tries → Tries
with_slot commands.Join host own slot tries = record (showing own (join_shows host tries slot) tries) { count = tries.count + 1 }
with_slot (commands.Recover of) host own slot tries = record (showing own (recover_shows slot) tries) { count = tries.count + 1 }
with_slot command host own slot tries = tries

-- the command frees the locks of a dead host, whatever it finds in them
abbrev pub frees_locks : Command → Bool
frees_locks commands.Join = true
frees_locks (commands.Recover of) = true
frees_locks _ = false

-- a block that a test-and-set found in place of the one that it was to change
abbrev pub with_found : Option Kind → Command → ℕ → ℕ → List ℕ → List ℕ → Tries → Tries
with_found (Some (kinds.Lock (resources.File f))) command host own claims word tries = with_file (try_of command) own word tries
with_found (Some (kinds.Lock r)) command host own claims word tries =
    if frees_locks command then tries else showing own (holder_in word) tries
with_found (Some (kinds.Slot of)) command host own claims slot tries =
    if list_any (λ claimed. claimed == of) claims then tries else with_slot command host own slot tries
with_found _ command host own claims block tries = tries

-- a block that was read: a command that is to have its file alone looks at the slots of the readers that it found
abbrev pub with_read : Option Kind → Option Try → ℕ → List ℕ → Tries → Tries
with_read (Some (kinds.Slot of)) (Some ToWrite) own slot tries = showing own (reader_shows of tries.found slot) tries
with_read kind try own block tries = tries

-- a file's lock that was changed: what was found in it before does not count any more
abbrev pub with_changed : Option Kind → Tries → Tries
with_changed (Some (kinds.Lock (resources.File f))) tries = record no_tries { shown = tries.shown }
with_changed _ tries = tries

-- what the tries of a command showed after one more call
abbrev pub tried_by : Geometry → ℕ → Command → List ℕ → ℕ → Call → Reply → Tries → Tries
tried_by g host command claims own (Tests at old new) (Shows word) tries = with_found (kind_at g at) command host own claims word tries
tried_by g host command claims own (Tests place old new) Done tries = with_changed (kind_at g place) tries
tried_by g host command claims own (Writes place block) Done tries = with_changed (kind_at g place) tries
tried_by g host command claims own (Reads place) (Shows block) tries = with_read (kind_at g place) (try_of command) own block tries
tried_by g host command claims own call reply tries = tries

abbrev pub tried : Geometry → ℕ → Command → List ℕ → Event → Tries → Tries
tried g host command claims e tries = tried_by g host command claims e.key e.call e.reply tries
