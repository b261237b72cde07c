-- What a host knows of itself, in memory.
use Rattle.std.specs.Prelude.{◌+◌, ◌||◌, ℕ, Bool, true, false, None, Some, replicate, slice_index, slice_index_or, slice_set}
use Rattle.vol_base.specs.declared.block.Key.{Key}
use Rattle.vol_layout.specs.declared.kind.Resource.{Resource}
use Rattle.vol_layout.specs.declared.kind.Resource.TheVariants.{File, Part, Group}
use Rattle.slot_lock_blocks.specs.ReaderKeys.{key_number}
use Rattle.lock_store.specs.declared.host.HostState.{HostState}

-- a host without a key: it holds, reads and claims nothing
unfoldable pub dropped : HostState
dropped = record {
  key = None;
  beat = 0;
  joined = false;
  freed = false;
  held = replicate 144 false;
  reading = replicate 64 false;
  claims = replicate 16 0;
}

-- a host that was just given a key
abbrev pub registered : Key → HostState
registered key = record dropped { key = Some key }

-- the host's key as a number, 0 for none
abbrev pub key_of : HostState → ℕ
key_of m = key_number m.key

-- the number of a resource: files from 0 on, parts from 64 on, groups from 80 on
abbrev pub index_of : Resource → ℕ
index_of (File f) = f
index_of (Part p) = 64 + p
index_of (Group r) = 80 + r

-- whether the host holds the resource
abbrev pub holds : HostState → Resource → Bool
holds m r = slice_index_or m.held (index_of r) false

-- whether the host reads the resource, which only a file can be
abbrev pub reads : HostState → Resource → Bool
reads m (File f) = slice_index_or m.reading f false
reads m (Part p) = false
reads m (Group r) = false

-- whether the host may read what the resource guards
abbrev pub may_read : HostState → Resource → Bool
may_read m r = holds m r || reads m r

-- the dead key that a claimed slot shows, 0 where the host has not claimed the slot
abbrev pub claim_of : HostState → ℕ → ℕ
claim_of m y = slice_index m.claims y

-- the host with a resource held, or no more so
abbrev pub with_hold : Resource → Bool → HostState → HostState
with_hold r is m = record m { held = slice_set m.held (index_of r) is }

-- the host with a file read, or no more so
abbrev pub with_read : ℕ → Bool → HostState → HostState
with_read f is m = record m { reading = slice_set m.reading f is }

-- the host with a slot claimed, which shows this dead key; 0 for no claim
abbrev pub with_claim : ℕ → ℕ → HostState → HostState
with_claim y dead m = record m { claims = slice_set m.claims y dead }

-- the host, which turned its read hold of a file into a write hold
abbrev pub writing : ℕ → HostState → HostState
writing f m = with_read f false (with_hold (File f) true m)

-- the host, which entered its own slot with beat 0
abbrev pub entered : ℕ → HostState → HostState
entered h m = record m { beat = 0; joined = true; claims = slice_set m.claims h 0 }

-- the host, which showed this beat
abbrev pub with_beat : ℕ → HostState → HostState
with_beat beat m = record m { beat = beat }

-- the host, which freed its own slot: it is not joined, holds nothing and reads nothing
abbrev pub left : HostState → HostState
left m = record m { joined = false; freed = true; held = replicate 144 false; reading = replicate 64 false }
