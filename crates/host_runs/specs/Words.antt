-- What the blocks of slots and locks say, by the numbers at their bytes.
use Rattle.std.specs.Prelude.{◌==◌, ◌&&◌, ◌+◌, ◌*◌, ℕ, List, Option, filter, map, not, slice_get}
use Rattle.std.specs.List.{range_with_len}
use Rattle.vol_base.specs.Bytes.{u32_at, u64_at}

-- the state of a slot: 0 free, 1 live, 2 recovering; of a lock: 0 free, 1 held, 2 read
abbrev pub state_in : List ℕ → ℕ
state_in block = u32_at block 8

-- the key that a slot shows, or by which a lock is held
abbrev pub key_in : List ℕ → ℕ
key_in block = u64_at block 16

-- the key of the host that recovers a slot
abbrev pub by_in : List ℕ → ℕ
by_in block = u64_at block 24

-- the key under which a host reads the file of a lock, 0 for none
abbrev pub reader_in : List ℕ → ℕ → ℕ
reader_in block host = u64_at block (64 + 8 * host)

-- the keys of a lock's readers but one, in the order of their hosts
unfoldable pub other_readers : ℕ → List ℕ → List ℕ
other_readers own block = filter (λ key. not (key == 0) && not (key == own)) (map (reader_in block) (range_with_len 0 16))

-- the other reader of the lowest host, if there is one
abbrev pub lowest_other : ℕ → List ℕ → Option ℕ
lowest_other own block = slice_get (other_readers own block) 0
