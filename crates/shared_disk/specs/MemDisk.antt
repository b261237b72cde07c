use Rattle.std.specs.Prelude.{◌≡◌, ◌≢◌, ◌↔◌, Contains, Err, Result, ◌++◌, ◌∷◌, [], ℕ, List, Some, length, map, replicate}
use Rattle.vol_base.specs.Bytes.{zeros}
use Rattle.vol_base.specs.declared.block.Block.{Block}
use Rattle.shared_disk.specs.Calls.{next_count}
use Rattle.shared_disk.specs.State.{State, Told}
use Rattle.shared_disk.specs.declared.answers.DiskNo.{DiskNo}
use Rattle.shared_disk.specs.declared.answers.DiskNo.TheVariants.{Failed}
use Rattle.shared_disk.specs.declared.mem_disk.MemDisk.{MemDisk}

-- the bytes of each block
abbrev pub bytes_of : List Block → List (List ℕ)
bytes_of blocks = map (λ block. block.0) blocks

-- each write, as its place and bytes
abbrev pub writes_of : List (ℕ × Block) → List (ℕ × List ℕ)
writes_of writes = map (λ w. (w.0, w.1.0)) writes

-- so many blocks of zeros
unfoldable pub zero_blocks : ℕ → List (List ℕ)
zero_blocks blocks = replicate blocks (zeros 4096)

-- what a device in memory is, beside its room: `failing` has the numbers of the calls that are to fail
pub record Memory : Type 0 where
  pub state : State
  pub faults : ℕ
  pub answered : ℕ
  pub failing : List ℕ

-- a device in memory tells its content
abbrev pub told_of : MemDisk → Told
told_of d = record { image = bytes_of d.image.items; writes = writes_of d.writes.items }

-- the device as its calls see it
abbrev pub memory_of : MemDisk → Memory
memory_of d = record {
  state = record { blocks = length d.image.items; keys = d.keys.items; counter = d.counter; told = Some (told_of d) };
  faults = d.faults;
  answered = d.calls;
  failing = d.failing.items;
}

-- so many more writes, swaps and registrations need no memory
abbrev pub spare_of : MemDisk → ℕ
spare_of d = d.spare

-- a device of this image, on which nothing was done yet
abbrev pub fresh : List (List ℕ) → ℕ → Memory
fresh image counter = record {
  state = record { blocks = length image; keys = []; counter = counter; told = Some (record { image = image; writes = [] }) };
  faults = 0;
  answered = 0;
  failing = [];
}

-- one more call is to fail
abbrev pub with_failing : ℕ → Memory → Memory
with_failing call memory = record memory { failing = memory.failing ++ call ∷ [] }

-- one more call was answered
abbrev pub with_call : Memory → Memory
with_call memory = record memory { answered = next_count memory.answered }

-- one more call failed
abbrev pub with_fault : Memory → Memory
with_fault memory = record memory { faults = next_count memory.faults }

-- the state changed, and no more
abbrev pub with_state : State → Memory → Memory
with_state state memory = record memory { state = state }

-- of the calls that no key or counter forbids, exactly those fail that are to fail; only a failure is counted as a fault
pub record FailsWhenDue {T : Type 0} (MayPass : Type 0) (old new : Memory) (result : Result T DiskNo) : Type 0 where
  pub due : (result ≡ Err Failed) ↔ (MayPass × Contains old.failing new.answered)
  pub quiet : result ≢ Err Failed → new.faults ≡ old.faults
  pub failing : new.failing ≡ old.failing
