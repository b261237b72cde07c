-- What a scan finds in the tables of its file, and how far it is.
use Rattle.std.specs.Prelude.{◌≡◌, ◌+◌, ◌-◌, ◌*◌, ◌%◌, ◌^◌, ◌<◌, ◌≤◌, ◌&&◌, ◌++◌, ℕ, Bool, true, All, List, [], ◌∷◌, Option, Some, filter, is_some, length, map, nat_lt, option_map, slice_get, if◌then◌else◌}
use Rattle.std.specs.List.{filter_map, range_with_len}
use Rattle.std.specs.Option.{option_map_or}
use Rattle.vol_base.specs.Packing.{Packing}
use Rattle.vol_base.specs.declared.answer.Answer.TheVariants as answers
use Rattle.vol_layout.specs.declared.field.Field.TheVariants.{Count, Head, Pointer}
use Rattle.vol_layout.specs.declared.geometry.Geometry.{Geometry}
use Rattle.vol_layout.specs.declared.kind.Resource.TheVariants.{File}
use Rattle.vol_layout.specs.Fields.{HasField}
use Rattle.vol_layout.specs.Ranges.{limit, per_table}
use Rattle.image_view.specs.Images.{Image}
use Rattle.image_view.specs.Numbers.{logical}
use Rattle.image_view.specs.Pointers.{named}
use Rattle.table_blocks.specs.Tables.{number_in}
use Rattle.lock_store.specs.Memories.{holds}
use Rattle.lock_store.specs.Views.{host_at}
use Rattle.disk_locks.specs.Sure.{Sure}
use Rattle.host_facts.specs.Views.{WorldView}
use Rattle.hint_plans.specs.declared.found.Mapped.{Mapped}
use Rattle.hint_plans.specs.declared.plan.Come.{Come}
use Rattle.hint_plans.specs.declared.plan.Come.TheVariants.{Answered, More}
use Rattle.hint_plans.specs.declared.plan.Doing.TheVariants.{ReadsBlock, ReadsTable}
use Rattle.hint_plans.specs.declared.scan.Scan.{Scan}

-- the indexes of blocks that were found
abbrev pub indexes : List Mapped → List ℕ
indexes found = map (λ m. m.index) found

-- the block at an index, where its pointer names one; and those at so many indexes of a file, by the table that has their pointers
abbrev pub mapped_of : ℕ → ℕ → Option Mapped
mapped_of k pointer = option_map (λ d. let m : Mapped = record { index = k; number = d } in m) (named pointer)

abbrev pub blocks_in : Packing → ℕ → ℕ → ℕ → List Mapped
blocks_in p f from n = filter_map (λ k. mapped_of k (number_in p (Pointer f k))) (range_with_len from n)

-- how many indexes from this one on are below the length that a head says, at most 126
abbrev pub many_of : ℕ → ℕ → ℕ
many_of head i = if nat_lt (head - 1 - i) 126 then head - 1 - i else 126

-- how many of them the table blocks up to this one have
abbrev pub covered_by : ℕ → ℕ → ℕ → ℕ
covered_by i many t = if nat_lt ((t + 1) * per_table - i) many then (t + 1) * per_table - i else many

-- the scan with the blocks at further indexes, up to so many
abbrev pub looked_at : Packing → Scan → ℕ → Scan
looked_at p s upto = record s { looked = upto; found = s.found ++ blocks_in p s.file (s.index + s.looked) (upto - s.looked) }

-- behind the read of the first table block
abbrev pub begun : ℕ → ℕ → ℕ → Scan
begun f i many = record { file = f; index = i; many = many; looked = 0; found = []; done = 0 }

abbrev pub first_scan : Packing → ℕ → ℕ → Scan
first_scan p f i = looked_at p (begun f i (many_of p.word i)) (covered_by i (many_of p.word i) 0)

-- the pointers at so many indexes are such as a table may have
abbrev pub CanLook : Packing → ℕ → ℕ → ℕ → Type 0
CanLook p f from n =
    (k : ℕ) → k < n
    → (from + k < 2 ^ 32) × (number_in p (Pointer f (from + k)) % 2 ^ 31 ≡ 0 → number_in p (Pointer f (from + k)) ≡ 0)

-- what comes behind the read of a table: the next one is read, or the first block that was found; or there is none
abbrev pub behind_found : Scan → List Mapped → Come
behind_found s [] = Answered (answers.Scanned 0)
behind_found s (m ∷ more) = More (ReadsBlock s)

abbrev pub behind_scan : Scan → Come
behind_scan s = if nat_lt s.looked s.many then More (ReadsTable s) else behind_found s s.found

-- the file has a block at an index that is no hole
abbrev pub is_mapped_at : Geometry → Image → ℕ → ℕ → Bool
is_mapped_at g image f k = nat_lt (k + 1) (logical g image (Head f)) && is_some (named (logical g image (Pointer f k)))

-- the head of the file, and of so many indexes exactly the blocks that were found, with their data blocks
pub record IsLooked (g : Geometry) (f i head looked : ℕ) (found : List Mapped) (image : Image) : Type 0 where
  pub head_is : logical g image (Head f) ≡ head
  pub mapped : filter (is_mapped_at g image f) (range_with_len i looked) ≡ indexes found
  pub names : All (λ m. named (logical g image (Pointer f m.index)) ≡ Some m.number) found

-- a scan under way: the host holds the file, and is sure of what was found
pub record IsScan (v : WorldView) (h : ℕ) (s : Scan) : Type 0 where
  pub file : s.file < v.locks.geometry.files
  pub held : holds (host_at v.locks h) (File s.file) ≡ true
  pub head : ℕ
  pub short : head ≤ limit v.locks.geometry + 1
  pub many : s.many ≡ many_of head s.index
  pub looked : s.looked ≤ s.many
  pub room : length s.found ≤ s.looked
  pub fields : All (λ m. HasField v.locks.geometry (Pointer s.file m.index) × HasField v.locks.geometry (Count m.number)) s.found
  pub sure : Sure v.locks h (IsLooked v.locks.geometry s.file s.index head s.looked s.found)

-- the index of the block that is scanned next
abbrev pub index_at : Scan → ℕ
index_at s = option_map_or (λ m. m.index) (slice_get s.found s.done) 0
