-- A block of the volume was written, as the notes have it: by its place.
use Rattle.std.proofs.Common.{◌≡◌, ℕ, List, Option, Some, ap, sym, subst}
use Rattle.vol_layout.specs.declared.geometry.Geometry.{Geometry}
use Rattle.vol_layout.specs.declared.kind.Kind.{Kind}
use Rattle.vol_layout.specs.Places.{kind_at, place_of}
use Rattle.vol_layout.specs.Ranges.{HasKind}
use Rattle.vol_layout.specs.laws.PlaceLaws.{kind_at-place}
use Rattle.lock_store.specs.declared.host.HostState.{HostState}
use Rattle.host_runs.specs.Memories.{Memory, with_block}
use Rattle.host_notes.specs.Remembered.{IsRemembered}

module _ (g : Geometry) (h own : ℕ) (kind : Kind) (block : List ℕ) (memory : Memory) (has : HasKind g kind) where
  -- it is kept in mind by its kind
  pub block_kept : with_block (kind_at g (place_of g kind)) h own (place_of g kind) block memory
      ≡ with_block (Some kind) h own (place_of g kind) block memory
  block_kept = ap (λ (k : Option Kind). with_block k h own (place_of g kind) block memory) (kind_at-place g kind has)

  pub block_written : (n later : HostState) → later ≡ n → IsRemembered g (with_block (Some kind) h own (place_of g kind) block memory) n
      → IsRemembered g (with_block (kind_at g (place_of g kind)) h own (place_of g kind) block memory) later
  block_written n later mine noted =
      subst (λ (x : HostState). IsRemembered g (with_block (kind_at g (place_of g kind)) h own (place_of g kind) block memory) x) (sym mine)
      (subst (λ (kept : Memory). IsRemembered g kept n) (sym block_kept) noted)
