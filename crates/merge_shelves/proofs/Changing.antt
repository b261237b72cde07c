-- A block of a shelf that was compared.
use Rattle.std.proofs.Common.{◌≡◌, ◌∙◌, ℕ, List, Some, ap, get_or, subst, sym}
use Rattle.std.specs.Prelude.{slice_get}
use Rattle.std.proofs.lemmas.Option.{get_or_from_slice_get}
use Rattle.vol_base.specs.declared.block.Block.{Block}
use Rattle.vol_layout.specs.declared.geometry.Geometry.{Geometry}
use Rattle.hint_blocks.specs.declared.entry.IndexEntry.{IndexEntry}
use Rattle.merge_shelves.specs.Changes.{index_in, part}

-- what the code read at a place is the block there
pub compared : (g : Geometry) (read : List Block) (entries : List IndexEntry) (k j : ℕ) (d block : Block) → k ≡ j
    → slice_get read k ≡ Some block → index_in g (get_or read j d).0 ≡ part j entries → index_in g block.0 ≡ part k entries
compared g read entries k j d block same at is =
    ap (λ (b : Block). index_in g b.0) (sym (get_or_from_slice_get read k block d at))
    ∙ subst (λ (n : ℕ). index_in g (get_or read n d).0 ≡ part n entries) (sym same) is
