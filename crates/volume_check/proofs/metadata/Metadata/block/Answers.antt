use Rattle.std.proofs.Common.{◌≡◌, ◌∙◌, ap, subst, sym}
use Rattle.vol_layout.specs.declared.geometry.Geometry.{Geometry}
use Rattle.vol_layout.specs.Ranges.{HasKind}
use Rattle.volume_check.specs.Metadatas.{Metadata}
use Rattle.volume_check.proofs.RunLaws.{block_of_runs, checked_is_read}
use Rattle.volume_check.proofs.metadata.Metadata.block.Goals as goal

pub block_in-block-requires-clause-read : goal.block_in-block-requires-clause-read
block_in-block-requires-clause-read c =
    let same : c.self.inside.geometry ≡ c.args.self.now.geometry = ap (λ (m : Metadata). m.geometry) c.self.view_is in
    let has : HasKind c.self.inside.geometry c.args.kind = subst (λ (g : Geometry). HasKind g c.args.kind) (sym same) c.requires.kind in
    rw c.place-place.ensures.place (checked_is_read c.self.inside.geometry c.args.kind has c.requires.checked)

pub returns-clause-bytes : goal.returns-clause-bytes
returns-clause-bytes c =
    let block = c.block_in-block.ensures in
    rw (c.deref.ensures.value, c.deref-2.ensures.value) at block
    ∙ block_of_runs c.args.self.now c.self.inside.geometry c.self.inside.counter c.place-place.result c.self.inside.front.items c.self.inside.further.items c.args.kind
    c.self.view_is c.place-place.ensures.place
