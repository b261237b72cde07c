use Rattle.std.proofs.Common.{◌∙◌, ◌++◌, ◌∷◌, [], List, ap}
use Rattle.volume_faults.specs.declared.fault.Fault.{Fault}
use Rattle.volume_faults.specs.declared.fault.FaultKind.TheVariants as faults
use Rattle.volume_check.proofs.StageLaws.{block_right, block_wrong}
use Rattle.volume_check.proofs.spelling.add_of.Goals as goal

pub returns-then-is_of_kind : goal.returns-then-is_of_kind
returns-then-is_of_kind c =
    let is = rw (c.geometry-geometry.ensures.geometry, c.counter.ensures, c.block-block.ensures.bytes) at c.is_of_kind.ensures in
    block_right c.args.metadata.now c.args.place c.args.kind c.args.faults.now.items c.requires.kind c.requires.place (is.0 c.if-is_of_kind.true)

pub returns : goal.returns
returns c =
    let is = rw (c.geometry-geometry.ensures.geometry, c.counter.ensures, c.block-block.ensures.bytes) at c.is_of_kind.ensures in
    let items = c.push_reserved.ensures.items ∙ ap (λ (xs : List Fault). xs ++ record { place = c.args.place; kind = faults.Spelling } ∷ []) c.in_ok-reserve.ensures.items in
    rw items
    (block_wrong c.args.metadata.now c.args.place c.args.kind c.args.faults.now.items c.requires.kind c.requires.checked c.requires.place
    (λ right. let yes = is.1 right in let no = c.if-is_of_kind.false in cc))
