use Rattle.std.proofs.Common.{◌<◌, ap, below_more, sym, ◌∙◌, arith}
use Rattle.image_view.specs.Blocks.{image_of}
use Rattle.image_view.specs.Found.{found}
use Rattle.image_view.proofs.SlowLaws.{journal_read, logical_found, logical_none}
use Rattle.image_view.proofs.slow.fields.logical.Goals as goal

pub returns-in-Some : goal.returns-in-Some
returns-in-Some c =
    let same = journal_read c.args.geometry.now (image_of c.args.image.now) c.loop-host.host c.block.result.now.0 c.block.ensures in
    sym (logical_found c.args.geometry.now (image_of c.args.image.now) c.args.what.now c.loop-host.host c.in-Some.number c.loop-host-test.true c.loop-host.invariant
    (ap (λ es. found es c.args.what.now) (sym same) ∙ sym c.edit_in.ensures ∙ c.in-Some.is))

pub loop-host-preserved : goal.loop-host-preserved
loop-host-preserved c =
    let same = journal_read c.args.geometry.now (image_of c.args.image.now) c.loop-host.host c.block.result.now.0 c.block.ensures in
    below_more _ _ c.loop-host.invariant (ap (λ es. found es c.args.what.now) (sym same) ∙ sym c.edit_in.ensures ∙ c.in_default.is)

pub returns : goal.returns
returns c =
    c.in_table.ensures
    ∙ sym (logical_none c.args.geometry.now (image_of c.args.image.now) c.args.what.now
    (λ k lt. let below : k < c.loop-host.host = omega arith in c.loop-host.invariant k below))
