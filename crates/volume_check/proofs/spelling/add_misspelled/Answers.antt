use Rattle.std.proofs.Common.{◌∙◌, ap}
use Rattle.vol_layout.specs.Regions.{total}
use Rattle.vol_layout.specs.Places.{front_end, further_start}
use Rattle.volume_check.proofs.StageLaws.{stage_added}
use Rattle.volume_check.proofs.spelling.add_misspelled.Goals as goal

pub returns : goal.returns
returns c =
    let same = c.geometry-geometry.ensures.geometry in
    stage_added c.add_in_run-2.result c.args.metadata.now c.args.faults.now.items _ _ c.front_end.result c.further_start.result c.total.result
    (c.front_end.ensures.place ∙ ap front_end same)
    (c.further_start.ensures.place ∙ ap further_start same)
    (c.total.ensures.blocks ∙ ap total same)
    c.in_ok-add_in_run.ensures c.add_in_run-2.ensures
