use Rattle.volume_opening.proofs.OpeningSteps.{blank_found, images_blank, images_formatted, not_blank_arm, opened_formatted, opened_judged, refused_format, refused_judged, unchanged_images}
use Rattle.volume_opening.proofs.opening.open_fitting.Goals as goal

pub returns-in-Ok-clause-opened : goal.returns-in-Ok-clause-opened
returns-in-Ok-clause-opened g c = opened_formatted _ _ _ c.args.block_zero.now c.requires.found c.requires.fits c.in-Ok.ensures.formatted

pub returns-in-Ok-clause-images : goal.returns-in-Ok-clause-images
returns-in-Ok-clause-images g c = images_formatted _ _ _ (blank_found _ c.args.block_zero.now c.in-Blank.is c.requires.found) c.in-Ok.ensures.images

pub returns-in-Err-clause-refused : goal.returns-in-Err-clause-refused
returns-in-Err-clause-refused g c = refused_format _ _ _ c.in-Err.refusal _ c.from.ensures (blank_found _ c.args.block_zero.now c.in-Blank.is c.requires.found) c.in-Err.ensures.unformatted (λ e. c.in-Err.ensures.no_keys (cc))

pub returns-in-Err-clause-images : goal.returns-in-Err-clause-images
returns-in-Err-clause-images g c = images_blank _ _ _ (blank_found _ c.args.block_zero.now c.in-Blank.is c.requires.found) c.in-Err.ensures.unformatted

pub returns-in-Volume-clause-opened : goal.returns-in-Volume-clause-opened
returns-in-Volume-clause-opened g c =
    opened_judged _ _ _ c.args.block_zero.now c.list_faults.result c.judge.result c.list_faults.ensures.same (not_blank_arm c.args.block_zero.now c.in-Volume.is) c.requires.found c.requires.fits c.list_faults.ensures.faults c.judge.ensures.faultless

pub returns-in-Volume-clause-refused : goal.returns-in-Volume-clause-refused
returns-in-Volume-clause-refused g c =
    refused_judged _ _ _ c.args.block_zero.now c.list_faults.result c.judge.result c.list_faults.ensures.same (not_blank_arm c.args.block_zero.now c.in-Volume.is) c.requires.found c.requires.fits c.list_faults.ensures.faults c.judge.ensures.faults c.judge.ensures.fits c.judge.ensures.no_keys

pub returns-in-Volume-clause-images : goal.returns-in-Volume-clause-images
returns-in-Volume-clause-images g c = unchanged_images _ _ _ c.list_faults.ensures.same
