use Rattle.solo.specs.laws.LoneLaws.{ok_came, err_halted}
use Rattle.solo.proofs.settling.SoloLone.compare_share.Goals as goal

pub returns-clause-came : goal.returns-clause-came
returns-clause-came g c =
    ok_came c.args.self.now c.compare_share-answer.new.self c.args.file c.args.index c.args.source c.compare_share-answer.result
    c.compare_share-answer.ensures.named c.compare_share-answer.ensures.came c.compare_share-answer.ensures.files c.compare_share-answer.ensures.volume
    c.geometry-valid.ensures.valid

pub returns-clause-refused : goal.returns-clause-refused
returns-clause-refused g c =
    err_halted c.args.self.now c.compare_share-answer.new.self c.args.file c.args.index c.args.source c.compare_share-answer.result
    c.compare_share-answer.ensures.halted c.compare_share-answer.ensures.files c.compare_share-answer.ensures.volume
    c.geometry-valid.ensures.valid
