use Rattle.std.proofs.Common.{rules, ◌∙◌}
use Rattle.plan_tests.proofs.FileLaws.{crossed_all, crossed_one, crossed_plan, crossed_zero}
use Rattle.plan_tests.proofs.file_hosts.cross.Goals as goal

pub run_one-other-requires-clause-cached : goal.run_one-other-requires-clause-cached
run_one-other-requires-clause-cached g c =
    crossed_one c.args.world.now _ _ c.begin-plan.result.core.host c.begin-plan.ensures.host c.advance-early.ensures.others
    c.requires.cached.1

pub advance-own-requires-clause-stands : goal.advance-own-requires-clause-stands
advance-own-requires-clause-stands g c =
    crossed_plan c.advance-early.new.world _ _ _ _ c.locks.result.now c.locks.ensures c.geometry-geometry.ensures.consistent
    (c.advance-early.ensures.host (search rules) ∙ c.begin-plan.ensures.host) c.run_one-other.ensures.others
    (c.advance-early.ensures.stands (search rules))

pub advance-own-requires-clause-cached : goal.advance-own-requires-clause-cached
advance-own-requires-clause-cached g c =
    crossed_zero c.advance-early.new.world _ _ c.begin-plan.result.core.host _ c.begin-plan.ensures.host
    (c.advance-early.ensures.host (search rules)) c.run_one-other.ensures.others c.advance-early.ensures.cached

pub returns-clause-cached : goal.returns-clause-cached
returns-clause-cached g c =
    crossed_all c.args.world.now c.advance-early.new.world c.run_one-other.new.world _ _ _ _ c.begin-plan.result.core.host
    c.advance-early.new.plan.core.host c.begin-plan.ensures.host (c.advance-early.ensures.host (search rules)) c.advance-early.ensures.others
    c.run_one-other.ensures.others c.advance-own.ensures.others c.run_one-other.ensures.cached c.advance-own.ensures.cached
    c.requires.cached.2
