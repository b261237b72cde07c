use Rattle.std.proofs.Common.{◌<◌, subst, sym}
use Rattle.vol_layout.specs.declared.geometry.Geometry.{Geometry}
use Rattle.file_plans.specs.laws.ForgetLaws.{forgets_next}
use Rattle.file_plans.proofs.forgetting.forget_file.Goals as goal

pub loop-more-preserved : goal.loop-more-preserved
loop-more-preserved c =
    forgets_next c.args.cache.now c.loop-more.cache c.forget-in-loop-more.new.self c.args.host c.args.file c.loop-more.more
    (subst (λ (g : Geometry). c.args.host < g.hosts) (sym c.requires.volume) c.requires.host)
    (subst (λ (g : Geometry). c.args.file < g.files) (sym c.requires.volume) c.requires.file) c.loop-more.auto.more
    (subst (λ (g : Geometry). c.loop-more.more < g.tables) (sym c.requires.volume) c.loop-more-test.true) c.loop-more.invariant
    c.forget-in-loop-more.ensures
