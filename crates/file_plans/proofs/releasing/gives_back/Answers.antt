use Rattle.std.proofs.Common.{◌≡◌, ℕ, subst, sym}
use Rattle.host_facts.specs.Views.{WorldView}
use Rattle.plan_parts.specs.declared.read_try.ReadTry.{ReadTry}
use Rattle.plan_parts.specs.declared.taking.Taking.{Taking}
use Rattle.vol_base.specs.declared.answer.Step.{Step}
use Rattle.disk_locks.specs.Consistent.{Consistent}
use Rattle.plan_parts.specs.Holds.{GivesBack, ReleasesFile}
use Rattle.plan_parts.specs.declared.outcome.Outcome.TheVariants.{Busy}
use Rattle.plan_parts.specs.declared.taking.Taking.TheVariants as taking
use Rattle.file_plans.specs.Calls.{Runs, file_of}
use Rattle.file_plans.specs.Forgets.{ForgetsFile}
use Rattle.file_plans.specs.Went.{Went}
use Rattle.file_plans.specs.declared.stage.Stage.TheVariants.{Over}
use Rattle.file_plans.specs.declared.stage.Stage.TheVariants as stages
use Rattle.file_plans.specs.laws.CloseLaws.{giving_went, kept_went, released_went}
use Rattle.file_plans.proofs.releasing.gives_back.Goals as goal
use Rattle.file_plans.specs.laws.TurnHoldLaws.{gives_sooner}

-- what the step did, as it is matched
matched : (h f e : ℕ) (v w : WorldView) (t : ReadTry) (did is_did : Taking ReadTry) → f ≡ e → did ≡ is_did → GivesBack h f v w t did
    → GivesBack h e v w t is_did
matched h f e v w t did is_did file is went =
    subst (GivesBack h e v w t) is (subst (λ (n : ℕ). GivesBack h n v w t did) file went)

pub returns-in-Ok-More-clause-went : goal.returns-in-Ok-More-clause-went
returns-in-Ok-More-clause-went g c =
    let more = matched c.args.core.now.host c.file-file.result (file_of c.args.core.now.call) c.args.world.now c.give_back.new.world
    c.args.taking c.in-Ok-More.field-0 (taking.More c.in-Ok-More.next) c.file-file.ensures c.in-Ok-More.field-0-is
    c.in-Ok-More.ensures.went in
    subst (λ (s : Step). Went c.args.world.now c.give_back.new.world c.args.cache.now c.args.core.now c.args.core.now
    (stages.GivesBack c.args.taking) s (stages.GivesBack c.in-Ok-More.next)) (sym c.made.ensures)
    (giving_went c.args.world.now c.give_back.new.world c.args.core.now c.args.taking
    (subst Consistent c.locks.ensures c.geometry-geometry.ensures.consistent)
    (subst Consistent c.locks-in-Ok-More.ensures c.geometry-geometry-in-Ok-More.ensures.consistent) c.args.cache.now c.in-Ok-More.next
    c.requires.stands more.1)

pub returns-in-Ok-Taken-clause-went : goal.returns-in-Ok-Taken-clause-went
returns-in-Ok-Taken-clause-went g c =
    let did = matched c.args.core.now.host c.file-file.result (file_of c.args.core.now.call) c.args.world.now c.give_back.new.world
    c.args.taking c.in-Ok-Taken.field-0 taking.Taken c.file-file.ensures c.in-Ok-Taken.field-0-is c.in-Ok-Taken.ensures.went in
    subst (λ (s : Step). Went c.args.world.now c.give_back.new.world c.forget_file.new.cache c.args.core.now c.args.core.now
    (stages.GivesBack c.args.taking) s Over) (sym c.made-in-Ok-Taken.ensures)
    (released_went c.args.world.now c.give_back.new.world c.args.core.now c.args.taking
    (subst Consistent c.locks.ensures c.geometry-geometry.ensures.consistent)
    (subst Consistent c.locks-in-Ok-Taken.ensures c.geometry.ensures.consistent) c.args.cache.now c.forget_file.new.cache c.requires.stands did
    (subst (λ f. ForgetsFile c.args.cache.now c.forget_file.new.cache c.args.core.now.host f) c.file-file.ensures c.forget_file.ensures))

pub returns-in-Ok-Busy-clause-went : goal.returns-in-Ok-Busy-clause-went
returns-in-Ok-Busy-clause-went g c =
    let busy = matched c.args.core.now.host c.file-file.result (file_of c.args.core.now.call) c.args.world.now c.give_back.new.world
    c.args.taking c.in-Ok-Busy.field-0 (taking.Busy c.in-Ok-Busy.key) c.file-file.ensures c.in-Ok-Busy.field-0-is
    c.in-Ok-Busy.ensures.went in
    subst (λ (s : Step). Went c.args.world.now c.give_back.new.world c.args.cache.now c.args.core.now
    (record c.args.core.now { outcome = Busy c.in-Ok-Busy.key }) (stages.GivesBack c.args.taking) s Over) (sym c.made-in-Ok-Busy.ensures)
    (kept_went c.args.world.now c.give_back.new.world c.args.core.now c.args.taking
    (subst Consistent c.locks.ensures c.geometry-geometry.ensures.consistent)
    (subst Consistent c.locks-in-Ok-Busy.ensures c.geometry-geometry-in-Ok-Busy.ensures.consistent) c.args.cache.now c.in-Ok-Busy.key
    c.requires.stands busy)

pub returns-in-Err-clause-cut : goal.returns-in-Err-clause-cut
returns-in-Err-clause-cut g c command runs =
    c.in-Err.ensures.cut command (subst (λ f. ReleasesFile f command) (sym c.file-file.ensures) (subst (Runs command) c.requires.stands.2 runs))

pub returns-in-Ok-More-clause-sooner : goal.returns-in-Ok-More-clause-sooner
returns-in-Ok-More-clause-sooner g c =
    let more = matched c.args.core.now.host c.file-file.result (file_of c.args.core.now.call) c.args.world.now c.give_back.new.world
    c.args.taking c.in-Ok-More.field-0 (taking.More c.in-Ok-More.next) c.file-file.ensures c.in-Ok-More.field-0-is
    c.in-Ok-More.ensures.went in
    gives_sooner c.args.world.now c.give_back.new.world c.args.cache.now c.args.core.now c.args.taking c.in-Ok-More.next _ c.requires.stands more.0
