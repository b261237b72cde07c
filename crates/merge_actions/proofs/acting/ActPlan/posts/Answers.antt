use Rattle.std.proofs.Common.{◌≡◌, ◌∙◌, List, ℕ, ap, subst, sym}
use Rattle.vol_layout.specs.declared.geometry.Geometry.{Geometry}
use Rattle.vol_layout.specs.declared.kind.Kind.TheVariants.{Request}
use Rattle.vol_layout.specs.Places.{place_of}
use Rattle.shared_disk.specs.Events.{Tests}
use Rattle.lock_store.specs.Views.{LocksView}
use Rattle.merge_shelves.specs.Changes.{requested_with}
use Rattle.merge_steps.specs.Logs.{LogsRead}
use Rattle.merge_steps.specs.Steps as merging
use Rattle.merge_actions.specs.Acts.{with_acting}
use Rattle.merge_actions.specs.Steps.{StepsTo}
use Rattle.merge_actions.specs.declared.acting.Acted.{Acted}
use Rattle.merge_actions.specs.declared.acting.Acting.TheVariants.{Posts}
use Rattle.merge_actions.specs.declared.acting.Came.TheVariants.{Ended}
use Rattle.merge_actions.specs.laws.PostLaws.{post_went}
use Rattle.merge_actions.proofs.acting.ActPlan.posts.Goals as goal

pub returns-in-Ok-clause-went : goal.returns-in-Ok-clause-went
returns-in-Ok-clause-went g c =
    let v = c.args.world.now in
    let w = c.swaps_index-swapped.new.world in
    let plan = c.args.self.now in
    let old = with_acting plan (Posts c.args.file c.args.request c.args.block) in
    let same : c.geometry.result.now ≡ v.locks.geometry = c.geometry.ensures.geometry ∙ ap (λ (l : LocksView). l.geometry) c.locks.ensures in
    let more : c.posted-more.result.0 ≡ requested_with v.locks.geometry c.args.block.0 c.args.request =
    c.posted-more.ensures ∙ ap (λ (x : Geometry). requested_with x c.args.block.0 c.args.request) same in
    subst (λ (a : Acted). StepsTo v w old (Ended a)) (sym c.post_ended.ensures)
    (post_went v w plan c.args.file c.args.request c.args.block c.requires.stands c.in-Ok.ensures.went.0
    (subst (λ (b : List ℕ).
    (r : LogsRead)
    → merging.Went plan.host v w (Tests (place_of v.locks.geometry (Request c.args.file)) c.args.block.0 b) c.in-Ok.ensures.went.0 r r) more
    c.in-Ok.ensures.went.2))
