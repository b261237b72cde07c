-- The steps by which a file is closed.
use Rattle.table_blocks.specs.Tables.{IsPackingOf}
use Rattle.file_plans.specs.Bases.{HasHold}
use Rattle.plan_parts.specs.Holds.{HasBusy, HasMore, IsReleasing, NotedTry}
use Rattle.file_plans.specs.laws.HoldStageLaws.{hold_busy, hold_goes, outside_looks, tries_still}
use Rattle.host_runs.specs.lemmas.OrderlyPlaced.{some_same}
use Rattle.std.proofs.Common.{◌≡◌, ◌≢◌, ◌<◌, ℕ, true, false, None, Some, refl, ap, sym, subst, ◌∙◌}
use Rattle.vol_base.specs.declared.answer.Next.TheVariants as nexts
use Rattle.vol_base.specs.declared.answer.Answer.TheVariants as answers
use Rattle.vol_base.specs.declared.block.Key.{Key}
use Rattle.vol_base.specs.declared.command.Command.{Command}
use Rattle.vol_layout.specs.declared.geometry.Geometry.{Geometry}
use Rattle.vol_layout.specs.declared.kind.Resource.TheVariants.{File}
use Rattle.shared_disk.specs.Events.{Event}
use Rattle.lock_store.specs.Memories.{holds, reads}
use Rattle.lock_store.specs.Views.{host_at}
use Rattle.disk_locks.specs.Consistent.{Consistent}
use Rattle.disk_locks.specs.Keys.{owner}
use Rattle.held_cache.specs.Kept.{Cache, IsFileTable, kept_at}
use Rattle.host_facts.specs.Facts.Fact.{TableIs}
use Rattle.host_facts.specs.Relocks.{Relocks}
use Rattle.host_facts.specs.Views.{WorldView}
use Rattle.host_runs.specs.Notes.{Notes}
use Rattle.plan_parts.specs.Holds.{HasReleased, ReleasesFile}
use Rattle.plan_parts.specs.QuietCalls.{Noted, QuietCall}
use Rattle.plan_parts.specs.Steps.{IsReady}
use Rattle.plan_parts.specs.TakenLocks.{IsTaking, LockFreed}
use Rattle.plan_parts.specs.declared.outcome.Outcome.TheVariants as outcomes
use Rattle.plan_parts.specs.declared.read_try.ReadTry.{ReadTry}
use Rattle.plan_parts.specs.laws.StepEndLaws.{step_closes}
use Rattle.file_plans.specs.Bases.{IsCached}
use Rattle.file_plans.specs.Calls.{Runs, file_of}
use Rattle.file_plans.specs.Forgets.{ForgetsFile}
use Rattle.file_plans.specs.Sights.{IsSight}
use Rattle.file_plans.specs.Stands.{At, NotedAt}
use Rattle.file_plans.specs.Went.{Went, step_of}
use Rattle.file_plans.specs.declared.call.FileCall.{FileCall}
use Rattle.file_plans.specs.declared.call.FileCall.TheVariants.{Close, Plain}
use Rattle.file_plans.specs.declared.state.Core.{Core}
use Rattle.file_plans.specs.declared.sight.Sight.TheVariants as sights
use Rattle.file_plans.specs.declared.stage.Stage.{Stage}
use Rattle.file_plans.specs.declared.stage.Stage.TheVariants as stages
use Rattle.file_plans.specs.laws.HoldStageLaws.{ready_relocks}
use Rattle.file_plans.specs.laws.SeeLaws.{joined_has_key}

-- what is kept is known still, once no table of the file is kept
cached_without : (v w : WorldView) (c d : Cache) (h f : ℕ) → h < v.locks.geometry.hosts → Relocks h (File f) v w → IsCached v c h
    → ForgetsFile c d h f → IsCached w d h
cached_without v w c d h f below relocks cached forgets = record {
  volume = forgets.volume ∙ cached.volume ∙ sym relocks.passes.geometry;
  known = λ t p there kept.
      let is = subst (λ (g : Geometry). IsFileTable g t) relocks.passes.geometry there in
      let in_cache = subst (λ (g : Geometry). IsFileTable g t) (sym cached.volume) is in
      let apart : owner t ≢ File f = λ own.
      let both : None ≡ Some p = sym (forgets.forgotten t in_cache own) ∙ kept in cc in
      let was : kept_at c h t ≡ Some p =
      sym (forgets.others h t (subst (λ (g : Geometry). h < g.hosts) (sym cached.volume) below, in_cache) (λ same own. apart own)) ∙ kept in
      let known = cached.known t p is was in (
        relocks.facts (TableIs t p) (λ same. apart (some_same (owner t) (File f) same)) known.0,
        subst (λ (g : Geometry). IsPackingOf g t p) (sym relocks.passes.geometry) known.1,
      );
}

-- the file is closed
closed_went : (v w : WorldView) (c d : Cache) (core : Core) (stage : Stage) (e : Event) (f : ℕ) → core.call ≡ Close f
    → (host_at v.locks core.host).joined ≡ true → Consistent v.locks → Consistent w.locks
    → ((command : Command) (n : Notes) → NotedAt command v core stage n → Noted command core.host v outcomes.Open n)
    → ((command : Command) → Runs command core.call
    → QuietCall command core.host v w e (NotedAt command v core stage) (Noted command core.host w outcomes.Open))
    → IsCached w d core.host → IsReady w core.host → holds (host_at w.locks core.host) (File f) ≡ false
    → ((command : Command) (n : Notes) → NotedAt command v core stage n → reads (host_at w.locks core.host) (File f) ≡ false)
    → Went v w d core core stage (step_of (nexts.Answered answers.Fine)) stages.Over
closed_went v w c d core stage e f is joined before after noted quiet cached ready unheld unread = record {
  host = refl;
  call = refl;
  cached = cached;
  stands = tt;
  in_range = tt;
  owes = λ command runs.
      step_closes command core.host f v w e (NotedAt command v core stage) (subst (Runs command) is runs)
      (joined_has_key v core.host before joined) (noted command) (quiet command runs) after ready unheld (unread command);
}

-- the write hold of a file without remains was freed
pub clears_went : (v w : WorldView) (c d : Cache) (core : Core) → At v c core stages.Sees → Consistent v.locks → Consistent w.locks
    → IsSight v.locks.geometry (kept_at c core.host) core.call sights.Clear → LockFreed core.host v w (File (file_of core.call))
    → ForgetsFile c d core.host (file_of core.call) → Went v w d core core stages.Sees (step_of (nexts.Answered answers.Fine)) stages.Over
clears_went v w c d core is before after sight freed forgets = cases core.call refl sight
  where
    cases : (call : FileCall) → core.call ≡ call → IsSight v.locks.geometry (kept_at c core.host) call sights.Clear
        → Went v w d core core stages.Sees (step_of (nexts.Answered answers.Fine)) stages.Over
    cases (Close f) same sight =
        let file : file_of core.call ≡ f = ap file_of same in
        let held = subst (λ (k : FileCall). HasHold k (host_at v.locks core.host)) same is.0.base.hold in
        let free = subst (λ (n : ℕ). LockFreed core.host v w (File n)) file freed in
        closed_went v w c d core stages.Sees free.event f same is.0.base.joined before after
        (λ command n noted. subst (λ o. Noted command core.host v o n) is.0.comes noted)
        (λ command runs. subst (λ o. QuietCall command core.host v w free.event (Noted command core.host v o)
        (Noted command core.host w outcomes.Open)) (sym is.0.comes) (free.quiet command outcomes.Open))
        (cached_without v w c d core.host f is.0.base.host free.relocks is.0.base.cached
        (subst (λ (n : ℕ). ForgetsFile c d core.host n) file forgets))
        (ready_relocks v w core.host f free.relocks (record {
          joined = is.0.base.joined;
          empty = is.0.empty;
          taking = subst (IsTaking v core.host) is.1 is.0.base.taking;
        })) free.free (λ command n noted. free.read ∙ noted.remembered.apart (File f) held)
    cases (Plain call) same sight = absurd sight

-- a read hold was given back
module _ (v w : WorldView) (core : Core) (t : ReadTry) (before : Consistent v.locks) (after : Consistent w.locks) where
  pub released_went : (c d : Cache) → At v c core (stages.GivesBack t) → HasReleased core.host (file_of core.call) v w t
      → ForgetsFile c d core.host (file_of core.call)
      → Went v w d core core (stages.GivesBack t) (step_of (nexts.Answered answers.Fine)) stages.Over
  released_went c d is did forgets =
      closed_went v w c d core (stages.GivesBack t) did.asked.event (file_of core.call) is.2 is.0.ready.joined before after
      (λ command n at. at.noted)
      (λ command runs. did.asked.quiet command (subst (Runs command) is.2 runs))
      (cached_without v w c d core.host (file_of core.call) is.0.host did.relocks is.0.cached forgets)
      (ready_relocks v w core.host (file_of core.call) did.relocks is.0.ready) did.out (λ command n at. did.unread)

  -- or is tried again
  pub giving_went : (c : Cache) (u : ReadTry) → At v c core (stages.GivesBack t)
      → HasMore (ReleasesFile (file_of core.call)) core.host v w (λ command n. NotedTry command core.host v t n)
      (λ command n. NotedTry command core.host w u n) (IsReleasing w core.host (file_of core.call) u)
      → Went v w c core core (stages.GivesBack t) (step_of nexts.More) (stages.GivesBack u)
  giving_went c u is more =
      hold_goes v w c core (stages.GivesBack t) is.0 before after (ReleasesFile (file_of core.call))
      (λ command runs. subst (Runs command) is.2 runs) (λ command n. NotedTry command core.host w u n) (λ command n at. at.noted)
      more.asked (stages.GivesBack u) (outside_looks v w c core more.looks is.0).cached
      (outside_looks v w c core more.looks is.0, more.stands, is.2) (λ command n at. at.noted.asks)
      (λ command n at. tries_still command core.host w _ n at)

  -- or another reader was shown
  pub kept_went : (c : Cache) (key : Key) → At v c core (stages.GivesBack t)
      → HasBusy (ReleasesFile (file_of core.call)) core.host v w (λ command n. NotedTry command core.host v t n) key
      → Went v w c core (record core { outcome = outcomes.Busy key }) (stages.GivesBack t)
      (step_of (nexts.Answered (answers.Busy key))) stages.Over
  kept_went c key is busy =
      let there = outside_looks v w c core busy.looks is.0 in
      hold_busy v w c core (stages.GivesBack t) is.0 before after (ReleasesFile (file_of core.call))
      (λ command runs. subst (Runs command) is.2 runs) (λ command n. Noted command core.host w (outcomes.Busy key) n)
      (λ command n at. at.noted) busy.asked key there.cached there.ready (λ command n noted. noted)
