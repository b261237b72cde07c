-- Steps towards the hold of a file, and the one that gives a read hold back.
use Rattle.file_plans.specs.laws.WriteEndLaws.{went_as}
use Rattle.host_facts.specs.Relocks.{Relocks}
use Rattle.std.proofs.Common.{Bool, ◌||◌}
use Rattle.lock_store.specs.declared.host.HostState.{HostState}
use Rattle.host_runs.specs.Tries.{Tries}
use Rattle.disk_locks.specs.Calls.{IsShared}
use Rattle.vol_layout.specs.declared.kind.Resource.{Resource}
use Rattle.vol_layout.specs.declared.kind.Resource.TheVariants.{Group, Part}
use Rattle.vol_layout.specs.Ranges.{HasResource}
use Rattle.plan_parts.specs.TakenLocks.{IsTaking}
use Rattle.std.proofs.Common.{◌≡◌, ◌<◌, ℕ, [], true, false, None, Some, refl, ap, sym, subst, ◌∙◌}
use Rattle.vol_base.specs.declared.answer.Next.TheVariants as nexts
use Rattle.vol_base.specs.declared.answer.Answer.TheVariants as answers
use Rattle.vol_base.specs.declared.answer.Step.{Step}
use Rattle.vol_base.specs.declared.block.Key.{Key}
use Rattle.vol_base.specs.declared.command.Command.{Command}
use Rattle.vol_base.specs.declared.command.Command.TheVariants as commands
use Rattle.vol_base.specs.declared.plain.PlainCall.TheVariants as calls
use Rattle.vol_layout.specs.declared.geometry.Geometry.{Geometry}
use Rattle.vol_layout.specs.declared.kind.Resource.TheVariants.{File}
use Rattle.lock_store.specs.Memories.{holds, may_read}
use Rattle.lock_store.specs.Views.{host_at}
use Rattle.disk_locks.specs.Consistent.{Consistent}
use Rattle.held_cache.specs.Kept.{Cache}
use Rattle.host_facts.specs.Facts.Fact.{RecordIs, TableIs}
use Rattle.host_facts.specs.LockResults.{Gains}
use Rattle.host_facts.specs.Looks.{Looks}
use Rattle.host_facts.specs.Views.{WorldView}
use Rattle.host_runs.specs.Notes.{Notes, with_place}
use Rattle.plan_parts.specs.Holds.{AtTries, IsAsked, NotedTry, NotedWrite, ReadsFile, TakesRead, TakesWrite, WritesFile}
use Rattle.plan_parts.specs.QuietCalls.{Noted}
use Rattle.plan_parts.specs.Steps.{IsReady}
use Rattle.plan_parts.specs.declared.outcome.Outcome.TheVariants as outcomes
use Rattle.plan_parts.specs.declared.read_try.ReadTry.{ReadTry}
use Rattle.plan_parts.specs.declared.take_write.TakeWrite.{TakeWrite}
use Rattle.plan_parts.specs.declared.taking.Taking.{Taking}
use Rattle.plan_parts.specs.declared.taking.Taking.TheVariants as taking
use Rattle.plan_parts.specs.laws.PlacedLaws.{quiet_placed}
use Rattle.plan_parts.specs.laws.TakenLaws.{taking_same}
use Rattle.file_plans.specs.Bases.{HasHold, IsCached, MayComeTo}
use Rattle.file_plans.specs.Calls.{Runs, file_of, is_read, wants_write}
use Rattle.file_plans.specs.Stands.{At, IsOpenBase, IsOutside, NotedAt}
use Rattle.file_plans.specs.Went.{IsHeldBehind, IsReadBehind, Went, step_of}
use Rattle.file_plans.specs.declared.call.FileCall.{FileCall}
use Rattle.file_plans.specs.declared.call.FileCall.TheVariants.{Close, Plain}
use Rattle.file_plans.specs.declared.state.Core.{Core}
use Rattle.file_plans.specs.declared.stage.Stage.{Stage}
use Rattle.file_plans.specs.declared.stage.Stage.TheVariants as stages
use Rattle.file_plans.specs.laws.RestLaws.{went_answered, went_on}
use Rattle.file_plans.specs.laws.BaseLaws.{cached_on}
use Rattle.file_plans.specs.laws.SeeLaws.{joined_has_key, noted_still}

-- what a command tries the lock of its file for
pub writes_file : (command : Command) (call : FileCall) → Runs command call → wants_write call ≡ true → WritesFile (file_of call) command
writes_file (commands.Create f) (Plain (calls.Create e)) runs wants = (ap Some cc, refl)
writes_file (commands.Size f n) (Plain (calls.Size e m)) runs wants = (ap Some cc, refl)
writes_file (commands.Write f i n) (Plain (calls.Write e j b)) runs wants = (ap Some cc, refl)
writes_file (commands.Punch f i) (Plain (calls.Punch e j)) runs wants = (ap Some cc, refl)
writes_file (commands.Remove f) (Plain (calls.Remove e)) runs wants = (ap Some cc, refl)
writes_file command (Plain (calls.Read e j)) runs wants = absurd cc
writes_file command (Close e) runs wants = absurd cc
writes_file command (Plain call) runs wants = absurd cc

pub reads_file : (command : Command) (call : FileCall) → Runs command call → is_read call ≡ true → ReadsFile (file_of call) command
reads_file (commands.Read f i) (Plain (calls.Read e j)) runs reads = (ap Some cc, refl)
reads_file command (Plain (calls.Read e j)) runs reads = absurd cc
reads_file command (Close e) runs reads = absurd cc
reads_file command (Plain call) runs reads = absurd cc

-- a part or a group is no file
no_file : (r : Resource) → IsShared r → (f : ℕ) → r ≡ File f → ⊥
no_file (File e) shared f same = shared
no_file (Part p) shared f same = absurd cc
no_file (Group q) shared f same = absurd cc

-- a ready host stays so where nothing but its holds of files changed
ready_looks : (v w : WorldView) (h : ℕ) → Looks h v w → IsReady v h → IsReady w h
ready_looks v w h looks ready = record {
  joined = ap (λ m. m.joined) looks.memory ∙ ready.joined;
  empty = looks.facts (RecordIs []) ready.empty;
  taking = taking_same v w h [] looks.geometry looks.memory ready.taking;
}

-- and where the lock of a file changed
pub ready_relocks : (v w : WorldView) (h f : ℕ) → Relocks h (File f) v w → IsReady v h → IsReady w h
ready_relocks v w h f relocks ready = record {
  joined = relocks.memory.joined ∙ ready.joined;
  empty = relocks.facts (RecordIs []) (λ e. cc) ready.empty;
  taking = record {
    each = tt;
    only = λ r has shared held.
        let there = subst (λ (g : Geometry). HasResource g r) relocks.passes.geometry has in
        ready.taking.only r there shared (sym (relocks.memory.holds_same r there (λ same. no_file r shared f same)) ∙ held);
  };
}

pub outside_looks : (v w : WorldView) (c : Cache) (core : Core) → Looks core.host v w → IsOutside v c core → IsOutside w c core
outside_looks v w c core looks is = record {
  host = subst (λ (g : Geometry). core.host < g.hosts) (sym looks.geometry) is.host;
  file = subst (λ (g : Geometry). file_of core.call < g.files) (sym looks.geometry) is.file;
  ready = ready_looks v w core.host looks is.ready;
  none = is.none;
  cached = cached_on v w c core.host looks.geometry (λ t p. looks.facts (TableIs t p)) is.cached;
  comes = is.comes;
}

module _ (v w : WorldView) (c : Cache) (core : Core) (stage : Stage) (outside : IsOutside v c core) (before : Consistent v.locks)
    (after : Consistent w.locks) (Is : Command → Type 0) (is : (command : Command) → Runs command core.call → Is command)
    (After : Command → Notes → Type 0)
    (noted : (command : Command) (n : Notes) → NotedAt command v core stage n → Noted command core.host v outcomes.Open n)
    (asked : IsAsked Is core.host v w (λ command n. NotedAt command v core stage n) After) where
  -- the hold is on its way still, or is had
  pub hold_goes : (next : Stage) → IsCached w c core.host → At w c core next → ((command : Command) (n : Notes) → After command n → n.asks ≡ None)
      → ((command : Command) (n : Notes) → After command n → NotedAt command w core next (with_place None n))
      → Went v w c core core stage (step_of nexts.More) next
  hold_goes next cached stands waits behind =
      went_on v w c core core stage asked.event None refl refl (joined_has_key v core.host before outside.ready.joined) after outcomes.Open
      (λ some. refl) tt noted After
      (λ command runs. quiet_placed command core.host v w asked.event _ _ (asked.quiet command (is command runs)))
      next cached stands waits behind

  -- another host has it
  pub hold_busy : (key : Key) → IsCached w c core.host → IsReady w core.host
      → ((command : Command) (n : Notes) → After command n → Noted command core.host w (outcomes.Busy key) n)
      → Went v w c core (record core { outcome = outcomes.Busy key }) stage (step_of (nexts.Answered (answers.Busy key))) stages.Over
  hold_busy key cached ready behind =
      went_answered v w c core (record core { outcome = outcomes.Busy key }) stage asked.event None refl refl
      (joined_has_key v core.host before outside.ready.joined) after outcomes.Open (λ some. refl) tt noted After
      (λ command runs. quiet_placed command core.host v w asked.event _ _ (asked.quiet command (is command runs)))
      (outcomes.Busy key) stages.Over (λ is. cc) cached ready (may core.call)
      (λ command n is. noted_still command core.host w (outcomes.Busy key) n (behind command n is))
    where
      may : (call : FileCall) → MayComeTo call (outcomes.Busy key)
      may (Plain call) = tt
      may (Close f) = tt

-- a host that has its hold
held_base : (v w : WorldView) (c : Cache) (core : Core) → Consistent v.locks → IsOutside v c core → Gains core.host (File (file_of core.call)) v w
    → HasHold core.call (host_at w.locks core.host) → IsOpenBase w c core
held_base v w c core before is gains hold =
    let memory = gains.relocks.memory in
    let geometry = gains.relocks.passes.geometry in
    record {
      base = record {
        host = subst (λ (g : Geometry). core.host < g.hosts) (sym geometry) is.host;
        file = subst (λ (g : Geometry). file_of core.call < g.files) (sym geometry) is.file;
        joined = memory.joined ∙ is.ready.joined;
        hold = hold;
        taking = subst (IsTaking w core.host) (sym is.none)
            (ready_relocks v w core.host (file_of core.call) gains.relocks is.ready).taking;
        cached = cached_on v w c core.host geometry (λ t p. gains.facts (TableIs t p)) is.cached;
      };
      empty = gains.facts (RecordIs []) is.ready.empty;
      comes = is.comes;
    }

-- notes at tries stay where nothing is placed
pub tries_still : (command : Command) (h : ℕ) (v : WorldView) (t : Tries) (n : Notes) → AtTries command h v t n
    → AtTries command h v t (with_place None n)
tries_still command h v t n at = record { noted = noted_still command h v outcomes.Open n at.noted; tries_are = at.tries_are }

-- a call that wants the file alone has its hold by holding it, and a read by reading it
write_hold : (call : FileCall) (m : HostState) → wants_write call ≡ true → holds m (File (file_of call)) ≡ true → HasHold call m
write_hold (Plain (calls.Create f)) m wants held = held
write_hold (Plain (calls.Size f n)) m wants held = held
write_hold (Plain (calls.Write f i block)) m wants held = held
write_hold (Plain (calls.Punch f i)) m wants held = held
write_hold (Plain (calls.Remove f)) m wants held = held
write_hold (Plain (calls.Read f i)) m wants held = absurd cc
write_hold (Close f) m wants held = absurd cc

read_hold : (call : FileCall) (m : HostState) → is_read call ≡ true → may_read m (File (file_of call)) ≡ true → HasHold call m
read_hold (Plain (calls.Read f i)) m is may = may
read_hold call m is may = absurd cc

-- so is the core
went_core : (v w : WorldView) (c : Cache) (core new is_new : Core) (from to is_to : Stage) (step is_step : Step) → new ≡ is_new
    → step ≡ is_step → to ≡ is_to → Went v w c core is_new from is_step is_to → Went v w c core new from step to
went_core v w c core new is_new from to is_to step is_step same made goes went =
    subst (λ (n : Core). Went v w c core n from step to) (sym same)
    (went_as v w c core is_new from step is_step to is_to made goes went)

module _ (v w : WorldView) (c : Cache) (core new : Core) (step : Step) (stage : Stage) (before : Consistent v.locks)
    (after : Consistent w.locks) where
  -- a step towards the write hold
  pub writes_went : (t : TakeWrite) (taken : Taking TakeWrite) → At v c core (stages.Writes t)
      → TakesWrite core.host (file_of core.call) v w t taken → IsHeldBehind core new taken step stage
      → Went v w c core new (stages.Writes t) step stage
  writes_went t (taking.More u) is (less, more) (same, made, goes) =
      went_core v w c core new core (stages.Writes t) stage (stages.Writes u) step (step_of nexts.More) same made goes
      (hold_goes v w c core (stages.Writes t) is.0 before after (WritesFile (file_of core.call))
      (λ command runs. writes_file command core.call runs is.2) (λ command n. NotedWrite command core.host w u n)
      (λ command n at. at.1.noted) more.asked (stages.Writes u) (outside_looks v w c core more.looks is.0).cached
      (outside_looks v w c core more.looks is.0, more.stands, is.2) (λ command n at. at.1.noted.asks)
      (λ command n at. (at.0, tries_still command core.host w _ n at.1)))
  writes_went t taking.Taken is did (same, made, goes) =
      let open_base = held_base v w c core before is.0 did.gains (write_hold core.call (host_at w.locks core.host) is.2 did.held) in
      went_core v w c core new core (stages.Writes t) stage stages.Sees step (step_of nexts.More) same made goes
      (hold_goes v w c core (stages.Writes t) is.0 before after (WritesFile (file_of core.call))
      (λ command runs. writes_file command core.call runs is.2) (λ command n. Noted command core.host w outcomes.Open n)
      (λ command n at. at.1.noted) did.asked stages.Sees open_base.base.cached (open_base, is.0.none) (λ command n noted. noted.asks)
      (λ command n noted. subst (λ o. Noted command core.host w o (with_place None n)) (sym is.0.comes)
      (noted_still command core.host w outcomes.Open n noted)))
  writes_went t (taking.Busy key) is busy (same, made, goes) =
      let there = outside_looks v w c core busy.looks is.0 in
      went_core v w c core new _ (stages.Writes t) stage stages.Over step _ same made goes
      (hold_busy v w c core (stages.Writes t) is.0 before after (WritesFile (file_of core.call))
      (λ command runs. writes_file command core.call runs is.2) (λ command n. Noted command core.host w (outcomes.Busy key) n)
      (λ command n at. at.1.noted) busy.asked key there.cached there.ready (λ command n noted. noted))

  -- and towards the read hold
  pub reads_went : (t : ReadTry) (taken : Taking ReadTry) → At v c core (stages.Reads t)
      → TakesRead core.host (file_of core.call) v w t taken → IsReadBehind core new taken step stage
      → Went v w c core new (stages.Reads t) step stage
  reads_went t (taking.More u) is (less, more) (same, made, goes) =
      went_core v w c core new core (stages.Reads t) stage (stages.Reads u) step (step_of nexts.More) same made goes
      (hold_goes v w c core (stages.Reads t) is.0 before after (ReadsFile (file_of core.call))
      (λ command runs. reads_file command core.call runs is.2) (λ command n. NotedTry command core.host w u n)
      (λ command n at. at.noted) more.asked (stages.Reads u) (outside_looks v w c core more.looks is.0).cached
      (outside_looks v w c core more.looks is.0, more.stands, is.2) (λ command n at. at.noted.asks)
      (λ command n at. tries_still command core.host w _ n at))
  reads_went t taking.Taken is did (same, made, goes) =
      let may = ap (λ (b : Bool). holds (host_at w.locks core.host) (File (file_of core.call)) || b) did.reads_it ∙ or_true _ in
      let open_base = held_base v w c core before is.0 did.gains (read_hold core.call (host_at w.locks core.host) is.2 may) in
      went_core v w c core new core (stages.Reads t) stage stages.Sees step (step_of nexts.More) same made goes
      (hold_goes v w c core (stages.Reads t) is.0 before after (ReadsFile (file_of core.call))
      (λ command runs. reads_file command core.call runs is.2) (λ command n. Noted command core.host w outcomes.Open n)
      (λ command n at. at.noted) did.asked stages.Sees open_base.base.cached (open_base, is.0.none) (λ command n noted. noted.asks)
      (λ command n noted. subst (λ o. Noted command core.host w o (with_place None n)) (sym is.0.comes)
      (noted_still command core.host w outcomes.Open n noted)))
    where
      or_true : (b : Bool) → (b || true) ≡ true
      or_true true = refl
      or_true false = refl
  reads_went t (taking.Busy key) is busy (same, made, goes) =
      let there = outside_looks v w c core busy.looks is.0 in
      went_core v w c core new _ (stages.Reads t) stage stages.Over step _ same made goes
      (hold_busy v w c core (stages.Reads t) is.0 before after (ReadsFile (file_of core.call))
      (λ command runs. reads_file command core.call runs is.2) (λ command n. Noted command core.host w (outcomes.Busy key) n)
      (λ command n at. at.noted) busy.asked key there.cached there.ready (λ command n noted. noted))
