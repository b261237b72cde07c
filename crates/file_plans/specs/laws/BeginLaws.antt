-- The first step of a plan: what stands at the first stage, with its hold or without it, is what stands at the stage that comes next.
use Rattle.std.proofs.Common.{◌≡◌, ◌≢◌, ◌<◌, ◌||◌, ℕ, Bool, true, false, None, Some, refl, sym, subst, ◌∙◌}
use Rattle.disk_locks.specs.Consistent.{Consistent}
use Rattle.disk_locks.specs.Keys.{owner}
use Rattle.file_plans.specs.Bases.{HasHold, IsCached}
use Rattle.file_plans.specs.Calls.{Runs, file_of, is_read, wants_write}
use Rattle.file_plans.specs.Forgets.{ForgetsFile}
use Rattle.file_plans.specs.Stands.{At, IsOutside, NotedAt}
use Rattle.file_plans.specs.Went.{IsCutAt, LeavesOthers, Went}
use Rattle.file_plans.specs.declared.call.FileCall.{FileCall}
use Rattle.file_plans.specs.declared.call.FileCall.TheVariants.{Close, Plain}
use Rattle.file_plans.specs.declared.stage.Stage.{Stage}
use Rattle.file_plans.specs.declared.state.Core.{Core}
use Rattle.held_cache.specs.Kept.{Cache, CanKeep, IsFileTable}
use Rattle.host_facts.specs.Views.{WorldView}
use Rattle.host_runs.specs.Notes.{Notes}
use Rattle.lock_store.specs.Memories.{holds, reads}
use Rattle.lock_store.specs.Views.{LocksView, host_at}
use Rattle.lock_store.specs.declared.answers.StepNo.{StepNo}
use Rattle.lock_store.specs.declared.host.HostState.{HostState}
use Rattle.plan_parts.specs.QuietCalls.{Noted}
use Rattle.plan_parts.specs.TakenLocks.{IsTaking}
use Rattle.plan_parts.specs.declared.outcome.Outcome.{Outcome}
use Rattle.vol_base.specs.declared.answer.Step.{Step}
use Rattle.vol_base.specs.declared.command.Command.{Command}
use Rattle.vol_layout.specs.declared.geometry.Geometry.{Geometry}
use Rattle.vol_layout.specs.declared.kind.Resource.TheVariants.{File}
use Rattle.vol_base.specs.declared.plain.PlainCall.TheVariants as calls
use Rattle.std.specs.Prelude.{Err, IfErr, IfOk, Ok, Result}
use Rattle.file_plans.specs.declared.stage.Stage.TheVariants as stages
use Rattle.vol_base.specs.declared.answer.Next.TheVariants as nexts
use Rattle.vol_base.specs.declared.answer.Answer.TheVariants as answers
use Rattle.plan_parts.specs.Holds as holds'
use Rattle.plan_parts.specs.declared.read_try.ReadTry.{ReadTry}
use Rattle.plan_parts.specs.declared.take_write.TakeWrite.{TakeWrite}
use Rattle.plan_parts.specs.laws.HoldStarts.{first_try, first_write, read_starts, release_starts, try_noted, write_noted, write_starts}
use Rattle.plan_parts.specs.laws.StepEndLaws.{step_closed}
use Rattle.file_plans.specs.Begins.{has_hold}

-- what was done from the notes of one stage was done from those of another that say as much
pub went_from : (v w : WorldView) (d : Cache) (old new : Core) (before from : Stage) (step : Step) (after : Stage)
    → ((command : Command) (n : Notes) → NotedAt command v old before n → NotedAt command v old from n)
    → Went v w d old new from step after → Went v w d old new before step after
went_from v w d old new before from step after weaker went = record {
  host = went.host;
  call = went.call;
  cached = went.cached;
  stands = went.stands;
  in_range = went.in_range;
  owes = λ command runs.
      let did = went.owes command runs in record {
        made = did.made;
        called = did.called;
        others = did.others;
        quiet = λ n was. did.quiet n (weaker command n was);
        owes = λ n was. did.owes n (weaker command n was);
      };
}

pub cut_from : (v w : WorldView) (core : Core) (before from : Stage) (why : StepNo)
    → ((command : Command) (n : Notes) → NotedAt command v core before n → NotedAt command v core from n)
    → IsCutAt v w core from why → IsCutAt v w core before why
cut_from v w core before from why weaker cuts command runs =
    let cut = (cuts command runs).1 in (
      (cuts command runs).0,
      record {
        acts = cut.acts;
        cause = cut.cause;
        state = cut.state;
        geometry = cut.geometry;
        others = cut.others;
        memory = cut.memory;
        same = cut.same;
        allowed = λ m turn of at. cut.allowed m turn of (weaker command m.old at);
      },
    )

-- the same of what a step answers
pub ok_from : (v w : WorldView) (d : Cache) (old new : Core) (before from : Stage)
    → ((command : Command) (n : Notes) → NotedAt command v old before n → NotedAt command v old from n)
    → (result : Result (Step × Stage) StepNo) → IfOk result (λ r. Went v w d old new from r.0 r.1)
    → IfOk result (λ r. Went v w d old new before r.0 r.1)
ok_from v w d old new before from weaker (Ok r) went = went_from v w d old new before from r.0 r.1 weaker went
ok_from v w d old new before from weaker (Err why) went = tt

pub err_from : (v w : WorldView) (core : Core) (before from : Stage)
    → ((command : Command) (n : Notes) → NotedAt command v core before n → NotedAt command v core from n)
    → (result : Result (Step × Stage) StepNo) → IfErr result (IsCutAt v w core from) → IfErr result (IsCutAt v w core before)
err_from v w core before from weaker (Ok r) cut = tt
err_from v w core before from weaker (Err why) cut = cut_from v w core before from why weaker cut

-- what was kept for others stays over two steps
pub leaves_then : (c d e : Cache) (h : ℕ) → LeavesOthers h c d → LeavesOthers h d e → LeavesOthers h c e
leaves_then c d e h first next = record {
  volume = next.volume ∙ first.volume;
  others = λ x t can other.
      next.others x t (subst (λ (g : Geometry). CanKeep g x t) (sym first.volume) can) other ∙ first.others x t can other;
}

-- a hold is one to act under, and what is lacked is not had
has_hold_is : (call : FileCall) (m : HostState) → has_hold call m ≡ true → HasHold call m
has_hold_is (Plain (calls.Read f i)) m is = is
has_hold_is (Plain (calls.Create f)) m is = is
has_hold_is (Plain (calls.Size f k)) m is = is
has_hold_is (Plain (calls.Write f i block)) m is = is
has_hold_is (Plain (calls.Punch f i)) m is = is
has_hold_is (Plain (calls.Remove f)) m is = is
has_hold_is (Close f) m is = is

or_left : (a b : Bool) → a || b ≡ false → a ≡ false
or_left true b is = is
or_left false b is = refl

or_right : (a b : Bool) → a || b ≡ false → b ≡ false
or_right true b is = absurd cc
or_right false b is = is

lacks_hold : (call : FileCall) (m : HostState) → has_hold call m ≡ false → holds m (File (file_of call)) ≡ false
lacks_hold (Plain (calls.Read f i)) m is = or_left (holds m (File f)) (reads m (File f)) is
lacks_hold (Plain (calls.Create f)) m is = is
lacks_hold (Plain (calls.Size f k)) m is = is
lacks_hold (Plain (calls.Write f i block)) m is = is
lacks_hold (Plain (calls.Punch f i)) m is = is
lacks_hold (Plain (calls.Remove f)) m is = is
lacks_hold (Close f) m is = is

lacks_read : (call : FileCall) (m : HostState) → is_read call ≡ true → has_hold call m ≡ false → reads m (File (file_of call)) ≡ false
lacks_read (Plain (calls.Read f i)) m reads_it is = or_right (holds m (File f)) (reads m (File f)) is
lacks_read call m reads_it is = absurd cc

-- what is kept is known still, once no table of the file is kept
cached_forgets : (v : WorldView) (c d : Cache) (h f : ℕ) → h < v.locks.geometry.hosts → IsCached v c h → ForgetsFile c d h f → IsCached v d h
cached_forgets v c d h f below cached forgets = record {
  volume = forgets.volume ∙ cached.volume;
  known = λ t p there kept.
      let in_cache = subst (λ (g : Geometry). IsFileTable g t) (sym cached.volume) there in
      let apart : owner t ≢ File f = λ own.
      let both : None ≡ Some p = sym (forgets.forgotten t in_cache own) ∙ kept in cc in
      cached.known t p there
      (sym (forgets.others h t (subst (λ (g : Geometry). h < g.hosts) (sym cached.volume) below, in_cache) (λ same own. apart own)) ∙ kept);
}

pub outside_forgets : (v : WorldView) (c d : Cache) (core : Core) → IsOutside v c core → ForgetsFile c d core.host (file_of core.call)
    → IsOutside v d core
outside_forgets v c d core is forgets = record {
  host = is.host;
  file = is.file;
  ready = is.ready;
  none = is.none;
  cached = cached_forgets v c d core.host (file_of core.call) is.host is.cached forgets;
  comes = is.comes;
}

-- a call that neither reads nor wants its file alone closes it
pub closes : (call : FileCall) → is_read call ≡ false → wants_write call ≡ false → call ≡ Close (file_of call)
closes (Close f) read wants = refl
closes (Plain (calls.Read f i)) read wants = absurd cc
closes (Plain (calls.Create f)) read wants = absurd cc
closes (Plain (calls.Size f k)) read wants = absurd cc
closes (Plain (calls.Write f i block)) read wants = absurd cc
closes (Plain (calls.Punch f i)) read wants = absurd cc
closes (Plain (calls.Remove f)) read wants = absurd cc

module _ (v : WorldView) (c : Cache) (core : Core) (is : IsOutside v c core) where
  -- with its hold
  pub begins_sees : has_hold core.call (host_at v.locks core.host) ≡ true → At v c core stages.Sees
  begins_sees has = (
    record {
      base = record {
        host = is.host;
        file = is.file;
        joined = is.ready.joined;
        hold = has_hold_is core.call (host_at v.locks core.host) has;
        taking = subst (IsTaking v core.host) (sym is.none) is.ready.taking;
        cached = is.cached;
      };
      empty = is.ready.empty;
      comes = is.comes;
    },
    is.none,
  )

  pub sees_noted : (command : Command) (n : Notes) → NotedAt command v core stages.Begins n → NotedAt command v core stages.Sees n
  sees_noted command n at = subst (λ (o : Outcome). Noted command core.host v o n) (sym is.comes) at.noted

  -- without it
  outside : holds (host_at v.locks core.host) (File (file_of core.call)) ≡ false → holds'.IsOutside v core.host (file_of core.call)
  outside out = record { joined = is.ready.joined; file = is.file; out = out }

  module _ (consistent : Consistent v.locks) (lacks : has_hold core.call (host_at v.locks core.host) ≡ false) where
    out : holds (host_at v.locks core.host) (File (file_of core.call)) ≡ false
    out = lacks_hold core.call (host_at v.locks core.host) lacks

    pub begins_reads : is_read core.call ≡ true → At v c core (stages.Reads (first_try v core.host (file_of core.call)))
    begins_reads read = (
      is,
      read_starts v core.host (file_of core.call) consistent (outside out) (lacks_read core.call (host_at v.locks core.host) read lacks),
      read,
    )

    pub begins_writes : wants_write core.call ≡ true → At v c core (stages.Writes (first_write v core.host (file_of core.call)))
    begins_writes wants = (is, write_starts v core.host (file_of core.call) consistent (outside out), wants)

    pub begins_gives : is_read core.call ≡ false → wants_write core.call ≡ false
        → reads (host_at v.locks core.host) (File (file_of core.call)) ≡ true
        → At v c core (stages.GivesBack (first_try v core.host (file_of core.call)))
    begins_gives read wants reads_it = (
      is,
      release_starts v core.host (file_of core.call) consistent (outside out) reads_it,
      closes core.call read wants,
    )

    -- a file that the host has neither to write nor to read is closed at once
    pub begins_closed : is_read core.call ≡ false → wants_write core.call ≡ false
        → reads (host_at v.locks core.host) (File (file_of core.call)) ≡ false
        → Went v v c core core stages.Begins (record { placed = None; called = false; next = nexts.Answered answers.Fine }) stages.Over
    begins_closed read wants unread = record {
      host = refl;
      call = refl;
      cached = is.cached;
      stands = tt;
      in_range = tt;
      owes = λ command runs.
          step_closed command core.host (file_of core.call) v (NotedAt command v core stages.Begins)
          (subst (Runs command) (closes core.call read wants) runs) (λ n at. at.noted) consistent is.ready out unread;
    }

  -- the notes at the first stage are those at a first try
  pub reads_noted : (t : ReadTry) → t ≡ first_try v core.host (file_of core.call) → (command : Command) (n : Notes)
      → NotedAt command v core stages.Begins n → NotedAt command v core (stages.Reads t) n
  reads_noted t first command n at =
      subst (λ (u : ReadTry). holds'.NotedTry command core.host v u n) (sym first)
      (try_noted command v core.host (file_of core.call) n at.noted at.tries)

  pub gives_noted : (t : ReadTry) → t ≡ first_try v core.host (file_of core.call) → (command : Command) (n : Notes)
      → NotedAt command v core stages.Begins n → NotedAt command v core (stages.GivesBack t) n
  gives_noted t first command n at = reads_noted t first command n at

  pub writes_noted : (t : TakeWrite) → t ≡ first_write v core.host (file_of core.call) → (command : Command) (n : Notes)
      → NotedAt command v core stages.Begins n → NotedAt command v core (stages.Writes t) n
  writes_noted t first command n at =
      subst (λ (u : TakeWrite). holds'.NotedWrite command core.host v u n) (sym first)
      (write_noted command v core.host (file_of core.call) n at.noted at.tries)

-- a first try is for the file of the call
pub try_is : (v : WorldView) (h f e : ℕ) (t : ReadTry) → f ≡ e → t ≡ first_try v h f → t ≡ first_try v h e
try_is v h f e t file is = subst (λ (n : ℕ). t ≡ first_try v h n) file is

pub write_is : (v : WorldView) (h f e : ℕ) (t : TakeWrite) → f ≡ e → t ≡ first_write v h f → t ≡ first_write v h e
write_is v h f e t file is = subst (λ (n : ℕ). t ≡ first_write v h n) file is

-- what the locks are asked of the file, is of the file of the call
pub reads_as : (l m : LocksView) (h f e : ℕ) (b : Bool) → l ≡ m → f ≡ e → b ≡ reads (host_at l h) (File f) → reads (host_at m h) (File e) ≡ b
reads_as l m h f e b locks file is =
    sym (subst (λ (n : ℕ). b ≡ reads (host_at m h) (File n)) file (subst (λ (k : LocksView). b ≡ reads (host_at k h) (File f)) locks is))
