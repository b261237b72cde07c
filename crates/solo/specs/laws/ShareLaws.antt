-- The steps of a share, since its beginning.
use Rattle.std.proofs.Common.{◌≡◌, ◌≢◌, ◌≤◌, ◌<◌, ◌+◌, ◌^◌, ℕ, List, [], None, Option, Some, true, refl, ap, sym, subst, ◌∙◌, arith}
use Rattle.std.specs.Prelude.{Contains, IfSome}
use Rattle.vol_base.specs.declared.block.Key.{Key}
use Rattle.vol_base.specs.declared.command.Command.TheVariants.{Merge}
use Rattle.vol_layout.specs.declared.geometry.Geometry.{Geometry}
use Rattle.vol_layout.specs.declared.kind.Table.TheVariants as tables
use Rattle.vol_layout.specs.Fields.{HasField}
use Rattle.vol_layout.specs.Ranges.{data_blocks}
use Rattle.shared_disk.specs.Events.{Event}
use Rattle.shared_disk.specs.State.{State, Told}
use Rattle.call_effects.specs.Changes.{Changes}
use Rattle.disk_locks.specs.Consistent.{Consistent}
use Rattle.disk_locks.specs.Sure.{BothTold}
use Rattle.host_facts.specs.Views.{WorldView}
use Rattle.host_facts.specs.laws.ToldLaws.{both_same, map_told}
use Rattle.host_notes.specs.Allowed.{IsAllowed}
use Rattle.host_notes.specs.Remembered.{IsRemembered}
use Rattle.host_runs.specs.Memories.{Memory}
use Rattle.host_runs.specs.Notes.{Notes, with_call}
use Rattle.host_runs.specs.Tries.{tried_by}
use Rattle.image_view.specs.Images.{Image}
use Rattle.image_view.specs.Valid.{IsValid}
use Rattle.lock_store.specs.declared.answers.StepNo.{StepNo}
use Rattle.lock_store.specs.declared.answers.StepNo.TheVariants as steps
use Rattle.lock_store.specs.Views.{counter_of, host_at, key_at, keys_of, told_of}
use Rattle.plan_parts.specs.Cuts.{IsCut}
use Rattle.plan_parts.specs.QuietCalls.{Noted, QuietCall, shown_of}
use Rattle.plan_parts.specs.Steps.{IsReady}
use Rattle.plan_parts.specs.declared.outcome.Outcome.TheVariants.{Open}
use Rattle.plan_parts.specs.laws.QuietCallLaws.{valid_now}
use Rattle.recover_plan.specs.laws.StepLaws.{none_told}
use Rattle.share_plans.specs.Causes.{HasAnswered, IsCause as IsAnswerCause}
use Rattle.share_plans.specs.Closings.{KeepsHolds}
use Rattle.share_plans.specs.Lefts.{left}
use Rattle.share_plans.specs.Places.{field_of}
use Rattle.share_plans.specs.Stands.{HasSource}
use Rattle.share_plans.specs.Went.{MayShare, Went, answer_at, answer_of, outcome_by}
use Rattle.share_plans.specs.declared.sharing.Place.{Place}
use Rattle.share_plans.specs.declared.sharing.Place.TheVariants.{Arena, File}
use Rattle.share_plans.specs.declared.sharing.Shared.{Shared}
use Rattle.share_plans.specs.declared.sharing.Shared.TheVariants as answers
use Rattle.share_plans.specs.declared.stage.Came.{Came}
use Rattle.share_plans.specs.declared.stage.Came.TheVariants.{Answered, More}
use Rattle.share_plans.specs.declared.stage.Core.{Core}
use Rattle.share_plans.specs.declared.stage.Stage.{Stage}
use Rattle.share_plans.specs.declared.stage.Stage.TheVariants as stages
use Rattle.share_plans.specs.laws.ShareStays.{share_begins}
use Rattle.solo.specs.Alone.{IsAlone, IsLater}
use Rattle.solo.specs.Shares.{Comes, Halts, HasBoth, HasCome, HasShared, HasStopped, IsKnown, IsOnWay, IsSharing, IsUnshown}
use Rattle.solo.specs.Stops.{IsCause, IsCutOff}
use Rattle.solo.specs.laws.AloneLaws.{alone_below, alone_key, cut_off, none_before, none_behind, resting_notes}
use Rattle.solo.specs.laws.ComesLaws.{changes_then, comes_at, comes_then, few_blocks, halts_of, left_some}
use Rattle.solo.specs.laws.KeylessLaws.{free_on, shows_none, told_alone}
use Rattle.solo.specs.laws.LaterLaws.{later_first, later_same, later_step, later_then}
use Rattle.solo.specs.laws.OwnCalls.{call_moment, count_one, merge_allowed, merge_counter, merge_key, merge_keys, merge_own, risen}

-- relations of told images compose, where something holds of the first two
pub both_then : (a b c : Option Told) (P Q : Image → Type 0) (R S T : Image → Image → Type 0) → IfSome a (λ t. P t.image)
    → IfSome b (λ t. Q t.image) → BothTold a b R → BothTold b c S → ((i j k : Image) → P i → Q j → R i j → S j k → T i k) → BothTold a c T
both_then None None None P Q R S T p q r s f = tt
both_then None None (Some c) P Q R S T p q r s f = s
both_then None (Some b) c P Q R S T p q r s f = absurd r
both_then (Some a) None c P Q R S T p q r s f = absurd r
both_then (Some a) (Some b) None P Q R S T p q r s f = s
both_then (Some a) (Some b) (Some c) P Q R S T p q r s f = f a.image b.image c.image p q r s

pub keeps_then : (h : ℕ) (v u w : WorldView) → KeepsHolds h v u → KeepsHolds h u w → KeepsHolds h v w
keeps_then h v u w first last = record {
  geometry = last.geometry ∙ first.geometry;
  joined = last.joined ∙ first.joined;
  held = λ f below. last.held f (subst (λ (g : Geometry). f < g.files) (sym first.geometry) below) ∙ first.held f below;
  read = λ f below. last.read f (subst (λ (g : Geometry). f < g.files) (sym first.geometry) below) ∙ first.read f below;
}

module _ (v u w : WorldView) (f i : ℕ) (source : Place) (core : Core) (stage : Stage) (file : core.file ≡ f) (index : core.index ≡ i)
    (from : core.source ≡ source) (first : Consistent v.locks) (here : Consistent u.locks) (same : u.locks.geometry ≡ v.locks.geometry)
    (both : HasBoth v.locks.geometry f i source) where
  abbrev g : Geometry
  g = v.locks.geometry

  small : data_blocks g < 2 ^ 31
  small = few_blocks g first.geometry

  abbrev Before : Image → Type 0
  Before = IsValid g (counter_of v.locks)

  abbrev Here : Image → Type 0
  Here = IsValid g (counter_of u.locks)

  valid_here : IfSome (told_of u.locks) (λ t. Here t.image)
  valid_here = subst (λ (x : Geometry). IfSome (told_of u.locks) (λ t. IsValid x (counter_of u.locks) t.image)) same (valid_now u here)

  come_as : (answer : Shared) → HasCome v w core.file core.index core.source answer → HasCome v w f i source answer
  come_as answer come =
      subst (λ (s : Place). HasCome v w f i s answer) from
      (subst (λ k. HasCome v w f k core.source answer) index (subst (λ k. HasCome v w k core.index core.source answer) file come))

  both_as : HasBoth g core.file core.index core.source
  both_as =
      subst (λ (s : Place). HasBoth g core.file core.index s) (sym from)
      (subst (λ k. HasBoth g core.file k source) (sym index) (subst (λ k. HasBoth g k i source) (sym file) both))

  -- what is known of the share behind a step
  pub known_on : (before after : Option Shared) → IsKnown v u f i source before → HasAnswered u w core stage before after
      → IsKnown v w f i source after
  known_on None None known did =
      both_then (told_of v.locks) (told_of u.locks) (told_of w.locks) Before Here (Changes g [] None) (Changes g [] None) (Changes g [] None)
      (valid_now v first) valid_here known
      (subst (λ (x : Geometry). BothTold (told_of u.locks) (told_of w.locks) (Changes x [] None)) same did)
      (λ i j k p q a b. changes_then g i j k a b)
  known_on None (Some answer) known did =
      come_as answer
      (both_then (told_of v.locks) (told_of u.locks) (told_of w.locks) Before Here (Changes g [] None) (IsAnswerCause g core stage answer)
      (Comes g core.file core.index core.source answer) (valid_now v first) valid_here known
      (subst (λ (x : Geometry). BothTold (told_of u.locks) (told_of w.locks) (IsAnswerCause x core stage answer)) same did.0)
      (λ i j k p q a b. comes_at g core stage i j k (counter_of v.locks) (counter_of u.locks) p q small both_as a answer b))
  known_on (Some answer) None known did = absurd did
  known_on (Some answer) (Some after) known did =
      subst (λ (a : Shared). HasCome v w f i source a) (sym did.0)
      (both_then (told_of v.locks) (told_of u.locks) (told_of w.locks) Before Here (Comes g f i source answer) (Changes g [] None)
      (Comes g f i source answer) (valid_now v first) valid_here known
      (subst (λ (x : Geometry). BothTold (told_of u.locks) (told_of w.locks) (Changes x [] None)) same did.1)
      (λ a b c p q come same. comes_then g f i source a b c (counter_of v.locks) p small both answer come same))

-- a share may be a part of a merge
merge_may : MayShare Merge
merge_may = (refl, λ f i n is. cc)

-- what is known behind a step that shows no key where none was shown before
unshown_by : (u w : WorldView) (known after : Option Shared) → IsUnshown u known
    → (shown_of (outcome_by known) ≡ None → IfSome (told_of u.locks) (λ t. shown_of (outcome_by after) ≡ None))
    → (told_of u.locks ≡ None → told_of w.locks ≡ None) → IsUnshown w after
unshown_by u w (Some (answers.Busy key)) (Some (answers.Busy other)) before hidden still = still before
unshown_by u w known (Some (answers.Busy key)) before hidden still =
    still (none_told (told_of u.locks) (map_told (told_of u.locks) _ _ (hidden refl) (λ t none. no_key key none)))
  where
    no_key : (key : Key) → Some key.0 ≡ None → ⊥
    no_key key is = cc
unshown_by u w known after before hidden still = tt

-- a step of a share
module _ (v u w : WorldView) (f i : ℕ) (source : Place) (core new : Core) (stage : Stage) (came : Came) (host : core.host ≡ 0)
    (file : core.file ≡ f) (index : core.index ≡ i) (from : core.source ≡ source) (first : Consistent v.locks) (here : Consistent u.locks)
    (both : HasBoth v.locks.geometry f i source) (joined : (host_at u.locks 0).joined ≡ true)
    (sharing : IsSharing v u 0 f i source (answer_at stage)) (went : Went u w core new stage came) where
  abbrev e : Event
  e = went.event

  abbrev NotedHere : Notes → Type 0
  NotedHere = Noted Merge 0 u (outcome_by (answer_at stage))

  quiet : QuietCall Merge 0 u w e NotedHere (Noted Merge 0 w (outcome_by (answer_of came)))
  quiet =
      subst (λ h. QuietCall Merge h u w e (Noted Merge h u (outcome_by (answer_at stage))) (Noted Merge h w (outcome_by (answer_of came)))) host
      (went.quiet Merge merge_may)

  some : key_at u.locks 0 ≢ 0
  some = alone_key u 0 here joined

  abbrev n : Notes
  n = sharing.noted.0

  abbrev later : Notes
  later = with_call u.locks.geometry 0 Merge u.locks.disk.state (Some e) n

  now_noted : Noted Merge 0 w (outcome_by (answer_of came)) later
  now_noted = quiet.noted n sharing.noted.1

  allowed : IsAllowed (call_moment Merge 0 u w e None n) e
  allowed = merge_allowed 0 u w e n sharing.noted.1.remembered some NotedHere sharing.noted.1 quiet.allowed quiet.acts

  registered_on : Contains (keys_of w.locks) (key_at w.locks 0)
  registered_on =
      let keys = merge_keys 0 u w e n sharing.noted.1.remembered some NotedHere sharing.noted.1 quiet.allowed quiet.acts in
      let key = merge_key 0 u w e n sharing.noted.1.remembered some NotedHere sharing.noted.1 quiet.allowed quiet.acts now_noted.remembered in
      subst (λ k. Contains (keys_of w.locks) k) (sym key)
      (subst (λ (ks : List ℕ). Contains ks (key_at u.locks 0)) (sym keys) sharing.registered)

  later_on : IsLater 0 v w
  later_on =
      let counter = merge_counter 0 u w e n sharing.noted.1.remembered some NotedHere sharing.noted.1 quiet.allowed quiet.acts in
      later_then 0 0 v u w sharing.later (later_step 0 u w e quiet.acts quiet.geometry quiet.files quiet.valid (omega (arith, counter)))

  -- where the device tells its image, the call shows no key
  hidden : n.tries.shown ≡ None → IfSome (told_of u.locks) (λ t. later.tries.shown ≡ None)
  hidden none =
      let own = merge_own 0 u w e n sharing.noted.1.remembered some NotedHere sharing.noted.1 quiet.allowed quiet.acts in
      map_told (told_of u.locks) _ _ (told_alone Merge tt u w e n sharing.free quiet.acts here joined sharing.registered)
      (λ t known. subst (λ k. (tried_by u.locks.geometry 0 Merge n.memory.claims k e.call e.reply n.tries).shown ≡ None) (sym own)
      (shows_none u.locks.geometry (counter_of u.locks) (key_at u.locks 0) t.image known.0 0 (call_moment Merge 0 u w e None n) Merge tt
      n.memory.claims n.tries none (λ f old new word k has marks at apart. none) e.key e.call e.reply refl allowed.marks known.1))

  unshown_on : IsUnshown w (answer_of came)
  unshown_on =
      unshown_by u w (answer_at stage) (answer_of came) sharing.unshown
      (λ none. map_told (told_of u.locks) _ _ (hidden (sharing.noted.1.shown_is ∙ none)) (λ t is. sym now_noted.shown_is ∙ is))
      (none_behind (told_of u.locks) (told_of w.locks) quiet.files)

  pub sharing_on : IsSharing v w 0 f i source (answer_of came)
  sharing_on = record {
    keeps = keeps_then 0 v u w sharing.keeps (subst (λ h. KeepsHolds h u w) host went.keeps);
    registered = registered_on;
    later = later_on;
    free = free_on Merge tt u w e n sharing.free quiet.acts allowed quiet.geometry;
    unshown = unshown_on;
    noted = (later, now_noted);
    changed = known_on v u w f i source core stage file index from first here sharing.keeps.geometry both (answer_at stage) (answer_of came)
        sharing.changed went.answers_are;
  }

  pub one_more : w.locks.disk.calls ≤ u.locks.disk.calls + 1
  one_more = count_one u.locks.disk.calls w.locks.disk.calls quiet.acts.counted

module _ (v u w : WorldView) (f i : ℕ) (source : Place) (core new : Core) (stage : Stage) (first : Consistent v.locks) (here : Consistent u.locks)
    (alone : IsAlone v) (both : HasBoth v.locks.geometry f i source) (way : IsOnWay v u f i source core stage) where
  joined : (host_at u.locks 0).joined ≡ true
  joined = way.sharing.keeps.joined ∙ alone.ready.joined

  sharing_by : (came : Came) → Went u w core new stage came → IsSharing v w 0 f i source (answer_of came)
  sharing_by came went =
      sharing_on v u w f i source core new stage came way.host way.file way.index way.from first here both joined way.sharing went

  calls_by : (came : Came) → Went u w core new stage came → w.locks.disk.calls ≤ u.locks.disk.calls + 1
  calls_by came went =
      one_more v u w f i source core new stage came way.host way.file way.index way.from first here both joined way.sharing went

  -- the share goes on
  pub way_on : (after : Stage) → Went u w core new stage (More after) → IsOnWay v w f i source new after
  way_on after went = record {
    host = went.same.host ∙ way.host;
    file = went.same.file ∙ way.file;
    index = went.same.index ∙ way.index;
    from = went.same.source ∙ way.from;
    at = went.stands;
    sharing = sharing_by (More after) went;
    few = let a = way.few in let b = calls_by (More after) went in let c = went.less in omega (arith, a, b, c);
  }

  -- it is answered
  pub way_done : (answer : Shared) → Went u w core new stage (Answered answer) → HasShared v w f i source answer
  way_done answer went =
      let sharing = sharing_by (Answered answer) went in record {
        alone = record {
          ready = subst (IsReady w) (went.same.host ∙ way.host) went.stands.1;
          registered = sharing.registered;
          files = λ k below.
              let was = subst (λ (x : Geometry). k < x.files) sharing.keeps.geometry below in
              sharing.keeps.held k was ∙ alone.files k was;
          free = sharing.free;
          notes = (sharing.noted.0.memory, sharing.noted.1.remembered);
        };
        came = sharing.changed;
        unshown = sharing.unshown;
        later = sharing.later;
      }

  pub way_few : (answer : Shared) → Went u w core new stage (Answered answer) → w.locks.disk.calls ≤ v.locks.disk.calls + 18
  way_few answer went =
      let a = way.few in let b = calls_by (Answered answer) went in let c = went.less in omega (arith, a, b, c)

  -- or a step was refused
  cut_here : (why : StepNo) → IsCut core.host u w why → IsCutOff u w why
  cut_here why cut =
      cut_off u w 0 here joined (way.sharing.noted.0.memory, way.sharing.noted.1.remembered) way.sharing.registered why
      (subst (λ h. IsCut h u w why) way.host cut)

  told_same : (why : StepNo) → IsCutOff u w why → told_of w.locks ≡ told_of u.locks
  told_same why cut = ap (λ (s : State). s.told) cut.untouched.state

  cause_here : (why : StepNo) → IsCutOff u w why → IsCause v w why
  cause_here steps.Fenced cut = cut.cause
  cause_here steps.Failed cut =
      risen v.locks.disk.faults u.locks.disk.faults w.locks.disk.faults way.sharing.later.faults cut.cause
  cause_here (steps.Bad place) cut = none_before (told_of v.locks) (told_of u.locks) way.sharing.later.files cut.cause
  cause_here steps.NoMemory cut = tt

  pub way_cut : (why : StepNo) → IsCut core.host u w why → HasStopped v w f i source why
  way_cut why cut =
      let off = cut_here why cut in record {
        halted = subst (λ (o : Option Told). BothTold (told_of v.locks) o (Halts v.locks.geometry f i source)) (sym (told_same why off))
            (halts_of v u f i source (answer_at stage) way.sharing.changed);
        later = later_then 0 0 v u w way.sharing.later (later_same 0 u w off.untouched.state off.untouched.geometry off.untouched.later);
        cause = cause_here why off;
      }

  pub way_cut_few : (why : StepNo) → IsCut core.host u w why → w.locks.disk.calls ≤ v.locks.disk.calls + 18
  way_cut_few why cut =
      let off = (cut_here why cut).few in
      let a = way.few in
      let some = left_some core stage u way.at in omega (arith, off, a, some)

-- a share that begins
begun_source : (v : WorldView) (source : Place) → IsAlone v → HasField v.locks.geometry (field_of source) → HasSource v 0 source
begun_source v (File e j) alone has = (has.0, alone.files e has.0)
begun_source v (Arena s) alone has = has

begun_noted : (v : WorldView) (memory : Memory) → IsRemembered v.locks.geometry memory (host_at v.locks 0)
    → Noted Merge 0 v Open (resting_notes memory)
begun_noted v memory is = record {
  remembered = is;
  placed_is = refl;
  shown_is = refl;
  full = λ f i n e. absurd cc;
  asks = refl;
  wants = refl;
}

abbrev pub first_core : ℕ → ℕ → Place → Core
first_core f i source = record { host = 0; file = f; index = i; source = source; taken = []; tables = [] }

way_first : (v : WorldView) (f i : ℕ) (source : Place) → Consistent v.locks → IsAlone v → HasBoth v.locks.geometry f i source
    → left (first_core f i source) (stages.Reads (tables.File f)) ≤ 18
    → IsOnWay v v f i source (first_core f i source) (stages.Reads (tables.File f))
way_first v f i source is alone both few = record {
  host = refl;
  file = refl;
  index = refl;
  from = refl;
  at = share_begins v 0 f i source alone.ready (record {
    is_host = record {
      host = alone_below v is alone;
      file = both.place.0;
      joined = alone.ready.joined;
      held = alone.files f both.place.0;
    };
    from = begun_source v source alone both.from;
  });
  sharing = record {
    keeps = record { geometry = refl; joined = refl; held = λ k below. refl; read = λ k below. refl };
    registered = alone.registered;
    later = later_first 0 v;
    free = alone.free;
    unshown = tt;
    noted = (resting_notes alone.notes.0, begun_noted v alone.notes.0 alone.notes.1);
    changed = both_same (told_of v.locks) (told_of v.locks) (Changes v.locks.geometry [] None) refl
        (λ image. record { super = refl; numbers = λ x has. refl; blocks = λ d has. refl });
  };
  few = omega (arith, few);
}

pub way_begins : (v : WorldView) (f i : ℕ) (source : Place) (core : Core) (stage : Stage) → Consistent v.locks → IsAlone v
    → HasBoth v.locks.geometry f i source → core ≡ first_core f i source → stage ≡ stages.Reads (tables.File f) → left core stage ≤ 18
    → IsOnWay v v f i source core stage
way_begins v f i source core stage is alone both same at few =
    subst (IsOnWay v v f i source core) (sym at)
    (subst (λ (c : Core). IsOnWay v v f i source c (stages.Reads (tables.File f))) (sym same)
    (way_first v f i source is alone both
    (subst (λ (c : Core). left c (stages.Reads (tables.File f)) ≤ 18) same (subst (λ (s : Stage). left core s ≤ 18) at few))))

-- fewer steps are left
pub way_fewer : (u w : WorldView) (core new : Core) (stage after : Stage) → Went u w core new stage (More after)
    → left new after < left core stage
way_fewer u w core new stage after went = went.less
