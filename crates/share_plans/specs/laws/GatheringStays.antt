-- Where a collection begins, that it stands over the calls of other hosts, how it is cut, and its next step.
use Rattle.std.proofs.Common.{◌≡◌, ◌≢◌, ◌<◌, ℕ, List, [], None, Some, refl, ap, sym, subst, ◌∙◌, inl, inr}
use Rattle.std.proofs.lemmas.List.Elements.{All-nil}
use Rattle.vol_base.specs.declared.answer.Answer.TheVariants.{Cut}
use Rattle.vol_base.specs.declared.answer.CutBy.{CutBy}
use Rattle.vol_base.specs.declared.answer.Next.TheVariants as nexts
use Rattle.vol_base.specs.declared.answer.Step.{Step}
use Rattle.vol_base.specs.declared.command.Command.TheVariants.{Collect}
use Rattle.vol_layout.specs.declared.geometry.Geometry.{Geometry}
use Rattle.vol_layout.specs.declared.kind.Kind.TheVariants as kinds
use Rattle.vol_layout.specs.declared.kind.Table.TheVariants as tables
use Rattle.lock_store.specs.Views.{host_at}
use Rattle.lock_store.specs.declared.answers.StepNo.{StepNo}
use Rattle.lock_store.specs.declared.answers.StepNo.TheVariants as steps
use Rattle.lock_store.specs.declared.host.HostState.{HostState}
use Rattle.lock_store.specs.Memories.{key_of}
use Rattle.disk_locks.specs.Consistent.{Consistent}
use Rattle.host_facts.specs.Facts.Fact.{RecordIs}
use Rattle.host_facts.specs.Others.{Others}
use Rattle.host_facts.specs.Views.{WorldView}
use Rattle.host_notes.specs.Remembered.{IsRemembered}
use Rattle.host_runs.specs.Awaited.{wanted}
use Rattle.host_runs.specs.HintCauses.{slots_emptied}
use Rattle.host_runs.specs.NotedCalls.{ShowsKind, SomeCall, sum_written}
use Rattle.host_runs.specs.Notes.{Notes}
use Rattle.plan_parts.specs.Cuts.{IsCut, IsCutBy, IsUntouched, cut_by}
use Rattle.plan_parts.specs.QuietCalls.{IsFullNoted, placed_of}
use Rattle.plan_parts.specs.Steps.{IsAtRest, IsReady, OwesStep}
use Rattle.plan_parts.specs.declared.kept.Kept.{Kept}
use Rattle.plan_parts.specs.laws.ApplyingLaws.{applying_still}
use Rattle.plan_parts.specs.laws.CutCallLaws.{cut_untouched}
use Rattle.plan_parts.specs.laws.QuietCallLaws.{valid_now}
use Rattle.plan_parts.specs.laws.TakenLaws.{taking_still}
use Rattle.plan_parts.specs.laws.VolumeSteps.{volume_step_cut}
use Rattle.share_plans.specs.GatheringSteps.{HasStepped, Went, called_step, next_of, stage_of}
use Rattle.share_plans.specs.Gatherings.{At, AreWritten, IsFree, IsGroupTable, IsOn, IsPartTable, IsReadAt, NotedAt, outcome_at}
use Rattle.share_plans.specs.Spents.{current, emptying_of}
use Rattle.share_plans.specs.declared.collection.Collection.{Collection}
use Rattle.share_plans.specs.declared.collection.Gathered.{Gathered}
use Rattle.share_plans.specs.declared.collection.Gathering.{Gathering}
use Rattle.share_plans.specs.declared.collection.Gathering.TheVariants as stages
use Rattle.share_plans.specs.laws.GatheringStages.{group_still, key_some, on_still, part_still}
use Rattle.share_plans.specs.laws.StillLaws.{IsStill, one_kept, still_others}

-- a collection that begins: of a host that is ready
abbrev pub begun : ℕ → ℕ → Collection
begun h p = record { host = h; part = p; taken = []; groups = []; count = 0 }

pub collect_begins : (v : WorldView) (h p : ℕ) → IsReady v h → h < v.locks.geometry.hosts → p < v.locks.geometry.parts
    → At v (begun h p) stages.LocksPart
collect_begins v h p ready host part = (
  record {
    on = record { host = host; part = part; groups = All-nil (λ r. r < v.locks.geometry.groups); joined = ready.joined; taking = ready.taking };
    empty = ready.empty;
  },
  refl,
  record { groups = refl; count = refl },
)

-- with the notes of a host between two commands
pub collect_noted : (v : WorldView) (h p : ℕ) (n : Notes) → IsAtRest v h n → NotedAt v (begun h p) stages.LocksPart n
collect_noted v h p n rest = record {
  noted = record {
    remembered = rest.remembered;
    placed_is = ap (λ (m : Notes). m.placed) rest.between;
    shown_is = ap (λ (m : Notes). m.tries.shown) rest.between;
    full = λ f i k is met. cc;
    asks = ap (λ (m : Notes). m.asks) rest.between;
    wants = ap (λ (m : Notes). wanted v.locks.geometry (Collect p) m.calls m.digests m.asks) rest.between;
  };
  emptied = ap (λ (m : Notes). sum_written v.locks.geometry (slots_emptied h) m.calls) rest.between;
  read = tt;
}

-- over the calls of other hosts
module _ (v w : WorldView) (core : Collection) (x : ℕ) (c : Consistent v.locks) (others : Others x v w) (apart : core.host ≢ x) where
  still_of : IsOn v core → IsStill core.host v w
  still_of on = still_others core.host x v w others apart (key_some v core c on)

  on_of : IsOn v core → IsOn w core
  on_of on = on_still v w core (still_of on) core.taken core.count (taking_still v w core.host x core.taken others apart (key_some v core c on) on.taking) on

  free_of : IsFree v core → IsFree w core
  free_of free = record { on = on_of free.on; empty = (still_of free.on).facts (RecordIs []) free.empty }

  part_of : IsFree v core → (part : Kept) → IsPartTable v core part → IsPartTable w core part
  part_of free part is = part_still v w core (still_of free.on) core.taken part is

  group_of : IsFree v core → (group : Kept) → IsGroupTable v core group → IsGroupTable w core group
  group_of free group is = group_still v w core (still_of free.on) group is

  pub collect_still : (stage : Gathering) → At v core stage → At w core stage
  collect_still stages.LocksPart at = (free_of at.0, at.1, at.2)
  collect_still stages.ReadsPart at = (free_of at.0, at.1, at.2)
  collect_still (stages.LocksGroup part) at = (free_of at.0, at.1, part_of at.0 part at.2, at.3)
  collect_still (stages.ReadsGroup part) at = (free_of at.0, at.1, part_of at.0 part at.2)
  collect_still (stages.Commits e part group) at = (
    free_of at.0,
    at.1,
    part_of at.0 part at.2,
    group_of at.0 group at.3,
    ap (λ (m : HostState). emptying_of (key_of m) core.part part.table (current core.groups) group.table)
        (others.locks.keeps core.host apart (key_some v core c at.0.on)).memory ∙ at.4,
  )
  collect_still (stages.Applies a part group) at = (
    on_of at.0,
    at.1,
    applying_still v w core.host x a.entry.edits a.left c others apart at.2,
    written at.3,
    at.4,
    at.5,
    at.6,
  )
    where
      written : AreWritten v core a.entry.edits a.left part group → AreWritten w core a.entry.edits a.left part group
      written (inl both) = inl both
      written (inr (inl (other, left, kept, is))) = inr (inl (other, left, one_kept core.host v w (still_of at.0) part kept, is))
      written (inr (inr (none, one, two))) =
          inr (inr (none, one_kept core.host v w (still_of at.0) part one, one_kept core.host v w (still_of at.0) group two))
  collect_still (stages.FreesGroup part) at =
      (free_of at.0, at.1, part_of at.0 part at.2, (at.3.0, group_of at.0 at.3.0 at.3.1, at.3.2))
  collect_still (stages.FreesPart None) at = (free_of at.0, at.1, at.2)
  collect_still (stages.FreesPart (Some key)) at = (free_of at.0, at.1)
  collect_still stages.Over at = at

-- the notes agree still
module _ (v w : WorldView) (core : Collection) (geometry : w.locks.geometry ≡ v.locks.geometry)
    (memory : host_at w.locks core.host ≡ host_at v.locks core.host) where
  at_volume : (P : Geometry → Type 0) → P v.locks.geometry → P w.locks.geometry
  at_volume P is = subst P (sym geometry) is

  read_still : (stage : Gathering) (n : Notes) → IsReadAt v core stage n → IsReadAt w core stage n
  read_still stages.LocksPart n is = tt
  read_still stages.ReadsPart n is = tt
  read_still stage n is =
      at_volume (λ g. (block : List ℕ) × SomeCall (ShowsKind g (kinds.Table (tables.Part core.part)) block) n.calls) is

  pub collect_noted_still : (stage : Gathering) (n : Notes) → NotedAt v core stage n → NotedAt w core stage n
  collect_noted_still stage n at = record {
    noted = record {
      remembered =
          subst (λ (m : HostState). IsRemembered w.locks.geometry n.memory m) (sym memory)
          (at_volume (λ g. IsRemembered g n.memory (host_at v.locks core.host)) at.noted.remembered);
      placed_is = at.noted.placed_is;
      shown_is = at.noted.shown_is;
      full = at_volume (λ g. IsFullNoted g (Collect core.part) (outcome_at stage) n.calls) at.noted.full;
      asks = at.noted.asks;
      wants = at_volume (λ g. wanted g (Collect core.part) n.calls n.digests n.asks ≡ None) at.noted.wants;
    };
    emptied = at_volume (λ g. sum_written g (slots_emptied core.host) n.calls ≡ core.count) at.emptied;
    read = read_still stage n at.read;
  }

-- a step that was refused cuts the command
placed_none : (stage : Gathering) → placed_of (outcome_at stage) ≡ None
placed_none (stages.FreesPart (Some key)) = refl
placed_none stage = refl

-- its host is one of the volume, and joined
pub collect_on : (v : WorldView) (core : Collection) (stage : Gathering) → At v core stage → IsOn v core
collect_on v core stages.LocksPart at = at.0.on
collect_on v core stages.ReadsPart at = at.0.on
collect_on v core (stages.LocksGroup part) at = at.0.on
collect_on v core (stages.ReadsGroup part) at = at.0.on
collect_on v core (stages.Commits e part group) at = at.0.on
collect_on v core (stages.Applies a part group) at = at.0
collect_on v core (stages.FreesGroup part) at = at.0.on
collect_on v core (stages.FreesPart None) at = at.0.on
collect_on v core (stages.FreesPart (Some key)) at = at.0.on
collect_on v core stages.Over at = absurd at

pub collect_cut : (v w : WorldView) (core new : Collection) (stage after : Gathering) (why : StepNo) (by : CutBy) (step : Step) → Consistent v.locks
    → At v core stage → IsCut core.host v w why → cut_by why ≡ Some by → step ≡ called_step (nexts.Answered (Cut by))
    → HasStepped v w core new stage after step
collect_cut v w core new stage after why by step c at cut is step_is =
    let on = collect_on v core stage at in
    inr (record {
      by = by;
      step_is = step_is;
      state = (cut (Collect core.part)).1.state;
      owes = subst (λ (s : Step). OwesStep (Collect core.part) core.host v w s (NotedAt v core stage) (IsAtRest w core.host)) (sym step_is)
          (volume_step_cut (Collect core.part) core.host v w why by (outcome_at stage) (NotedAt v core stage) is tt (key_some v core c on)
          (valid_now v c) (λ n was. tt) (λ n was. was.noted) (narrow (cut (Collect core.part))));
    })
  where
    narrow : IsCutBy (Collect core.part) core.host v w why (λ n. Unit {0}) → IsCutBy (Collect core.part) core.host v w why (NotedAt v core stage)
    narrow (e, call) = (
      e,
      record {
        acts = call.acts;
        cause = call.cause;
        state = call.state;
        geometry = call.geometry;
        others = call.others;
        memory = call.memory;
        same = call.same;
        allowed = λ m turn of before. call.allowed m turn of tt;
      },
    )

-- a step that was made
pub collect_went : (v w : WorldView) (core new later : Collection) (stage after : Gathering) (came : Gathered) (step : Step)
    → Went v w core new stage came → later ≡ new → step ≡ called_step (next_of came) → after ≡ stage_of came
    → HasStepped v w core later stage after step
collect_went v w core new later stage after came step went same step_is after_is =
    inl (came, subst (λ (x : Collection). Went v w core x stage came) (sym same) went, step_is, after_is)

-- nothing was done for want of memory
pub collect_untouched : (v w : WorldView) (core : Collection) (why : StepNo) → IsCut core.host v w why → why ≡ steps.NoMemory
    → IsUntouched core.host v w
collect_untouched v w core why cut is =
    cut_untouched (Collect core.part) core.host v w (λ n. Unit {0}) (subst (IsCut core.host v w) is cut (Collect core.part))
