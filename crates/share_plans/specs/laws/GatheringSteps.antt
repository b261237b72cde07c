-- What a step of a collection did, by what its call left.
use Rattle.std.proofs.Common.{◌≡◌, ◌≢◌, ◌<◌, ◌+◌, ℕ, List, [], None, Some, refl, sym, subst, arith}
use Rattle.vol_base.specs.declared.answer.Answer.TheVariants as answers
use Rattle.vol_base.specs.declared.answer.Next.TheVariants as nexts
use Rattle.vol_base.specs.declared.block.Key.{Key}
use Rattle.vol_base.specs.declared.command.Command.TheVariants.{Collect}
use Rattle.vol_layout.specs.declared.geometry.Geometry.{Geometry}
use Rattle.vol_layout.specs.declared.field.Edit.{Edit}
use Rattle.vol_layout.specs.declared.kind.Kind.{Kind}
use Rattle.vol_layout.specs.declared.kind.Kind.TheVariants as kinds
use Rattle.vol_layout.specs.declared.kind.Resource.{Resource}
use Rattle.vol_layout.specs.declared.kind.Resource.TheVariants.{File, Group, Part}
use Rattle.vol_layout.specs.declared.kind.Table.{Table}
use Rattle.vol_layout.specs.declared.kind.Table.TheVariants as tables
use Rattle.shared_disk.specs.Events.{Event}
use Rattle.lock_store.specs.Views.{key_at}
use Rattle.disk_locks.specs.Consistent.{Consistent}
use Rattle.disk_locks.specs.Calls.{IsShared}
use Rattle.disk_locks.specs.Keys.{owner}
use Rattle.host_facts.specs.Facts.Fact.{TableIs}
use Rattle.host_facts.specs.LockResults.{Gains}
use Rattle.host_facts.specs.Looks.{Looks}
use Rattle.host_facts.specs.Relocks.{Relocks}
use Rattle.host_facts.specs.Views.{WorldView}
use Rattle.host_facts.specs.Wrote.{Wrote}
use Rattle.host_runs.specs.lemmas.OrderlyPlaced.{some_same}
use Rattle.host_notes.specs.laws.VolumeEndings.{owes_no_other}
use Rattle.host_notes.specs.laws.VolumeOwes.{owes_busy_on, owes_collected}
use Rattle.host_runs.specs.HintCauses.{slots_emptied}
use Rattle.host_runs.specs.NotedCalls.{ShowsKind, SomeCall, sum_written}
use Rattle.host_runs.specs.Notes.{Notes}
use Rattle.plan_parts.specs.QuietCalls.{Noted, QuietCall, placed_of}
use Rattle.plan_parts.specs.Steps.{IsAtRest, IsReady, OwesStep}
use Rattle.plan_parts.specs.declared.outcome.Outcome.TheVariants as outcomes
use Rattle.plan_parts.specs.laws.VolumeSteps.{volume_step_ends, volume_step_goes_on}
use Rattle.share_plans.specs.Closings.{KeepsHolds}
use Rattle.share_plans.specs.GatheringSteps.{Empties, IsAnswerAt, IsOfFile, KeepsList, KeepsTables, Went, called_step}
use Rattle.share_plans.specs.Gatherings.{At, IsReadAt, NotedAt, left, outcome_at}
use Rattle.share_plans.specs.declared.collection.Collection.{Collection}
use Rattle.share_plans.specs.declared.collection.Gathered.TheVariants.{Answered, More}
use Rattle.share_plans.specs.declared.collection.Gathering.{Gathering}
use Rattle.share_plans.specs.declared.collection.Gathering.TheVariants as stages
use Rattle.share_plans.specs.laws.GatheringNotes.{emptied_by, noted_by, noted_quiet, read_still, with_all}

-- no reply is placed
nothing_placed : (stage : Gathering) → placed_of (outcome_at stage) ≡ None
nothing_placed (stages.FreesPart (Some key)) = refl
nothing_placed stage = refl

-- what a host knows of the tables of its files: over a look, over a lock of a part or a group, and over another block that is written
pub tables_looked : (h : ℕ) (v w : WorldView) → Looks h v w → KeepsTables h v w
tables_looked h v w looks t p file known = looks.facts (TableIs t p) known

pub tables_gained : (h : ℕ) (v w : WorldView) (r : Resource) → Gains h r v w → KeepsTables h v w
tables_gained h v w r gains t p file known = gains.facts (TableIs t p) known

owner_other : (t : Table) (r : Resource) → IsOfFile t → IsShared r → owner t ≢ r
owner_other t (File f) file shared same = shared
owner_other (tables.File f) (Part q) file shared same = cc
owner_other (tables.File f) (Group q) file shared same = cc
owner_other (tables.More f b) (Part q) file shared same = cc
owner_other (tables.More f b) (Group q) file shared same = cc
owner_other (tables.Group k) r file shared same = file
owner_other (tables.Part k) r file shared same = file

pub tables_relocked : (h : ℕ) (v w : WorldView) (r : Resource) → IsShared r → Relocks h r v w → KeepsTables h v w
tables_relocked h v w r shared relocks t p file known =
    relocks.facts (TableIs t p) (λ same. owner_other t r file shared (some_same (owner t) r same)) known

pub tables_wrote : (h : ℕ) (v w : WorldView) (kind : Kind) (block : List ℕ) (es : List Edit) → Wrote h kind block es None v w
    → ((t : Table) → IsOfFile t → kinds.Table t ≢ kind) → KeepsTables h v w
tables_wrote h v w kind block es wrote other t p file known = wrote.facts (TableIs t p) (other t file) known

module _ (v w : WorldView) (core : Collection) (taken : List Resource) (groups : List ℕ) (some : key_at v.locks core.host ≢ 0)
    (keeps : KeepsHolds core.host v w) (tables_stay : KeepsTables core.host v w) (e : Event) where
  abbrev new : ℕ → Collection
  new count = with_all core taken groups count

  -- it goes on
  pub went_more : (more count : ℕ) (stage after : Gathering) → At w (new count) after → Empties v w core (new count) stage
      → KeepsList v w core (new count) stage → left (new count) after < left core stage
      → QuietCall (Collect core.part) core.host v w e (Noted (Collect core.part) core.host v (outcome_at stage))
      (Noted (Collect core.part) core.host w (outcome_at after))
      → emptied_by v.locks.geometry core.host e ≡ more → count ≡ core.count + more
      → ((n : Notes) → IsReadAt v core stage n → IsReadAt w (new count) after (noted_by v core e n))
      → Went v w core (new count) stage (More after)
  went_more more count stage after stands empties list less quiet emptied counted reads = record {
    same = record { host = refl; part = refl };
    keeps = keeps;
    tables_stay = tables_stay;
    stands = stands;
    empties = empties;
    list = list;
    answers_are = tt;
    less = less;
    owes = volume_step_goes_on (Collect core.part) core.host v w e tt some (outcome_at stage) (nothing_placed stage) (NotedAt v core stage)
        (NotedAt w (new count) after) (λ n was. was.noted)
        (noted_quiet v w core taken groups more count stage after e keeps.geometry quiet emptied counted reads)
        (NotedAt w (new count) after) (λ n is. is.noted.asks) (λ n is. is) (λ n is. owes_no_other _ None tt);
  }

  module _ (c : Consistent w.locks) (ready : IsReady w core.host) (stage : Gathering) (empties : Empties v w core (new core.count) stage)
      (list : KeepsList v w core (new core.count) stage) (less : 0 < left core stage) where
    -- the key of a busy lock is answered
    pub went_busy : (key : Key) → IsAnswerAt core stage (answers.Busy key)
        → QuietCall (Collect core.part) core.host v w e (Noted (Collect core.part) core.host v (outcome_at stage))
        (Noted (Collect core.part) core.host w (outcomes.Busy key))
        → Went v w core (new core.count) stage (Answered (answers.Busy key))
    went_busy key answers_are quiet = record {
      same = record { host = refl; part = refl };
      keeps = keeps;
      tables_stay = tables_stay;
      stands = ready;
      empties = empties;
      list = list;
      answers_are = answers_are;
      less = less;
      owes = volume_step_ends (Collect core.part) core.host v w e tt some (outcome_at stage) (nothing_placed stage) (NotedAt v core stage)
          (Noted (Collect core.part) core.host w (outcomes.Busy key)) (λ n was. was.noted) busy_quiet c ready (λ n is. is.remembered)
          (answers.Busy key) (λ n. n.pending)
          (λ n was turn now rests.
          owes_busy_on v.locks.geometry core.host v.locks.disk w.locks.disk (Some e) n (Collect core.part) key turn tt now.shown_is
          (owes_no_other _ (Some (answers.Busy key)) tt) rests);
    }
      where
        busy_quiet : QuietCall (Collect core.part) core.host v w e (NotedAt v core stage) (Noted (Collect core.part) core.host w (outcomes.Busy key))
        busy_quiet = record {
          acts = quiet.acts;
          answered = quiet.answered;
          geometry = quiet.geometry;
          others = quiet.others;
          valid = quiet.valid;
          files = quiet.files;
          allowed = λ m turn of before. quiet.allowed m turn of before.noted;
          noted = λ n was. quiet.noted n was.noted;
        }

    -- all groups were visited
    pub went_collected : stage ≡ stages.FreesPart None → core.groups ≡ []
        → QuietCall (Collect core.part) core.host v w e (Noted (Collect core.part) core.host v outcomes.Open)
        (Noted (Collect core.part) core.host w outcomes.Open)
        → emptied_by v.locks.geometry core.host e ≡ 0 → Went v w core (new core.count) stage (Answered (answers.Collected core.count))
    went_collected at none quiet emptied = record {
      same = record { host = refl; part = refl };
      keeps = keeps;
      tables_stay = tables_stay;
      stands = ready;
      empties = empties;
      list = list;
      answers_are = subst (λ (s : Gathering). IsAnswerAt core s (answers.Collected core.count)) (sym at) (none, refl);
      less = less;
      owes = subst (λ (s : Gathering). OwesStep (Collect core.part) core.host v w (called_step (nexts.Answered (answers.Collected core.count)))
          (NotedAt v core s) (IsAtRest w core.host)) (sym at) owed;
    }
      where
        call : QuietCall (Collect core.part) core.host v w e (NotedAt v core (stages.FreesPart None)) (NotedAt w (new core.count) (stages.FreesPart None))
        call =
            noted_quiet v w core taken groups 0 core.count (stages.FreesPart None) (stages.FreesPart None) e keeps.geometry quiet emptied (omega arith)
            (λ n read. read_still v w core (new core.count) e n keeps.geometry refl read)

        collected : (n : Notes) → NotedAt w (new core.count) (stages.FreesPart None) n
            → ((block : List ℕ) × SomeCall (ShowsKind v.locks.geometry (kinds.Table (tables.Part core.part)) block) n.calls)
            × (core.count ≡ sum_written v.locks.geometry (slots_emptied core.host) n.calls)
        collected n now = (
          subst (λ (g : Geometry). (block : List ℕ) × SomeCall (ShowsKind g (kinds.Table (tables.Part core.part)) block) n.calls) keeps.geometry
              now.read,
          sym (subst (λ (g : Geometry). sum_written g (slots_emptied core.host) n.calls ≡ core.count) keeps.geometry now.emptied),
        )

        owed : OwesStep (Collect core.part) core.host v w (called_step (nexts.Answered (answers.Collected core.count))) (NotedAt v core (stages.FreesPart None))
            (IsAtRest w core.host)
        owed =
            volume_step_ends (Collect core.part) core.host v w e tt some outcomes.Open refl (NotedAt v core (stages.FreesPart None))
            (NotedAt w (new core.count) (stages.FreesPart None)) (λ n was. was.noted) call c ready (λ n is. is.noted.remembered)
            (answers.Collected core.count) (λ n. n.pending)
            (λ n was turn now rests.
            let both = collected _ now in
            owes_collected v.locks.geometry core.host v.locks.disk w.locks.disk (Some e) n core.part core.count turn
            (record { read = both.0; emptied = both.1 }) now.noted.shown_is rests)
