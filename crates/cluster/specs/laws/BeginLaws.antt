-- A command at its beginning: which answers need no plan, and what stands before the first step of one.
use Rattle.std.proofs.Common.{◌≡◌, ◌≢◌, inl, inr, ◌<◌, ◌++◌, ◌∷◌, ℕ, Bool, true, false, IsTrue, nat_lt, List, [], Option, Some, None, is_some, refl, ap, sym, subst, ◌∙◌}
use Rattle.std.proofs.lemmas.Bool.{and_parts, ltb-true}
use Rattle.vol_base.specs.declared.answer.ServeCounts.{ServeCounts}
use Rattle.vol_base.specs.declared.block.Digest.{Digest}
use Rattle.vol_base.specs.declared.block.Key.{Key}
use Rattle.vol_base.specs.declared.command.Command.{Command}
use Rattle.vol_base.specs.declared.command.Command.TheVariants as commands
use Rattle.vol_layout.specs.declared.geometry.Geometry.{Geometry}
use Rattle.disk_locks.specs.Consistent.{Consistent}
use Rattle.file_plans.specs.Bases.{IsCached}
use Rattle.file_plans.specs.Calls.{Runs, file_of}
use Rattle.vol_base.specs.declared.plain.PlainCall.{PlainCall}
use Rattle.file_plans.specs.Stands.{At, NotedAt}
use Rattle.file_plans.specs.declared.call.FileCall.{FileCall}
use Rattle.file_plans.specs.declared.call.FileCall.TheVariants.{Close, Plain}
use Rattle.file_plans.specs.declared.plan.FilePlan.{FilePlan}
use Rattle.file_plans.specs.declared.stage.Stage.{Stage}
use Rattle.file_plans.specs.declared.stage.Stage.TheVariants as stages
use Rattle.file_plans.specs.laws.FirstLaws.{begin_noted, begin_stands, supply_noted, supply_stands}
use Rattle.held_cache.specs.Kept.{Cache}
use Rattle.host_facts.specs.Views.{WorldView}
use Rattle.host_notes.specs.Owes.{joined_in}
use Rattle.host_runs.specs.Awaited.{first_block, wanted}
use Rattle.host_runs.specs.Notes.{Notes, with_digest}
use Rattle.host_runs.specs.lemmas.OrderlyPlaced.{some_same}
use Rattle.lock_store.specs.Memories.{dropped, key_of}
use Rattle.lock_store.specs.Views.{host_at}
use Rattle.lock_store.specs.declared.host.HostState.{HostState}
use Rattle.plan_parts.specs.Steps.{IsAtRest, IsReady}
use Rattle.plain_files.specs.Calls.{file_no}
use Rattle.merge_plan.specs.Plans as merges
use Rattle.merge_plan.specs.declared.plan.Doing as merge_doings
use Rattle.merge_plan.specs.laws.StillLaws as merge_laws
use Rattle.recover_plan.specs.Nexts as slots
use Rattle.hint_plans.specs.Nexts as hint_steps
use Rattle.hint_plans.specs.Plans as hints
use Rattle.hint_plans.specs.laws.FirstLaws as hint_laws
use Rattle.hint_plans.specs.declared.plan.Doing as hint_doings
use Rattle.recover_plan.specs.Plans.{Agrees, PlanStands, command_of}
use Rattle.recover_plan.specs.declared.plan.Doing.{Doing}
use Rattle.recover_plan.specs.laws.FirstLaws.{first_noted, first_stands}
use Rattle.recover_plan.specs.laws.StepLaws.{ready_key}
use Rattle.serve_plan.specs.Plans as serves
use Rattle.serve_plan.specs.declared.plan.Doing as serve_doings
use Rattle.serve_plan.specs.declared.plan.Doing.TheVariants as serve_stages
use Rattle.serve_plan.specs.laws.StillLaws.{serve_begins}
use Rattle.share_plans.specs.Gatherings as collections
use Rattle.share_plans.specs.declared.collection.Collection.{Collection}
use Rattle.share_plans.specs.declared.collection.Gathering.{Gathering}
use Rattle.share_plans.specs.laws.GatheringStays.{begun, collect_begins, collect_noted}
use Rattle.vol_base.specs.declared.plain.PlainReply.{PlainReply}
use Rattle.vol_base.specs.declared.plain.PlainReply.TheVariants.{Done}
use Rattle.workload.specs.Ranges.{is_in_range, is_narrow}
use Rattle.cluster.specs.Asking.{asked_with, doing_asks, merge_asks, plan_asks}
use Rattle.cluster.specs.Carries.{HasDigest}
use Rattle.cluster.specs.Plans.{IsBegun, IsOf, IsResting, PlanAt, PlanNoted, RestsWith}
use Rattle.cluster.specs.declared.carried.Carried.{Carried}
use Rattle.cluster.specs.Seats.{RestsAs, at_once}
use Rattle.cluster.specs.declared.plan.Plan.{Plan}
use Rattle.cluster.specs.declared.plan.Plan.TheVariants.{Collects, Files, Hints, Merges, Serves, Slots}

-- a command that is not answered at once is one of a joined host, or a `join` of one that is not
pub joined_is : (command : Command) (joined : Bool) → at_once command joined ≡ None → joined ≡ joined_in command
joined_is commands.Join true none = absurd cc
joined_is commands.Join false none = refl
joined_is command true none = refl
joined_is command false none = absurd cc

-- a joined host is ready, and one that is not was dropped
some_key : (m : HostState) (key : Option Key) → m.key ≡ key → key_of m ≢ 0 → is_some key ≡ true
some_key m None is some = absurd (some (ap (λ (k : Option Key). key_of (let x : HostState = record m { key = k } in x)) is))
some_key m (Some key) is some = refl

has_key : (v : WorldView) (h : ℕ) → Consistent v.locks → IsReady v h → is_some (host_at v.locks h).key ≡ true
has_key v h c ready = some_key (host_at v.locks h) (host_at v.locks h).key refl (ready_key v h c ready)

pub ready_of : (v : WorldView) (h : ℕ) → RestsAs v h None → is_some (host_at v.locks h).key ≡ true → IsReady v h
unfolding dropped
ready_of v h (inl ready) some = ready
ready_of v h (inr gone) some =
    let none : is_some (host_at v.locks h).key ≡ false = ap (λ (m : HostState). is_some m.key) gone in
    let both : true ≡ false = sym some ∙ none in absurd cc

pub dropped_of : (v : WorldView) (h : ℕ) → Consistent v.locks → RestsAs v h None → is_some (host_at v.locks h).key ≡ false
    → host_at v.locks h ≡ dropped
dropped_of v h c (inl ready) none = let both : true ≡ false = sym (has_key v h c ready) ∙ none in absurd cc
dropped_of v h c (inr gone) none = gone

-- a plan on hints runs the command that it was made for
hint_command : (command : Command) → hint_steps.IsOfPlan command → hints.command_of (hint_steps.first_of command) ≡ command
hint_command (commands.Scribble place k seen) of = refl
hint_command commands.Log of = refl
hint_command (commands.Scan f i) of = refl
hint_command command of = absurd of

-- the plan runs its command
pub of_begun : (h : ℕ) (command : Command) (plan : Plan) → IsBegun h command plan → IsOf h command plan
of_begun h command (Files plan) is = (is.0, is.1)
of_begun h command (Slots plan) is = (is.0, ap command_of is.1 ∙ command_first h command is.2)
  where
    command_first : (h : ℕ) (command : Command) → slots.IsOfPlan h command → command_of (slots.first_of command) ≡ command
    command_first h commands.Join of = refl
    command_first h commands.Leave of = refl
    command_first h commands.Beat of = refl
    command_first h (commands.Look y) of = refl
    command_first h (commands.Recover y) of = refl
    command_first h command of = absurd of
of_begun h command (Hints plan) is = (is.0, ap hints.command_of is.1 ∙ hint_command command is.2)
of_begun h command (Serves plan) is = (is.0, is.1)
of_begun h command (Merges plan) is = (is.0, is.1)
of_begun h command (Collects plan) is =
    (ap (λ (x : Collection). x.host) is.core, ap (λ (x : Collection). commands.Collect x.part) is.core ∙ sym is.command_is)

-- a command on hints is one of a joined host, and the file of a scan is one of the volume
hint_joined : (command : Command) → hint_steps.IsOfPlan command → joined_in command ≡ true
hint_joined commands.Join of = absurd of
hint_joined command of = refl

hint_range : (g : Geometry) (command : Command) → hint_steps.IsOfPlan command → IsTrue (is_in_range g command) → hint_steps.HasPlace g command
hint_range g (commands.Scan f i) of range = ltb-true f g.files (and_parts (nat_lt f g.files) (is_narrow i) range).0
hint_range g command of range = tt

-- its file is one of the volume
file_below : (g : Geometry) (command : Command) (call : FileCall) → IsTrue (is_in_range g command) → Runs command call → file_of call < g.files
file_below g (commands.Create f) (Plain call) range runs =
    subst (λ (k : PlainCall). file_no k < g.files) (some_same _ call runs) (ltb-true f g.files range)
file_below g (commands.Size f n) (Plain call) range runs =
    subst (λ (k : PlainCall). file_no k < g.files) (some_same _ call runs) (ltb-true f g.files (and_parts (nat_lt f g.files) (is_narrow n) range).0)
file_below g (commands.Write f i n) (Plain call) range runs =
    subst (λ (k : PlainCall). file_no k < g.files) (some_same _ call runs) (ltb-true f g.files (and_parts (nat_lt f g.files) (is_narrow i) range).0)
file_below g (commands.Read f i) (Plain call) range runs =
    subst (λ (k : PlainCall). file_no k < g.files) (some_same _ call runs) (ltb-true f g.files (and_parts (nat_lt f g.files) (is_narrow i) range).0)
file_below g (commands.Punch f i) (Plain call) range runs =
    subst (λ (k : PlainCall). file_no k < g.files) (some_same _ call runs) (ltb-true f g.files (and_parts (nat_lt f g.files) (is_narrow i) range).0)
file_below g (commands.Remove f) (Plain call) range runs =
    subst (λ (k : PlainCall). file_no k < g.files) (some_same _ call runs) (ltb-true f g.files range)
file_below g (commands.Close f) (Close of) range runs =
    let same : f ≡ of = ap closed runs in subst (λ (x : ℕ). x < g.files) same (ltb-true f g.files range)
  where
    closed : Command → ℕ
    closed (commands.Close f) = f
    closed command = 0
file_below g command (Plain call) range runs = absurd cc
file_below g command (Close of) range runs = absurd cc

-- a command of a file is no `join`
no_join : (command : Command) (call : FileCall) → Runs command call → joined_in command ≡ true
no_join commands.Join (Plain call) runs = absurd cc
no_join commands.Join (Close f) runs = absurd cc
no_join command call runs = refl

module _ (v : WorldView) (c : Cache) (h : ℕ) (carried : Carried) (consistent : Consistent v.locks) (below : h < v.locks.geometry.hosts)
    (command : Command) (range : IsTrue (is_in_range v.locks.geometry command)) (rests : RestsAs v h None)
    (none : at_once command (is_some (host_at v.locks h).key) ≡ None) (resting : IsResting v c h carried) where
  joined : is_some (host_at v.locks h).key ≡ joined_in command
  joined = joined_is command (is_some (host_at v.locks h).key) none

  -- the plan of a command on a file stands where it asks for the digest of its block, or begins
  pub files_at : (plan : FilePlan) → IsBegun h command (Files plan) → At v c plan.core plan.stage
  files_at plan (host, runs, first) =
      let ready = ready_of v h rests (joined ∙ no_join command plan.core.call runs) in
      subst (λ (s : Stage). At v c plan.core s) (sym first.stage)
      (begin_stands v c plan.core (subst (λ (x : ℕ). x < v.locks.geometry.hosts) (sym host) below)
      (file_below v.locks.geometry command plan.core.call range runs)
      (subst (λ (x : ℕ). IsReady v x) (sym host) ready) (subst (λ (x : ℕ). IsCached v c x) (sym host) resting.cached) first.taken first.comes)

  may_begin : (command : Command) → slots.IsOfPlan h command → IsTrue (is_in_range v.locks.geometry command)
      → is_some (host_at v.locks h).key ≡ joined_in command → slots.MayBegin v h command
  may_begin commands.Join of range is = dropped_of v h consistent rests is
  may_begin commands.Leave of range is = ready_of v h rests is
  may_begin commands.Beat of range is = ready_of v h rests is
  may_begin (commands.Look y) of range is = (ready_of v h rests is, ltb-true y v.locks.geometry.hosts range)
  may_begin (commands.Recover y) of range is = (ready_of v h rests is, ltb-true y v.locks.geometry.hosts range)
  may_begin command of range is = absurd of

  pub begun_at : (plan : Plan) → IsBegun h command plan → PlanAt v c h carried plan
  begun_at (Files plan) is = (files_at plan is, record { watched = resting.watched; volume = resting.volume })
  begun_at (Slots plan) (host, doing, of) = (
    subst (λ (d : Doing). PlanStands v h carried.watch d) (sym doing)
        (first_stands v h carried.watch command below of (may_begin command of range joined) resting.watched),
    resting.cached,
    resting.volume,
  )
  begun_at (Hints plan) (host, doing, of) = (
    subst (λ (d : hint_doings.Doing). hints.PlanStands v h carried.pending d) (sym doing)
        (hint_laws.first_stands v h carried.pending command consistent of (hint_range v.locks.geometry command of range)
        (record { host = below; ready = ready_of v h rests (joined ∙ hint_joined command of); volume = resting.volume })),
    resting,
  )
  begun_at (Serves plan) (host, serve, counts, doing) = (
    subst (λ (x : serve_doings.Doing). serves.PlanStands v h plan.counts x) (sym doing)
        (subst (λ (x : ServeCounts). serves.PlanStands v h x serve_stages.Begins) (sym counts)
        (serve_begins v h (ready_of v h rests (joined ∙ ap joined_in (sym serve))) below)),
    resting,
  )
  begun_at (Merges plan) (host, merge, doing) = (
    subst (λ (x : merge_doings.Doing). merges.PlanStands v h carried.room x) (sym doing)
        (merge_laws.merge_begins v h carried.room (ready_of v h rests (joined ∙ ap joined_in (sym merge))) below),
    resting,
  )
  begun_at (Collects plan) is =
      let ready = ready_of v h rests (joined ∙ ap joined_in is.command_is) in
      let part = subst (λ (k : Command). IsTrue (is_in_range v.locks.geometry k)) is.command_is range in (
        subst (λ (x : Collection). collections.At v x plan.stage) (sym is.core)
            (subst (λ (s : Gathering). collections.At v (begun h is.part) s) (sym is.stage)
            (collect_begins v h is.part ready below (ltb-true is.part v.locks.geometry.parts part))),
        resting,
      )

-- a command that asks for no digest first is no `write`
no_digest : (g : Geometry) (command : Command) (digest : Option Digest) (digests : List Digest) → first_block g command ≡ None
    → HasDigest command digest digests
no_digest g (commands.Write f i n) digest digests none = absurd cc
no_digest g command digest digests none = tt

none_some : (o : Option PlainReply) → o ≡ None → is_some o ≡ true → ⊥
none_some None none some = cc
none_some (Some reply) none some = cc

-- the notes of a host between two commands agree with the beginning of a command that asks for no digest
pub begun_noted : (v : WorldView) (h : ℕ) (carried : Carried) (command : Command) (plan : Plan) (n : Notes)
    → first_block v.locks.geometry command ≡ None → IsBegun h command plan → RestsWith h v carried n → PlanNoted command v h carried plan n
begun_noted v h carried command (Files plan) n none (host, runs, first) rests = (
  subst (λ (s : Stage). NotedAt command v plan.core s n) (sym first.stage)
      (begin_noted command v plan.core n runs (subst (λ (x : ℕ). IsAtRest v x n) (sym host) rests.rests)),
  rests.watch_is,
  ap (λ (m : Notes). wanted v.locks.geometry command m.calls m.digests m.asks) rests.rests.between ∙ none,
  rests.pending_is,
  record {
    handed = no_digest v.locks.geometry command carried.digest n.digests none;
    range = λ placed.
        let unplaced : n.placed ≡ None = ap (λ (m : Notes). m.placed) rests.rests.between in
        absurd (none_some (Some Done) (sym placed ∙ unplaced) refl);
  },
)
begun_noted v h carried command (Slots plan) n none (host, doing, of) rests = (
  subst (λ (d : Doing). Agrees h v carried.watch d n) (sym doing)
      (first_noted v h carried.watch n (record { rests = rests.rests; watch_is = rests.watch_is }) command of),
  rests.pending_is,
)
begun_noted v h carried command (Hints plan) n none (host, doing, of) rests = (
  subst (λ (d : hint_doings.Doing). hints.Agrees h v carried.pending.entries d n) (sym doing)
      (hint_laws.first_noted v h carried.pending.entries n (record { rests = rests.rests; pending_is = rests.pending_is }) command of),
  rests.watch_is,
)
begun_noted v h carried command (Serves plan) n none (host, serve, counts, doing) rests = (
  subst (λ (x : serve_doings.Doing). serves.Agrees h v plan.counts x n) (sym doing) rests.rests,
  rests.watch_is,
  rests.pending_is,
)
begun_noted v h carried command (Merges plan) n none (host, merge, doing) rests = (
  subst (λ (x : merge_doings.Doing). merges.Agrees h v carried.pending.entries carried.room x n) (sym doing)
      (merge_laws.begun_noted h v carried.pending.entries carried.room n (record { rests = rests.rests; pending_is = rests.pending_is })),
  rests.watch_is,
)
begun_noted v h carried command (Collects plan) n none is rests = (
  subst (λ (x : Collection). collections.NotedAt v x plan.stage n) (sym is.core)
      (subst (λ (s : Gathering). collections.NotedAt v (begun h is.part) s n) (sym is.stage) (collect_noted v h is.part n rests.rests)),
  rests.watch_is,
  rests.pending_is,
)

-- and where the digest of its block was handed in
module _ (v : WorldView) (h : ℕ) (carried : Carried) (command : Command) (plan : FilePlan) (digest : Digest)
    (asks : plan.stage ≡ stages.Asks) (is : IsBegun h command (Files plan)) where
  pub supplied_at : (c : Cache) → At v c plan.core plan.stage → At v c plan.core stages.Begins
  supplied_at c at = supply_stands v c plan.core (subst (λ (s : Stage). At v c plan.core s) asks at)

  pub supplied_noted : (n : Notes) → RestsWith h v carried n
      → NotedAt command v plan.core stages.Begins (with_digest digest n) × ((with_digest digest n).watch ≡ carried.watch)
      × (wanted v.locks.geometry command (with_digest digest n).calls (with_digest digest n).digests (with_digest digest n).asks ≡ None)
  supplied_noted n rests = (
    supply_noted command v plan.core digest n (subst (λ (s : Stage). NotedAt command v plan.core s n) (sym is.2.stage ∙ asks)
        (begin_noted command v plan.core n is.1 (subst (λ (x : ℕ). IsAtRest v x n) (sym is.0) rests.rests))),
    rests.watch_is,
    ap (λ (m : Notes). wanted v.locks.geometry command m.calls (m.digests ++ digest ∷ []) None) rests.rests.between,
  )

-- a command that begins asks for no digest any more, where a joined host's does not, and its plan for none
pub asks_not : (g : Geometry) (command : Command) (joined : Bool) → at_once command joined ≡ None → asked_with g None joined command ≡ None
    → first_block g command ≡ None
asks_not g commands.Join joined none asks = refl
asks_not g command true none asks = asks
asks_not g command false none asks = absurd cc

begun_doing : (g : Geometry) (command : Command) → hint_steps.IsOfPlan command → first_block g command ≡ None
    → doing_asks g (hint_steps.first_of command) ≡ None
begun_doing g (commands.Scribble place k seen) of none = none
begun_doing g commands.Log of none = refl
begun_doing g (commands.Scan f i) of none = refl
begun_doing g command of none = absurd of

pub begun_asks : (g : Geometry) (h : ℕ) (command : Command) (plan : Plan) → IsBegun h command plan → first_block g command ≡ None
    → plan_asks g plan ≡ None
begun_asks g h command (Hints plan) begun none = ap (doing_asks g) begun.1 ∙ begun_doing g command begun.2 none
begun_asks g h command (Merges plan) begun none = ap merge_asks begun.2
begun_asks g h command plan begun none = refl
