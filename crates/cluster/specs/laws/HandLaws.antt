-- A digest that is handed in to a host: the plan of its command stands with it, and the notes agree.
use Rattle.std.proofs.Common.{◌≡◌, ◌<◌, ◌++◌, ◌∷◌, ℕ, Bool, true, false, IsTrue, List, [], Option, Some, None, IsSome, is_some, refl, ap, sym, subst, ◌∙◌, arith}
use Rattle.vol_base.specs.declared.block.Block.{Block}
use Rattle.vol_base.specs.declared.block.Digest.{Digest}
use Rattle.vol_base.specs.declared.command.Command.{Command}
use Rattle.vol_base.specs.declared.command.Command.TheVariants as commands
use Rattle.vol_base.specs.declared.plain.PlainReply.{PlainReply}
use Rattle.vol_base.specs.declared.plain.PlainReply.TheVariants.{Done}
use Rattle.vol_layout.specs.declared.geometry.Geometry.{Geometry}
use Rattle.disk_locks.specs.Consistent.{Consistent}
use Rattle.file_plans.specs.Calls.{Runs}
use Rattle.file_plans.specs.Stands.{At, NotedAt}
use Rattle.file_plans.specs.declared.plan.FilePlan.{FilePlan}
use Rattle.file_plans.specs.declared.stage.Stage.{Stage}
use Rattle.file_plans.specs.declared.stage.Stage.TheVariants as stages
use Rattle.file_plans.specs.declared.state.Core.{Core}
use Rattle.held_cache.specs.Kept.{Cache}
use Rattle.hint_blocks.specs.declared.entry.LogEntry.{LogEntry}
use Rattle.hint_blocks.specs.HintLists.{HintList}
use Rattle.hint_plans.specs.Nexts.{first_of, pending_behind, supplied}
use Rattle.hint_plans.specs.Plans as hints
use Rattle.hint_plans.specs.declared.plan.Doing.{Doing}
use Rattle.hint_plans.specs.declared.plan.Doing.TheVariants as doings
use Rattle.hint_plans.specs.declared.plan.HintPlan.{HintPlan}
use Rattle.hint_plans.specs.laws.FirstLaws.{first_noted, supply_fewer, supply_may, supply_noted, supply_stands}
use Rattle.host_facts.specs.Views.{WorldView}
use Rattle.host_notes.specs.Owes.{joined_in}
use Rattle.host_runs.specs.Awaited.{first_block}
use Rattle.host_runs.specs.Notes.{Notes, with_digest}
use Rattle.lock_store.specs.Views.{host_at}
use Rattle.merge_plan.specs.Plans.{Agrees, PlanStands, left}
use Rattle.merge_plan.specs.Plans.{IsAsking as IsAskingMerge}
use Rattle.merge_plan.specs.declared.plan.Doing as merges
use Rattle.merge_plan.specs.declared.plan.MergePlan.{MergePlan}
use Rattle.workload.specs.Ranges.{is_in_range}
use Rattle.cluster.specs.Asking.{asked_with, doing_asks, merge_asks, plan_asks}
use Rattle.cluster.specs.Carries.{HasDigest}
use Rattle.cluster.specs.Hands.{AsksFirst, IsAsking, IsBefore, IsSuppliedIn, MayHandInOf}
use Rattle.cluster.specs.PlanTurns.{plan_left, turn_limit}
use Rattle.cluster.specs.Plans.{IsBegun, IsOf, IsResting, PlanAt, PlanNoted, RestsWith}
use Rattle.cluster.specs.Seats.{PlanNotedOf, PlanStandsOf, at_once}
use Rattle.cluster.specs.declared.carried.Carried.{Carried}
use Rattle.cluster.specs.declared.plan.Plan.{Plan}
use Rattle.cluster.specs.declared.plan.Plan.TheVariants.{Files, Hints, Merges}
use Rattle.cluster.specs.laws.BeginLaws.{begun_at, of_begun, supplied_at, supplied_noted}
use Rattle.cluster.specs.laws.HintSteps.{hints_wait}
use Rattle.cluster.specs.laws.MergeSteps.{asks_merge, merge_handed}
use Rattle.cluster.specs.laws.PlanTurnLaws.{hint_few, supplied_few}

-- what is asked for tells that a digest may be handed in
asks_first : (g : Geometry) (command : Command) → IsSome (first_block g command) → AsksFirst command
asks_first g (commands.Write f i n) some = tt
asks_first g (commands.Scribble place n seen) some = tt
asks_first g command some = absurd cc

asks_doing : (g : Geometry) (doing : Doing) → IsSome (doing_asks g doing) → hints.IsAsking doing
asks_doing g (doings.Asks s) some = tt
asks_doing g (doings.AsksBlock s block) some = tt
asks_doing g doing some = absurd cc

pub may_hand : (v : WorldView) (c : Cache) (h : ℕ) (g : Geometry) (command : Command) (carried : Carried) (plan : Option Plan) (key : Bool)
    → Digest → IsSome (asked_with g plan key command) → PlanStandsOf command v c h carried plan
    → MayHandInOf command carried.pending.geometry plan
may_hand v c h g command carried None true digest some stands = asks_first g command some
may_hand v c h g command carried None false digest some stands = absurd cc
may_hand v c h g command carried (Some (Hints plan)) key digest some stands =
    (asks_doing g plan.doing some, supply_may v h carried.pending digest plan.doing stands.1.0)
may_hand v c h g command carried (Some (Merges plan)) key digest some stands = (asks_merge plan.doing some, tt)
may_hand v c h g command carried (Some plan) key digest some stands = absurd cc

-- a host that takes a digest is joined
first_joined : (command : Command) → AsksFirst command → joined_in command ≡ true
first_joined (commands.Write f i n) first = refl
first_joined (commands.Scribble place n seen) first = refl
first_joined command first = absurd first

pub asked_joined : (g : Geometry) (command : Command) (plan : Option Plan) (key : Bool) → IsSome (asked_with g plan key command)
    → plan ≡ None → (key ≡ true) × (joined_in command ≡ true)
asked_joined g command None true some none = (refl, first_joined command (asks_first g command some))
asked_joined g command None false some none = absurd cc
asked_joined g command (Some plan) key some none = absurd cc

first_begins : (command : Command) → AsksFirst command → at_once command true ≡ None
first_begins (commands.Write f i n) first = refl
first_begins (commands.Scribble place n seen) first = refl
first_begins command first = absurd first

some_of : (o : Option Block) → IsSome o → (block : Block) × (o ≡ Some block)
some_of None some = absurd cc
some_of (Some block) some = (block, refl)

-- the command stays
taken_command : (digest : Digest) (doing : Doing) → hints.IsAsking doing → hints.command_of (supplied digest doing) ≡ hints.command_of doing
taken_command digest (doings.Asks s) asks = refl
taken_command digest (doings.AsksBlock s block) asks = refl
taken_command digest doing asks = absurd asks

-- and waits for nothing
taken_asks : (g : Geometry) (digest : Digest) (doing : Doing) → hints.IsAsking doing → doing_asks g (supplied digest doing) ≡ None
taken_asks g digest (doings.Asks s) asks = refl
taken_asks g digest (doings.AsksBlock s block) asks = refl
taken_asks g digest doing asks = absurd asks

module _ (v : WorldView) (c : Cache) (h : ℕ) (command : Command) (digest : Digest) (carried after : Carried) where
  -- a command on hints takes it
  module _ (plan later : HintPlan) (of : IsOf h command (Hints plan)) (is : IsSuppliedIn digest carried after (Hints plan) (Hints later))
      (stands : hints.PlanStands v h carried.pending plan.doing) (asks : IsSome (doing_asks v.locks.geometry plan.doing)) where
    asking : hints.IsAsking plan.doing
    asking = asks_doing v.locks.geometry plan.doing asks

    as_taken : (P : HintList LogEntry → Doing → Type 0) → P (pending_behind digest plan.doing carried.pending) (supplied digest plan.doing)
        → P after.pending later.doing
    as_taken P done =
        subst (λ (p : HintList LogEntry). P p later.doing) (sym (ap (λ (k : Carried). k.pending) is.2))
        (subst (λ (d : Doing). P (pending_behind digest plan.doing carried.pending) d) (sym is.1) done)

    pub hint_stands : (n : Notes) → hints.Agrees h v carried.pending.entries plan.doing n → IsResting v c h carried
        → IsOf h command (Hints later) × PlanAt v c h after (Hints later)
    hint_stands n noted rests =
        let (block, some) = some_of (doing_asks v.locks.geometry plan.doing) asks in
        let now : hints.PlanStands v h after.pending later.doing =
        as_taken (λ (p : HintList LogEntry) (d : Doing). hints.PlanStands v h p d)
        (supply_stands v h carried.pending digest plan.doing block n asking noted
        (hints_wait v.locks.geometry v h carried.pending.entries refl plan.doing n noted ∙ some) stands) in (
          (is.0 ∙ of.0, ap hints.command_of is.1 ∙ taken_command digest plan.doing asking ∙ of.1),
          (
            now,
            record {
              watched = rw (ap (λ (k : Carried). k.watch) is.2) rests.watched;
              volume = now.is_host.volume;
              cached = rests.cached;
            },
          ),
        )

    pub hint_noted : (n : Notes) → hints.Agrees h v carried.pending.entries plan.doing n → n.watch ≡ carried.watch
        → PlanNoted command v h after (Hints later) (with_digest digest n)
    hint_noted n noted watch = (
      as_taken (λ (p : HintList LogEntry) (d : Doing). hints.Agrees h v p.entries d (with_digest digest n))
          (supply_noted v h carried.pending digest plan.doing n asking noted stands.at),
      watch ∙ sym (ap (λ (k : Carried). k.watch) is.2),
    )

  -- a `write` begins with it
  has_digest : (command : Command) (digests : List Digest) → digests ≡ [] → HasDigest command (Some digest) (digests ++ digest ∷ [])
  has_digest (commands.Write f i n) digests none = (digest, refl, ap (λ (ds : List Digest). ds ++ digest ∷ []) none)
  has_digest command digests none = tt

  module _ (plan later : FilePlan) (begun : IsBegun h command (Files plan)) (asks : plan.stage ≡ stages.Asks)
      (is : IsSuppliedIn digest carried after (Files plan) (Files later)) where
    file_stands : At v c plan.core plan.stage → IsResting v c h carried → IsOf h command (Files later) × PlanAt v c h after (Files later)
    file_stands at rests = (
      (
        ap (λ (k : Core). k.host) is.0 ∙ begun.0,
        subst (λ (k : Core). Runs command k.call) (sym is.0) begun.1,
      ),
      (
        subst (λ (s : Stage). At v c later.core s) (sym is.1)
            (subst (λ (k : Core). At v c k stages.Begins) (sym is.0) (supplied_at v h carried command plan digest asks begun c at)),
        record {
          watched = rw (ap (λ (k : Carried). k.watch) is.2) rests.watched;
          volume = rw (ap (λ (k : Carried). k.pending) is.2) rests.volume;
        },
      ),
    )

    file_noted : (n : Notes) → RestsWith h v carried n → PlanNoted command v h after (Files later) (with_digest digest n)
    file_noted n rests =
        let noted = supplied_noted v h carried command plan digest asks begun n rests in (
          subst (λ (s : Stage). NotedAt command v later.core s (with_digest digest n)) (sym is.1)
              (subst (λ (k : Core). NotedAt command v k stages.Begins (with_digest digest n)) (sym is.0) noted.0),
          noted.1 ∙ sym (ap (λ (k : Carried). k.watch) is.2),
          noted.2,
          rests.pending_is ∙ sym (ap (λ (k : Carried). k.pending.entries) is.2),
          record {
            handed = subst (λ (o : Option Digest). HasDigest command o (n.digests ++ digest ∷ [])) (sym (ap (λ (k : Carried). k.digest) is.2))
                (has_digest command n.digests (ap (λ (m : Notes). m.digests) rests.rests.between));
            range = λ placed.
                let none : n.placed ≡ None = ap (λ (m : Notes). m.placed) rests.rests.between in
                let both : Some Done ≡ None = sym placed ∙ none in absurd (no_reply Done both);
          },
        )
      where
        no_reply : (reply : PlainReply) → Some reply ≡ None → ⊥
        no_reply reply is = cc

-- what stands behind it: the plan, whose notes agree, and which has fewer turns left
pub record IsHandled (v : WorldView) (c : Cache) (h : ℕ) (command : Command) (digest : Digest) (carried later : Carried) (plan : Option Plan)
    (after : Plan) : Type 0 where
  pub stands : PlanStandsOf command v c h later (Some after)
  pub noted : (n : Notes) → PlanNotedOf command v h carried plan n → PlanNoted command v h later after (with_digest digest n)
  pub fewer : plan_left v c later after < turn_limit v c carried plan
  pub asks : plan_asks v.locks.geometry after ≡ None

module _ (v : WorldView) (c : Cache) (h : ℕ) (command : Command) (digest : Digest) (carried later : Carried) (consistent : Consistent v.locks)
    (below : h < v.locks.geometry.hosts) (range : IsTrue (is_in_range v.locks.geometry command)) where
  abbrev Handled : Option Plan → Plan → Type 0
  Handled plan after = IsHandled v c h command digest carried later plan after

  -- a plan under way
  goes_on : (plan : HintPlan) (after : HintPlan) → IsSome (doing_asks v.locks.geometry plan.doing)
      → PlanStandsOf command v c h carried (Some (Hints plan)) → (n : Notes) → PlanNotedOf command v h carried (Some (Hints plan)) n
      → IsSuppliedIn digest carried later (Hints plan) (Hints after) → Handled (Some (Hints plan)) (Hints after)
  goes_on plan after asks stands n noted is = record {
    stands = hint_stands v c h command digest carried later plan after stands.0 is stands.1.0 asks n noted.0 stands.1.1;
    noted = λ m agrees. hint_noted v c h command digest carried later plan after stands.0 is stands.1.0 asks m agrees.0 agrees.1;
    fewer = subst (λ (d : Doing). hints.left v.locks.geometry d < hints.left v.locks.geometry plan.doing) (sym is.1)
        (supply_fewer v h carried.pending digest plan.doing (asks_doing v.locks.geometry plan.doing asks) stands.1.0);
    asks = ap (doing_asks v.locks.geometry) is.1 ∙ taken_asks v.locks.geometry digest plan.doing (asks_doing v.locks.geometry plan.doing asks);
  }

  merge_goes_on : (plan after : MergePlan) → IsSome (merge_asks plan.doing) → PlanStandsOf command v c h carried (Some (Merges plan))
      → IsSuppliedIn digest carried later (Merges plan) (Merges after) → Handled (Some (Merges plan)) (Merges after)
  merge_goes_on plan after asks (of, at) (host, is, same) =
      let now = merge_handed v h carried digest plan.doing (asks_merge plan.doing asks) at.0 in record {
        stands = subst (λ (k : Carried). PlanStandsOf command v c h k (Some (Merges after))) (sym same)
            ((host ∙ of.0, of.1), (subst (λ (d : merges.Doing). PlanStands v h carried.room d) (sym is) now.stands, at.1));
        noted = λ m agrees.
            subst (λ (k : Carried). PlanNoted command v h k (Merges after) (with_digest digest m)) (sym same)
            (subst (λ (d : merges.Doing). Agrees h v carried.pending.entries carried.room d (with_digest digest m)) (sym is) (now.noted m agrees.0), agrees.1);
        fewer = subst (λ (k : Carried). plan_left v c k (Merges after) < plan_left v c carried (Merges plan)) (sym same)
            (subst (λ (d : merges.Doing). left carried.room d < left carried.room plan.doing) (sym is) now.fewer);
        asks = ap merge_asks is ∙ now.asks;
      }

  some_handled : (plan after : Plan) → IsSome (plan_asks v.locks.geometry plan) → PlanStandsOf command v c h carried (Some plan) → (n : Notes)
      → PlanNotedOf command v h carried (Some plan) n → IsSuppliedIn digest carried later plan after → Handled (Some plan) after
  some_handled (Hints plan) (Hints after) asks stands n noted is = goes_on plan after asks stands n noted is
  some_handled (Hints plan) after asks stands n noted is = absurd is
  some_handled (Merges plan) (Merges after) asks stands n noted is = merge_goes_on plan after asks stands is
  some_handled (Merges plan) after asks stands n noted is = absurd is
  some_handled plan after asks stands n noted is = absurd cc

  -- a command that begins
  module _ (key : is_some (host_at v.locks h).key ≡ true) (first : AsksFirst command) (resting : IsResting v c h carried) (some : (n : Notes) × RestsWith h v carried n)
    where
      begun_here : (before : Plan) → IsBegun h command before → PlanAt v c h carried before
      begun_here before begun =
          begun_at v c h carried consistent below command range some.1.rests.rests (ap (at_once command) key ∙ first_begins command first) resting
          before begun

      file_begins : (before after : FilePlan) → IsBegun h command (Files before) → before.stage ≡ stages.Asks
          → IsSuppliedIn digest carried later (Files before) (Files after) → Handled None (Files after)
      file_begins before after begun asks is = record {
        stands = file_stands v c h command digest carried later before after begun asks is (begun_here (Files before) begun).0 resting;
        noted = λ n rests. file_noted v c h command digest carried later before after begun asks is n rests;
        fewer = supplied_few v c h later command before after consistent.geometry begun asks (begun_here (Files before) begun).0 is.0 is.1;
        asks = refl;
      }

      begins_asking : (doing : Doing) → hints.IsAsking doing → doing ≡ first_of command → IsSome (first_block v.locks.geometry command)
          → IsSome (doing_asks v.locks.geometry doing)
      begins_asking doing asks is wants =
          subst (λ (d : Doing). IsSome (doing_asks v.locks.geometry d)) (sym is) (by_command command first wants (subst hints.IsAsking is asks))
        where
          by_command : (command : Command) → AsksFirst command → IsSome (first_block v.locks.geometry command) → hints.IsAsking (first_of command)
              → IsSome (doing_asks v.locks.geometry (first_of command))
          by_command (commands.Scribble place n seen) first wants asks = wants
          by_command (commands.Write f i n) first wants asks = absurd asks
          by_command command first wants asks = absurd first

      hint_begins : (before after : HintPlan) → IsBegun h command (Hints before) → hints.IsAsking before.doing
          → IsSome (first_block v.locks.geometry command) → IsSuppliedIn digest carried later (Hints before) (Hints after)
          → Handled None (Hints after)
      hint_begins before after begun asks wants is =
          let at = begun_here (Hints before) begun in
          let asking = begins_asking before.doing asks begun.1 wants in
          let of = of_begun h command (Hints before) begun in
          let agrees : (n : Notes) → RestsWith h v carried n → hints.Agrees h v carried.pending.entries before.doing n =
          λ n rests. subst (λ (d : Doing). hints.Agrees h v carried.pending.entries d n) (sym begun.1)
          (first_noted v h carried.pending.entries n (record { rests = rests.rests; pending_is = rests.pending_is }) command begun.2) in
          let fewer = supply_fewer v h carried.pending digest before.doing asks at.0 in
          let few = hint_few v consistent.geometry command before.doing begun.1 in
          let now = subst (λ (d : Doing). hints.left v.locks.geometry d < hints.left v.locks.geometry before.doing) (sym is.1) fewer in
          record {
            stands = hint_stands v c h command digest carried later before after of is at.0 asking some.0 (agrees some.0 some.1) resting;
            noted = λ n rests. hint_noted v c h command digest carried later before after of is at.0 asking n (agrees n rests) rests.watch_is;
            fewer = omega (arith, now, few);
            asks = ap (doing_asks v.locks.geometry) is.1 ∙ taken_asks v.locks.geometry digest before.doing asks;
          }

      none_handled : (before after : Plan) → IsBegun h command before → IsAsking before → IsSome (first_block v.locks.geometry command)
          → IsSuppliedIn digest carried later before after → Handled None after
      none_handled (Files before) (Files after) begun asks wants is = file_begins before after begun asks is
      none_handled (Hints before) (Hints after) begun asks wants is = hint_begins before after begun asks wants is
      none_handled (Merges before) after begun asks wants is = absurd (subst IsAskingMerge begun.2 asks)
      none_handled before after begun asks wants is = absurd is

  pub handled : (plan : Option Plan) (key : Bool) (before after : Plan) → is_some (host_at v.locks h).key ≡ key
      → IsSome (asked_with v.locks.geometry plan key command) → PlanStandsOf command v c h carried plan
      → (n : Notes) × PlanNotedOf command v h carried plan n → IsBefore h command plan before
      → IsSuppliedIn digest carried later before after → Handled plan after
  handled None true before after key asks stands some was is =
      none_handled key was.2 stands some before after was.0 was.1 asks is
  handled None false before after key asks stands some was is = absurd cc
  handled (Some plan) b before after key asks stands some was is =
      some_handled plan after asks stands some.0 some.1 (subst (λ (p : Plan). IsSuppliedIn digest carried later p after) was is)
