-- The block whose digest a host waits for, in the words of the run.
use Rattle.std.proofs.Common.{◌≡◌, ℕ, Bool, true, false, List, [], ◌∷◌, Option, Some, None, is_some, refl, ap, sym, subst, ◌∙◌}
use Rattle.vol_base.specs.declared.block.Block.{Block}
use Rattle.vol_base.specs.declared.block.Digest.{Digest}
use Rattle.vol_base.specs.declared.command.Command.{Command}
use Rattle.vol_base.specs.declared.command.Command.TheVariants as commands
use Rattle.vol_layout.specs.declared.geometry.Geometry.{Geometry}
use Rattle.workload.specs.declared.line.Line.{Line}
use Rattle.histories.specs.Joined.{is_joined}
use Rattle.histories.specs.Lines.{IsLine}
use Rattle.host_facts.specs.Views.{WorldView}
use Rattle.host_runs.specs.Awaited.{awaited, first_block, wanted, wanted_at}
use Rattle.host_runs.specs.NextLines.{next_line}
use Rattle.host_runs.specs.Notes.{NotedCall, Notes}
use Rattle.lock_store.specs.Views.{host_at}
use Rattle.recover_plan.specs.Plans.{Agrees, command_of}
use Rattle.recover_plan.specs.declared.plan.Doing.{Doing}
use Rattle.recover_plan.specs.declared.plan.Doing.TheVariants as doings
use Rattle.watch.specs.declared.watch.Look.{Look}
use Rattle.cluster.specs.Agreements.{Agree, IsSound, IsStanding, IsSteady}
use Rattle.cluster.specs.Asking.{asked_with, doing_asks, merge_asks, plan_asks}
use Rattle.cluster.specs.Parts.{asked_by}
use Rattle.cluster.specs.laws.HintSteps.{hints_joined, hints_wait}
use Rattle.host_notes.specs.Owes.{joined_in}
use Rattle.cluster.specs.Plans.{IsOf}
use Rattle.cluster.specs.Seats.{PlanNotedOf, PlanStandsOf, joined_of}
use Rattle.cluster.specs.Views.{PartsView, seat_at, state_of}
use Rattle.cluster.specs.declared.plan.Plan.{Plan}
use Rattle.cluster.specs.declared.plan.Plan.TheVariants.{Collects, Files, Hints, Merges, Serves, Slots}
use Rattle.cluster.specs.laws.ActLaws.{joined_now}
use Rattle.cluster.specs.laws.MergeSteps.{merge_waits}
use Rattle.cluster.specs.laws.PartsLaws.{line_below}
use Rattle.cluster.specs.laws.ServeSteps.{serve_waits}
use Rattle.cluster.specs.laws.TurnedLaws.{command_there, line_there}

-- a command that asks for no digest first, and asks for none now, waits for none
waits_none : (g : Geometry) (command : Command) (calls : List NotedCall) (digests : List Digest) (asks : Option Block)
    → first_block g command ≡ None → asks ≡ None → wanted g command calls digests asks ≡ None
waits_none g command [] [] asks first none = first
waits_none g command [] (digest ∷ digests) asks first none = none
waits_none g command (call ∷ calls) digests asks first none = none

-- a command on slots waits for none
slots_wait : (g : Geometry) (v : WorldView) (h : ℕ) (watch : List (Option Look)) (doing : Doing) (n : Notes) → v.locks.geometry ≡ g
    → Agrees h v watch doing n → wanted g (command_of doing) n.calls n.digests n.asks ≡ None
slots_wait g v h watch doings.Register n same noted = waits_none g commands.Join n.calls n.digests n.asks refl noted.under_way.asks
slots_wait g v h watch doings.Enter n same noted = waits_none g commands.Join n.calls n.digests n.asks refl noted.under_way.asks
slots_wait g v h watch doings.EnterAgain n same noted = waits_none g commands.Join n.calls n.digests n.asks refl noted.under_way.asks
slots_wait g v h watch (doings.Over stage) n same noted = waits_none g commands.Join n.calls n.digests n.asks refl noted.under_way.asks
slots_wait g v h watch (doings.Retake dead) n same noted = waits_none g commands.Join n.calls n.digests n.asks refl noted.asks
slots_wait g v h watch doings.Unlock n same noted = waits_none g commands.Leave n.calls n.digests n.asks refl noted.noted.asks
slots_wait g v h watch doings.Fence n same noted = waits_none g commands.Leave n.calls n.digests n.asks refl noted.noted.asks
slots_wait g v h watch doings.Beat n same noted = waits_none g commands.Beat n.calls n.digests n.asks refl noted.noted.asks
slots_wait g v h watch (doings.Look of) n same noted = waits_none g (commands.Look of) n.calls n.digests n.asks refl noted.noted.asks
slots_wait g v h watch (doings.Begin of) n same noted =
    waits_none g (commands.Recover of) n.calls n.digests n.asks refl noted.under_way.asks
slots_wait g v h watch (doings.First of stage) n same noted =
    waits_none g (commands.Recover of) n.calls n.digests n.asks refl noted.under_way.asks
slots_wait g v h watch (doings.Again of stage) n same noted =
    waits_none g (commands.Recover of) n.calls n.digests n.asks refl noted.under_way.asks
slots_wait g v h watch (doings.Free of dead) n same noted = waits_none g (commands.Recover of) n.calls n.digests n.asks refl noted.asks
slots_wait g v h watch doings.Ended n same noted = absurd noted

-- what is asked for with a plan of a host that is not joined
plan_asks_none : (g : Geometry) (h : ℕ) (command : Command) (plan : Plan) → IsOf h command plan → joined_in command ≡ false
    → plan_asks g plan ≡ None
plan_asks_none g h command (Hints plan) of out =
    let both : true ≡ false = sym (hints_joined plan.doing) ∙ ap joined_in of.1 ∙ out in absurd cc
plan_asks_none g h command (Merges plan) of out = let both : true ≡ false = ap joined_in of.1 ∙ out in absurd cc
plan_asks_none g h command plan of out = refl

module _ (v : PartsView) (h position : ℕ) (line : Line) (sound : IsSound v) (standing : IsStanding v) (steady : IsSteady v)
    (next : next_line v.workload.lines v.ledger.answers v.phase h ≡ Some position) (is : IsLine v.workload.lines position line)
    (notes : ℕ → Notes) (agree : Agree v notes) where
  abbrev g : Geometry
  g = v.workload.geometry

  abbrev key : Bool
  key = is_some (host_at v.world.locks h).key

  noted : PlanNotedOf line.command v.world h (seat_at v h).carried (seat_at v h).plan (notes h)
  noted =
      subst (λ (c : Command). PlanNotedOf c v.world h (seat_at v h).carried (seat_at v h).plan (notes h))
      (command_there v h line (line_there v h position line next is)) (agree.noted h (line_below v h sound position next))

  -- a plan runs the command of the line
  runs_line : (plan : Plan) → (seat_at v h).plan ≡ Some plan → IsOf h line.command plan
  runs_line plan some =
      (subst (λ (p : Option Plan). PlanStandsOf line.command v.world v.cache h (seat_at v h).carried p) some
      (subst (λ (c : Command). PlanStandsOf c v.world v.cache h (seat_at v h).carried (seat_at v h).plan)
      (command_there v h line (line_there v h position line next is)) (standing.stands h (line_below v h sound position next)))).0

  abbrev wants : Command → Option Block
  wants command = wanted g command (notes h).calls (notes h).digests (notes h).asks

  waits : (plan : Option Plan) → (seat_at v h).plan ≡ plan → (b : Bool) → joined_of v.world h line.command plan ≡ b
      → PlanNotedOf line.command v.world h (seat_at v h).carried plan (notes h)
      → wanted_at g b (notes h) (Some line) ≡ asked_with g plan key line.command
  waits None none true joined rests =
      ap (λ (m : Notes). wanted g line.command m.calls m.digests m.asks) rests.rests.between
      ∙ ap (λ (b : Bool). asked_with g None b line.command) (sym joined)
  waits None none false joined rests = ap (λ (b : Bool). asked_with g None b line.command) (sym joined)
  waits (Some plan) some false joined agreed = sym (plan_asks_none g h line.command plan (runs_line plan some) joined)
  waits (Some (Files plan)) some true joined agreed =
      subst (λ (k : Geometry). wanted k line.command (notes h).calls (notes h).digests (notes h).asks ≡ None) sound.geometry agreed.2
  waits (Some (Slots plan)) some true joined agreed =
      subst (λ (c : Command). wants c ≡ None) (runs_line (Slots plan) some).1
      (slots_wait g v.world h (seat_at v h).carried.watch plan.doing (notes h) sound.geometry agreed.0)
  waits (Some (Collects plan)) some true joined agreed =
      subst (λ (c : Command). wants c ≡ None) (runs_line (Collects plan) some).1
      (subst (λ (k : Geometry). wanted k (commands.Collect plan.core.part) (notes h).calls (notes h).digests (notes h).asks ≡ None) sound.geometry
      agreed.0.noted.wants)
  waits (Some (Serves plan)) some true joined agreed =
      subst (λ (c : Command). wants c ≡ None) (runs_line (Serves plan) some).1
      (subst (λ (k : Geometry). wanted k commands.Serve (notes h).calls (notes h).digests (notes h).asks ≡ None) sound.geometry
      (serve_waits v.world h plan.counts plan.doing (notes h) agreed.0))
  waits (Some (Merges plan)) some true joined agreed =
      subst (λ (c : Command). wants c ≡ merge_asks plan.doing) (runs_line (Merges plan) some).1
      (subst (λ (k : Geometry). wanted k commands.Merge (notes h).calls (notes h).digests (notes h).asks ≡ merge_asks plan.doing) sound.geometry
      (merge_waits v.world h (seat_at v h).carried plan.doing (notes h) agreed.0))
  waits (Some (Hints plan)) some true joined agreed =
      subst (λ (c : Command). wants c ≡ doing_asks g plan.doing) (runs_line (Hints plan) some).1
      (hints_wait g v.world h (seat_at v h).carried.pending.entries sound.geometry plan.doing (notes h) agreed.0)

  pub awaits_line : awaited v.workload (state_of v notes) h ≡ asked_by v h line.command
  unfolding awaited
  awaits_line =
      ap (wanted_at g (is_joined v.workload.lines v.ledger.answers h) (notes h)) (line_there v h position line next is)
      ∙ waits (seat_at v h).plan refl (is_joined v.workload.lines v.ledger.answers h) (joined_now v h position line sound standing steady next is) noted
